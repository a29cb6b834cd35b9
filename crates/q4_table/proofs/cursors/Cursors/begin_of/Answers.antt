use Rattle.std.proofs.Common.{◌≡◌, ◌∙◌, get_or, sym, ap, subst}
use Rattle.q4_table.specs.Cursors.{Cursor}
use Rattle.q4_table.proofs.Keeping.{begin-position, begin_none}
use Rattle.q4_table.proofs.cursors.Cursors.begin_of.Goals as goal

pub returns-in-Some : goal.returns-in-Some
returns-in-Some c =
    let found = sym c.place.ensures ∙ c.in-Some.is in
    let there = subst (λ (cs : _). c.index.result.now ≡ get_or cs c.in-Some.place c.index.result.now) c.self.view_is c.index.ensures in
    ap (λ (d : Cursor). d.from) c.behind-self.view_is ∙ begin-position c.args.cond.now.tree c.args.self.now c.in-Some.place c.index.result.now found there

pub returns-in-None : goal.returns-in-None
returns-in-None c = begin_none c.args.cond.now.tree c.args.self.now (sym c.place.ensures ∙ c.in-None.is)
