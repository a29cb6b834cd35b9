use Rattle.std.proofs.Common.{◌≡◌, ◌∙◌, List, get_or, sym, ap, subst}
use Rattle.std.specs.List.{slice_set}
use Rattle.q4_table.specs.Cursors.{Cursor}
use Rattle.q4_table.proofs.Keeping.{moved-position, moved_none}
use Rattle.q4_table.proofs.cursors.Cursors.move_to.Goals as goal

pub returns-in-Some : goal.returns-in-Some
returns-in-Some c =
    let found = sym c.place.ensures ∙ c.in-Some.is in
    let there = subst (λ (cs : List Cursor). c.index_mut.result.now ≡ get_or cs c.in-Some.place c.index_mut.result.now) c.self.view_is c.index_mut.ensures.value in
    ap (λ (cs : List Cursor). slice_set cs c.in-Some.place (record { tree = c.behind-self.inside.cond.tree; from = c.args.number })) c.self.view_is
    ∙ (ap (λ (d : Cursor). slice_set c.args.self.now c.in-Some.place (record { tree = d.tree; from = c.args.number })) c.behind-self.view_is
    ∙ moved-position c.args.cond.now.tree c.args.number c.args.self.now c.in-Some.place c.index_mut.result.now found there)

pub returns-in_default : goal.returns-in_default
returns-in_default c = moved_none c.args.cond.now.tree c.args.number c.args.self.now (sym c.place.ensures ∙ c.in_default.is)
