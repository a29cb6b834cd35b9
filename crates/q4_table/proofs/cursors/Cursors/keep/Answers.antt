use Rattle.std.proofs.Common.{◌≤◌, ◌∙◌, List, sym, subst, length}
use Rattle.q4_table.specs.Cursors.{Cursor, kept_limit}
use Rattle.q4_table.proofs.Keeping.{kept-forward, unkept}
use Rattle.q4_table.proofs.Marking.{on_err_of}
use Rattle.q4_table.proofs.cursors.Cursors.keep.Goals as goal

pub keep_new-requires : goal.keep_new-requires
keep_new-requires c = unkept c.args.cond.now.tree c.args.self.now (sym c.place.ensures ∙ c.in-None.is)

pub returns-in-Some-clause-kept : goal.returns-in-Some-clause-kept
returns-in-Some-clause-kept c =
    let few : length c.args.self.now ≤ kept_limit = subst (λ (cs : List Cursor). length cs ≤ kept_limit) c.self.view_is c.self.invariant in
    kept-forward c.args.cond.now.tree c.args.self.now c.in-Some.place c.bring_forward.new.self few (sym c.place.ensures ∙ c.in-Some.is) c.bring_forward.ensures

pub returns-in-None-clause-again : goal.returns-in-None-clause-again
returns-in-None-clause-again c = on_err_of c.keep_new.result (unkept c.args.cond.now.tree c.args.self.now (sym c.place.ensures ∙ c.in-None.is))
