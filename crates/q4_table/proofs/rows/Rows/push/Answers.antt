use Rattle.std.proofs.Common.{subst, sym}
use Rattle.q4_table.specs.Numbered.{IsNumbered}
use Rattle.q4_table.specs.Rows.{numbers_of}
use Rattle.q4_table.specs.Valid.{RiseBelow}
use Rattle.q4_table.proofs.Entries.{numbered-pushed, values-pushed}
use Rattle.q4_table.proofs.Marking.{by_result}
use Rattle.q4_table.proofs.rows.Rows.push.Goals as goal

pub invariant_of-self : goal.invariant_of-self
invariant_of-self c =
    let above = subst (λ rs. RiseBelow 0 c.args.stored.number (numbers_of rs)) (sym c.self.view_is) c.requires.above in
    let new = numbered-pushed c.self.inside.rows.entries c.args.stored c.self.invariant c.requires.positive c.requires.limit above in
    by_result c.insert.result (IsNumbered c.insert.new.self.entries) c.insert.ensures.entries c.insert.ensures.err (λ is. rw is new) (λ is. rw is c.self.invariant)

pub returns-in-Ok-clause-pushed : goal.returns-in-Ok-clause-pushed
returns-in-Ok-clause-pushed c =
    let above = subst (λ rs. RiseBelow 0 c.args.stored.number (numbers_of rs)) (sym c.self.view_is) c.requires.above in
    let new = values-pushed 0 c.args.stored.number c.self.inside.rows.entries c.args.stored c.self.invariant.keyed above in
    rw (← c.self.view_is, c.in-Ok.ensures.entries) new
