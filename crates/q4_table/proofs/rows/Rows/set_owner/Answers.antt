use Rattle.std.proofs.Common.{◌∙◌, sym, subst}
use Rattle.q4_table.specs.declared.rows.StoredRow.{StoredRow}
use Rattle.q4_table.specs.Adding.{number_limit}
use Rattle.q4_table.specs.Rows.{IsThere}
use Rattle.q4_table.proofs.Entries.{lookup-row_in, numbered-owned, values-owned}
use Rattle.q4_table.proofs.Places.{none_is}
use Rattle.q4_table.proofs.rows.Rows.set_owner.Goals.{in-Some, in_default}
use Rattle.q4_table.proofs.rows.Rows.set_owner.Goals as goal

pub invariant_of-self : goal.invariant_of-self
invariant_of-self c = elim c.match-get_mut.branch [
  | in-Some w ↦
      let r : StoredRow = w.in-Some.stored.now in
      let written = (c.get_mut.follows.holds (record { number = r.number; row = r.row; owner = c.args.owner })).0 in
      rw (w.self-inside-is, written) (numbered-owned c.args.number c.args.owner c.self.inside.rows.entries r c.self.invariant (sym w.in-Some.ensures.value))
  | in_default w ↦
      let none = w.in_default.ensures.value ∙ lookup-row_in c.args.number c.self.inside.rows.entries c.self.invariant.keyed in
      let there = subst (λ rs. IsThere rs c.args.number) (sym c.self.view_is) c.requires in
      absurd (none_is _ (sym none) there)
]

pub returns : goal.returns
returns c = elim c.match-get_mut.branch [
  | in-Some w ↦
      let r : StoredRow = w.in-Some.stored.now in
      let written = (c.get_mut.follows.holds (record { number = r.number; row = r.row; owner = c.args.owner })).0 in
      rw (w.self-inside-is, written, ← c.self.view_is) (values-owned 0 number_limit c.args.number c.args.owner c.self.inside.rows.entries r c.self.invariant.keyed c.self.invariant.rise (sym w.in-Some.ensures.value))
  | in_default w ↦
      let none = w.in_default.ensures.value ∙ lookup-row_in c.args.number c.self.inside.rows.entries c.self.invariant.keyed in
      let there = subst (λ rs. IsThere rs c.args.number) (sym c.self.view_is) c.requires in
      absurd (none_is _ (sym none) there)
]
