use Rattle.q4_table.specs.Valid.{IsMarks}
use Rattle.q4_table.proofs.Marking.{marks-with, by_result}
use Rattle.q4_table.proofs.Passing.{passed-marked}
use Rattle.q4_table.proofs.Validity.{valid-marked}
use Rattle.q4_table.proofs.table.Table.set_mark.Goals as goal

pub invariant_of-self : goal.invariant_of-self
invariant_of-self c =
    let old = c.self.invariant.valid.table.marks in
    let new = marks-with c.args.source c.args.number c.self.inside.marks (record { source = c.requires.source; positive = c.requires.positive; number = c.requires.number }) old in
    let marks : IsMarks c.set.new.self = by_result c.set.result (IsMarks c.set.new.self) c.set.ensures.set c.set.ensures.kept (λ is. rw is new) (λ is. rw is old) in
    record {
      valid = record {
        table = valid-marked _ c.set.new.self c.self.invariant.valid.table marks;
        few = c.self.invariant.valid.few;
        passed = passed-marked _ c.set.new.self c.self.inside.cursors c.self.invariant.valid.passed;
      };
      sum = c.self.invariant.sum;
    }
