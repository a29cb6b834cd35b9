use Rattle.q4_table.specs.Passed.{IsValidView}
use Rattle.q4_table.proofs.Marking.{by_result}
use Rattle.q4_table.proofs.Passing.{passed-kept, few-kept}
use Rattle.q4_table.proofs.table.Table.keep.Goals as goal

pub invariant_of-self : goal.invariant_of-self
invariant_of-self c =
    let valid = c.self.invariant.valid in
    record {
      valid = by_result c.keep.result (IsValidView _) c.keep.ensures.kept c.keep.ensures.unchanged
          (λ is. rw is (record {
            table = valid.table;
            few = few-kept c.args.cond.now.tree c.self.inside.cursors;
            passed = passed-kept _ c.args.cond.now.tree c.self.inside.cursors valid.table valid.passed;
          }))
          (λ is. rw is valid);
      sum = c.self.invariant.sum;
    }
