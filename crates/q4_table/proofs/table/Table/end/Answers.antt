use Rattle.std.proofs.Common.{arith}
use Rattle.q4_table.proofs.Passing.{passed-removed}
use Rattle.q4_table.proofs.Validity.{valid-removed, bytes-removed}
use Rattle.q4_table.proofs.table.Table.end.Goals as goal

pub row_size-requires : goal.row_size-requires
row_size-requires c = omega (arith, bytes-removed 0 c.self.inside.next c.args.number c.self.inside.rows c.remove-stored.result c.self.invariant.valid.table.numbers c.remove-stored.ensures.removed, c.self.invariant.valid.table.bytes)

pub overflow_sub-self : goal.overflow_sub-self
overflow_sub-self c = omega (arith, bytes-removed 0 c.self.inside.next c.args.number c.self.inside.rows c.remove-stored.result c.self.invariant.valid.table.numbers c.remove-stored.ensures.removed, c.self.invariant.sum, c.row_size.ensures)

pub invariant_of-self : goal.invariant_of-self
invariant_of-self c = rw c.remove-stored.ensures.rest (record {
  valid = record {
    table = valid-removed _ c.args.number c.self.invariant.valid.table;
    few = c.self.invariant.valid.few;
    passed = passed-removed _ c.args.number c.self.inside.cursors c.self.invariant.valid.passed;
  };
  sum = omega (arith, bytes-removed 0 c.self.inside.next c.args.number c.self.inside.rows c.remove-stored.result c.self.invariant.valid.table.numbers c.remove-stored.ensures.removed, c.self.invariant.sum, c.row_size.ensures);
})
