use Rattle.std.proofs.Common.{◌≡◌, ◌≤◌, ◌++◌, take, vec_capacity}
use Rattle.q4_value.specs.Spelling.{row_bytes}
use Rattle.q4_record.proofs.reserved.spell_row.Given as goal

abbrev pub invariant-loop-place : goal.invariant-loop-place
invariant-loop-place l = record {
  items : l.out.items ≡ l.initial.out.items ++ row_bytes (take l.place l.columns) (take l.place l.row);
  capacity : vec_capacity l.initial.out ≤ vec_capacity l.out;
}
