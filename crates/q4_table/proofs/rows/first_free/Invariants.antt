use Rattle.std.proofs.Common.{◌≡◌, ◌+◌, find}
use Rattle.std.specs.Map.{values_of}
use Rattle.q4_table.specs.Oldest.{is_free}
use Rattle.q4_table.specs.Searching.{asked, values_from}
use Rattle.q4_table.proofs.rows.first_free.Given as goal

-- what is left has the first row of all, and is to be asked as often as is left
abbrev pub invariant-loop-stored : goal.invariant-loop-stored
invariant-loop-stored g l = record {
  found : find (is_free l.cond.tree) (values_of l.stored-iterator) ≡ find (is_free l.cond.tree) (values_from l.fn.from l.rows.entries);
  counted : l.steps + asked l.cond.tree (values_of l.stored-iterator) ≡ l.fn.steps + asked l.cond.tree (values_from l.fn.from l.rows.entries);
}
