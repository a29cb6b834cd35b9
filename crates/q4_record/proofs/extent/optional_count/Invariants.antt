use Rattle.std.proofs.Common.{◌≡◌, ◌≤◌, take}
use Rattle.q4_value.specs.Spelling.{optional_count}
use Rattle.q4_record.proofs.extent.optional_count.Given as goal

-- the optional columns so far were counted
abbrev pub invariant-loop-column : goal.invariant-loop-column
invariant-loop-column l = (l.count ≡ optional_count (take l.column-index l.columns)) × (l.count ≤ l.column-index)
