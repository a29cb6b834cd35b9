use Rattle.std.proofs.Common.{◌≡◌, ◌∷◌, ◌++◌, length, take}
use Rattle.std.specs.List.{flat_map}
use Rattle.q4_record.specs.Schema.{column_bytes}
use Rattle.q4_record.proofs.writing.put_columns.Given as goal

-- the columns so far were put
abbrev pub invariant-loop-column : goal.invariant-loop-column
invariant-loop-column l = l.out ≡ l.fn.out ++ 7 ∷ length l.columns ∷ flat_map column_bytes (take l.column-index l.columns)
