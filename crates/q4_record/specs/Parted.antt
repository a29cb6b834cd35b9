-- The parts of a base in their order.
use Rattle.std.specs.Prelude.{◌≡◌, ℕ, List, [], ◌∷◌, ◌++◌, None, Some, All, map}
use Rattle.q4_value.specs.declared.column.Column.{Column}
use Rattle.q4_table.specs.declared.marks.Mark as marks
use Rattle.q4_table.specs.Valid.{SourcesRise}
use Rattle.q4_record.specs.declared.head.Head.{Head}
use Rattle.q4_record.specs.declared.head.Head.TheVariants.{Insert, End, Mark, Next}
use Rattle.q4_record.specs.Record.{Record, records_bytes}
use Rattle.q4_record.specs.Schema.{schema_bytes}
use Rattle.q4_record.specs.Written.{mark_record, next_record}

-- an insert that was not forwarded, or an end
abbrev pub IsOfRow : Head → Type 0
IsOfRow (Insert number None) = Unit {0}
IsOfRow (Insert number (Some origin)) = ⊥
IsOfRow (End number) = Unit {0}
IsOfRow (Mark source number) = ⊥
IsOfRow (Next number) = ⊥

-- A schema, then inserts and ends, then marks by rising source, then one next record.
pub record BaseParts (columns : List Column) (base : List ℕ) : Type 0 where
  pub rows : List Record
  pub listed : List marks.Mark
  pub number : ℕ
  pub base_is : base ≡ schema_bytes columns ++ records_bytes (rows ++ (map mark_record listed ++ next_record number ∷ []))
  pub of_rows : All (λ r. IsOfRow r.head) rows
  pub rise : SourcesRise listed
