-- Which tables are valid: numbers and sources rise, rows fit, and the limits hold.
use Rattle.std.specs.Prelude.{◌<◌, ◌≤◌, ℕ, List, [], ◌∷◌, All, length}
use Rattle.q4_value.specs.declared.column.Column.{Column}
use Rattle.q4_value.specs.Row.{Fits}
use Rattle.q4_table.specs.declared.marks.Mark.{Mark}
use Rattle.q4_table.specs.TableState.{TableState}
use Rattle.q4_table.specs.Rows.{numbers_of, bytes_of}
use Rattle.q4_table.specs.Adding.{number_limit, source_limit, count_limit, bytes_limit}

-- a table has from 1 to 32 columns
pub record IsColumns (columns : List Column) : Type 0 where
  pub some : 1 ≤ length columns
  pub few : length columns ≤ 32

-- The numbers rise strictly, from above low on, and lie below next.
abbrev pub RiseBelow : ℕ → ℕ → List ℕ → Type 0
RiseBelow low next [] = Unit {0}
RiseBelow low next (n ∷ ns) = (low < n) × (n < next) × RiseBelow n next ns

-- a source below the limit, and a number from 1 on below the limit of row numbers
pub record IsMark (mark : Mark) : Type 0 where
  pub source : mark.source < source_limit
  pub positive : 1 ≤ mark.number
  pub number : mark.number < number_limit

-- Each source is less than those behind it.
abbrev pub SourcesRise : List Mark → Type 0
SourcesRise [] = Unit {0}
SourcesRise (m ∷ ms) = All (λ n. m.source < n.source) ms × SourcesRise ms

pub record IsMarks (marks : List Mark) : Type 0 where
  pub rise : SourcesRise marks
  pub each : All IsMark marks

pub record IsValidTable (table : TableState) : Type 0 where
  pub columns : IsColumns table.columns
  pub begins : 1 ≤ table.next
  pub limit : table.next ≤ number_limit
  pub numbers : RiseBelow 0 table.next (numbers_of table.rows)
  pub fit : All (λ r. Fits table.columns r.row) table.rows
  pub marks : IsMarks table.marks
  pub count : length table.rows ≤ count_limit
  pub bytes : bytes_of table.rows ≤ bytes_limit
