-- The definitions of tables, and what rows and conditions are theirs.
use Rattle.std.specs.Prelude.{◌≡◌, ◌<◌, ℕ, List, [], length, map, slice_index_or}
use Rattle.q4_value.specs.declared.column.Column.{Column}
use Rattle.q4_value.specs.declared.row.Value.{Value}
use Rattle.q4_value.specs.Row.{Fits}
use Rattle.q4_cond.specs.Reading.{kinds_of}
use Rattle.q4_def.specs.declared.table_def.TableDef.{TableDef}
use Rattle.q4_machine.specs.Opening.{Opening}
use Rattle.q4_machine.specs.declared.looks.Listed.{Listed}

-- a table's name and columns
abbrev pub definition_of : Opening → TableDef
definition_of opening = record { name = opening.name; columns = opening.table.columns }

abbrev pub definitions : List Opening → List TableDef
definitions tables = map definition_of tables

-- what stands for a definition where there is none
abbrev pub no_definition : TableDef
no_definition = record { name = []; columns = [] }

-- the columns of the table at a place, from 0
abbrev pub columns_at : List TableDef → ℕ → List Column
columns_at defs place = (slice_index_or defs place no_definition).columns

-- There is a table at this place, and the row fits its columns.
pub record IsRowFor (defs : List TableDef) (place : ℕ) (row : List Value) : Type 0 where
  pub inside : place < length defs
  pub fits : Fits (columns_at defs place) row

-- There is a table at the place that is listed, and the condition is one on its columns.
pub record IsListed (defs : List TableDef) (listed : Listed) : Type 0 where
  pub inside : listed.table < length defs
  pub kinds : listed.cond.kinds ≡ kinds_of (columns_at defs listed.table)
