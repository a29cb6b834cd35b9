-- A table with its name: as the rules speak of it, and as the code has it.
use Rattle.std.specs.Prelude.{ℕ, List}
use Rattle.q4_table.specs.TableState.{TableState}
use Rattle.q4_machine.specs.declared.tables.Opening.{Opening as NamedTable}

-- a table's name, and the table of the rules
pub record Opening : Type 0 where
  pub name : List ℕ
  pub table : TableState

-- a table with its name, without the conditions that it keeps
abbrev pub opening_of : NamedTable → Opening
opening_of named = record { name = named.name; table = named.table.state }
