-- What the functions inside `read_command` read, each from its part of a line.
use Rattle.std.specs.Prelude.{None, ◌≡◌, ◌≢◌, ◌==◌, ◌⊎◌, ◌++◌, ◌∷◌, [], ℕ, List, Option, Some, Result, Ok, Err, map}
use Rattle.std.specs.List.{before_first}
use Rattle.q4_value.specs.declared.column.Column.{Column}
use Rattle.q4_value.specs.declared.row.Value.{Value}
use Rattle.q4_value.specs.Row.{Takes, IsValue, IsRowOf}
use Rattle.q4_cond.specs.declared.fault.CondFault as cond_fault
use Rattle.q4_cond.specs.declared.fault.CondFault.TheVariants.{Memory as CondMemory}
use Rattle.q4_def.specs.declared.table_def.TableDef.{TableDef}
use Rattle.q4_machine.specs.declared.looks.Listed.{Listed}
use Rattle.q4_proto.specs.declared.command.CommandFault.{CommandFault}
use Rattle.q4_proto.specs.declared.command.CommandFault.TheVariants.{Cond, Value as BadValue, Memory}
use Rattle.q4_proto.specs.Commands.{spelled_value, IsNoValue, FirstMisspelled, SpellsEntry, SpellEntries, EntryFails, FirstEntryFails}

-- ## Values of a row

-- the value that the field spells, or none that the column takes
abbrev pub ReadsValue : Column → List ℕ → Option Value → Type 0
ReadsValue column field (Some value) = Takes column value × IsValue value × (field ≡ spelled_value value)
ReadsValue column field None = IsNoValue column field

-- the row that the values spell, or the first that is none of its column
abbrev pub ReadsValues : List Column → List (List ℕ) → Result (List Value) CommandFault → Type 0
ReadsValues columns values (Ok row) = (values ≡ map spelled_value row) × IsRowOf columns row
ReadsValues columns values (Err (BadValue column)) = FirstMisspelled columns values column
ReadsValues columns values (Err Memory) = Unit {0}
ReadsValues columns values (Err _) = ⊥

-- ## Entries of a wait

-- what stands before the first `:` of the entry's text, and what stands behind it
pub record IsCut (entry name text : List ℕ) : Type 0 where
  pub front : name ≡ before_first (λ b. b == 58) entry
  pub parts : ((entry ≡ name) × (text ≡ [])) ⊎ (entry ≡ name ++ 58 ∷ text)

-- the one entry that the field spells, which has no fault, or the fault of its condition. Want of memory is free.
abbrev pub ReadsEntry : List TableDef → List ℕ → Result Listed cond_fault.CondFault → Type 0
ReadsEntry defs field (Ok listed) = SpellsEntry defs field listed × ((why : cond_fault.CondFault) → EntryFails defs field why → ⊥)
ReadsEntry defs field (Err why) = why ≢ CondMemory → EntryFails defs field why

-- the list that the entries spell, or the fault of the first whose condition is refused
abbrev pub ReadsEntries : List TableDef → List (List ℕ) → Result (List Listed) CommandFault → Type 0
ReadsEntries defs entries (Ok list) = SpellEntries defs entries list
ReadsEntries defs entries (Err (Cond entry why)) = FirstEntryFails defs entries entry why
ReadsEntries defs entries (Err Memory) = Unit {0}
ReadsEntries defs entries (Err _) = ⊥
