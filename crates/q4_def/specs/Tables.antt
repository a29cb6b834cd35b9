-- What a list of definitions has to be, and the one that an empty file gives.
use Rattle.std.specs.Prelude.{◌≢◌, ℕ, ◌<◌, ◌≤◌, false, List, [], ◌∷◌, length, map, All, AllPairs, codes}
use Rattle.q4_value.specs.declared.column.Column.{Column}
use Rattle.q4_value.specs.declared.column.Kind.TheVariants as kind
use Rattle.q4_value.specs.Names.{IsName, AreColumns}
use Rattle.q4_def.specs.declared.table_def.TableDef.{TableDef}

-- a table's name, and 1 to 32 named columns
pub record IsTableDef (def : TableDef) : Type 0 where
  pub named : IsName def.name
  pub columns : AreColumns def.columns

-- each of them is a definition, and no name stands twice
pub record AreDistinct (defs : List TableDef) : Type 0 where
  pub each : All IsTableDef defs
  pub once : AllPairs (λ one other. one.name ≢ other.name) defs

-- 1 to 16 such definitions
pub record AreDefs (defs : List TableDef) : Type 0 where
  pub distinct : AreDistinct defs
  pub some : 0 < length defs
  pub few : length defs ≤ 16

-- the columns of the table that an empty file gives: a number and a text
abbrev pub built_in_columns : List Column
built_in_columns =
    record { name = codes "prio"; kind = kind.Int; optional = false } ∷ record { name = codes "body"; kind = kind.Words; optional = false } ∷ []

-- the definitions that an empty file gives
abbrev pub built_in : List TableDef
built_in = record { name = codes "jobs"; columns = built_in_columns } ∷ []

abbrev pub names_of : List TableDef → List (List ℕ)
names_of defs = map (λ def. def.name) defs
