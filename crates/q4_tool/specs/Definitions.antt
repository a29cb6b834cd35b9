-- What comes of the source of definitions.
use Rattle.std.specs.Prelude.{◌≤◌, ◌<◌, ◌++◌, ℕ, List, Option, Result, Ok, Err, codes, decimal, length}
use Rattle.q4_flow.specs.Flow.{Gave, NothingLeft}
use Rattle.q4_def.specs.declared.table_def.TableDef.{TableDef}
use Rattle.q4_def.specs.declared.fault.DefFault.{DefFault}
use Rattle.q4_def.specs.declared.fault.DefFault.TheVariants as fault
use Rattle.q4_def.specs.Document.{Reads}
use Rattle.q4_def.specs.Faults.{Fails}
use Rattle.q4_tool.specs.declared.definitions.Undefined.{Undefined}
use Rattle.q4_tool.specs.declared.definitions.Undefined.TheVariants.{Faulty, TooLong, ReadFault, Memory}

-- the most bytes of a file of definitions
abbrev pub definitions_limit : ℕ
definitions_limit = 1048576

-- The source gave these bytes, which are not too many, and then its end.
pub record GaveAll (left left' : Option (List ℕ)) (ends : Type 0) (bytes : List ℕ) : Type 0 where
  pub gave : Gave left left' bytes
  pub few : length bytes ≤ definitions_limit
  pub ended : ends
  pub nothing_left : NothingLeft left'

-- All bytes of the source read as these definitions.
pub record AreDefined (left left' : Option (List ℕ)) (ended : Type 0) (defs : List TableDef) : Type 0 where
  pub bytes : List ℕ
  pub all : GaveAll left left' ended bytes
  pub reads : Reads bytes defs

-- All bytes of the source have this fault.
pub record AreFaulty (left left' : Option (List ℕ)) (ended : Type 0) (why : DefFault) : Type 0 where
  pub bytes : List ℕ
  pub all : GaveAll left left' ended bytes
  pub fails : Fails bytes why

-- The source gave too many bytes.
pub record AreTooLong (left left' : Option (List ℕ)) : Type 0 where
  pub bytes : List ℕ
  pub gave : Gave left left' bytes
  pub many : definitions_limit < length bytes

-- The source gave not too many bytes, and failed.
pub record AreUnread (left left' : Option (List ℕ)) (failure : Type 0) : Type 0 where
  pub bytes : List ℕ
  pub gave : Gave left left' bytes
  pub few : length bytes ≤ definitions_limit
  pub failed : failure

-- What came of a source that ended or failed: definitions, or why there are none. Want of memory is free.
abbrev pub Comes : Option (List ℕ) → Option (List ℕ) → Type 0 → Type 0 → Result (List TableDef) Undefined → Type 0
Comes left left' ended failed (Ok defs) = AreDefined left left' ended defs
Comes left left' ended failed (Err (Faulty why)) = AreFaulty left left' ended why
Comes left left' ended failed (Err TooLong) = AreTooLong left left'
Comes left left' ended failed (Err ReadFault) = AreUnread left left' failed
Comes left left' ended failed (Err Memory) = (bytes : List ℕ) × Gave left left' bytes

-- the line of a fault at a column of a table
abbrev pub placed_line : List ℕ → ℕ → ℕ → List ℕ
placed_line words table column = codes "definitions: " ++ words ++ codes " " ++ decimal table ++ codes " " ++ decimal column ++ codes "\n"

-- the line of a fault
abbrev pub fault_line : DefFault → List ℕ
fault_line fault.NotToml = codes "definitions: not toml\n"
fault_line (fault.Shape table) = codes "definitions: shape " ++ decimal table ++ codes "\n"
fault_line (fault.Count table) = codes "definitions: count " ++ decimal table ++ codes "\n"
fault_line (fault.BadName table column) = placed_line (codes "bad name") table column
fault_line (fault.Twice table column) = placed_line (codes "twice") table column
fault_line (fault.BadKind table column) = placed_line (codes "bad kind") table column
fault_line fault.Memory = codes "definitions: out of memory\n"

-- what is written where there are no definitions
abbrev pub undefined_line : Undefined → List ℕ
undefined_line (Faulty why) = fault_line why
undefined_line TooLong = codes "definitions: too long\n"
undefined_line ReadFault = codes "read fault\n"
undefined_line Memory = codes "out of memory\n"

-- the status there
abbrev pub undefined_status : Undefined → ℕ
undefined_status (Faulty why) = 3
undefined_status TooLong = 3
undefined_status ReadFault = 8
undefined_status Memory = 9
