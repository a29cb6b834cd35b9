-- Which fault a file of definitions has: the first one in the order of these rules. Tables and columns are counted from 1,
-- and column 0 is the table's own name.
use Rattle.std.specs.Prelude.{◌≡◌, ◌≢◌, ◌==◌, ℕ, ◌+◌, ◌<◌, ◌≤◌, ◌⊎◌, Bool, List, [], ◌∷◌, ◌++◌, length, map, Contains}
use Rattle.std.specs.List.{AllZip, before_first}
use Rattle.toml.specs.Data.{Data, Members}
use Rattle.q4_value.specs.declared.column.Column.{Column}
use Rattle.q4_value.specs.declared.column.Kind.{Kind}
use Rattle.q4_value.specs.Names.{IsName, IsColumnName, AreNamed}
use Rattle.q4_def.specs.declared.fault.DefFault.{DefFault}
use Rattle.q4_def.specs.declared.fault.DefFault.TheVariants as fault
use Rattle.q4_def.specs.declared.table_def.TableDef.{TableDef}
use Rattle.q4_def.specs.Tables.{AreDistinct, names_of}
use Rattle.q4_def.specs.Document.{IsToml, HasTables, IsTable, Defines, kind_words, column_text}

-- what stands before the first space of a column's string, or all of it where there is none
abbrev pub name_part : List ℕ → List ℕ
name_part text = before_first (λ b. b == 32) text

-- the string is a column of a name that an earlier column has
pub record IsRepeated (earlier : List Column) (text : List ℕ) : Type 0 where
  pub column : Column
  pub is_column : text ≡ column_text column
  pub named : IsColumnName column.name
  pub repeated : Contains (map (λ c. c.name) earlier) column.name

-- Why the string is no column, which has this place in its table: its name, else its kind.
abbrev pub PartFails : List ℕ → ℕ → ℕ → DefFault → Type 0
PartFails text table place (fault.BadName i j) = (i ≡ table) × (j ≡ place) × (IsColumnName (name_part text) → ⊥)
PartFails text table place (fault.BadKind i j) = (i ≡ table) × (j ≡ place) × IsColumnName (name_part text)
    × ((kind : Kind) (optional : Bool) → text ≢ name_part text ++ 32 ∷ kind_words kind optional)
PartFails text table place _ = ⊥

-- Why it is none behind the earlier columns of its table: in itself, else a name that stands twice.
abbrev pub ColumnFails : List Column → List ℕ → ℕ → ℕ → DefFault → Type 0
ColumnFails earlier text table place (fault.Twice i j) = (i ≡ table) × (j ≡ place) × IsRepeated earlier text
ColumnFails earlier text table place why = PartFails text table place why

-- the strings in front are columns, and the next is none
pub record FirstColumnFails (texts : List (List ℕ)) (table : ℕ) (why : DefFault) : Type 0 where
  pub earlier : List Column
  pub text : List ℕ
  pub rest : List (List ℕ)
  pub texts_are : texts ≡ map column_text earlier ++ text ∷ rest
  pub named : AreNamed earlier
  pub fails : ColumnFails earlier text table (length earlier + 1) why

-- the table's name is good and new, and it has 1 to 32 columns
pub record IsHead (names : List (List ℕ)) (name : List ℕ) (count : ℕ) : Type 0 where
  pub named : IsName name
  pub fresh : Contains names name → ⊥
  pub some : 0 < count
  pub few : count ≤ 32

-- Why the table fails before its columns are looked at: its name, else a name that an earlier table has, else the number of columns.
abbrev pub HeadFails : List (List ℕ) → List ℕ → ℕ → ℕ → DefFault → Type 0
HeadFails names name count table (fault.BadName i j) = (i ≡ table) × (j ≡ 0) × (IsName name → ⊥)
HeadFails names name count table (fault.Twice i j) = (i ≡ table) × (j ≡ 0) × IsName name × Contains names name
HeadFails names name count table (fault.Count i) = (i ≡ table) × IsName name × (Contains names name → ⊥) × ((count ≡ 0) ⊎ (32 < count))
HeadFails names name count table _ = ⊥

-- Why the member, which has this place among the tables, is none behind tables of these names.
pub data TableFails (names : List (List ℕ)) (member : Data) (place : ℕ) (why : DefFault) : Type 0 where
  bad_shape : why ≡ fault.Shape place → ((name : List ℕ) (texts : List (List ℕ)) → IsTable member name texts → ⊥) → TableFails names member place why
  bad_head : (name : List ℕ) (texts : List (List ℕ)) → IsTable member name texts → HeadFails names name (length texts) place why
      → TableFails names member place why
  bad_column : (name : List ℕ) (texts : List (List ℕ)) → IsTable member name texts → IsHead names name (length texts) → FirstColumnFails texts place why
      → TableFails names member place why

-- the members in front define tables, and the next fails
pub record FirstTableFails (tables : List Data) (why : DefFault) : Type 0 where
  pub earlier : List TableDef
  pub front : List Data
  pub member : Data
  pub rest : List Data
  pub tables_are : tables ≡ front ++ member ∷ rest
  pub each : AllZip Defines front earlier
  pub distinct : AreDistinct earlier
  pub fails : TableFails (names_of earlier) member (length earlier + 1) why

-- Why the document, where the bytes are one, has no definitions.
pub data DocumentFails (bytes : List ℕ) (why : DefFault) : Type 0 where
  not_toml : why ≡ fault.NotToml → ((document : Members) → IsToml bytes document → ⊥) → DocumentFails bytes why
  no_tables : (document : Members) → IsToml bytes document → why ≡ fault.Shape 0 → ((tables : List Data) → HasTables document tables → ⊥)
      → DocumentFails bytes why
  too_many : (document : Members) (tables : List Data) → IsToml bytes document → HasTables document tables → why ≡ fault.Count 0 → 16 < length tables
      → DocumentFails bytes why
  bad_table : (document : Members) (tables : List Data) → IsToml bytes document → HasTables document tables → length tables ≤ 16 → FirstTableFails tables why
      → DocumentFails bytes why

-- Why a file has no definitions. One without any byte has.
abbrev pub Fails : List ℕ → DefFault → Type 0
Fails [] why = ⊥
Fails (b ∷ rest) why = DocumentFails (b ∷ rest) why

-- the fault is one of these, or memory was wanted, which may be at any time
abbrev pub OrMemory : (DefFault → Type 0) → DefFault → Type 0
OrMemory P fault.Memory = Unit {0}
OrMemory P why = P why

-- Why no definitions were read.
abbrev pub ReadFails : List ℕ → DefFault → Type 0
ReadFails bytes why = OrMemory (Fails bytes) why
