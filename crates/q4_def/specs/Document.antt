-- The definitions that a document has, by what `toml` reads in it.
use Rattle.std.specs.Prelude.{◌≡◌, ℕ, ◌<◌, Bool, true, false, List, [], ◌∷◌, ◌++◌, length, map, Some, None, Contains, IsUtf8, codes}
use Rattle.std.specs.List.{AllZip}
use Rattle.toml.specs.Data.{Data, string, array, table, Members, get_member}
use Rattle.toml.specs.View.{items_of}
use Rattle.toml.specs.Parse.{parse_document}
use Rattle.q4_value.specs.declared.column.Column.{Column}
use Rattle.q4_value.specs.declared.column.Kind.{Kind}
use Rattle.q4_value.specs.declared.column.Kind.TheVariants as kind
use Rattle.q4_def.specs.declared.table_def.TableDef.{TableDef}
use Rattle.q4_def.specs.Tables.{AreDefs, built_in}

-- the bytes are UTF-8, and TOML that reads as this document
pub record IsToml (bytes : List ℕ) (document : Members) : Type 0 where
  pub utf8 : IsUtf8 bytes
  pub reads : parse_document bytes ≡ Some document

-- each key that has a value is one of these
abbrev pub HasOnly : List (List ℕ) → Members → Type 0
HasOnly keys members = (key : List ℕ) → (Contains keys key → ⊥) → get_member key members ≡ None

-- the document has the one key `table`, an array of these members, of which there is one or more
pub record HasTables (document : Members) (tables : List Data) : Type 0 where
  pub tables_are : get_member (codes "table") document ≡ Some (array (items_of tables))
  pub no_other : HasOnly (codes "table" ∷ []) document
  pub some : 0 < length tables

-- the member has exactly the keys `name`, a string, and `columns`, an array
pub record HasEntries (member : Data) (name : List ℕ) (columns : List Data) : Type 0 where
  pub entries : Members
  pub is_table : member ≡ table entries
  pub name_is : get_member (codes "name") entries ≡ Some (string name)
  pub columns_are : get_member (codes "columns") entries ≡ Some (array (items_of columns))
  pub no_other : HasOnly (codes "name" ∷ codes "columns" ∷ []) entries

-- these, where each column is a string
abbrev pub IsTable : Data → List ℕ → List (List ℕ) → Type 0
IsTable member name texts = HasEntries member name (map string texts)

-- the words of a column of numbers or texts, which is optional or not
abbrev pub kind_words : Kind → Bool → List ℕ
kind_words kind.Int false = codes "int"
kind_words kind.Words false = codes "text"
kind_words kind.Int true = codes "int null"
kind_words kind.Words true = codes "text null"

-- the string of a column: its name, one space, and the words of its kind
abbrev pub column_text : Column → List ℕ
column_text column = column.name ++ 32 ∷ kind_words column.kind column.optional

-- the member of the document defines this table
abbrev pub Defines : Data → TableDef → Type 0
Defines member def = IsTable member def.name (map column_text def.columns)

-- The bytes are a document whose tables, in order, define these.
pub record HasDefs (bytes : List ℕ) (defs : List TableDef) : Type 0 where
  pub document : Members
  pub tables : List Data
  pub toml : IsToml bytes document
  pub form : HasTables document tables
  pub each : AllZip Defines tables defs
  pub well_formed : AreDefs defs

-- The definitions of a file: without any byte the built-in ones.
abbrev pub Reads : List ℕ → List TableDef → Type 0
Reads [] defs = defs ≡ built_in
Reads (b ∷ rest) defs = HasDefs (b ∷ rest) defs
