-- The names of tables and columns, and what a list of columns has to be.
use Rattle.std.specs.Prelude.{◌≡◌, ◌≢◌, ℕ, ◌<◌, ◌≤◌, ◌⊎◌, List, [], ◌∷◌, length, All, AllPairs, codes}
use Rattle.q4_value.specs.declared.column.Column.{Column}

-- a to z
abbrev pub IsLowercase : ℕ → Type 0
IsLowercase b = (97 ≤ b) × (b ≤ 122)

-- a to z, 0 to 9 or `_`
abbrev pub IsNameByte : ℕ → Type 0
IsNameByte b = IsLowercase b ⊎ ((48 ≤ b) × (b ≤ 57)) ⊎ (b ≡ 95)

abbrev pub BeginsLowercase : List ℕ → Type 0
BeginsLowercase [] = ⊥
BeginsLowercase (b ∷ rest) = IsLowercase b

-- 1 to 64 bytes of a to z, 0 to 9 and `_`, the first a letter
pub record IsName (name : List ℕ) : Type 0 where
  pub begins : BeginsLowercase name
  pub bytes : All IsNameByte name
  pub few : length name ≤ 64

-- a name that is no word of conditions
pub record IsColumnName (name : List ℕ) : Type 0 where
  pub is_name : IsName name
  pub not_and : name ≢ codes "and"
  pub not_or : name ≢ codes "or"
  pub not_not : name ≢ codes "not"

-- each column has a name, and no name stands twice
pub record AreNamed (columns : List Column) : Type 0 where
  pub names : All (λ column. IsColumnName column.name) columns
  pub once : AllPairs (λ one other. one.name ≢ other.name) columns

-- 1 to 32 named columns
pub record AreColumns (columns : List Column) : Type 0 where
  pub named : AreNamed columns
  pub some : 0 < length columns
  pub few : length columns ≤ 32
