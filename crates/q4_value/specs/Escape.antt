-- How a text stands in a field of a line, and where a field stands for no text.
use Rattle.std.specs.Prelude.{◌≡◌, ◌≢◌, ℕ, ◌⊎◌, List, [], ◌∷◌, ◌++◌, length, ◌==◌, if◌then◌else◌}
use Rattle.std.specs.List.{flat_map}
use Rattle.q4_value.specs.declared.escaping.EscapeFault.{EscapeFault}
use Rattle.q4_value.specs.declared.escaping.EscapeFault.TheVariants as fault

-- TAB (9), newline (10), byte 13 and backslash (92) stand as a backslash with t (116), n (110), r (114) or a backslash
abbrev pub escaped_byte : ℕ → List ℕ
escaped_byte b =
    if b == 9 then 92 ∷ 116 ∷ [] else
    if b == 10 then 92 ∷ 110 ∷ [] else
    if b == 13 then 92 ∷ 114 ∷ [] else
    if b == 92 then 92 ∷ 92 ∷ [] else
    b ∷ []

-- the one spelling of a text
abbrev pub escaped : List ℕ → List ℕ
escaped text = flat_map escaped_byte text

-- a byte that may stand in a field
abbrev pub IsFieldByte : ℕ → Type 0
IsFieldByte b = (b ≢ 9) × (b ≢ 10) × (b ≢ 13)

-- no letter of an escape comes first
abbrev pub NoLetter : List ℕ → Type 0
NoLetter [] = Unit {0}
NoLetter (b ∷ rest) = (b ≢ 116) × (b ≢ 110) × (b ≢ 114) × (b ≢ 92)

-- a raw TAB, newline or byte 13 comes first, or a backslash that begins no escape
abbrev pub IsBadStart : List ℕ → Type 0
IsBadStart [] = ⊥
IsBadStart (b ∷ rest) = (IsFieldByte b → ⊥) ⊎ ((b ≡ 92) × NoLetter rest)

-- Up to this place the bytes spell a text, and there is the first that spells none.
pub record BadAt (bytes : List ℕ) (at : ℕ) : Type 0 where
  pub front : List ℕ
  pub rest : List ℕ
  pub bytes_are : bytes ≡ escaped front ++ rest
  pub place : at ≡ length (escaped front)
  pub bad : IsBadStart rest

-- Why no text was made. Memory may be wanted at any time.
abbrev pub UnescapeFails : List ℕ → EscapeFault → Type 0
UnescapeFails bytes (fault.BadEscape at) = BadAt bytes at
UnescapeFails bytes fault.Memory = Unit {0}
