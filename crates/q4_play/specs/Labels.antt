-- Lines with labels, and which session each label has.
use Rattle.std.specs.Prelude.{◌≡◌, ◌≤◌, ◌-◌, ◌++◌, ◌∷◌, ℕ, List, Option, None, decimal, slice_index_or, slice_set, replicate}
use Rattle.q4_play.specs.declared.labels.Addressed.{Addressed}
use Rattle.q4_play.specs.declared.labels.Addressed.TheVariants.{Bad, Alone, Command}

-- A label is a number from 1 to 64.
abbrev pub last_label : ℕ
last_label = 64

abbrev pub IsLabel : ℕ → Type 0
IsLabel label = (1 ≤ label) × (label ≤ last_label)

-- a line of a label alone, and one of a label, a space and a command
abbrev pub alone_line : ℕ → List ℕ
alone_line label = decimal label

abbrev pub command_line : ℕ → List ℕ → List ℕ
command_line label command = decimal label ++ 32 ∷ command

-- A line of another form.
pub record IsUnlabelled (line : List ℕ) : Type 0 where
  pub not_alone : (label : ℕ) → IsLabel label → line ≡ alone_line label → ⊥
  pub no_command : (label : ℕ) (command : List ℕ) → IsLabel label → line ≡ command_line label command → ⊥

-- Which form the line has.
abbrev pub Addresses : List ℕ → Addressed → Type 0
Addresses line Bad = IsUnlabelled line
Addresses line (Alone label) = IsLabel label × (line ≡ alone_line label)
Addresses line (Command label command) = IsLabel label × (line ≡ command_line label command.now)

-- The session of each label from 1 on, where it has one: at first none.
abbrev pub nobody : List (Option ℕ)
nobody = replicate last_label None

abbrev pub session_at : List (Option ℕ) → ℕ → Option ℕ
session_at seating label = slice_index_or seating (label - 1) None

abbrev pub with_seat : List (Option ℕ) → ℕ → Option ℕ → List (Option ℕ)
with_seat seating label session = slice_set seating (label - 1) session
