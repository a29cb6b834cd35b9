-- What a look of a legal history was answered, in the rules' words.
use Rattle.std.specs.Prelude.{◌≡◌, ◌+◌, ℕ, List, ◌∷◌, ◌++◌, Some, All, length}
use Rattle.q4_table.specs.Oldest.{IsOldest, IsFree}
use Rattle.q4_machine.specs.declared.looks.Listed.{Listed}
use Rattle.q4_machine.specs.declared.session.SessionMode.TheVariants.{Empty, Owner}
use Rattle.q4_machine.specs.Opening.{Opening}
use Rattle.q4_machine.specs.declared.entry.Reply.{Reply}
use Rattle.q4_machine.specs.declared.entry.Reply.TheVariants.{Found, Nothing}
use Rattle.q4_machine.specs.Machine.{MachineState, table_at, mode_of, owner_at}

-- Each row of the listed table has an owner or does not meet the condition.
abbrev pub NoneFree : List Opening → Listed → Type 0
NoneFree tables l = All (λ r. IsFree l.cond.tree r → ⊥) (table_at tables l.table).rows

-- A table of the list has the oldest row that nobody owns and that meets its condition, the tables at earlier
-- places have none, and the session owns that row afterwards.
pub record TakesOldest (m after : MachineState) (session : ℕ) (list : List Listed) (place : ℕ) : Type 0 where
  pub earlier : List Listed
  pub listed : Listed
  pub later : List Listed
  pub cut : list ≡ earlier ++ listed ∷ later
  pub place_is : place ≡ length earlier + 1
  pub number : ℕ
  pub none_earlier : All (NoneFree m.tables) earlier
  pub oldest : IsOldest (table_at m.tables listed.table).rows listed.cond.tree number
  pub owner : owner_at after listed.table number ≡ Some session
  pub mode : mode_of after session ≡ Some (Owner listed.table number)

-- No table of the list has a row that nobody owns and that meets its condition, and the session is in owner mode
-- without a row afterwards.
pub record TakesNone (m after : MachineState) (session : ℕ) (list : List Listed) : Type 0 where
  pub none : All (NoneFree m.tables) list
  pub mode : mode_of after session ≡ Some Empty

abbrev pub LookAnswers : MachineState → MachineState → ℕ → List Listed → Reply → Type 0
LookAnswers m after session list (Found place) = TakesOldest m after session list place
LookAnswers m after session list Nothing = TakesNone m after session list
LookAnswers m after session list _ = ⊥
