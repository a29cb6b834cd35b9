-- How a reply goes out in pieces.
use Rattle.std.specs.Prelude.{◌≡◌, ◌≤◌, ◌++◌, ℕ, List, Option, Bool, true, false, Result, OnOk, OnErr}
use Rattle.std.specs.Result.{IsErr}
use Rattle.q4_proto.specs.declared.pieces.Pieces.{Pieces}
use Rattle.q4_flow.specs.declared.sink.WriteFailed.{WriteFailed}
use Rattle.q4_flow.specs.Flow.{Took, TookFront, Rose, Counts}

-- What stands before and after a piece was put: what the sink took, its count of faults, and what waits in the buffer.
pub record Writing : Type 0 where
  pub written : Option (List ℕ)
  pub faults : ℕ
  pub waiting : List ℕ
  pub failed : Bool

abbrev pub writing : Option (List ℕ) → ℕ → Pieces → Writing
writing written faults pieces = record { written = written; faults = faults; waiting = pieces.waiting; failed = pieces.failed }

-- The sink took a front of what waited and the text, and the rest waits.
pub record Goes (before after : Writing) (text : List ℕ) : Type 0 where
  pub sent : List ℕ
  pub whole : before.waiting ++ text ≡ sent ++ after.waiting
  pub took : Took before.written after.written sent
  pub stayed : after.faults ≡ before.faults

-- The sink failed, and took a front of what waited and the text.
pub record Breaks (before after : Writing) (text : List ℕ) : Type 0 where
  pub front : TookFront before.written after.written (before.waiting ++ text)
  pub later : before.faults ≤ after.faults
  pub rose : Rose before.faults after.faults

-- Nothing is done after a failure.
pub record Stays (before after : Writing) : Type 0 where
  pub written : after.written ≡ before.written
  pub faults : after.faults ≡ before.faults

abbrev pub PutsBy : Bool → Bool → Writing → Writing → List ℕ → Type 0
PutsBy false false before after text = Goes before after text
PutsBy false true before after text = Breaks before after text
PutsBy true true before after text = Stays before after
PutsBy true false before after text = ⊥

-- The text is put behind what waits, as far as no write failed.
abbrev pub Puts : Writing → Writing → List ℕ → Type 0
Puts before after text = PutsBy before.failed after.failed before after text

-- How the last of a text goes out, where this much of it waits.
pub record Ends (written after : Option (List ℕ)) (faults now : ℕ) (text : List ℕ) (result : Result (Unit {0}) WriteFailed) : Type 0 where
  pub all : OnOk result (Took written after text)
  pub front : OnErr result (TookFront written after text)
  pub cause : Counts faults now result

abbrev pub FinishesBy : Bool → Writing → Option (List ℕ) → ℕ → Result (Unit {0}) WriteFailed → Type 0
FinishesBy false before after now result = Ends before.written after before.faults now before.waiting result
FinishesBy true before after now result = (after ≡ before.written) × (now ≡ before.faults) × IsErr result

-- What waits goes out, where no write failed before.
abbrev pub Finishes : Writing → Option (List ℕ) → ℕ → Result (Unit {0}) WriteFailed → Type 0
Finishes before after now result = FinishesBy before.failed before after now result
