-- How far a text is read. No public clause cites it.
use Rattle.std.specs.Prelude.{◌≡◌, ℕ, List, [], ◌++◌, length, drop, Option, Some, None}
use Rattle.q4_value.specs.declared.column.Column.{Column}
use Rattle.q4_cond.specs.Machine.{State, Wants, run}
use Rattle.q4_cond.specs.Tokens.{Placed, bare, tokens_of, tokens_from, names_of}
use Rattle.q4_cond.specs.Reading.{atom_places, first_unknown}

abbrev pub first_of : Option ℕ → Option ℕ → Option ℕ
first_of None o = o
first_of (Some x) o = Some x

-- the tokens before the place are read, and left this state, these places of atoms and this unknown word
pub record Scanned (columns : List Column) (text : List ℕ) (place : ℕ) (s : State) (atoms : List ℕ) (unknown : Option ℕ) : Type 0 where
  pub seen : List Placed
  pub split : tokens_of (names_of columns) text ≡ seen ++ tokens_from (names_of columns) 0 place (drop place text)
  pub read : run 32 (Wants [] []) (bare seen) ≡ Some s
  pub places : atoms ≡ atom_places seen
  pub unnamed : unknown ≡ first_unknown (length columns) seen
