use Rattle.std.proofs.Common.{◌≡◌, ◌+◌, drop}
use Rattle.q4_cond.specs.Tokens.{place_of, names_of}
use Rattle.q4_cond.proofs.token.column_place.Given as goal

abbrev pub invariant-loop-i : goal.invariant-loop-i
invariant-loop-i l = place_of (names_of l.columns) l.word ≡ l.i + place_of (names_of (drop l.i l.columns)) l.word
