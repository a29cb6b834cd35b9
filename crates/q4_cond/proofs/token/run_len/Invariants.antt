use Rattle.std.proofs.Common.{◌≡◌, ◌++◌, take, drop}
use Rattle.q4_cond.specs.Tokens.{word_run}
use Rattle.q4_cond.proofs.token.run_len.Given as goal

abbrev pub invariant-loop-i : goal.invariant-loop-i
invariant-loop-i l = word_run l.rest ≡ take l.i l.rest ++ word_run (drop l.i l.rest)
