use Rattle.std.proofs.Common.{◌≡◌, false, drop}
use Rattle.q4_cond.specs.Tokens.{quoted}
use Rattle.q4_cond.proofs.Lexing.{prefixed}
use Rattle.q4_cond.proofs.token.text_front.Given as goal

abbrev pub invariant-loop-i : goal.invariant-loop-i
invariant-loop-i l = quoted false l.rest ≡ prefixed l.text l.i (quoted l.closed (drop l.i l.rest))
