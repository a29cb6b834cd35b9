use Rattle.std.proofs.Common.{◌≡◌, drop}
use Rattle.q4_cond.specs.Tokens.{digits_from}
use Rattle.q4_cond.proofs.token.digits_value.Given as goal

abbrev pub invariant-loop-byte : goal.invariant-loop-byte
invariant-loop-byte l = digits_from l.value (drop l.byte-index l.run) ≡ digits_from 0 l.run
