use Rattle.std.proofs.Common.{◌≡◌, ◌++◌, drop}
use Rattle.q4_cond.specs.Shown.{doubled}
use Rattle.q4_cond.proofs.writing.push_doubled.Given as goal

abbrev pub invariant-loop-byte : goal.invariant-loop-byte
invariant-loop-byte l = l.text ++ doubled (drop l.byte-index l.bytes) ≡ l.initial.text ++ doubled l.bytes
