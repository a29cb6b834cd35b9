use Rattle.std.proofs.Common.{◌≡◌}
use Rattle.q4_turn.specs.Turns.{turn_parts, parts, IsFree}
use Rattle.q4_turn.proofs.tests.device.write.Given as goal

abbrev pub ghost-new : goal.ghost-new
ghost-new g a = record { caller = 0; what = 0 }

abbrev pub invariant-loop-what : goal.invariant-loop-what
invariant-loop-what g l = record { free : IsFree l.turn l.pass; whole : parts l.pass ≡ turn_parts l.turn }
