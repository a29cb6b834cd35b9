use Rattle.std.proofs.Common.{◌≡◌}
use Rattle.q4_turn.specs.Turns.{turn_parts, parts, IsFree}
use Rattle.q4_turn.proofs.tests.counter.alone.Given as goal

abbrev pub ghost-new : goal.ghost-new
ghost-new g a = 0

abbrev pub invariant-loop-more : goal.invariant-loop-more
invariant-loop-more g l = record { free : IsFree l.turn l.pass; whole : parts l.pass ≡ turn_parts l.turn }
