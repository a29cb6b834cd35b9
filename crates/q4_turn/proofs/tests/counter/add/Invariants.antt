use Rattle.std.proofs.Common.{replicate}
use Rattle.q4_turn.proofs.tests.counter.add.Given as goal

abbrev pub ghost-leave : goal.ghost-leave
ghost-leave g a = replicate a.added a.pass.now.seat.me.0.number
