use Rattle.std.proofs.Common.{◌≤◌, length, ap, arith}
use Rattle.q4_table.specs.Cursors.{kept_limit}
use Rattle.q4_table.proofs.Passing.{length_taken}
use Rattle.q4_table.proofs.cursors.Cursors.copy.Goals as goal

pub invariant_of-result : goal.invariant_of-result
invariant_of-result c =
    let few : length c.loop-watched.list.items ≤ kept_limit =
    omega (arith, ap length c.loop-watched.invariant, length_taken c.loop-watched.watched-index c.deref-watched-items.result.now, ap length c.deref-watched-items.ensures.value, c.self.invariant) in
    few
