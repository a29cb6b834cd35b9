use Rattle.std.proofs.Common.{◌≡◌, ◌≤◌, ◌-◌, ◌^◌, length}
use Rattle.q4_machine.proofs.Selecting.{shown_below}
use Rattle.q4_machine.proofs.select.unowned_rows.Given as goal

-- the unowned rows below the cursor are shown, and they are not too many
abbrev pub invariant-loop-alloc : goal.invariant-loop-alloc
invariant-loop-alloc l = (l.rows ≡ shown_below l.cursor l.table.state.rows) × (length l.rows ≤ l.most) × (l.cursor ≤ 2 ^ 62)

abbrev pub decreases-loop-alloc : goal.decreases-loop-alloc
decreases-loop-alloc l = 2 ^ 62 - l.cursor
