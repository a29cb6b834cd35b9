use Rattle.std.proofs.Common.{◌≡◌, ◌++◌, map, take, drop}
use Rattle.q4_machine.specs.Machine.{in_mode}
use Rattle.q4_machine.proofs.machine.set_mode.Given as goal

-- the sessions so far are changed
abbrev pub invariant-loop-entry : goal.invariant-loop-entry
invariant-loop-entry l = l.entry-items ≡ map (in_mode l.session l.mode) (take l.entry-index l.initial.entry-items) ++ drop l.entry-index l.initial.entry-items
