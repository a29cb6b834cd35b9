use Rattle.std.proofs.Common.{◌≡◌, take}
use Rattle.q4_machine.proofs.looks.Looks.copy.Given as goal

-- the entries so far are copied
abbrev pub invariant-loop-listed : goal.invariant-loop-listed
invariant-loop-listed l = l.list ≡ take l.listed-index l.listed-items
