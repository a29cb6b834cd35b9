use Rattle.std.proofs.Common.{◌≡◌, take}
use Rattle.q4_def.proofs.defs.Defs.copy.Given as goal

-- the definitions so far
abbrev pub invariant-loop-def : goal.invariant-loop-def
invariant-loop-def l = l.tables.items ≡ take l.def-index l.def-items
