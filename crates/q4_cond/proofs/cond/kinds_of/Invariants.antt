use Rattle.std.proofs.Common.{◌≡◌, take}
use Rattle.q4_cond.specs.Reading.{kinds_of}
use Rattle.q4_cond.proofs.cond.kinds_of.Given as goal

abbrev pub invariant-loop-column : goal.invariant-loop-column
invariant-loop-column l = l.kinds.items ≡ kinds_of (take l.column-index l.columns)
