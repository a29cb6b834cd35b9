use Rattle.std.proofs.Common.{◌≡◌, ◌++◌, length}
use Rattle.std.specs.Prelude.{string_bytes}
use Rattle.std.specs.List.{All}
use Rattle.q4_value.specs.Escape.{escaped, IsFieldByte}
use denote.Shadow.{shadow}
use denote.Text.{Utf8}
use Rattle.q4_value.proofs.escaping.unescape_run.Given as goal

-- what was made stands spelled before what is left
abbrev pub invariant-loop-at : goal.invariant-loop-at
invariant-loop-at l = (l.run ≡ escaped (string_bytes l.made) ++ l.rest) × All IsFieldByte l.rest × shadow (Utf8 l.rest)

abbrev pub decreases-loop-at : goal.decreases-loop-at
decreases-loop-at l = length l.rest
