use Rattle.std.proofs.Common.{◌≡◌, map, take}
use Rattle.toml.specs.Data.{string}
use Rattle.toml.specs.View.{view}
use Rattle.q4_def.proofs.document.strings_of.Given as goal

-- the values so far are these strings
abbrev pub invariant-loop-value : goal.invariant-loop-value
invariant-loop-value l = map view (take l.value-index l.values) ≡ map string (map (λ text. text.now) l.strings.items)
