use Rattle.std.proofs.Common.{◌≡◌, ℕ, List, subst}
use Rattle.q4_value.specs.Escape.{escaped}
use Rattle.q4_value.proofs.Runs.{field_nowhere}
use Rattle.q4_value.proofs.Unescaped.{raw_is_none}
use Rattle.q4_value.proofs.escaping.is_escaped.Goals as goal

pub returns-in-Some-clause-bad : goal.returns-in-Some-clause-bad
returns-in-Some-clause-bad c =
    subst (λ text. (words : List ℕ) → text ≡ escaped words → ⊥) c.as_bytes-bytes.ensures.value (raw_is_none c.as_bytes-bytes.result.now c.in-Some.field-0 c.in-Some.ensures)

pub is_escaped_run-requires : goal.is_escaped_run-requires
is_escaped_run-requires c = field_nowhere c.as_bytes-bytes.result.now c.in-None.ensures
