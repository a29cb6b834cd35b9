use Rattle.std.proofs.Common.{refl}
use Rattle.q4_value.specs.Escape.{escaped}
use Rattle.q4_value.proofs.EscapeLaws.{escaped_in_field, escaped_once, stands, one_place}
use Rattle.q4_value.proofs.laws.escape_laws.Goals as goal

pub returns-clause-in_field : goal.returns-clause-in_field
returns-clause-in_field c = escaped_in_field

pub returns-clause-once : goal.returns-clause-once
returns-clause-once c = escaped_once

pub returns-clause-apart : goal.returns-clause-apart
returns-clause-apart c = λ text place bad. stands (escaped text) text place bad refl

pub returns-clause-one_place : goal.returns-clause-one_place
returns-clause-one_place c = one_place
