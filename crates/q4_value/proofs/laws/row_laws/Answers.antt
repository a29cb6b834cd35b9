use Rattle.std.proofs.Common.{refl}
use Rattle.q4_value.proofs.Spelled.{length-row_bytes}
use Rattle.q4_value.proofs.ReadingLaws.{readable, rows_once, one_unreadable}
use Rattle.q4_value.specs.Spelling.{row_bytes}
use Rattle.std.proofs.Common.{◌++◌}
use Rattle.q4_value.proofs.laws.row_laws.Goals as goal

pub returns-clause-length : goal.returns-clause-length
returns-clause-length c = length-row_bytes

pub returns-clause-once : goal.returns-clause-once
returns-clause-once c = rows_once

pub returns-clause-apart : goal.returns-clause-apart
returns-clause-apart c = λ columns row more why row_of bad. readable columns (row_bytes columns row ++ more) row more why bad row_of refl

pub returns-clause-one_fault : goal.returns-clause-one_fault
returns-clause-one_fault c = one_unreadable
