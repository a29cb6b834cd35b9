use Rattle.q4_record.proofs.OneSide.{side_once, apart, fails_once}
use Rattle.q4_record.proofs.laws.side_laws.Goals as goal

pub returns-clause-once : goal.returns-clause-once
returns-clause-once c = side_once

pub returns-clause-apart : goal.returns-clause-apart
returns-clause-apart c = apart

pub returns-clause-one_fault : goal.returns-clause-one_fault
returns-clause-one_fault c = fails_once
