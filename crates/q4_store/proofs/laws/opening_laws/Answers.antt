use Rattle.q4_store.proofs.Apart.{reads_apart, one_fault}
use Rattle.q4_store.proofs.Quiet.{reads_once, opens_once, opened_again}
use Rattle.q4_store.proofs.laws.opening_laws.Goals as goal

pub returns-clause-once : goal.returns-clause-once
returns-clause-once c = reads_once

pub returns-clause-opens_once : goal.returns-clause-opens_once
returns-clause-opens_once c = opens_once

pub returns-clause-again : goal.returns-clause-again
returns-clause-again c = opened_again

pub returns-clause-apart : goal.returns-clause-apart
returns-clause-apart c = reads_apart

pub returns-clause-one_fault : goal.returns-clause-one_fault
returns-clause-one_fault c = one_fault
