use Rattle.q4_store.proofs.Lengths.{change_length, waiting_length, cost_length}
use Rattle.q4_store.proofs.laws.length_laws.Goals as goal

pub returns-clause-change : goal.returns-clause-change
returns-clause-change c = change_length

pub returns-clause-waiting : goal.returns-clause-waiting
returns-clause-waiting c = waiting_length

pub returns-clause-cost : goal.returns-clause-cost
returns-clause-cost c = cost_length
