use Rattle.std.proofs.Common.{refl}
use Rattle.q4_store.proofs.Changes.{added_is, ended_is, read_again, read_either, earlier_stays, none_waits}
use Rattle.q4_store.proofs.laws.content_laws.Goals as goal

pub returns-clause-added : goal.returns-clause-added
returns-clause-added c = added_is

pub returns-clause-ended : goal.returns-clause-ended
returns-clause-ended c = ended_is

pub returns-clause-committed : goal.returns-clause-committed
returns-clause-committed c = λ content. refl

pub returns-clause-nothing_waits : goal.returns-clause-nothing_waits
returns-clause-nothing_waits c = none_waits

pub returns-clause-reopened : goal.returns-clause-reopened
returns-clause-reopened c = read_again

pub returns-clause-earlier : goal.returns-clause-earlier
returns-clause-earlier c = earlier_stays

pub returns-clause-reopened_unsure : goal.returns-clause-reopened_unsure
returns-clause-reopened_unsure c = read_either
