use Rattle.q4_record.proofs.Changes.{added_stands, ended_stands}
use Rattle.q4_record.proofs.laws.changes_stand.Goals as goal

pub returns-clause-added : goal.returns-clause-added
returns-clause-added c = added_stands

pub returns-clause-ended : goal.returns-clause-ended
returns-clause-ended c = ended_stands
