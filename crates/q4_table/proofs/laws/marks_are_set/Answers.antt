use Rattle.q4_table.proofs.MarkLaws.{mark-set, mark-others}
use Rattle.q4_table.proofs.laws.marks_are_set.Goals as goal

pub returns-clause-set : goal.returns-clause-set
returns-clause-set c = mark-set

pub returns-clause-others : goal.returns-clause-others
returns-clause-others c = mark-others
