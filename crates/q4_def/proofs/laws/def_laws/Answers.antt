use Rattle.q4_def.proofs.DefLaws.{reads_one, reads_no_fault, fails_one}
use Rattle.q4_def.proofs.laws.def_laws.Goals as goal

pub returns-clause-one_list : goal.returns-clause-one_list
returns-clause-one_list c = reads_one

pub returns-clause-apart : goal.returns-clause-apart
returns-clause-apart c = reads_no_fault

pub returns-clause-one_fault : goal.returns-clause-one_fault
returns-clause-one_fault c = fails_one
