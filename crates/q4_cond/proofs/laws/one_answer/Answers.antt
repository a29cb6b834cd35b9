use Rattle.q4_cond.specs.Tokens.{bare, tokens_of, names_of}
use Rattle.q4_cond.proofs.Verdicts.{one_tree}
use Rattle.q4_cond.proofs.Uniqueness.{read_no_fault, one_fault}
use Rattle.q4_cond.proofs.laws.one_answer.Goals as goal

pub returns-clause-tree : goal.returns-clause-tree
returns-clause-tree c = λ columns text t u h k. one_tree 32 32 (bare (tokens_of (names_of columns) text)) t u h.spells.condition k.spells.condition

pub returns-clause-no_fault : goal.returns-clause-no_fault
returns-clause-no_fault c = λ columns text t f h k. read_no_fault columns text t f h k

pub returns-clause-one_fault : goal.returns-clause-one_fault
returns-clause-one_fault c = λ columns text f g h k. one_fault columns text f g h k
