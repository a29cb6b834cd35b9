use Rattle.q4_cond.proofs.Verdicts.{one_tree}
use Rattle.q4_cond.proofs.laws.one_tree.Goals as goal

pub returns : goal.returns
returns c = one_tree
