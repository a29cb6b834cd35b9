use Rattle.q4_table.proofs.Recent.{kept-each}
use Rattle.q4_table.proofs.laws.conditions_stay_kept.Goals as goal

pub returns : goal.returns
returns c = kept-each
