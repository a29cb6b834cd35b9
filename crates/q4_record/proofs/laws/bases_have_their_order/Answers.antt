use Rattle.q4_record.proofs.PartedBases.{base_parts}
use Rattle.q4_record.proofs.laws.bases_have_their_order.Goals as goal

pub returns : goal.returns
returns c = base_parts
