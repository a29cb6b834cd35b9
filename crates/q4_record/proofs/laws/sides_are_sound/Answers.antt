use Rattle.q4_record.proofs.Leading.{sound_side}
use Rattle.q4_record.proofs.laws.sides_are_sound.Goals as goal

pub returns : goal.returns
returns c = sound_side
