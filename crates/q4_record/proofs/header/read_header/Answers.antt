use Rattle.std.proofs.Common.{refl}
use Rattle.std.proofs.lemmas.List.{drop-drop}
use Rattle.q4_record.specs.Side.{base_at, base_length_of}
use Rattle.q4_record.proofs.header.read_header.Goals as goal

pub returns-clause-parts : goal.returns-clause-parts
returns-clause-parts c = (
  c.number_at-generation.ensures,
  rw (c.split_at-2.ensures.front, c.split_at.ensures.back, c.number_at-len.ensures) refl,
  rw (c.split_at-2.ensures.back, c.split_at.ensures.back, c.number_at-len.ensures) (drop-drop (base_length_of c.args.bytes.now) base_at c.args.bytes.now),
)
