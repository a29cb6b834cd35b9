use Rattle.std.proofs.Common.{◌∙◌}
use Rattle.q4_record.specs.Replay.{state_of}
use Rattle.q4_record.proofs.Sections.{one_more_read}
use Rattle.q4_record.proofs.Recording.{ready_after}
use Rattle.q4_record.proofs.replay.Replay.read_section.Goals as goal

pub loop-rest-preserved : goal.loop-rest-preserved
loop-rest-preserved c = (
  one_more_read (state_of c.args.self.now) c.args.bytes.now (state_of c.loop-rest.self) c.loop-rest.rest.now (state_of c.read_record.new.self) c.in_ok-rest.rest.now c.loop-rest.invariant.0 c.in_ok-rest.ensures.stands,
  ready_after (state_of c.loop-rest.self) c.loop-rest.rest.now (state_of c.read_record.new.self) c.in_ok-rest.rest.now c.in_ok-rest.ensures.stands c.loop-rest.invariant.1,
  c.in_ok-rest.ensures.kept ∙ c.loop-rest.invariant.2,
)
