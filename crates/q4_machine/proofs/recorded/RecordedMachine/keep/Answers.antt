use Rattle.std.proofs.Common.{◌≡◌, length, subst}
use Rattle.q4_machine.specs.History.{definitions_of}
use Rattle.q4_machine.specs.Recorded.{RecordedView}
use Rattle.q4_machine.proofs.Recording.{lists_defined}
use Rattle.q4_machine.proofs.recorded.RecordedMachine.keep.Goals as goal

pub returns-clause-lists : goal.returns-clause-lists
returns-clause-lists c =
    subst (λ (v : RecordedView). length v.kept ≡ length (definitions_of v.log.seen)) c.self.view_is (lists_defined c.self.inside.machine.state c.self.inside.history.items (length c.self.inside.machine.kept) c.self.invariant c.keep.ensures.lists)
