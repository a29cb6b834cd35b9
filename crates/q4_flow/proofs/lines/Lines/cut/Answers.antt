use Rattle.std.proofs.Common.{Some, subst, arith, slice_range}
use Rattle.q4_flow.specs.Lines.{NewlineAt}
use Rattle.q4_flow.proofs.Cutting.{cut_range, within_range}
use Rattle.q4_flow.proofs.lines.Lines.cut.Goals as goal

pub returns-clause-line : goal.returns-clause-line
returns-clause-line c =
    let found : NewlineAt (slice_range c.self.inside.chunk.items c.self.inside.from c.self.inside.until) (Some c.in-Some.at) =
    subst (λ xs. NewlineAt (slice_range xs c.self.inside.from c.self.inside.until) (Some c.in-Some.at)) c.deref.ensures.value c.in-Some.ensures in
    let inside = within_range c.self.inside.chunk.items c.self.inside.from c.self.inside.until c.in-Some.at found.2 in
    rw (c.clear.ensures.items, ← c.self.view_is) (λ _. cut_range c.self.inside.chunk.items c.self.inside.from c.self.inside.until c.in-Some.at (omega arith) inside found)
