use Rattle.std.proofs.Common.{◌<◌, sym, ◌∙◌, arith}
use Rattle.q4_cond.specs.Machine.{frame_level}
use Rattle.q4_cond.proofs.Taking.{kept_head, closed_head, kept_empty, closed_empty}
use Rattle.q4_cond.proofs.reader.close_frames.Goals as goal

pub returns-then-level-clause-kept : goal.returns-then-level-clause-kept
returns-then-level-clause-kept c =
    let low : frame_level c.in-Some.frame < c.args.level = omega arith in
    sym (kept_head c.args.level c.loop-frame.frames c.in-Some.frame (sym c.innermost.ensures ∙ c.in-Some.is) low) ∙ c.loop-frame.invariant.kept

pub returns-then-level-clause-closed : goal.returns-then-level-clause-closed
returns-then-level-clause-closed c =
    let low : frame_level c.in-Some.frame < c.args.level = omega arith in
    sym (closed_head c.args.level c.loop-frame.frames c.loop-frame.nodes.items c.in-Some.frame (sym c.innermost.ensures ∙ c.in-Some.is) low) ∙ c.loop-frame.invariant.closed

pub returns-clause-kept : goal.returns-clause-kept
returns-clause-kept c = sym (kept_empty c.args.level c.loop-frame.frames (sym c.innermost.ensures ∙ c.in_default.is)) ∙ c.loop-frame.invariant.kept

pub returns-clause-closed : goal.returns-clause-closed
returns-clause-closed c = sym (closed_empty c.args.level c.loop-frame.frames c.loop-frame.nodes.items (sym c.innermost.ensures ∙ c.in_default.is)) ∙ c.loop-frame.invariant.closed
