use Rattle.std.proofs.Common.{◌-◌, refl, ap, ◌∙◌, inl}
use Rattle.q4_value.specs.Spelling.{optional_count}
use Rattle.q4_record.specs.Replay.{state_of}
use Rattle.q4_record.proofs.Inserting.{flags_within, whole_passes, whole_short, no_row_cut, no_row_ill}
use Rattle.q4_record.proofs.replay.Replay.long_row_fault.Goals as goal

pub overflow_sub-size : goal.overflow_sub-size
overflow_sub-size c =
    let w = rw (c.in-Whole.is, c.columns.ensures) at c.row_extent-extent.ensures in
    rw (c.optional_count.ensures, c.columns-in-Whole.ensures) (flags_within c.args.self.now.table.state.columns c.args.bytes.now c.in-Whole.len c.row_extent-extent.result.1 w)

pub returns-in-Some : goal.returns-in-Some
returns-in-Some c =
    let w = rw (c.in-Whole.is, c.columns.ensures) at c.row_extent-extent.ensures in
    inl (whole_passes (state_of c.args.self.now) c.args.number c.args.origin c.args.bytes.now c.in-Whole.len _ c.row_extent-extent.result.1 c.in-Some.limit c.limit_passed.result w (ap (λ n. c.in-Whole.len - n) (c.optional_count.ensures ∙ ap optional_count c.columns-in-Whole.ensures)) c.limit_passed.ensures c.in-Some.is)

pub returns-in-None : goal.returns-in-None
returns-in-None c =
    let w = rw (c.in-Whole.is, c.columns.ensures) at c.row_extent-extent.ensures in
    absurd (whole_short (state_of c.args.self.now) c.args.number c.args.origin c.args.bytes.now c.in-Whole.len _ c.row_extent-extent.result.1 c.limit_passed.result w (ap (λ n. c.in-Whole.len - n) (c.optional_count.ensures ∙ ap optional_count c.columns-in-Whole.ensures)) c.limit_passed.ensures c.in-None.is c.requires)

pub returns-else-long : goal.returns-else-long
returns-else-long c =
    let w = rw (c.in-Cut.is, c.columns.ensures, c.if-long.false) at c.row_extent-extent.ensures in
    (refl, no_row_cut (state_of c.args.self.now) c.args.number c.args.origin c.args.bytes.now w)

pub returns-in-Unreadable : goal.returns-in-Unreadable
returns-in-Unreadable c =
    let w = rw (c.in-Unreadable.is, c.columns.ensures) at c.row_extent-extent.ensures in
    (refl, no_row_ill (state_of c.args.self.now) c.args.number c.args.origin c.args.bytes.now w)
