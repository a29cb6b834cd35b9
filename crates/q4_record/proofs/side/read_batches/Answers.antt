use Rattle.std.proofs.Common.{◌+◌, ◌-◌, length, ap, subst, ◌∙◌, arith}
use Rattle.std.proofs.lemmas.Result.{err_from_is_err_and}
use Rattle.q4_record.specs.Replay.{state_of}
use Rattle.q4_record.proofs.Batches.{BatchesSoFar, one_more_batch, batch_failed, batches_end}
use Rattle.q4_record.proofs.side.read_batches.Goals as goal

pub returns-in_err-read_section-clause-fault : goal.returns-in_err-read_section-clause-fault
returns-in_err-read_section-clause-fault c =
    let p = err_from_is_err_and c.from_residual.result c.from_residual.ensures.1 in
    let so = subst (BatchesSoFar c.args.table.state c.args.bytes.now (state_of c.loop-more.replay)) c.in-Some.ensures.is_open c.loop-more.invariant.0 in
    rw (p.1, p.2) (batch_failed c.args.table.state c.args.bytes.now (state_of c.loop-more.replay) c.in-Some.more.now c.in-Some-split_batch.records.now c.in-Some-split_batch.after.now c.args.at _ so
    (ap (λ bs. c.args.at + (length c.args.bytes.now - length bs)) c.in-Some.ensures.is_open) c.in-Some-split_batch.ensures.read c.in-Some-split_batch.ensures.more (omega arith) c.in_err-read_section.field-0.0 c.in_err-read_section.ensures.fault)

pub loop-more-preserved : goal.loop-more-preserved
loop-more-preserved c =
    let so = subst (BatchesSoFar c.args.table.state c.args.bytes.now (state_of c.loop-more.replay)) c.in-Some.ensures.is_open c.loop-more.invariant.0 in
    (one_more_batch c.args.table.state c.args.bytes.now (state_of c.loop-more.replay) c.in-Some.more.now c.in-Some-split_batch.records.now c.in-Some-split_batch.after.now (state_of c.read_section.new.self) so c.in-Some-split_batch.ensures.read c.in_ok-read_section.ensures.stand, c.in_ok-read_section.ensures.ready, c.in-Some-split_batch.ensures.more, c.in_ok-read_section.ensures.kept ∙ c.loop-more.invariant.3)

pub returns-clause-read : goal.returns-clause-read
returns-clause-read c = batches_end c.args.table.state c.args.bytes.now (state_of c.loop-more.replay) c.loop-more.rest.now c.args.at c.loop-more.invariant.0 c.loop-more.invariant.2 c.in_default.ensures.closed
