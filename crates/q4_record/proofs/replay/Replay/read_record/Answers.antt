use Rattle.std.proofs.lemmas.Result.{IfOk-weaker, IfErr-weaker}
use Rattle.q4_record.specs.Parts.{RowStands, RowFails, RecordStood, RecordFailed}
use Rattle.q4_record.specs.Replay.{state_of}
use Rattle.q4_record.proofs.Recording.{record_stood, record_failed}
use Rattle.q4_record.proofs.replay.Replay.read_record.Goals as goal

pub returns-clause-stands : goal.returns-clause-stands
returns-clause-stands c =
    let head = c.in-Some.ensures.head in
    IfOk-weaker c.replay.result (λ rest. RowStands (state_of c.args.self.now) c.in-Some.head c.in-Some.rest.now (state_of c.replay.new.self) rest.now) (λ rest. RecordStood (state_of c.args.self.now) c.args.bytes.now (state_of c.replay.new.self) rest.now)
    (λ rest s. record_stood (state_of c.args.self.now) c.in-Some.head c.args.bytes.now c.in-Some.rest.now (state_of c.replay.new.self) rest.now head.0 head.1 c.if-not-may_come.ensures.may s) c.replay.ensures.stands

pub returns-clause-fault : goal.returns-clause-fault
returns-clause-fault c =
    let head = c.in-Some.ensures.head in
    IfErr-weaker c.replay.result (RowFails (state_of c.args.self.now) c.in-Some.head c.in-Some.rest.now c.args.at) (RecordFailed (state_of c.args.self.now) c.args.bytes.now c.args.at)
    (record_failed (state_of c.args.self.now) c.in-Some.head c.args.bytes.now c.in-Some.rest.now c.args.at head.0 head.1 c.if-not-may_come.ensures.may) c.replay.ensures.fault
