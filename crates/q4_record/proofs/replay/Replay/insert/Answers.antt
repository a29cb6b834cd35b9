use Rattle.std.proofs.Common.{refl, inl}
use Rattle.q4_record.specs.Replay.{state_of}
use Rattle.q4_record.proofs.Cuts.{cut_of_short, ill_of_not_text, ill_of_flag}
use Rattle.q4_record.proofs.Inserting.{read_passes, read_within, read_stands, no_row_cut, no_row_ill}
use Rattle.q4_record.proofs.replay.Replay.insert.Goals as goal

pub returns-in-Some-clause-fault : goal.returns-in-Some-clause-fault
returns-in-Some-clause-fault c =
    let r = rw c.columns.ensures at c.in-Ok.ensures.read in
    inl (read_passes (state_of c.args.self.now) c.args.number c.args.origin c.args.bytes.now c.in-Ok.row c.in-Ok.len c.row_size.result c.in-Some.limit c.limit_passed.result r c.row_size.ensures c.limit_passed.ensures c.in-Some.is)

pub add-requires-clause-within : goal.add-requires-clause-within
add-requires-clause-within c =
    let r = rw c.columns.ensures at c.in-Ok.ensures.read in
    read_within (state_of c.args.self.now) c.args.number c.args.origin c.args.bytes.now c.in-Ok.row c.in-Ok.len c.row_size.result c.limit_passed.result r c.row_size.ensures c.limit_passed.ensures c.in-None.is

pub returns-in-Ok-clause-stands : goal.returns-in-Ok-clause-stands
returns-in-Ok-clause-stands c =
    let r = rw c.columns.ensures at c.in-Ok.ensures.read in
    let passed = read_within (state_of c.args.self.now) c.args.number c.args.origin c.args.bytes.now c.in-Ok.row c.in-Ok.len c.row_size.result c.limit_passed.result r c.row_size.ensures c.limit_passed.ensures c.in-None.is in
    rw c.split_at.ensures.back (read_stands (state_of c.args.self.now) c.args.number c.args.origin c.args.bytes.now c.in-Ok.row c.in-Ok.len (state_of c.add.new.self) r passed c.in_ok-add-in-None.ensures.added)

pub returns-in-Err-Short-clause-fault : goal.returns-in-Err-Short-clause-fault
returns-in-Err-Short-clause-fault c =
    let f = rw (c.in-Err-Short.field-0-is, c.columns.ensures) at c.in-Err-Short.ensures.fault in
    (refl, no_row_cut (state_of c.args.self.now) c.args.number c.args.origin c.args.bytes.now (cut_of_short c.args.self.now.table.state.columns c.args.bytes.now c.in-Err-Short.field-0-0 f))

pub returns-in-Err-NotText-clause-fault : goal.returns-in-Err-NotText-clause-fault
returns-in-Err-NotText-clause-fault c =
    let f = rw (c.in-Err-NotText.field-0-is, c.columns.ensures) at c.in-Err-NotText.ensures.fault in
    (refl, no_row_ill (state_of c.args.self.now) c.args.number c.args.origin c.args.bytes.now (ill_of_not_text c.args.self.now.table.state.columns c.args.bytes.now c.in-Err-NotText.field-0-0 f))

pub returns-in-Err-Flag-clause-fault : goal.returns-in-Err-Flag-clause-fault
returns-in-Err-Flag-clause-fault c =
    let f = rw (c.in-Err-Flag.field-0-is, c.columns.ensures) at c.in-Err-Flag.ensures.fault in
    (refl, no_row_ill (state_of c.args.self.now) c.args.number c.args.origin c.args.bytes.now (ill_of_flag c.args.self.now.table.state.columns c.args.bytes.now c.in-Err-Flag.field-0-0 f))
