use Rattle.std.proofs.Common.{List, Ok, Err, subst}
use Rattle.q4_def.specs.declared.table_def.TableDef.{TableDef}
use Rattle.q4_def.specs.Tables.{AreDefs}
use Rattle.q4_proto.specs.Commands.{Reads}
use Rattle.q4_proto.specs.Told.{Told}
use Rattle.q4_session.specs.Answering.{IsAllowed, Writes}
use Rattle.q4_session.proofs.Spelling.{line_allowed}
use Rattle.q4_session.proofs.Completing.{answered_command, answered_fault}
use Rattle.q4_session.proofs.answering.answer_behind.Goals as goal

pub obey-requires-clause-allowed : goal.obey-requires-clause-allowed
obey-requires-clause-allowed g c = subst (λ defs. IsAllowed defs c.in-Ok.command) c.defs-defs.ensures (line_allowed c.defs-defs.result.now c.args.line.now c.in-Ok.command c.in-Ok.ensures)

pub returns-in-Ok-clause-answering : goal.returns-in-Ok-clause-answering
returns-in-Ok-clause-answering g c = λ s is.
    let defs = subst AreDefs c.defs-defs.ensures c.len-count.ensures.well_formed in
    let reads = subst (λ (ds : List TableDef). Reads ds c.args.line.now (Ok c.in-Ok.command)) c.defs-defs.ensures c.in-Ok.ensures in
    answered_command _ _ _ _ _ _ _ c.in-Ok.command _ _ _ defs reads (c.obey.ensures.obeying s is)

pub returns-in-Err-clause-answering : goal.returns-in-Err-clause-answering
returns-in-Err-clause-answering g c = λ s is.
    let defs = subst AreDefs c.defs-defs.ensures c.len-count.ensures.well_formed in
    let reads = subst (λ (ds : List TableDef). Reads ds c.args.line.now (Err c.in-Err.fault)) c.defs-defs.ensures c.in-Err.ensures in
    let writes = subst (λ (outcome : Told). Writes c.args.label (g.W.Sink.written c.args.sink.now) (g.W.Sink.written c.tell.new.sink) outcome c.tell.result) c.fault_outcome.ensures.told c.tell.ensures.writes in
    answered_fault _ _ _ _ _ c.in-Err.fault _ _ _ defs reads writes
