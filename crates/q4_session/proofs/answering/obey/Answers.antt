use Rattle.std.proofs.Common.{refl, subst}
use Rattle.q4_machine.specs.History.{definitions_of}
use Rattle.q4_proto.specs.declared.command.Command.TheVariants as spelled
use Rattle.q4_session.specs.Answering.{IsAllowed}
use Rattle.q4_session.proofs.Showing.{some_session, rows_listed}
use Rattle.q4_session.proofs.Obeying.{obeyed, quits}
use Rattle.q4_session.proofs.answering.obey.Goals as goal

pub tell-requires-in-Ok-clause-outcome : goal.tell-requires-in-Ok-clause-outcome
tell-requires-in-Ok-clause-outcome g c =
    let current = some_session (g.K.Desk.current c.args.desk.now) c.requires.is_open in
    let allowed = subst (IsAllowed (definitions_of (g.K.Desk.seen c.args.desk.now))) c.in-Select.is c.requires.allowed in
    rows_listed _ _ _ _ _ _ c.in-Select.most c.in-Ok.rows c.in-Ok.ensures.in_order.legal (c.in-Ok.ensures.part current.0 current.1) allowed.1

pub returns-in-Insert-clause-obeying : goal.returns-in-Insert-clause-obeying
returns-in-Insert-clause-obeying g c = λ s is. obeyed _ _ _ _ _ _ _ (spelled.Insert c.in-Insert.table c.in-Insert.row) _ _ _ _ _ _ c.in-Insert.is refl (c.insert.ensures.part s is) refl c.insert_outcome.ensures.told c.tell.ensures.writes

pub returns-in-Wait-clause-obeying : goal.returns-in-Wait-clause-obeying
returns-in-Wait-clause-obeying g c = λ s is. obeyed _ _ _ _ _ _ _ (spelled.Wait c.in-Wait.list c.in-Wait.seconds) _ _ _ _ _ _ c.in-Wait.is refl (c.wait.ensures.part s is) c.wait.ensures.patience c.wait_outcome-outcome.ensures.told c.tell-in-Wait.ensures.writes

pub returns-in-RowId-clause-obeying : goal.returns-in-RowId-clause-obeying
returns-in-RowId-clause-obeying g c = λ s is. obeyed _ _ _ _ _ _ _ spelled.RowId _ _ _ _ _ _ c.in-RowId.is refl (c.row_id.ensures.part s is) refl c.row_outcome.ensures.told c.tell-in-RowId.ensures.writes

pub returns-in-End-clause-obeying : goal.returns-in-End-clause-obeying
returns-in-End-clause-obeying g c = λ s is. obeyed _ _ _ _ _ _ _ spelled.End _ _ _ _ _ _ c.in-End.is refl (c.end.ensures.part s is) refl c.mode_outcome.ensures.told c.tell-in-End.ensures.writes

pub returns-in-Abort-clause-obeying : goal.returns-in-Abort-clause-obeying
returns-in-Abort-clause-obeying g c = λ s is. obeyed _ _ _ _ _ _ _ spelled.Abort _ _ _ _ _ _ c.in-Abort.is refl (c.abort.ensures.part s is) refl c.mode_outcome-in-Abort.ensures.told c.tell-in-Abort.ensures.writes

pub returns-in-Ok-clause-obeying : goal.returns-in-Ok-clause-obeying
returns-in-Ok-clause-obeying g c = λ s is. obeyed _ _ _ _ _ _ _ (spelled.Select c.in-Select.table c.in-Select.most) _ _ _ _ _ _ c.in-Select.is refl (c.in-Ok.ensures.part s is) refl refl c.tell-in-Ok.ensures.writes

pub returns-in-Err-clause-obeying : goal.returns-in-Err-clause-obeying
returns-in-Err-clause-obeying g c = λ s is. obeyed _ _ _ _ _ _ _ (spelled.Select c.in-Select.table c.in-Select.most) _ _ _ _ _ _ c.in-Select.is refl (c.in-Err.ensures.part s is) refl c.desk_refusal.ensures.told c.tell-in-Err.ensures.writes

pub returns-in-Quit-clause-obeying : goal.returns-in-Quit-clause-obeying
returns-in-Quit-clause-obeying g c = λ s is. quits _ _ _ _ _ _ _ _ c.in-Quit.is c.say_bye.ensures.writes
