use Rattle.std.proofs.Common.{sym, subst}
use Rattle.q4_proto.specs.Commands.{ReadsFields}
use Rattle.q4_proto.proofs.command.read_fields.Goals as goal

pub returns-in-End : goal.returns-in-End
returns-in-End c = subst (λ k. ReadsFields c.args.defs.now k c.args.args.now c.read_end.result) (sym c.in-End.is) (c.read_end.ensures c.args.defs.now)

pub returns-in-Quit : goal.returns-in-Quit
returns-in-Quit c = subst (λ k. ReadsFields c.args.defs.now k c.args.args.now c.read_quit.result) (sym c.in-Quit.is) (c.read_quit.ensures c.args.defs.now)

pub returns-in-RowId : goal.returns-in-RowId
returns-in-RowId c = subst (λ k. ReadsFields c.args.defs.now k c.args.args.now c.read_row_id.result) (sym c.in-RowId.is) (c.read_row_id.ensures c.args.defs.now)

pub returns-in-Abort : goal.returns-in-Abort
returns-in-Abort c = subst (λ k. ReadsFields c.args.defs.now k c.args.args.now c.read_abort.result) (sym c.in-Abort.is) (c.read_abort.ensures c.args.defs.now)
