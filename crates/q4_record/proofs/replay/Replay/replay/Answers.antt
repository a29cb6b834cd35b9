use Rattle.std.proofs.Common.{sym, ap, subst, arith}
use Rattle.q4_table.specs.Cursors.{TableView}
use Rattle.q4_record.specs.declared.side.SideFault.TheVariants as fault
use Rattle.q4_record.specs.Parts.{RowStands, RowFails}
use Rattle.q4_record.specs.Replay.{state_of}
use Rattle.q4_record.proofs.Recording.{end_stands, next_passes}
use Rattle.q4_record.proofs.replay.Replay.replay.Goals as goal

pub returns-in-End-clause-stands : goal.returns-in-End-clause-stands
returns-in-End-clause-stands c =
    subst (λ head. RowStands (state_of c.args.self.now) head c.args.bytes.now (record { stage = c.args.self.now.stage; table = c.end.new.self.state }) c.args.bytes.now) (sym c.in-End.is) (end_stands (state_of c.args.self.now) c.in-End.number c.args.bytes.now c.end.new.self.state c.requires.ready (ap (λ (v : TableView). v.state) c.end.ensures))

pub returns-then-number-gt-NUMBER_LIMIT-clause-fault : goal.returns-then-number-gt-NUMBER_LIMIT-clause-fault
returns-then-number-gt-NUMBER_LIMIT-clause-fault c =
    subst (λ head. RowFails (state_of c.args.self.now) head c.args.bytes.now c.args.at (fault.Large 3)) (sym c.in-Next.is) (next_passes (state_of c.args.self.now) c.in-Next.number c.args.bytes.now c.args.at c.requires.ready (omega (arith, c.if-number-gt-NUMBER_LIMIT.true)))
