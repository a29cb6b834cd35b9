use Rattle.std.proofs.Common.{rules, ◌≢◌, refl, ap, arith}
use Rattle.std.proofs.lemmas.Result.{err_from_is_err_and}
use Rattle.q4_value.proofs.Wider.{length-wider}
use Rattle.q4_table.specs.Cursors.{TableView}
use Rattle.q4_record.specs.declared.replay.Stage.TheVariants as stage
use Rattle.q4_record.specs.Replay.{state_of}
use Rattle.q4_record.proofs.Bases.{base_failed, unfinished}
use Rattle.q4_record.proofs.side.read_base.Goals as goal

pub new-requires : goal.new-requires
new-requires c =
    let many = length-wider c.args.columns c.in_ok-schema.schema.own c.in_ok-schema.ensures.read.agree in
    record { some = omega (arith, c.requires.columns.some, many); few = omega (arith, c.requires.columns.few, many) }

pub returns-in_err-read_section-clause-fault : goal.returns-in_err-read_section-clause-fault
returns-in_err-read_section-clause-fault c =
    let p = err_from_is_err_and c.from_residual-in_err-read_section.result c.from_residual-in_err-read_section.ensures.1 in
    let s = c.in_ok-schema.ensures.read in
    rw (p.1, p.2) (base_failed c.args.format c.args.columns c.in_ok-schema.schema.own c.args.base.now c.in_ok-schema.schema.records.now c.new.result.state _ s.agree s.may s.base_is (ap (λ (v : TableView). v.state) c.new.ensures) refl c.in_err-read_section.field-0.0 c.in_err-read_section.ensures.fault)

pub returns-in-Rows-clause-fault : goal.returns-in-Rows-clause-fault
returns-in-Rows-clause-fault c =
    let s = c.in_ok-schema.ensures.read in
    let other : c.read_section.new.self.stage ≢ stage.Whole = search rules in
    unfinished c.args.format c.args.columns c.in_ok-schema.schema.own c.args.base.now c.in_ok-schema.schema.records.now c.new.result.state (state_of c.read_section.new.self) s.agree s.may s.base_is (ap (λ (v : TableView). v.state) c.new.ensures) c.in_ok-read_section.ensures.stand other
