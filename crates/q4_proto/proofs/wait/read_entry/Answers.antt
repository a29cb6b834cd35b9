use Rattle.std.proofs.Common.{◌≡◌, ◌∙◌, sym, subst}
use Rattle.q4_cond.specs.Condition.{ReadsAs}
use Rattle.q4_cond.specs.Reading.{IsFault}
use Rattle.q4_machine.specs.Definitions.{columns_at}
use Rattle.q4_proto.specs.Inner.{IsCut}
use Rattle.q4_proto.proofs.Named.{columns_are}
use Rattle.q4_proto.proofs.Entries.{spells_entry, entry_fails, entry_apart}
use Rattle.q4_proto.proofs.wait.read_entry.Goals as goal

pub returns-in-Ok-read : goal.returns-in-Ok-read
returns-in-Ok-read c =
    let cut = subst (λ e. IsCut e c.split_entry.result.0.now c.split_entry.result.1.now) c.as_str.ensures (record { front = c.split_entry.ensures.front; parts = c.split_entry.ensures.parts }) in
    let columns : columns_at c.args.defs.now c.in-Some.table ≡ c.as_slice.result.now = columns_are c.args.defs.now c.in-Some.table c.in-Some-table.def.now (sym c.in-Some-table.ensures.lookup) ∙ sym c.as_slice.ensures in
    let reads = subst (λ cs. ReadsAs cs c.split_entry.result.1.now c.in-Ok-read.cond) (sym columns) c.in-Ok-read.ensures in
    let spells = spells_entry c.args.defs.now c.args.field.now c.in-Ok.entry c.split_entry.result.0.now c.split_entry.result.1.now c.in-Some.table c.in-Ok-read.cond c.in-Ok.ensures.read cut c.in-Some.ensures.found reads in
    (spells, λ why fails. entry_apart c.args.defs.now c.args.field.now (record { table = c.in-Some.table; cond = c.in-Ok-read.cond }) why c.find.ensures.well_formed spells fails)

pub returns : goal.returns
returns c = λ told.
    let cut = subst (λ e. IsCut e c.split_entry.result.0.now c.split_entry.result.1.now) c.as_str.ensures (record { front = c.split_entry.ensures.front; parts = c.split_entry.ensures.parts }) in
    let columns : columns_at c.args.defs.now c.in-Some.table ≡ c.as_slice.result.now = columns_are c.args.defs.now c.in-Some.table c.in-Some-table.def.now (sym c.in-Some-table.ensures.lookup) ∙ sym c.as_slice.ensures in
    let fails = subst (λ cs. IsFault cs c.split_entry.result.1.now c.in-Err.fault) (sym columns) c.in-Err.ensures in
    entry_fails c.args.defs.now c.args.field.now c.in-Ok.entry c.split_entry.result.0.now c.split_entry.result.1.now c.in-Some.table c.in-Err.fault c.in-Ok.ensures.read cut c.in-Some.ensures.found fails told
