use Rattle.std.proofs.Common.{◌≡◌, ◌≤◌, ◌∙◌, Ok, Err, length, sym, ap, subst, arith}
use Rattle.std.specs.List.{Contains}
use Rattle.q4_value.proofs.Rows.{small_row}
use Rattle.q4_def.specs.Tables.{names_of}
use Rattle.q4_machine.specs.Definitions.{columns_at}
use Rattle.q4_proto.specs.declared.command.CommandFault.TheVariants as fault
use Rattle.q4_proto.specs.declared.keyword.Keyword.TheVariants as word
use Rattle.q4_proto.specs.Commands.{IsRefused}
use Rattle.q4_proto.specs.Inner.{ReadsValues}
use Rattle.q4_proto.proofs.Named.{escaped_name, contained_name, columns_are}
use Rattle.q4_proto.proofs.Refusing.{Into, no_table, wrong_count, values_fault, long_row, spells_insert}
use Rattle.q4_proto.proofs.Values.{row_length}
use Rattle.q4_proto.proofs.insert.read_insert.Goals as goal

pub returns-in_default-find : goal.returns-in_default-find
returns-in_default-find c =
    let args_are = sym c.again-values.ensures ∙ c.in-Some.ensures.some in
    no_table c.args.defs.now c.args.args.now c.next.new.self c.in-Some.name.now args_are c.in_default-bad_escape.ensures.none
    (λ name spelled contains. c.in_default-find.ensures.none (subst (Contains (names_of c.args.defs.now)) (sym (spelled ∙ escaped_name name (contained_name c.args.defs.now name c.find.ensures.well_formed contains))) contains))

pub returns-then-count-columns : goal.returns-then-count-columns
returns-then-count-columns c =
    let into : Into c.args.defs.now c.args.args.now c.next.new.self c.in-Some.name.now c.in-Some-find.place = record { are = c.find.ensures.well_formed; args_are = sym c.again-values.ensures ∙ c.in-Some.ensures.some; spelled = c.in_default-bad_escape.ensures.none; is_table = c.in-Some-find.ensures.found } in
    let columns : columns_at c.args.defs.now c.in-Some-find.place ≡ c.as_slice-columns.result.now = columns_are c.args.defs.now c.in-Some-find.place c.in-Some-table.def.now (sym c.in-Some-table.ensures.lookup) ∙ sym c.as_slice-columns.ensures in
    let refused = wrong_count c.args.defs.now c.args.args.now c.next.new.self c.in-Some.name.now c.in-Some-find.place into (λ same. c.if-count-columns.true (c.count.ensures ∙ same ∙ ap length columns)) in
    subst (λ cs. IsRefused c.args.defs.now word.Insert c.args.args.now (fault.Count (length cs))) columns refused

pub returns-in-Err : goal.returns-in-Err
returns-in-Err c =
    let into : Into c.args.defs.now c.args.args.now c.next.new.self c.in-Some.name.now c.in-Some-find.place = record { are = c.find.ensures.well_formed; args_are = sym c.again-values.ensures ∙ c.in-Some.ensures.some; spelled = c.in_default-bad_escape.ensures.none; is_table = c.in-Some-find.ensures.found } in
    let columns : columns_at c.args.defs.now c.in-Some-find.place ≡ c.as_slice-columns.result.now = columns_are c.args.defs.now c.in-Some-find.place c.in-Some-table.def.now (sym c.in-Some-table.ensures.lookup) ∙ sym c.as_slice-columns.ensures in
    let same : length c.next.new.self ≡ length (columns_at c.args.defs.now c.in-Some-find.place) = sym c.count.ensures ∙ c.if-count-columns.false ∙ ap length (sym columns) in
    values_fault c.args.defs.now c.args.args.now c.next.new.self c.in-Some.name.now c.in-Some-find.place into same c.in-Err.fault (subst (λ cs. ReadsValues cs c.next.new.self (Err c.in-Err.fault)) (sym columns) c.in-Err.ensures)

pub row_size-requires : goal.row_size-requires
row_size-requires c =
    let size = small_row c.in-Ok.row c.in-Ok.ensures.1.values in
    let len = row_length c.as_slice-columns.result.now c.in-Ok.row c.in-Ok.ensures.1 in
    let few : length c.as_slice-columns.result.now ≤ 32 = subst (λ cs. length cs ≤ 32) (sym c.as_slice-columns.ensures) c.in-Some-table.ensures.def.columns.few in
    omega (arith, size, len, few)

pub returns-then-row_size-gt-ROW_LIMIT : goal.returns-then-row_size-gt-ROW_LIMIT
returns-then-row_size-gt-ROW_LIMIT c =
    let into : Into c.args.defs.now c.args.args.now c.next.new.self c.in-Some.name.now c.in-Some-find.place = record { are = c.find.ensures.well_formed; args_are = sym c.again-values.ensures ∙ c.in-Some.ensures.some; spelled = c.in_default-bad_escape.ensures.none; is_table = c.in-Some-find.ensures.found } in
    let columns : columns_at c.args.defs.now c.in-Some-find.place ≡ c.as_slice-columns.result.now = columns_are c.args.defs.now c.in-Some-find.place c.in-Some-table.def.now (sym c.in-Some-table.ensures.lookup) ∙ sym c.as_slice-columns.ensures in
    let same : length c.next.new.self ≡ length (columns_at c.args.defs.now c.in-Some-find.place) = sym c.count.ensures ∙ c.if-count-columns.false ∙ ap length (sym columns) in
    let read = subst (λ cs. ReadsValues cs c.next.new.self (Ok c.in-Ok.row)) (sym columns) c.in-Ok.ensures in
    long_row c.args.defs.now c.args.args.now c.next.new.self c.in-Some.name.now c.in-Some-find.place c.in-Ok.row into same read.0 read.1 (omega (arith, c.row_size.ensures, c.if-row_size-gt-ROW_LIMIT.true))

pub returns : goal.returns
returns c =
    let into : Into c.args.defs.now c.args.args.now c.next.new.self c.in-Some.name.now c.in-Some-find.place = record { are = c.find.ensures.well_formed; args_are = sym c.again-values.ensures ∙ c.in-Some.ensures.some; spelled = c.in_default-bad_escape.ensures.none; is_table = c.in-Some-find.ensures.found } in
    let columns : columns_at c.args.defs.now c.in-Some-find.place ≡ c.as_slice-columns.result.now = columns_are c.args.defs.now c.in-Some-find.place c.in-Some-table.def.now (sym c.in-Some-table.ensures.lookup) ∙ sym c.as_slice-columns.ensures in
    let read = subst (λ cs. ReadsValues cs c.next.new.self (Ok c.in-Ok.row)) (sym columns) c.in-Ok.ensures in
    spells_insert c.args.defs.now c.args.args.now c.next.new.self c.in-Some.name.now c.in-Some-find.place c.in-Ok.row into read.0 read.1 (omega (arith, c.row_size.ensures, c.if-row_size-gt-ROW_LIMIT.false))
