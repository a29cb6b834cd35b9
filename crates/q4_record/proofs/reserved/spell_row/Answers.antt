use Rattle.std.proofs.Common.{◌<◌, length, take, vec_capacity, sym, ◌∙◌, ap, arith, length-append}
use Rattle.std.specs.Option.{option_copied}
use Rattle.std.proofs.lemmas.List.{take_all}
use Rattle.q4_value.specs.Spelling.{row_bytes}
use Rattle.q4_value.proofs.Rows.{as_many}
use Rattle.q4_record.proofs.RowParts.{fits_next, one_more, not_past}
use Rattle.q4_record.proofs.reserved.spell_row.Goals as goal
use Rattle.q4_record.proofs.reserved.spell_row.Goals.{in-Some, in_default}

pub spell_cell-requires-clause-room : goal.spell_cell-requires-clause-room
spell_cell-requires-clause-room c =
    let few : c.loop-place.place < length c.args.row.now = omega (arith, as_many c.args.columns.now c.args.row.now c.requires.row.taken, c.loop-place-test.true) in
    let fits = fits_next c.args.columns.now c.args.row.now c.loop-place.place c.index-columns-place.result c.in-Some.value.now c.loop-place-test.true few c.index-columns-place.is (sym c.at.ensures ∙ ap option_copied c.in-Some.is) in
    omega (arith, fits, ap length c.loop-place.invariant.items, length-append c.args.out.now.items (row_bytes (take c.loop-place.place c.args.columns.now) (take c.loop-place.place c.args.row.now)))

pub loop-place-preserved : goal.loop-place-preserved
loop-place-preserved c =
    let few : c.loop-place.place < length c.args.row.now = omega (arith, as_many c.args.columns.now c.args.row.now c.requires.row.taken, c.loop-place-test.true) in
    elim c.match-at.branch [
      | in-Some w ↦ record {
        items = one_more c.args.columns.now c.args.row.now c.loop-place.place c.index-columns-place.result w.in-Some.value.now c.args.out.now.items c.loop-place.out.items c.match-at.out.items c.loop-place-test.true few c.index-columns-place.is (sym c.at.ensures ∙ ap option_copied w.in-Some.is) c.loop-place.invariant.items (ap (λ v. v.items) w.out-is ∙ w.spell_cell.ensures.items);
        capacity = let same = ap vec_capacity w.out-is in omega (arith, same, w.spell_cell.ensures.capacity, c.loop-place.invariant.capacity);
      }
      | in_default w ↦ absurd (not_past c.args.row.now c.loop-place.place few (sym c.at.ensures ∙ ap option_copied w.in_default.is))
    ]

pub returns-clause-items : goal.returns-clause-items
returns-clause-items c =
    rw (sym (take_all c.loop-place.place c.args.columns.now (omega (arith, c.loop-place-test.false))), sym (take_all c.loop-place.place c.args.row.now (omega (arith, as_many c.args.columns.now c.args.row.now c.requires.row.taken, c.loop-place-test.false)))) c.loop-place.invariant.items
