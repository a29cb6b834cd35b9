use Rattle.std.proofs.Common.{◌≡◌, ◌+◌, ◌-◌, ◌++◌, None, sym, ◌∙◌, ap, subst, arith}
use Rattle.std.specs.Option.{option_copied}
use Rattle.q4_value.specs.Row.{IsRowOf}
use Rattle.q4_record.specs.declared.head.Head.TheVariants.{Insert}
use Rattle.q4_record.specs.Record.{record_bytes}
use Rattle.q4_store.proofs.Taking.{RowsSoFar, LeastRow, least_row, least_fits, least_below, row_given, row_missing, record_given, one_more}
use Rattle.q4_store.proofs.copying.put_rows.Goals as goal

found : (c : goal.In_ok-put_insert) → LeastRow c.args.table.now.state c.loop-left.cursor c.in-Some.number
found c = least_row c.args.table.now.state c.loop-left.cursor c.in-Some.number c.tables_are_valid.ensures.table (sym c.live_from.ensures ∙ c.in-Some.is)

pub unreachable-requires : goal.unreachable-requires
unreachable-requires c =
    let l = least_row c.args.table.now.state c.loop-left.cursor c.in-Some.number c.tables_are_valid.ensures.table (sym c.live_from.ensures ∙ c.in-Some.is) in
    row_missing c.args.table.now.state c.loop-left.cursor c.in-Some.number l (sym (ap option_copied c.in_default-row.is) ∙ c.row.ensures)

pub put_insert-requires : goal.put_insert-requires
put_insert-requires c =
    let l = least_row c.args.table.now.state c.loop-left.cursor c.in-Some.number c.tables_are_valid.ensures.table (sym c.live_from.ensures ∙ c.in-Some.is) in
    let same = row_given c.args.table.now.state c.loop-left.cursor c.in-Some.number l c.in-Some-row.row.now (sym (ap option_copied c.in-Some-row.is) ∙ c.row.ensures) in
    subst (λ columns. IsRowOf columns c.in-Some-row.row.now) (sym c.columns.ensures)
    (subst (λ row. IsRowOf c.args.table.now.state.columns row) (sym same) (least_fits c.args.table.now.state c.loop-left.cursor c.in-Some.number c.tables_are_valid.ensures.table l).row_of)

pub overflow_add-cursor : goal.overflow_add-cursor
overflow_add-cursor c =
    let below = least_below c.args.table.now.state c.loop-left.cursor c.in-Some.number c.tables_are_valid.ensures.table (found c) in
    let limit = c.tables_are_valid.ensures.table.limit in
    omega (arith, below, limit)

pub loop-left-preserved : goal.loop-left-preserved
loop-left-preserved c =
    let l = found c in
    let same = row_given c.args.table.now.state c.loop-left.cursor c.in-Some.number l c.in-Some-row.row.now (sym (ap option_copied c.in-Some-row.is) ∙ c.row.ensures) in
    let left_is : c.loop-left.left ≡ (c.loop-left.left - 1) + 1 = let some = c.loop-left-test.true in omega (arith, some) in (
      one_more c.args.table.now.state c.args.cursor c.args.most c.args.out.now c.loop-left.cursor (c.loop-left.left - 1) c.loop-left.out c.put_insert.new.out c.in-Some.number
          (subst (λ n. RowsSoFar c.args.table.now.state c.args.cursor c.args.most c.args.out.now c.loop-left.cursor n c.loop-left.out) left_is c.loop-left.invariant.0) l
          (record_given c.args.table.now.state.columns c.loop-left.out c.put_insert.new.out c.in-Some.number c.in-Some-row.row.now l.r (c.in_ok-put_insert.ensures.put ∙ ap (λ cs. c.loop-left.out ++ record_bytes (record { head = Insert c.in-Some.number None; columns = cs; row = c.in-Some-row.row.now })) c.columns.ensures) l.is same),
      c.tables_are_valid.ensures.table,
    )
