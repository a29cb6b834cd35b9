use Rattle.std.proofs.Common.{◌≡◌, ◌<◌, ◌++◌, List, ℕ, ◌+◌, length, take, get_or, sym, ap, subst, ◌∙◌, append_assoc, arith}
use Rattle.std.proofs.lemmas.List.{take_all, length-take-le}
use Rattle.q4_value.specs.declared.column.Column.{Column}
use Rattle.q4_value.specs.declared.row.Value.{Value}
use Rattle.q4_value.specs.Row.{IsValue}
use Rattle.q4_value.specs.Spelling.{cell_bytes, row_bytes}
use Rattle.q4_value.proofs.Rows.{take_next, as_many, bytes_push}
use Rattle.q4_value.proofs.writing.put_values.Goals as goal

-- one value more was put
put_more : (columns : List Column) (row : List Value) (i : ℕ) (c : Column) (v : Value) (old out new : List ℕ) → i < length columns → i < length row → c ≡ get_or columns i c → v ≡ get_or row i v
    → out ≡ old ++ row_bytes (take i columns) (take i row) → new ≡ out ++ cell_bytes c v → new ≡ old ++ row_bytes (take (i + 1) columns) (take (i + 1) row)
put_more columns row i c v old out new in_columns in_row c_is v_is so_far more =
    let same : length (take i row) ≡ length (take i columns) = length-take-le i row (omega (arith, in_row)) ∙ sym (length-take-le i columns (omega (arith, in_columns))) in
    rw (take_next columns i c in_columns c_is, take_next row i v in_row v_is, bytes_push (take i columns) (take i row) c v same)
    (more ∙ ap (λ bs. bs ++ cell_bytes c v) so_far ∙ append_assoc old (row_bytes (take i columns) (take i row)) (cell_bytes c v))

pub bounds-values-place : goal.bounds-values-place
bounds-values-place c = omega (arith, as_many c.args.columns.now c.args.values.now c.requires.taken, c.loop-place-test.true)

pub put_cell-requires : goal.put_cell-requires
put_cell-requires c =
    let few : c.loop-place.place < length c.args.values.now = omega (arith, as_many c.args.columns.now c.args.values.now c.requires.taken, c.loop-place-test.true) in
    subst IsValue (sym c.index-values-place.is) (c.requires.values c.loop-place.place c.index-values-place.result few)

pub loop-place-preserved : goal.loop-place-preserved
loop-place-preserved c =
    let few : c.loop-place.place < length c.args.values.now = omega (arith, as_many c.args.columns.now c.args.values.now c.requires.taken, c.loop-place-test.true) in
    put_more c.args.columns.now c.args.values.now c.loop-place.place c.index-columns-place.result c.index-values-place.result c.args.out.now c.loop-place.out c.put_cell.new.out c.loop-place-test.true few c.index-columns-place.is c.index-values-place.is c.loop-place.invariant c.in_ok-put_cell.ensures.put

pub returns-clause-put : goal.returns-clause-put
returns-clause-put c =
    rw (sym (take_all c.loop-place.place c.args.columns.now (omega (arith, c.loop-place-test.false))), sym (take_all c.loop-place.place c.args.values.now (omega (arith, as_many c.args.columns.now c.args.values.now c.requires.taken, c.loop-place-test.false)))) c.loop-place.invariant
