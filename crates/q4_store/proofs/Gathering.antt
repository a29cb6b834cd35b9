-- What is left of a copy, gathered part by part.
use Rattle.std.proofs.Common.{◌≡◌, ℕ, ◌+◌, ◌*◌, Bool, true, false, cond, not, List, [], ◌∷◌, ◌++◌, length, map, refl, sym, ap, ◌∙◌, append_assoc, append-nil, length-append, arith}
use Rattle.std.specs.List.{sum_by}
use Rattle.std.proofs.lemmas.List.{take_all}
use Rattle.std.proofs.lemmas.List.Concat.{flat_map-append}
use Rattle.std.proofs.lemmas.List.Filters.{length-filter_both}
use Rattle.q4_value.specs.declared.column.Column.{Column}
use Rattle.q4_table.specs.declared.rows.StoredRow.{StoredRow}
use Rattle.q4_table.specs.TableState.{TableState}
use Rattle.q4_record.specs.declared.head.Head.TheVariants as head
use Rattle.q4_record.specs.Record.{Record, record_bytes, records_bytes}
use Rattle.q4_record.specs.Schema.{schema_bytes}
use Rattle.q4_record.specs.Written.{row_record, mark_record, next_record}
use Rattle.q4_store.proofs.Finishing.{rest_length}
use Rattle.q4_store.specs.Copied.{is_from, rows_from, row_cost, taken, rest_records, piece_bytes}

-- a piece with a record
piece_some : (bare : Bool) (columns : List Column) (ends : List ℕ) (rows ms : List Record) (last : Record) → piece_bytes bare columns ends (rows ++ (ms ++ last ∷ [])) ≡ cond bare (schema_bytes columns) [] ++ (ends ++ records_bytes (rows ++ (ms ++ last ∷ [])))
piece_some false columns ends rows ms last = refl
piece_some true columns ends [] [] last = refl
piece_some true columns ends [] (m ∷ ms) last = refl
piece_some true columns ends (r ∷ rows) ms last = refl

pub all_taken : (cursor : ℕ) (table : TableState) (n : ℕ) → n ≡ length table.rows → taken n cursor table ≡ rows_from cursor table.rows
all_taken cursor table n is = take_all n (rows_from cursor table.rows) (omega (arith, is, length-filter_both (is_from cursor) (λ (r : StoredRow). not (is_from cursor r)) (λ r. refl) table.rows))

pub gathered_rest : (bare : Bool) (columns : List Column) (cursor : ℕ) (table : TableState) (n : ℕ) (ends b0 b1 b2 b3 b4 b5 : List ℕ) → n ≡ length table.rows → b0 ≡ cond bare (schema_bytes columns) [] → b1 ≡ b0 ++ ends → b2 ≡ b1 ++ records_bytes (map (row_record table.columns) (taken n cursor table))
    → b3 ≡ b2 ++ records_bytes (map mark_record table.marks) → b4 ≡ b3 ++ record_bytes (record { head = head.Next table.next; columns = []; row = [] }) → b5 ≡ b4 ++ 0 ∷ [] → b5 ≡ piece_bytes bare columns ends (rest_records cursor table) ++ 0 ∷ []
gathered_rest bare columns cursor table n ends b0 b1 b2 b3 b4 b5 n_is e0 e1 e2 e3 e4 e5 =
    let rows = map (row_record table.columns) (rows_from cursor table.rows) in
    let ms = map mark_record table.marks in
    let next = record_bytes (next_record table.next) in
    let s = cond bare (schema_bytes columns) [] in
    let two : b2 ≡ (s ++ ends) ++ records_bytes rows = e2 ∙ (λ i. (e1 ∙ ap (λ (l : List ℕ). l ++ ends) e0) i ++ records_bytes (map (row_record table.columns) (all_taken cursor table n n_is i))) in
    let four : b4 ≡ (((s ++ ends) ++ records_bytes rows) ++ records_bytes ms) ++ next = e4 ∙ ap (λ (l : List ℕ). l ++ next) (e3 ∙ ap (λ (l : List ℕ). l ++ records_bytes ms) two) in
    let tail : records_bytes (ms ++ next_record table.next ∷ []) ≡ records_bytes ms ++ next = flat_map-append record_bytes ms (next_record table.next ∷ []) ∙ ap (λ (l : List ℕ). records_bytes ms ++ l) (append-nil next) in
    let all : records_bytes (rest_records cursor table) ≡ records_bytes rows ++ (records_bytes ms ++ next) = flat_map-append record_bytes rows (ms ++ next_record table.next ∷ []) ∙ ap (λ (l : List ℕ). records_bytes rows ++ l) tail in
    e5 ∙ ap (λ (l : List ℕ). l ++ 0 ∷ []) (
    four
    ∙ append_assoc ((s ++ ends) ++ records_bytes rows) (records_bytes ms) next
    ∙ append_assoc (s ++ ends) (records_bytes rows) (records_bytes ms ++ next)
    ∙ append_assoc s ends (records_bytes rows ++ (records_bytes ms ++ next))
    ∙ ap (λ (l : List ℕ). s ++ (ends ++ l)) (sym all)
    ∙ sym (piece_some bare columns ends rows ms (next_record table.next))
    )

-- how long that is
pub rest_long : (bare : Bool) (columns : List Column) (cursor : ℕ) (table : TableState) (ends last : List ℕ) → last ≡ piece_bytes bare columns ends (rest_records cursor table) ++ 0 ∷ []
    → length last ≡ length (cond bare (schema_bytes columns) []) + length ends + sum_by (row_cost table.columns) (rows_from cursor table.rows) + 10 * length table.marks + 10
rest_long bare columns cursor table ends last is =
    let rest = records_bytes (rest_records cursor table) in
    let piece = piece_bytes bare columns ends (rest_records cursor table) in
    let parts = ap length (piece_some bare columns ends (map (row_record table.columns) (rows_from cursor table.rows)) (map mark_record table.marks) (next_record table.next)) in
    omega (arith, ap length is, length-append piece (0 ∷ []), parts, length-append (cond bare (schema_bytes columns) []) (ends ++ rest), length-append ends rest, rest_length cursor table)
