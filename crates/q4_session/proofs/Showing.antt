-- What a select shows is few rows, each with a value.
use Rattle.std.proofs.Common.{◌≡◌, ◌≢◌, ◌==◌, ◌++◌, ◌∷◌, ◌∙◌, ◌≤◌, [], List, ℕ, Option, None, Some, IsSome, true, false, cond, All, length, map, take, filter, is_none, refl, sym, ap, subst, inl, inr, arith, append_assoc}
use Rattle.std.proofs.lemmas.List.{length-take, length-map}
use Rattle.std.proofs.lemmas.Bool.{cases_lt}
use Rattle.std.proofs.Math.ListN.{get_or-eq_default}
use Rattle.std.proofs.lemmas.List.Elements.{All-nil, All-map, All-take, All-filter, All-weaker, All-get_or}
use Rattle.q4_value.specs.declared.column.Column.{Column}
use Rattle.q4_value.specs.declared.row.Value.{Value}
use Rattle.q4_value.specs.Row.{Fits}
use Rattle.q4_value.proofs.Rows.{as_many}
use Rattle.q4_table.specs.declared.rows.StoredRow.{StoredRow}
use Rattle.q4_table.specs.Valid.{IsColumns, IsValidTable}
use Rattle.q4_machine.specs.declared.entry.Entry.{Entry}
use Rattle.q4_machine.specs.declared.entry.Call.TheVariants as call
use Rattle.q4_machine.specs.declared.entry.Reply.TheVariants.{Shown}
use Rattle.q4_machine.specs.declared.session.SessionMode.{SessionMode}
use Rattle.q4_machine.specs.declared.session.SessionMode.TheVariants.{NonOwner, Empty, Owner}
use Rattle.q4_machine.specs.declared.shown.NumberedRow.{NumberedRow}
use Rattle.q4_machine.specs.Opening.{Opening}
use Rattle.q4_machine.specs.Machine.{MachineState, no_table, table_at, mode_of}
use Rattle.q4_machine.specs.Step.{visible, numbered, shown}
use Rattle.q4_machine.specs.Valid.{AreValidTables, IsValid}
use Rattle.q4_machine.specs.History.{state_after, IsLegal, IsNext, IsOpening}
use Rattle.q4_machine.proofs.Reached.{valid_reached}
use Rattle.q4_machine.specs.Parts.{Grows, IsPart, Replied}
use Rattle.q4_proto.specs.Told.{Rows}
use Rattle.q4_proto.specs.Text.{IsOutcome}

pub some_session : (current : Option ℕ) → IsSome current → (s : ℕ) × (current ≡ Some s)
some_session None is = cc is
some_session (Some s) is = (s, refl)

-- ## Rows of a valid table

row_not_empty : (columns : List Column) (row : List Value) → IsColumns columns → Fits columns row → row ≢ []
row_not_empty columns row are fits none =
    let same = as_many columns row fits.row_of.taken in
    let empty : length row ≡ 0 = ap length none in
    absurd (omega (arith, are.some, empty, same))

rows_not_empty : (tables : List Opening) → AreValidTables tables → (place : ℕ) → All (λ (r : StoredRow). r.row ≢ []) (table_at tables place).rows
rows_not_empty tables valid place = elim (cases_lt place (length tables)) [
  | inl inside ↦
      let table = All-get_or (λ (o : Opening). IsValidTable o.table) tables place no_table inside valid in
      All-weaker (λ (r : StoredRow). Fits (table_at tables place).columns r.row) (λ (r : StoredRow). r.row ≢ []) (λ r fits. row_not_empty (table_at tables place).columns r.row table.columns fits) (table_at tables place).rows table.fit
  | inr past ↦ subst (λ (o : Opening). All (λ (r : StoredRow). r.row ≢ []) o.table.rows) (sym (get_or-eq_default tables no_table past)) (All-nil (λ (r : StoredRow). r.row ≢ []))
]

visible_not_empty : (m : MachineState) (place : ℕ) (mode : Option SessionMode) → AreValidTables m.tables → All (λ (r : StoredRow). r.row ≢ []) (visible m place mode)
visible_not_empty m place (Some NonOwner) valid = All-filter (λ (r : StoredRow). is_none r.owner) (λ (r : StoredRow). r.row ≢ []) (table_at m.tables place).rows (rows_not_empty m.tables valid place)
visible_not_empty m place (Some Empty) valid = All-nil (λ (r : StoredRow). r.row ≢ [])
visible_not_empty m place (Some (Owner own number)) valid = elim (own == place) as (λ b. All (λ (r : StoredRow). r.row ≢ []) (cond b (filter (λ (r : StoredRow). r.number == number) (table_at m.tables place).rows) [])) [
  | true ↦ All-filter (λ (r : StoredRow). r.number == number) (λ (r : StoredRow). r.row ≢ []) (table_at m.tables place).rows (rows_not_empty m.tables valid place)
  | false ↦ All-nil (λ (r : StoredRow). r.row ≢ [])
]
visible_not_empty m place None valid = All-nil (λ (r : StoredRow). r.row ≢ [])

shown_listed : (m : MachineState) (session place most : ℕ) → AreValidTables m.tables → most ≤ 1000 → IsOutcome (Rows (shown m session place most))
shown_listed m session place most valid few =
    let rows = visible m place (mode_of m session) in
    let short : length (map numbered (take most rows)) ≤ 1000 = omega (arith, length-map (take most rows) numbered, length-take most rows) in
    (short, All-map (λ (r : NumberedRow). r.row ≢ []) numbered (take most rows) (All-take (λ (r : StoredRow). r.row ≢ []) most rows (visible_not_empty m place (mode_of m session) valid)))

-- ## An entry of a legal history

head_of : (x y : Entry) (xs ys : List Entry) → x ∷ xs ≡ y ∷ ys → x ≡ y
head_of x y xs ys is = cc is

tail_of : (x y : Entry) (xs ys : List Entry) → x ∷ xs ≡ y ∷ ys → xs ≡ ys
tail_of x y xs ys is = cc is

not_opened : (e : Entry) (table most : ℕ) → IsOpening e → e.call ≡ call.Select table most → ⊥
not_opened e table most opens is =
    let opened : call.Opened opens.tables ≡ call.Select table most = sym opens.call ∙ is in
    cc opened

-- a select of a legal history was answered the step's reply, over valid tables
record IsSelected (history before : List Entry) (e : Entry) : Type 0 where
  valid : IsValid (state_after before)
  next : IsNext before e

selected : (history : List Entry) → IsLegal history → (before : List Entry) (e : Entry) (later : List Entry) (table most : ℕ) → history ≡ before ++ e ∷ later → e.call ≡ call.Select table most → IsSelected history before e
selected history legal [] e later table most cut is =
    let first : legal.opening ≡ e = head_of legal.opening e legal.rest later (sym legal.whole ∙ cut) in
    absurd (not_opened legal.opening table most legal.opens (ap (λ (x : Entry). x.call) first ∙ is))
selected history legal (o ∷ before) e later table most cut is =
    let whole : legal.opening ∷ legal.rest ≡ o ∷ (before ++ e ∷ later) = sym legal.whole ∙ cut in
    let first : legal.opening ≡ o = head_of legal.opening o legal.rest (before ++ e ∷ later) whole in
    record {
      valid = valid_reached history legal (o ∷ before) (e ∷ later) cut (λ none. cc none);
      next = subst (λ (x : Entry). IsNext (x ∷ before) e) first (legal.each before e later (tail_of legal.opening o legal.rest (before ++ e ∷ later) whole));
    }

same_rows : (one other : List NumberedRow) → Shown one ≡ Shown other → one ≡ other
same_rows one other is = cc is

-- the rows of a select's reply in a legal history
pub rows_listed : (limit caller session : ℕ) (seen seen' : List Entry) (table most : ℕ) (rows : List NumberedRow) → IsLegal seen'
    → Grows seen seen' (λ grown. IsPart limit seen grown caller session (call.Select table most) (Replied (Shown rows))) → most ≤ 1000 → IsOutcome (Rows rows)
rows_listed limit caller session seen seen' table most rows legal grows few =
    let stands = grows.2.cases in
    let e : Entry = record { caller = caller; session = session; call = call.Select table most; reply = Shown rows } in
    let before = seen ++ stands.front in
    let cut : seen' ≡ before ++ e ∷ stands.back = grows.1 ∙ ap (λ (xs : List Entry). seen ++ xs) stands.cut ∙ sym (append_assoc seen stands.front (e ∷ stands.back)) in
    let is_selected = selected seen' legal before e stands.back table most cut refl in
    let m = state_after before in
    subst (λ (xs : List NumberedRow). IsOutcome (Rows xs)) (sym (same_rows rows (shown m session table most) is_selected.next.reply)) (shown_listed m session table most is_selected.valid.tables few)
