-- Every machine that a legal history reaches is valid.
use Rattle.std.proofs.Common.{◌≡◌, ◌≢◌, ◌==◌, ◌++◌, ◌∷◌, ◌∙◌, [], List, ℕ, true, false, cond, Some, None, All, length, refl, sym, ap, subst, inl, inr, arith, append_assoc, append-nil}
use Rattle.std.proofs.Math.ListN.{get_or-eq_default}
use Rattle.std.proofs.lemmas.Bool.{cases_lt}
use Rattle.std.proofs.lemmas.List.Elements.{All-head, All-tail, All-get_or}
use Rattle.q4_machine.specs.declared.session.SessionMode.{SessionMode}
use Rattle.q4_machine.specs.declared.session.SessionMode.TheVariants.{Owner}
use Rattle.std.specs.Prelude.{option_and_then}
use Rattle.q4_machine.specs.declared.entry.Entry.{Entry}
use Rattle.q4_machine.specs.declared.entry.Call.TheVariants.{Opened, Look}
use Rattle.q4_table.specs.declared.rows.StoredRow.{StoredRow}
use Rattle.q4_table.specs.Rows.{row_in}
use Rattle.q4_machine.specs.declared.looks.Listed.{Listed}
use Rattle.q4_machine.specs.Opening.{Opening}
use Rattle.q4_machine.specs.Machine.{MachineState, no_table, table_at}
use Rattle.q4_machine.specs.Step.{step, MayStep}
use Rattle.q4_machine.specs.Valid.{AreValidTables, IsValid}
use Rattle.q4_machine.specs.Definitions.{definitions}
use Rattle.q4_machine.specs.History.{nothing, advance, state_after, AreUnowned, tables_of, definitions_of, IsNext, IsOpening, IsLegal}
use Rattle.q4_machine.proofs.Defined.{step_defined}
use Rattle.q4_machine.specs.Looked.{LookAnswers}
use Rattle.q4_machine.proofs.Looking.{valid_step, look_answers}
use Rattle.q4_machine.proofs.Histories.{state_push, cons_head, cons_tail}
use Rattle.q4_machine.proofs.Validity.{none_some}

none_mode : (mode : SessionMode) → None ≡ Some mode → ⊥
none_mode mode is = none_some mode is

opened_look : (tables : List Opening) (list : List Listed) → Opened tables ≡ Look list → ⊥
opened_look tables list is = cc is

row_unowned : (rows : List StoredRow) (n : ℕ) → All (λ (r : StoredRow). r.owner ≡ None) rows → option_and_then (λ (r : StoredRow). r.owner) (row_in rows n) ≡ None
row_unowned [] n unowned = refl
row_unowned (r ∷ rows) n unowned = elim (r.number == n) as (λ b. option_and_then (λ (x : StoredRow). x.owner) (cond b (Some r) (row_in rows n)) ≡ None) [
  | true ↦ All-head (λ (x : StoredRow). x.owner ≡ None) r rows unowned
  | false ↦ row_unowned rows n (All-tail (λ (x : StoredRow). x.owner ≡ None) r rows unowned)
]

all_unowned : (tables : List Opening) → AreUnowned tables → (place n : ℕ) → option_and_then (λ (r : StoredRow). r.owner) (row_in (table_at tables place).rows n) ≡ None
all_unowned tables unowned place n = elim (cases_lt place (length tables)) [
  | inl inside ↦ row_unowned (table_at tables place).rows n (All-get_or (λ (o : Opening). All (λ (r : StoredRow). r.owner ≡ None) o.table.rows) tables place no_table inside unowned)
  | inr past ↦ ap (λ (o : Opening). option_and_then (λ (r : StoredRow). r.owner) (row_in o.table.rows n)) (get_or-eq_default tables no_table past)
]

-- the machine over tables that were just opened
pub valid_new : (tables : List Opening) → AreValidTables tables → AreUnowned tables → IsValid (record { tables = tables; sessions = []; next_session = 1 })
valid_new tables valid unowned = record {
  tables = valid;
  begins = omega arith;
  sessions = tt;
  owns = λ s t n is. absurd (none_mode (Owner t n) is);
  owned = λ s t n is. absurd (none_some s (sym (all_unowned tables unowned t n) ∙ is));
}

opened_valid : (e : Entry) → IsOpening e → IsValid (state_after (e ∷ []))
opened_valid e opens =
    subst (λ c. IsValid (step nothing e.session c).0) (sym opens.call) (valid_new opens.tables opens.valid opens.unowned)

-- from one cut to a later one
walk : (o : Entry) (done todo : List Entry) → IsValid (state_after (o ∷ done)) → ((before : List Entry) (e : Entry) (later : List Entry) → todo ≡ before ++ e ∷ later → IsNext (o ∷ (done ++ before)) e) → IsValid (state_after (o ∷ (done ++ todo)))
walk o done [] valid each = subst (λ h. IsValid (state_after (o ∷ h))) (sym (append-nil done)) valid
walk o done (e ∷ es) valid each =
    let next : IsNext (o ∷ done) e = subst (λ h. IsNext (o ∷ h) e) (append-nil done) (each [] e es refl) in
    let valid' : IsValid (advance (state_after (o ∷ done)) e) = valid_step (state_after (o ∷ done)) e.session e.call valid next.may in
    let here : IsValid (state_after (o ∷ (done ++ e ∷ []))) = subst IsValid (sym (state_push (o ∷ done) e)) valid' in
    let rest = walk o (done ++ e ∷ []) es here (λ before x later is. subst (λ h. IsNext (o ∷ h) x) (sym (append_assoc done (e ∷ []) before)) (each (e ∷ before) x later (ap (λ xs. e ∷ xs) is))) in
    subst (λ h. IsValid (state_after (o ∷ h))) (append_assoc done (e ∷ []) es) rest

-- a cut behind the opening
pub valid_at : (history : List Entry) (legal : IsLegal history) (front later : List Entry) → legal.rest ≡ front ++ later → IsValid (state_after (legal.opening ∷ front))
valid_at history legal front later cut =
    walk legal.opening [] front (opened_valid legal.opening legal.opens) (λ before e more is.
    legal.each before e (more ++ later) (cut ∙ ap (λ xs. xs ++ later) is ∙ append_assoc before (e ∷ more) later))

-- each machine that a legal history reaches
pub valid_reached : (history : List Entry) → IsLegal history → (front later : List Entry) → history ≡ front ++ later → front ≢ [] → IsValid (state_after front)
valid_reached history legal [] later cut some = absurd (some refl)
valid_reached history legal (o ∷ front) later cut some =
    let whole = sym legal.whole ∙ cut in
    subst (λ (x : Entry). IsValid (state_after (x ∷ front))) (cons_head whole) (valid_at history legal front later (cons_tail whole))

look_cut : (history : List Entry) (legal : IsLegal history) (front later : List Entry) (e : Entry) (list : List Listed) → legal.rest ≡ front ++ e ∷ later → e.call ≡ Look list
    → LookAnswers (state_after (legal.opening ∷ front)) (state_after ((legal.opening ∷ front) ++ e ∷ [])) e.session list e.reply
look_cut history legal front later e list cut look =
    let m = state_after (legal.opening ∷ front) in
    let next = legal.each front e later cut in
    let valid = valid_at history legal front (e ∷ later) cut in
    let may : MayStep m e.session (Look list) = subst (MayStep m e.session) look next.may in
    let answers = look_answers m e.session list valid may in
    let reply : (step m e.session (Look list)).1 ≡ e.reply = sym (next.reply ∙ ap (λ c. (step m e.session c).1) look) in
    let after : (step m e.session (Look list)).0 ≡ state_after ((legal.opening ∷ front) ++ e ∷ []) = sym (state_push (legal.opening ∷ front) e ∙ ap (λ c. (step m e.session c).0) look) in
    subst (λ r. LookAnswers m (state_after ((legal.opening ∷ front) ++ e ∷ [])) e.session list r) reply (subst (λ after. LookAnswers m after e.session list (step m e.session (Look list)).1) after answers)

not_look : (o : Entry) (list : List Listed) → IsOpening o → o.call ≡ Look list → ⊥
not_look o list opens look = opened_look opens.tables list (sym opens.call ∙ look)

-- what each look of a legal history was answered
pub looks_answered : (history : List Entry) → IsLegal history → (front : List Entry) (e : Entry) (later : List Entry) (list : List Listed) → history ≡ front ++ e ∷ later → e.call ≡ Look list
    → LookAnswers (state_after front) (state_after (front ++ e ∷ [])) e.session list e.reply
looks_answered history legal [] e later list cut look =
    let whole = sym legal.whole ∙ cut in
    absurd (not_look legal.opening list legal.opens (ap (λ (x : Entry). x.call) (cons_head whole) ∙ look))
looks_answered history legal (o ∷ front) e later list cut look =
    let whole = sym legal.whole ∙ cut in
    subst (λ (x : Entry). LookAnswers (state_after (x ∷ front)) (state_after ((x ∷ front) ++ e ∷ [])) e.session list e.reply) (cons_head whole) (look_cut history legal front later e list (cons_tail whole) look)

-- ## The definitions of what is reached

abbrev pub AreOf : Entry → List Entry → Type 0
AreOf o done = definitions (state_after (o ∷ done)).tables ≡ definitions_of (o ∷ [])

walk_defined : (o : Entry) (done todo : List Entry) → AreOf o done → ((before : List Entry) (e : Entry) (later : List Entry) → todo ≡ before ++ e ∷ later → IsNext (o ∷ (done ++ before)) e) → AreOf o (done ++ todo)
walk_defined o done [] are each = subst (AreOf o) (sym (append-nil done)) are
walk_defined o done (e ∷ es) are each =
    let next : IsNext (o ∷ done) e = subst (λ h. IsNext (o ∷ h) e) (append-nil done) (each [] e es refl) in
    let here : AreOf o (done ++ e ∷ []) = ap (λ (m : MachineState). definitions m.tables) (state_push (o ∷ done) e) ∙ step_defined (state_after (o ∷ done)) e.session e.call next.may ∙ are in
    let rest = walk_defined o (done ++ e ∷ []) es here (λ before x later is. subst (λ h. IsNext (o ∷ h) x) (sym (append_assoc done (e ∷ []) before)) (each (e ∷ before) x later (ap (λ xs. e ∷ xs) is))) in
    subst (AreOf o) (append_assoc done (e ∷ []) es) rest

opened_are : (o : Entry) → IsOpening o → AreOf o []
opened_are o opens = ap (λ c. definitions (step nothing o.session c).0.tables) opens.call ∙ sym (ap (λ c. definitions (tables_of c)) opens.call)

pub defined_reached : (history : List Entry) → IsLegal history → (front later : List Entry) → history ≡ front ++ later → front ≢ [] → definitions (state_after front).tables ≡ definitions_of history
defined_reached history legal [] later cut some = absurd (some refl)
defined_reached history legal (o ∷ front) later cut some =
    let whole = sym legal.whole ∙ cut in
    let same : legal.opening ≡ o = cons_head whole in
    let rest : legal.rest ≡ front ++ later = cons_tail whole in
    let are = walk_defined legal.opening [] front (opened_are legal.opening legal.opens) (λ before e more is.
    legal.each before e (more ++ later) (rest ∙ ap (λ xs. xs ++ later) is ∙ append_assoc before (e ∷ more) later)) in
    ap (λ (x : Entry). definitions (state_after (x ∷ front)).tables) (sym same) ∙ are ∙ sym (ap definitions_of legal.whole)
