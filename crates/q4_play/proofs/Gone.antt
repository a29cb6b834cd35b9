-- A session that closed is not open any more.
use Rattle.std.proofs.Common.{◌≡◌, ◌==◌, ◌<◌, ◌≤◌, ◌++◌, ◌∷◌, ◌∙◌, [], List, ℕ, Bool, true, false, cond, Option, Some, None, refl, sym, ap, subst, arith, inl, inr, map, append_assoc, append-nil}
use Rattle.std.specs.Option.{option_map}
use Rattle.std.proofs.lemmas.Bool.{cases_eq, cases_lt, ne_eqb}
use Rattle.q4_value.specs.declared.row.Value.{Value}
use Rattle.q4_table.specs.declared.adding.Check.{Check}
use Rattle.q4_table.specs.declared.adding.Check.TheVariants as check
use Rattle.q4_table.specs.Adding.{check_of}
use Rattle.q4_table.specs.Valid.{RiseBelow}
use Rattle.q4_table.proofs.Lookup.{found_others, found_gone, found_before, found-map}
use Rattle.q4_machine.specs.Opening.{Opening}
use Rattle.q4_machine.specs.declared.session.OpenSession.{OpenSession}
use Rattle.q4_machine.specs.declared.session.SessionMode.{SessionMode}
use Rattle.q4_machine.specs.declared.session.SessionMode.TheVariants.{NonOwner, Empty, Owner}
use Rattle.q4_machine.specs.declared.entry.Entry.{Entry}
use Rattle.q4_machine.specs.declared.entry.Call.{Call}
use Rattle.q4_machine.specs.declared.entry.Call.TheVariants.{Opened, Open, Insert, Look, End, Abort, RowId, Select, Close, Sync}
use Rattle.q4_machine.specs.Machine.{MachineState, table_at, mode_of, session_in, in_mode, with_mode, without_session, IsSessionOpen}
use Rattle.q4_machine.specs.Pick.{Picked, pick}
use Rattle.q4_machine.specs.Step.{step, MayStep, inserted, looked, ended, aborted, closed}
use Rattle.q4_machine.specs.Valid.{IsValid}
use Rattle.q4_machine.specs.History.{state_after, opens_session, IsNext, IsLegal}
use Rattle.q4_machine.proofs.Validity.{keeps_session}
use Rattle.q4_machine.proofs.Histories.{cons_head, state_push}
use Rattle.q4_machine.proofs.Reached.{valid_reached}
use Rattle.q4_play.proofs.Staying.{next_of}

-- ## One step

map_none : (o : Option OpenSession) → option_map (λ (s : OpenSession). s.mode) o ≡ None → o ≡ None
map_none None is = refl
map_none (Some s) is = cc is

-- a session that is not there is not there after a change of modes
none_moved : (s k : ℕ) (mode : SessionMode) (sessions : List OpenSession) → option_map (λ (x : OpenSession). x.mode) (session_in sessions k) ≡ None → option_map (λ (x : OpenSession). x.mode) (session_in (with_mode s mode sessions) k) ≡ None
none_moved s k mode sessions none =
    ap (option_map (λ (x : OpenSession). x.mode)) (found-map (λ (x : OpenSession). x.session) (in_mode s mode) (keeps_session s mode) k sessions ∙ ap (option_map (in_mode s mode)) (map_none (session_in sessions k) none))

none_left : (s k : ℕ) (sessions : List OpenSession) → option_map (λ (x : OpenSession). x.mode) (session_in sessions k) ≡ None → option_map (λ (x : OpenSession). x.mode) (session_in (without_session s sessions) k) ≡ None
none_left s k sessions none = elim (cases_eq k s) [
  | inl here ↦ ap (λ x. option_map (λ (y : OpenSession). y.mode) (session_in (without_session s sessions) x)) here ∙ ap (option_map (λ (x : OpenSession). x.mode)) (found_gone (λ (x : OpenSession). x.session) s sessions)
  | inr other ↦ ap (option_map (λ (x : OpenSession). x.mode)) (found_others (λ (x : OpenSession). x.session) s k sessions other) ∙ none
]

none_inserted : (m : MachineState) (t k : ℕ) (row : List Value) (c : Check) → mode_of m k ≡ None → mode_of (inserted m t row c).0 k ≡ None
none_inserted m t k row check.New none = none
none_inserted m t k row (check.Seen mark) none = none
none_inserted m t k row check.Spent none = none
none_inserted m t k row check.Rows none = none
none_inserted m t k row (check.Bytes sum) none = none

none_looked : (m : MachineState) (s k : ℕ) (o : Option Picked) → mode_of m k ≡ None → mode_of (looked m s o).0 k ≡ None
none_looked m s k (Some p) none = none_moved s k (Owner p.table p.number) m.sessions none
none_looked m s k None none = none_moved s k Empty m.sessions none

none_ended : (m : MachineState) (s k : ℕ) (o : Option SessionMode) → mode_of m k ≡ None → mode_of (ended m s o).0 k ≡ None
none_ended m s k (Some NonOwner) none = none
none_ended m s k (Some Empty) none = none_moved s k NonOwner m.sessions none
none_ended m s k (Some (Owner t n)) none = none_moved s k NonOwner m.sessions none
none_ended m s k None none = none

none_aborted : (m : MachineState) (s k : ℕ) (o : Option SessionMode) → mode_of m k ≡ None → mode_of (aborted m s o).0 k ≡ None
none_aborted m s k (Some NonOwner) none = none
none_aborted m s k (Some Empty) none = none_moved s k NonOwner m.sessions none
none_aborted m s k (Some (Owner t n)) none = none_moved s k NonOwner m.sessions none
none_aborted m s k None none = none

none_closed : (m : MachineState) (s k : ℕ) (o : Option SessionMode) → mode_of m k ≡ None → mode_of (closed m s o).0 k ≡ None
none_closed m s k (Some NonOwner) none = none_left s k m.sessions none
none_closed m s k (Some Empty) none = none_left s k m.sessions none
none_closed m s k (Some (Owner t n)) none = none_left s k m.sessions none
none_closed m s k None none = none

none_opened : (m : MachineState) (s k : ℕ) → s ≡ m.next_session → (k ≡ s → ⊥) → mode_of m k ≡ None → mode_of (step m s Open).0 k ≡ None
none_opened m s k is other none =
    ap (option_map (λ (x : OpenSession). x.mode)) (found_before (λ (x : OpenSession). x.session) k m.sessions (record { session = m.next_session; mode = NonOwner }) (λ here. other (here ∙ sym is))) ∙ none

-- only an opening opens a session, and that is its own
none_stepped : (m : MachineState) (s k : ℕ) (call : Call) → MayStep m s call → (opens_session call ≡ true → k ≡ s → ⊥) → mode_of m k ≡ None → mode_of (step m s call).0 k ≡ None
none_stepped m s k (Opened tables) may other none = absurd may
none_stepped m s k Open may other none = none_opened m s k may (other refl) none
none_stepped m s k (Insert t row) may other none = none_inserted m t k row (check_of (table_at m.tables t) row None) none
none_stepped m s k (Look list) may other none = none_looked m s k (pick m list) none
none_stepped m s k End may other none = none_ended m s k (mode_of m s) none
none_stepped m s k Abort may other none = none_aborted m s k (mode_of m s) none
none_stepped m s k RowId may other none = none
none_stepped m s k (Select t most) may other none = none
none_stepped m s k Close may other none = none_closed m s k (mode_of m s) none
none_stepped m s k Sync may other none = none

-- ## Session numbers do not fall

next_inserted : (m : MachineState) (t : ℕ) (row : List Value) (c : Check) → (inserted m t row c).0.next_session ≡ m.next_session
next_inserted m t row check.New = refl
next_inserted m t row (check.Seen mark) = refl
next_inserted m t row check.Spent = refl
next_inserted m t row check.Rows = refl
next_inserted m t row (check.Bytes sum) = refl

next_looked : (m : MachineState) (s : ℕ) (o : Option Picked) → (looked m s o).0.next_session ≡ m.next_session
next_looked m s (Some p) = refl
next_looked m s None = refl

next_ended : (m : MachineState) (s : ℕ) (o : Option SessionMode) → (ended m s o).0.next_session ≡ m.next_session
next_ended m s (Some NonOwner) = refl
next_ended m s (Some Empty) = refl
next_ended m s (Some (Owner t n)) = refl
next_ended m s None = refl

next_aborted : (m : MachineState) (s : ℕ) (o : Option SessionMode) → (aborted m s o).0.next_session ≡ m.next_session
next_aborted m s (Some NonOwner) = refl
next_aborted m s (Some Empty) = refl
next_aborted m s (Some (Owner t n)) = refl
next_aborted m s None = refl

next_closed : (m : MachineState) (s : ℕ) (o : Option SessionMode) → (closed m s o).0.next_session ≡ m.next_session
next_closed m s (Some NonOwner) = refl
next_closed m s (Some Empty) = refl
next_closed m s (Some (Owner t n)) = refl
next_closed m s None = refl

pub next_stepped : (m : MachineState) (s : ℕ) (call : Call) → MayStep m s call → m.next_session ≤ (step m s call).0.next_session
next_stepped m s (Opened tables) may = absurd may
next_stepped m s Open may = omega arith
next_stepped m s (Insert t row) may = let same = next_inserted m t row (check_of (table_at m.tables t) row None) in omega (arith, same)
next_stepped m s (Look list) may = let same = next_looked m s (pick m list) in omega (arith, same)
next_stepped m s End may = let same = next_ended m s (mode_of m s) in omega (arith, same)
next_stepped m s Abort may = let same = next_aborted m s (mode_of m s) in omega (arith, same)
next_stepped m s RowId may = omega arith
next_stepped m s (Select t most) may = omega arith
next_stepped m s Close may = let same = next_closed m s (mode_of m s) in omega (arith, same)
next_stepped m s Sync may = omega arith

-- ## A session that is gone stays so

record IsGone (m : MachineState) (k : ℕ) : Type 0 where
  below : k < m.next_session
  none : mode_of m k ≡ None

other_opening : (m : MachineState) (s k : ℕ) (call : Call) → MayStep m s call → k < m.next_session → opens_session call ≡ true → k ≡ s → ⊥
other_opening m s k (Opened tables) may below opens same = absurd may
other_opening m s k Open may below opens same = omega (arith, may, same, below)
other_opening m s k (Insert t row) may below opens same = cc opens
other_opening m s k (Look list) may below opens same = cc opens
other_opening m s k End may below opens same = cc opens
other_opening m s k Abort may below opens same = cc opens
other_opening m s k RowId may below opens same = cc opens
other_opening m s k (Select t most) may below opens same = cc opens
other_opening m s k Close may below opens same = cc opens
other_opening m s k Sync may below opens same = cc opens

gone_stepped : (m : MachineState) (s k : ℕ) (call : Call) → MayStep m s call → IsGone m k → IsGone (step m s call).0 k
gone_stepped m s k call may gone = record {
  below = let more = next_stepped m s call may in let was = gone.below in omega (arith, more, was);
  none = none_stepped m s k call may (other_opening m s k call may gone.below) gone.none;
}

walk_gone : (b : Entry) (bs grown : List Entry) (k : ℕ) → ((before : List Entry) (e : Entry) (later : List Entry) → grown ≡ before ++ e ∷ later → IsNext (b ∷ (bs ++ before)) e)
    → IsGone (state_after (b ∷ bs)) k → IsGone (state_after (b ∷ (bs ++ grown))) k
walk_gone b bs [] k each gone = subst (λ (h : List Entry). IsGone (state_after (b ∷ h)) k) (sym (append-nil bs)) gone
walk_gone b bs (e ∷ es) k each gone =
    let next : IsNext (b ∷ bs) e = subst (λ (h : List Entry). IsNext (b ∷ h) e) (append-nil bs) (each [] e es refl) in
    let here : IsGone (state_after (b ∷ (bs ++ e ∷ []))) k = subst (λ (m : MachineState). IsGone m k) (sym (state_push (b ∷ bs) e)) (gone_stepped (state_after (b ∷ bs)) e.session k e.call next.may gone) in
    subst (λ (h : List Entry). IsGone (state_after (b ∷ h)) k) (append_assoc bs (e ∷ []) es)
    (walk_gone b (bs ++ e ∷ []) es k (λ before x later is. subst (λ (h : List Entry). IsNext (b ∷ h) x) (sym (append_assoc bs (e ∷ []) before)) (each (e ∷ before) x later (ap (λ xs. e ∷ xs) is))) here)

-- ## The closing

none_above : (low next k : ℕ) (xs : List OpenSession) → RiseBelow low next (map (λ (x : OpenSession). x.session) xs) → next ≤ k → session_in xs k ≡ None
none_above low next k [] rise above = refl
none_above low next k (x ∷ xs) rise above =
    let differs : (x.session == k) ≡ false = ne_eqb x.session k (λ is. omega (arith, is, rise.1, above)) in
    ap (λ (b : Bool). cond b (Some x) (session_in xs k)) differs ∙ none_above x.session next k xs rise.2 above

pub open_below : (m : MachineState) (k : ℕ) → IsValid m → IsSessionOpen m k → k < m.next_session
open_below m k valid there = elim (cases_lt k m.next_session) [
  | inl below ↦ below
  | inr above ↦ absurd (there (ap (option_map (λ (x : OpenSession). x.mode)) (none_above 0 m.next_session k m.sessions valid.sessions above)))
]

none_closing : (m : MachineState) (s : ℕ) (o : Option SessionMode) → mode_of m s ≡ o → mode_of (closed m s o).0 s ≡ None
none_closing m s (Some NonOwner) is = ap (option_map (λ (x : OpenSession). x.mode)) (found_gone (λ (x : OpenSession). x.session) s m.sessions)
none_closing m s (Some Empty) is = ap (option_map (λ (x : OpenSession). x.mode)) (found_gone (λ (x : OpenSession). x.session) s m.sessions)
none_closing m s (Some (Owner t n)) is = ap (option_map (λ (x : OpenSession). x.mode)) (found_gone (λ (x : OpenSession). x.session) s m.sessions)
none_closing m s None is = is

gone_closing : (m : MachineState) (s : ℕ) → IsValid m → IsSessionOpen m s → IsGone (step m s Close).0 s
gone_closing m s valid there = record {
  below = let same = next_closed m s (mode_of m s) in let was = open_below m s valid there in omega (arith, same, was);
  none = none_closing m s (mode_of m s) refl;
}

not_opening : (e : Entry) (tables : List Opening) → e.call ≡ Close → e.call ≡ Opened tables → ⊥
not_opening e tables closes opens = different (sym closes ∙ opens) where
  different : Close ≡ Opened tables → ⊥
  different is = cc is

pub closed_gone : (before later : List Entry) (e : Entry) → e.call ≡ Close → IsLegal (before ++ e ∷ later) → IsSessionOpen (state_after (before ++ e ∷ later)) e.session → ⊥
closed_gone [] later e closes legal there =
    let same : legal.opening ≡ e = cons_head (sym legal.whole) in
    not_opening e legal.opens.tables closes (ap (λ (x : Entry). x.call) (sym same) ∙ legal.opens.call)
closed_gone (b ∷ bs) later e closes legal there =
    let m = state_after (b ∷ bs) in
    let history = (b ∷ bs) ++ e ∷ later in
    let next : IsNext (b ∷ bs) e = next_of history legal b bs e later refl in
    let was : IsSessionOpen m e.session = subst (MayStep m e.session) closes next.may in
    let valid : IsValid m = valid_reached history legal (b ∷ bs) (e ∷ later) refl (λ is. cc is) in
    let gone : IsGone (step m e.session e.call).0 e.session = subst (λ (call : Call). IsGone (step m e.session call).0 e.session) (sym closes) (gone_closing m e.session valid was) in
    let here : IsGone (state_after (b ∷ (bs ++ e ∷ []))) e.session = subst (λ (x : MachineState). IsGone x e.session) (sym (state_push (b ∷ bs) e)) gone in
    let end : IsGone (state_after (b ∷ ((bs ++ e ∷ []) ++ later))) e.session = walk_gone b (bs ++ e ∷ []) later e.session (λ before x rest is.
    next_of history legal b ((bs ++ e ∷ []) ++ before) x rest (ap (λ (h : List Entry). b ∷ (bs ++ e ∷ h)) is ∙ ap (λ (h : List Entry). b ∷ h) (sym (append_assoc bs (e ∷ []) (before ++ x ∷ rest)) ∙ sym (append_assoc (bs ++ e ∷ []) before (x ∷ rest))))) here in
    there (ap (λ (h : List Entry). mode_of (state_after (b ∷ h)) e.session) (sym (append_assoc bs (e ∷ []) later)) ∙ end.none)
