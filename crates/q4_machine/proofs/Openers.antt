-- Who opened the sessions that are open.
use Rattle.std.proofs.Common.{◌≡◌, ◌≢◌, ◌==◌, ◌&&◌, ◌++◌, ◌∷◌, ◌∙◌, ◌⊎◌, [], List, ℕ, Bool, true, false, cond, Option, Some, None, All, refl, sym, ap, subst, inl, inr, append_assoc, append-nil}
use Rattle.std.specs.Option.{option_map}
use Rattle.std.proofs.lemmas.Bool.{cases_eq, and_from, eq-eqb}
use Rattle.std.proofs.lemmas.List.Elements.{All-head, All-tail}
use Rattle.q4_value.specs.declared.row.Value.{Value}
use Rattle.q4_table.specs.declared.adding.Check.{Check}
use Rattle.q4_table.specs.declared.adding.Check.TheVariants as check
use Rattle.q4_table.specs.Adding.{check_of}
use Rattle.q4_table.proofs.Lookup.{found_others, found_gone, found_before, found-map}
use Rattle.q4_machine.specs.declared.session.OpenSession.{OpenSession}
use Rattle.q4_machine.specs.declared.session.SessionMode.{SessionMode}
use Rattle.q4_machine.specs.declared.session.SessionMode.TheVariants.{NonOwner, Empty, Owner}
use Rattle.q4_machine.specs.declared.entry.Entry.{Entry}
use Rattle.q4_machine.specs.declared.entry.Call.{Call}
use Rattle.q4_machine.specs.declared.entry.Call.TheVariants.{Opened, Open, Insert, Look, End, Abort, RowId, Select, Close, Sync}
use Rattle.q4_machine.specs.Machine.{MachineState, table_at, mode_of, session_in, in_mode, with_mode, without_session}
use Rattle.q4_machine.specs.Pick.{Picked, pick}
use Rattle.q4_machine.specs.Step.{step, MayStep, inserted, looked, ended, aborted, closed}
use Rattle.q4_machine.specs.History.{nothing, state_after, opens_session, opener, IsNext, IsOpening, IsLegal}
use Rattle.q4_machine.proofs.Validity.{keeps_session}
use Rattle.q4_machine.proofs.Histories.{state_push, opener_more}

map_none : (o : Option OpenSession) → option_map (λ (s : OpenSession). s.mode) o ≡ None → o ≡ None
map_none None is = refl
map_none (Some s) is = cc is

-- a session that is not there is not there after a change of modes
none_moved : (s k : ℕ) (mode : SessionMode) (sessions : List OpenSession) → option_map (λ (x : OpenSession). x.mode) (session_in sessions k) ≡ None → option_map (λ (x : OpenSession). x.mode) (session_in (with_mode s mode sessions) k) ≡ None
none_moved s k mode sessions none =
    ap (option_map (λ (x : OpenSession). x.mode)) (found-map (λ (x : OpenSession). x.session) (in_mode s mode) (keeps_session s mode) k sessions ∙ ap (option_map (in_mode s mode)) (map_none (session_in sessions k) none))

none_left : (s k : ℕ) (sessions : List OpenSession) → option_map (λ (x : OpenSession). x.mode) (session_in sessions k) ≡ None → option_map (λ (x : OpenSession). x.mode) (session_in (without_session s sessions) k) ≡ None
none_left s k sessions none = elim (cases_eq k s) [
  | inl here ↦ ap (λ x. option_map (λ (y : OpenSession). y.mode) (session_in (without_session s sessions) x)) here ∙ ap (option_map (λ (x : OpenSession). x.mode)) (found_gone (λ (x : OpenSession). x.session) s sessions)
  | inr other ↦ ap (option_map (λ (x : OpenSession). x.mode)) (found_others (λ (x : OpenSession). x.session) s k sessions other) ∙ none
]

none_inserted : (m : MachineState) (t k : ℕ) (row : List Value) (c : Check) → mode_of m k ≡ None → mode_of (inserted m t row c).0 k ≡ None
none_inserted m t k row check.New none = none
none_inserted m t k row (check.Seen mark) none = none
none_inserted m t k row check.Spent none = none
none_inserted m t k row check.Rows none = none
none_inserted m t k row (check.Bytes sum) none = none

none_looked : (m : MachineState) (s k : ℕ) (o : Option Picked) → mode_of m k ≡ None → mode_of (looked m s o).0 k ≡ None
none_looked m s k (Some p) none = none_moved s k (Owner p.table p.number) m.sessions none
none_looked m s k None none = none_moved s k Empty m.sessions none

none_ended : (m : MachineState) (s k : ℕ) (o : Option SessionMode) → mode_of m k ≡ None → mode_of (ended m s o).0 k ≡ None
none_ended m s k (Some NonOwner) none = none
none_ended m s k (Some Empty) none = none_moved s k NonOwner m.sessions none
none_ended m s k (Some (Owner t n)) none = none_moved s k NonOwner m.sessions none
none_ended m s k None none = none

none_aborted : (m : MachineState) (s k : ℕ) (o : Option SessionMode) → mode_of m k ≡ None → mode_of (aborted m s o).0 k ≡ None
none_aborted m s k (Some NonOwner) none = none
none_aborted m s k (Some Empty) none = none_moved s k NonOwner m.sessions none
none_aborted m s k (Some (Owner t n)) none = none_moved s k NonOwner m.sessions none
none_aborted m s k None none = none

none_closed : (m : MachineState) (s k : ℕ) (o : Option SessionMode) → mode_of m k ≡ None → mode_of (closed m s o).0 k ≡ None
none_closed m s k (Some NonOwner) none = none_left s k m.sessions none
none_closed m s k (Some Empty) none = none_left s k m.sessions none
none_closed m s k (Some (Owner t n)) none = none_left s k m.sessions none
none_closed m s k None none = none

none_opened : (m : MachineState) (s k : ℕ) → s ≡ m.next_session → (k ≡ s → ⊥) → mode_of m k ≡ None → mode_of (step m s Open).0 k ≡ None
none_opened m s k is other none =
    ap (option_map (λ (x : OpenSession). x.mode)) (found_before (λ (x : OpenSession). x.session) k m.sessions (record { session = m.next_session; mode = NonOwner }) (λ here. other (here ∙ sym is))) ∙ none

-- only an opening opens a session, and that is its own
none_stepped : (m : MachineState) (s k : ℕ) (call : Call) → MayStep m s call → (opens_session call ≡ true → k ≡ s → ⊥) → mode_of m k ≡ None → mode_of (step m s call).0 k ≡ None
none_stepped m s k (Opened tables) may other none = absurd may
none_stepped m s k Open may other none = none_opened m s k may (other refl) none
none_stepped m s k (Insert t row) may other none = none_inserted m t k row (check_of (table_at m.tables t) row None) none
none_stepped m s k (Look list) may other none = none_looked m s k (pick m list) none
none_stepped m s k End may other none = none_ended m s k (mode_of m s) none
none_stepped m s k Abort may other none = none_aborted m s k (mode_of m s) none
none_stepped m s k RowId may other none = none
none_stepped m s k (Select t most) may other none = none
none_stepped m s k Close may other none = none_closed m s k (mode_of m s) none
none_stepped m s k Sync may other none = none

-- ## The entry that opened a session

cond_some : (b : Bool) (x : ℕ) (o : Option ℕ) → o ≢ None → cond b (Some x) o ≢ None
cond_some true x o some is = cc is
cond_some false x o some is = some is

some_there : (o : Option ℕ) (x : ℕ) → o ≡ Some x → o ≢ None
some_there o x is none = different (sym none ∙ is) where
  different : None ≡ Some x → ⊥
  different e = cc e

opener_last : (history : List Entry) (e : Entry) (k : ℕ) → opens_session e.call ≡ true → k ≡ e.session → opener (history ++ e ∷ []) k ≢ None
opener_last [] e k opens is =
    let test : (opens_session e.call && e.session == k) ≡ true = and_from (opens_session e.call) (e.session == k) opens (eq-eqb e.session k (sym is)) in
    some_there (opener (e ∷ []) k) e.caller (ap (λ (b : Bool). cond b (Some e.caller) None) test)
opener_last (x ∷ xs) e k opens is = cond_some (opens_session x.call && x.session == k) x.caller (opener (xs ++ e ∷ []) k) (opener_last xs e k opens is)

opener_kept : (history more : List Entry) (k : ℕ) (o : Option ℕ) → opener history k ≡ o → o ≢ None → opener (history ++ more) k ≢ None
opener_kept history more k None is some = absurd (some refl)
opener_kept history more k (Some c) is some = some_there (opener (history ++ more) k) c (opener_more history more k c is)

-- each open session was opened by some entry
abbrev pub AreOpened : List Entry → Type 0
AreOpened history = (k : ℕ) → mode_of (state_after history) k ≢ None → opener history k ≢ None

was_there : (o : Option SessionMode) → (o ≡ None → ⊥) ⊎ (o ≡ None)
was_there None = inr refl
was_there (Some mode) = inl (λ is. cc is)

opened_by_it : (history : List Entry) (e : Entry) (k : ℕ) (b : Bool) → opens_session e.call ≡ b → MayStep (state_after history) e.session e.call → mode_of (state_after history) k ≡ None → mode_of (step (state_after history) e.session e.call).0 k ≢ None → opener (history ++ e ∷ []) k ≢ None
opened_by_it history e k true opens may none there = elim (cases_eq k e.session) [
  | inl here ↦ opener_last history e k opens here
  | inr other ↦ absurd (there (none_stepped (state_after history) e.session k e.call may (λ _ here. other here) none))
]
opened_by_it history e k false opens may none there = absurd (there (none_stepped (state_after history) e.session k e.call may (λ yes here. different (sym opens ∙ yes)) none)) where
  different : false ≡ true → ⊥
  different is = cc is

opened_push : (history : List Entry) (e : Entry) → MayStep (state_after history) e.session e.call → AreOpened history → AreOpened (history ++ e ∷ [])
opened_push history e may are k there =
    let here : mode_of (step (state_after history) e.session e.call).0 k ≢ None = λ none. there (ap (λ (m : MachineState). mode_of m k) (state_push history e) ∙ none) in
    elim (was_there (mode_of (state_after history) k)) [
      | inl open_then ↦ opener_kept history (e ∷ []) k (opener history k) refl (are k open_then)
      | inr none ↦ opened_by_it history e k (opens_session e.call) refl may none here
    ]

walk_opened : (o : Entry) (done todo : List Entry) → AreOpened (o ∷ done) → ((before : List Entry) (e : Entry) (later : List Entry) → todo ≡ before ++ e ∷ later → IsNext (o ∷ (done ++ before)) e) → AreOpened (o ∷ (done ++ todo))
walk_opened o done [] are each = subst (λ h. AreOpened (o ∷ h)) (sym (append-nil done)) are
walk_opened o done (e ∷ es) are each =
    let next : IsNext (o ∷ done) e = subst (λ h. IsNext (o ∷ h) e) (append-nil done) (each [] e es refl) in
    let here : AreOpened (o ∷ (done ++ e ∷ [])) = opened_push (o ∷ done) e next.may are in
    let rest = walk_opened o (done ++ e ∷ []) es here (λ before x later is. subst (λ h. IsNext (o ∷ h) x) (sym (append_assoc done (e ∷ []) before)) (each (e ∷ before) x later (ap (λ xs. e ∷ xs) is))) in
    subst (λ h. AreOpened (o ∷ h)) (append_assoc done (e ∷ []) es) rest

opened_none : (o : Entry) → IsOpening o → AreOpened (o ∷ [])
opened_none o opens = λ k there. absurd (there (ap (λ c. mode_of (step nothing o.session c).0 k) opens.call))

opener_zero : (history : List Entry) (k : ℕ) → All (λ (e : Entry). e.caller ≡ 0) history → opener history k ≢ None → opener history k ≡ Some 0
opener_zero [] k by_zero some = absurd (some refl)
opener_zero (e ∷ es) k by_zero some =
    zero_from (opens_session e.call && e.session == k) e.caller (opener es k) (All-head (λ (x : Entry). x.caller ≡ 0) e es by_zero) some (opener_zero es k (All-tail (λ (x : Entry). x.caller ≡ 0) e es by_zero)) where
      zero_from : (b : Bool) (x : ℕ) (o : Option ℕ) → x ≡ 0 → cond b (Some x) o ≢ None → (o ≢ None → o ≡ Some 0) → cond b (Some x) o ≡ Some 0
      zero_from true x o is some later = ap Some is
      zero_from false x o is some later = later some

-- in a history of caller 0 that caller opened each open session
pub opened_by_zero : (history : List Entry) → IsLegal history → All (λ (e : Entry). e.caller ≡ 0) history → (k : ℕ) → mode_of (state_after history) k ≢ None → opener history k ≡ Some 0
opened_by_zero history legal by_zero k there =
    let opened = walk_opened legal.opening [] legal.rest (opened_none legal.opening legal.opens) legal.each in
    opener_zero history k by_zero (subst AreOpened (sym legal.whole) opened k there)
