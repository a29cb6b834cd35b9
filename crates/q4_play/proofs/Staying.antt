-- An open session stays open until its own caller closes it.
use Rattle.std.proofs.Common.{◌≡◌, ◌≢◌, ◌==◌, ◌++◌, ◌∷◌, ◌∙◌, [], List, ℕ, Bool, true, false, cond, Option, Some, None, All, refl, sym, ap, subst, append_assoc, append-nil}
use Rattle.std.specs.Option.{option_map, option_or}
use Rattle.std.proofs.lemmas.Bool.{true≢false, eq-eqb}
use Rattle.std.proofs.lemmas.List.Elements.{All-head, All-tail, All-cons, All-nil}
use Rattle.std.proofs.lemmas.List.Folds.{find-append}
use Rattle.q4_value.specs.declared.row.Value.{Value}
use Rattle.q4_table.specs.declared.adding.Check.{Check}
use Rattle.q4_table.specs.declared.adding.Check.TheVariants as check
use Rattle.q4_table.specs.Adding.{check_of}
use Rattle.q4_table.proofs.Lookup.{found_others, found-map}
use Rattle.q4_table.proofs.Rising.{none_next}
use Rattle.q4_machine.specs.declared.session.OpenSession.{OpenSession}
use Rattle.q4_machine.specs.declared.session.SessionMode.{SessionMode}
use Rattle.q4_machine.specs.declared.session.SessionMode.TheVariants.{NonOwner, Empty, Owner}
use Rattle.q4_machine.specs.declared.entry.Entry.{Entry}
use Rattle.q4_machine.specs.declared.entry.Call.{Call}
use Rattle.q4_machine.specs.declared.entry.Call.TheVariants.{Opened, Open, Insert, Look, End, Abort, RowId, Select, Close, Sync}
use Rattle.q4_machine.specs.declared.entry.Reply.TheVariants as reply
use Rattle.q4_machine.specs.Machine.{MachineState, table_at, mode_of, session_in, in_mode, with_mode, without_session}
use Rattle.q4_machine.specs.Pick.{Picked, pick}
use Rattle.q4_machine.specs.Step.{step, MayStep, inserted, looked, ended, aborted, closed}
use Rattle.q4_machine.specs.History.{state_after, opens_session, opener, IsNext, IsLegal, IsOpenFor}
use Rattle.q4_machine.specs.Parts.{of_caller, OpensAt}
use Rattle.q4_machine.proofs.Validity.{keeps_session}
use Rattle.q4_machine.proofs.Histories.{cons_head, cons_tail, state_push, opener_more}
use Rattle.q4_machine.proofs.Reached.{valid_reached}

-- ## One step

map_there : (f : OpenSession → OpenSession) (o : Option OpenSession) → option_map (λ (x : OpenSession). x.mode) o ≢ None → option_map (λ (x : OpenSession). x.mode) (option_map f o) ≢ None
map_there f None there = there
map_there f (Some x) there = λ is. cc is

or_there : (o p : Option OpenSession) → option_map (λ (x : OpenSession). x.mode) o ≢ None → option_map (λ (x : OpenSession). x.mode) (option_or o p) ≢ None
or_there None p there = absurd (there refl)
or_there (Some x) p there = λ is. cc is

there_moved : (s k : ℕ) (mode : SessionMode) (sessions : List OpenSession) → option_map (λ (x : OpenSession). x.mode) (session_in sessions k) ≢ None → option_map (λ (x : OpenSession). x.mode) (session_in (with_mode s mode sessions) k) ≢ None
there_moved s k mode sessions there none =
    map_there (in_mode s mode) (session_in sessions k) there (sym (ap (option_map (λ (x : OpenSession). x.mode)) (found-map (λ (x : OpenSession). x.session) (in_mode s mode) (keeps_session s mode) k sessions)) ∙ none)

there_left : (s k : ℕ) (sessions : List OpenSession) → (k ≡ s → ⊥) → option_map (λ (x : OpenSession). x.mode) (session_in sessions k) ≢ None → option_map (λ (x : OpenSession). x.mode) (session_in (without_session s sessions) k) ≢ None
there_left s k sessions other there none = there (sym (ap (option_map (λ (x : OpenSession). x.mode)) (found_others (λ (x : OpenSession). x.session) s k sessions other)) ∙ none)

there_inserted : (m : MachineState) (t k : ℕ) (row : List Value) (c : Check) → mode_of m k ≢ None → mode_of (inserted m t row c).0 k ≢ None
there_inserted m t k row check.New there = there
there_inserted m t k row (check.Seen mark) there = there
there_inserted m t k row check.Spent there = there
there_inserted m t k row check.Rows there = there
there_inserted m t k row (check.Bytes sum) there = there

there_looked : (m : MachineState) (s k : ℕ) (o : Option Picked) → mode_of m k ≢ None → mode_of (looked m s o).0 k ≢ None
there_looked m s k (Some p) there = there_moved s k (Owner p.table p.number) m.sessions there
there_looked m s k None there = there_moved s k Empty m.sessions there

there_ended : (m : MachineState) (s k : ℕ) (o : Option SessionMode) → mode_of m k ≢ None → mode_of (ended m s o).0 k ≢ None
there_ended m s k (Some NonOwner) there = there
there_ended m s k (Some Empty) there = there_moved s k NonOwner m.sessions there
there_ended m s k (Some (Owner t n)) there = there_moved s k NonOwner m.sessions there
there_ended m s k None there = there

there_aborted : (m : MachineState) (s k : ℕ) (o : Option SessionMode) → mode_of m k ≢ None → mode_of (aborted m s o).0 k ≢ None
there_aborted m s k (Some NonOwner) there = there
there_aborted m s k (Some Empty) there = there_moved s k NonOwner m.sessions there
there_aborted m s k (Some (Owner t n)) there = there_moved s k NonOwner m.sessions there
there_aborted m s k None there = there

there_closed : (m : MachineState) (s k : ℕ) (o : Option SessionMode) → (k ≡ s → ⊥) → mode_of m k ≢ None → mode_of (closed m s o).0 k ≢ None
there_closed m s k (Some NonOwner) other there = there_left s k m.sessions other there
there_closed m s k (Some Empty) other there = there_left s k m.sessions other there
there_closed m s k (Some (Owner t n)) other there = there_left s k m.sessions other there
there_closed m s k None other there = there

there_opened : (m : MachineState) (s k : ℕ) → mode_of m k ≢ None → mode_of (step m s Open).0 k ≢ None
there_opened m s k there none =
    let new : OpenSession = record { session = m.next_session; mode = NonOwner } in
    or_there (session_in m.sessions k) (session_in (new ∷ []) k) there (sym (ap (option_map (λ (x : OpenSession). x.mode)) (find-append (λ (x : OpenSession). x.session == k) m.sessions (new ∷ []))) ∙ none)

-- an open session stays open but where it closes
there_stepped : (m : MachineState) (s k : ℕ) (call : Call) → MayStep m s call → (call ≡ Close → k ≡ s → ⊥) → mode_of m k ≢ None → mode_of (step m s call).0 k ≢ None
there_stepped m s k (Opened tables) may other there = absurd may
there_stepped m s k Open may other there = there_opened m s k there
there_stepped m s k (Insert t row) may other there = there_inserted m t k row (check_of (table_at m.tables t) row None) there
there_stepped m s k (Look list) may other there = there_looked m s k (pick m list) there
there_stepped m s k End may other there = there_ended m s k (mode_of m s) there
there_stepped m s k Abort may other there = there_aborted m s k (mode_of m s) there
there_stepped m s k RowId may other there = there
there_stepped m s k (Select t most) may other there = there
there_stepped m s k Close may other there = there_closed m s k (mode_of m s) (other refl) there
there_stepped m s k Sync may other there = there

-- ## More of the history

-- The caller does not close this session there.
abbrev pub IsUnclosed : ℕ → ℕ → List Entry → Type 0
IsUnclosed caller k grown = All (λ (e : Entry). e.caller ≡ caller → e.session ≡ k → e.call ≡ Close → ⊥) grown

of_cons : (P : Entry → Type 0) (caller : ℕ) (e : Entry) (es : List Entry) (b : Bool) → (e.caller == caller) ≡ b → All P (cond b (e ∷ of_caller caller es) (of_caller caller es))
    → (All P (of_caller caller es) → All (λ (x : Entry). x.caller ≡ caller → P x) es) → All (λ (x : Entry). x.caller ≡ caller → P x) (e ∷ es)
of_cons P caller e es true is all rest =
    All-cons (λ (x : Entry). x.caller ≡ caller → P x) e es (λ _. All-head P e (of_caller caller es) all) (rest (All-tail P e (of_caller caller es) all))
of_cons P caller e es false is all rest =
    All-cons (λ (x : Entry). x.caller ≡ caller → P x) e es (λ same. absurd (true≢false (sym (eq-eqb e.caller caller same) ∙ is))) (rest all)

-- what holds of the caller's entries
pub of_all : (P : Entry → Type 0) (caller : ℕ) (grown : List Entry) → All P (of_caller caller grown) → All (λ (e : Entry). e.caller ≡ caller → P e) grown
of_all P caller [] all = All-nil (λ (e : Entry). e.caller ≡ caller → P e)
of_all P caller (e ∷ es) all = of_cons P caller e es (e.caller == caller) refl all (of_all P caller es)

some_is : (x y : ℕ) → Some x ≡ Some y → x ≡ y
some_is x y is = cc is

open_push : (history : List Entry) (e : Entry) (caller k : ℕ) → IsNext history e → IsOpenFor history caller k → (e.caller ≡ caller → e.session ≡ k → e.call ≡ Close → ⊥) → IsOpenFor (history ++ e ∷ []) caller k
open_push history e caller k next was unclosed = record {
  is_open = λ none. there_stepped (state_after history) e.session k e.call next.may closes was.is_open (sym (ap (λ (m : MachineState). mode_of m k) (state_push history e)) ∙ none);
  opened_by = opener_more history (e ∷ []) k caller was.opened_by;
} where
  closes : e.call ≡ Close → k ≡ e.session → ⊥
  closes close same =
      let by : opener history k ≡ Some e.caller = ap (opener history) same ∙ next.caller (ap opens_session close) in
      unclosed (some_is e.caller caller (sym by ∙ was.opened_by)) (sym same) close

-- the entry behind any cut may come next there
pub next_of : (history : List Entry) → IsLegal history → (b : Entry) (bs : List Entry) (e : Entry) (later : List Entry) → history ≡ b ∷ (bs ++ e ∷ later) → IsNext (b ∷ bs) e
next_of history legal b bs e later is =
    subst (λ (x : Entry). IsNext (x ∷ bs) e) (cons_head (sym legal.whole ∙ is)) (legal.each bs e later (cons_tail (sym legal.whole ∙ is)))

walk : (b : Entry) (bs grown : List Entry) (caller k : ℕ) → ((before : List Entry) (e : Entry) (later : List Entry) → grown ≡ before ++ e ∷ later → IsNext (b ∷ (bs ++ before)) e)
    → IsOpenFor (b ∷ bs) caller k → IsUnclosed caller k grown → IsOpenFor (b ∷ (bs ++ grown)) caller k
walk b bs [] caller k each was unclosed = subst (λ h. IsOpenFor (b ∷ h) caller k) (sym (append-nil bs)) was
walk b bs (e ∷ es) caller k each was unclosed =
    let P = λ (x : Entry). x.caller ≡ caller → x.session ≡ k → x.call ≡ Close → ⊥ in
    let next : IsNext (b ∷ bs) e = subst (λ h. IsNext (b ∷ h) e) (append-nil bs) (each [] e es refl) in
    let here : IsOpenFor (b ∷ (bs ++ e ∷ [])) caller k = open_push (b ∷ bs) e caller k next was (All-head P e es unclosed) in
    subst (λ h. IsOpenFor (b ∷ h) caller k) (append_assoc bs (e ∷ []) es)
    (walk b (bs ++ e ∷ []) es caller k (λ before x later is. subst (λ h. IsNext (b ∷ h) x) (sym (append_assoc bs (e ∷ []) before)) (each (e ∷ before) x later (ap (λ xs. e ∷ xs) is))) here (All-tail P e es unclosed))

-- an open session is open behind a part of what a legal history grew by, where its caller does not close it there
stays_front : (seen front later : List Entry) (caller k : ℕ) → IsLegal (seen ++ (front ++ later)) → IsOpenFor seen caller k → IsUnclosed caller k front → IsOpenFor (seen ++ front) caller k
stays_front [] front later caller k legal was unclosed = absurd (was.is_open refl)
stays_front (b ∷ bs) front later caller k legal was unclosed =
    walk b bs front caller k (λ before e rest is. next_of ((b ∷ bs) ++ (front ++ later)) legal b (bs ++ before) e (rest ++ later)
    (ap (λ (h : List Entry). b ∷ (bs ++ (h ++ later))) is ∙ ap (λ (h : List Entry). b ∷ (bs ++ h)) (append_assoc before (e ∷ rest) later) ∙ ap (λ (h : List Entry). b ∷ h) (sym (append_assoc bs before (e ∷ (rest ++ later)))))) was unclosed

pub stays_open : (seen grown : List Entry) (caller k : ℕ) → IsLegal (seen ++ grown) → IsOpenFor seen caller k → IsUnclosed caller k grown → IsOpenFor (seen ++ grown) caller k
stays_open seen grown caller k legal was unclosed = stays_front seen grown [] caller k (subst (λ (h : List Entry). IsLegal (seen ++ h)) (sym (append-nil grown)) legal) was unclosed

-- the caller made no entry
pub unclosed_none : (caller k : ℕ) (grown : List Entry) → of_caller caller grown ≡ [] → IsUnclosed caller k grown
unclosed_none caller k grown none =
    let P = λ (e : Entry). e.session ≡ k → e.call ≡ Close → ⊥ in
    of_all P caller grown (subst (All P) (sym none) (All-nil P))

-- the caller made one entry, which does not close the session
pub unclosed_one : (caller k : ℕ) (grown : List Entry) (e : Entry) → of_caller caller grown ≡ e ∷ [] → (e.session ≡ k → e.call ≡ Close → ⊥) → IsUnclosed caller k grown
unclosed_one caller k grown e one other =
    let P = λ (x : Entry). x.session ≡ k → x.call ≡ Close → ⊥ in
    of_all P caller grown (subst (All P) (sym one) (All-cons P e [] other (All-nil P)))

-- ## A session that was opened is another than those that are open

pub other_session : (limit caller s k : ℕ) (seen grown : List Entry) → IsLegal (seen ++ grown) → OpensAt limit seen grown caller s → IsOpenFor seen caller k → k ≡ s → ⊥
other_session limit caller s k [] grown legal opens was same = was.is_open refl
other_session limit caller s k (b ∷ bs) grown legal opens was same =
    let e : Entry = record { caller = caller; session = s; call = Open; reply = reply.Session s } in
    let seen : List Entry = b ∷ bs in
    let here : IsLegal (seen ++ (opens.front ++ (e ∷ opens.back))) = subst (λ (h : List Entry). IsLegal (seen ++ h)) opens.cut legal in
    let at : IsOpenFor (seen ++ opens.front) caller k = stays_front seen opens.front (e ∷ opens.back) caller k here was (unclosed_none caller k opens.front opens.none_front) in
    let whole : seen ++ (opens.front ++ (e ∷ opens.back)) ≡ (seen ++ opens.front) ++ (e ∷ opens.back) = sym (append_assoc seen opens.front (e ∷ opens.back)) in
    let valid = valid_reached (seen ++ (opens.front ++ (e ∷ opens.back))) here (seen ++ opens.front) (e ∷ opens.back) whole (λ is. cc is) in
    let next : IsNext (seen ++ opens.front) e = next_of (seen ++ (opens.front ++ (e ∷ opens.back))) here b (bs ++ opens.front) e opens.back whole in
    let m = state_after (seen ++ opens.front) in
    at.is_open (ap (mode_of m) (same ∙ next.may) ∙ ap (option_map (λ (x : OpenSession). x.mode)) (none_next (λ (x : OpenSession). x.session) 0 m.next_session m.sessions valid.sessions))
