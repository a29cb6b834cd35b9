-- Histories that grow by an entry: what they reach, that they stay legal, and what is settled.
use Rattle.std.proofs.Common.{◌≡◌, ◌≢◌, ◌==◌, ◌&&◌, ◌<◌, ◌≤◌, ◌+◌, ◌^◌, ◌++◌, ◌∷◌, ◌∙◌, ◌⊎◌, [], List, ℕ, zero, suc, Bool, true, false, cond, not, Option, Some, None, All, Any, find, fold, length, drop, refl, sym, ap, subst, arith, inl, inr, append_assoc}
use Rattle.std.specs.Option.{option_map}
use Rattle.std.proofs.lemmas.List.{length-append, length-map}
use Rattle.std.proofs.Math.ListN.{get_or-append}
use Rattle.std.proofs.lemmas.Bool.{true≢false, and_from, eq-eqb}
use Rattle.std.proofs.lemmas.List.Sums.{fold-append}
use Rattle.std.proofs.lemmas.List.Quantifiers.{Any-push}
use Rattle.std.proofs.lemmas.List.Elements.{All-head, All-tail}
use Rattle.q4_value.specs.declared.row.Value.{Value}
use Rattle.q4_table.specs.declared.adding.Check.{Check}
use Rattle.q4_table.specs.declared.adding.Check.TheVariants as check
use Rattle.q4_table.specs.Adding.{check_of}
use Rattle.q4_machine.specs.declared.entry.Entry.{Entry}
use Rattle.q4_machine.specs.declared.entry.Call.{Call}
use Rattle.q4_machine.specs.declared.entry.Call.TheVariants.{Opened, Open, Insert, Look, End, Abort, RowId, Select, Close, Sync}
use Rattle.q4_machine.specs.declared.session.SessionMode.{SessionMode}
use Rattle.q4_machine.specs.declared.session.SessionMode.TheVariants.{NonOwner, Empty, Owner}
use Rattle.q4_machine.specs.declared.session.OpenSession.{OpenSession}
use Rattle.q4_machine.specs.Machine.{MachineState, table_at, mode_of, session_in, in_mode, with_mode, without_session}
use Rattle.q4_machine.specs.Pick.{Picked, pick}
use Rattle.q4_machine.specs.Step.{step, inserted, looked, ended, aborted, closed}
use Rattle.q4_machine.specs.History.{nothing, advance, state_after, opens_session, opener, IsNext, is_change, IsSettled, SyncsAreOwed, IsLegal}

pub cons_head : {X : Type 0} {x y : X} {xs ys : List X} → x ∷ xs ≡ y ∷ ys → x ≡ y
cons_head {X = X} {x = x} is = ap (λ l. first_or l) is where
  first_or : List X → X
  first_or [] = x
  first_or (z ∷ zs) = z

pub cons_tail : {X : Type 0} {x y : X} {xs ys : List X} → x ∷ xs ≡ y ∷ ys → xs ≡ ys
cons_tail is = ap (drop 1) is

pub nil_long : {X : Type 0} (before : List X) (e : X) (later : List X) → [] ≡ before ++ e ∷ later → ⊥
nil_long [] e later is = cc is
nil_long (b ∷ before) e later is = cc is

-- where a list with one more element is cut
pub split_push : {X : Type 0} (xs : List X) (x : X) (before : List X) (e : X) (later : List X) → xs ++ x ∷ [] ≡ before ++ e ∷ later
    → ((before ≡ xs) × (e ≡ x) × (later ≡ [])) ⊎ ((l : List X) × (xs ≡ before ++ e ∷ l) × (later ≡ l ++ x ∷ []))
split_push [] x [] e later is = inl (refl, sym (cons_head is), sym (cons_tail is))
split_push [] x (b ∷ before) e later is = absurd (nil_long before e later (cons_tail is))
split_push (y ∷ xs) x [] e later is = inr (xs, ap (λ z. z ∷ xs) (cons_head is), sym (cons_tail is))
split_push {X = X} (y ∷ xs) x (b ∷ before) e later is =
    elim (split_push xs x before e later (cons_tail is)) [
      | inl same ↦ inl (ap (λ z. z ∷ before) (sym (cons_head is)) ∙ ap (λ zs. y ∷ zs) same.0, same.1, same.2)
      | inr cut ↦ inr (cut.0, ap (λ z. z ∷ xs) (cons_head is) ∙ ap (λ zs. b ∷ zs) cut.1, cut.2)
    ]

pub state_push : (history : List Entry) (e : Entry) → state_after (history ++ e ∷ []) ≡ advance (state_after history) e
state_push history e = fold-append advance nothing history (e ∷ [])

-- ## Legal histories are few entries and sessions

moved_length : (session : ℕ) (mode : SessionMode) (sessions : List OpenSession) → length (with_mode session mode sessions) ≡ length sessions
moved_length session mode sessions = length-map sessions (in_mode session mode)

ended_sessions : (m : MachineState) (s : ℕ) (o : Option SessionMode) → length (ended m s o).0.sessions ≡ length m.sessions
ended_sessions m s (Some NonOwner) = refl
ended_sessions m s (Some Empty) = moved_length s NonOwner m.sessions
ended_sessions m s (Some (Owner t n)) = moved_length s NonOwner m.sessions
ended_sessions m s None = refl

aborted_sessions : (m : MachineState) (s : ℕ) (o : Option SessionMode) → length (aborted m s o).0.sessions ≡ length m.sessions
aborted_sessions m s (Some NonOwner) = refl
aborted_sessions m s (Some Empty) = moved_length s NonOwner m.sessions
aborted_sessions m s (Some (Owner t n)) = moved_length s NonOwner m.sessions
aborted_sessions m s None = refl

left_sessions : (s : ℕ) (sessions : List OpenSession) → length (without_session s sessions) ≤ length sessions
left_sessions s [] = omega arith
left_sessions s (x ∷ xs) =
    let rest = left_sessions s xs in
    elim (x.session == s) as (λ b. length (cond (not b) (x ∷ without_session s xs) (without_session s xs)) ≤ length (x ∷ xs)) [ true ↦ omega (arith, rest) | false ↦ omega (arith, rest) ]

closed_sessions : (m : MachineState) (s : ℕ) (o : Option SessionMode) → length (closed m s o).0.sessions ≤ length m.sessions + 1
closed_sessions m s (Some NonOwner) = let e = left_sessions s m.sessions in omega (arith, e)
closed_sessions m s (Some Empty) = let e = left_sessions s m.sessions in omega (arith, e)
closed_sessions m s (Some (Owner t n)) = let e = left_sessions s m.sessions in omega (arith, e)
closed_sessions m s None = omega arith

looked_sessions : (m : MachineState) (s : ℕ) (o : Option Picked) → length (looked m s o).0.sessions ≡ length m.sessions
looked_sessions m s (Some p) = moved_length s (Owner p.table p.number) m.sessions
looked_sessions m s None = moved_length s Empty m.sessions

inserted_sessions : (m : MachineState) (t : ℕ) (row : List Value) (c : Check) → length (inserted m t row c).0.sessions ≡ length m.sessions
inserted_sessions m t row check.New = refl
inserted_sessions m t row (check.Seen mark) = refl
inserted_sessions m t row check.Spent = refl
inserted_sessions m t row check.Rows = refl
inserted_sessions m t row (check.Bytes sum) = refl

step_sessions : (m : MachineState) (s : ℕ) (call : Call) → length (step m s call).0.sessions ≤ length m.sessions + 1
step_sessions m s (Opened tables) = omega arith
step_sessions m s Open = let e = length-append m.sessions (record { session = m.next_session; mode = NonOwner } ∷ []) in omega (arith, e)
step_sessions m s (Insert place row) = let e = inserted_sessions m place row (check_of (table_at m.tables place) row None) in omega (arith, e)
step_sessions m s (Look list) = let e = looked_sessions m s (pick m list) in omega (arith, e)
step_sessions m s End = let e = ended_sessions m s (mode_of m s) in omega (arith, e)
step_sessions m s Abort = let e = aborted_sessions m s (mode_of m s) in omega (arith, e)
step_sessions m s RowId = omega arith
step_sessions m s (Select place most) = omega arith
step_sessions m s Close = closed_sessions m s (mode_of m s)
step_sessions m s Sync = omega arith

fold_sessions : (m : MachineState) (history : List Entry) → length (fold advance m history).sessions ≤ length m.sessions + length history
fold_sessions m [] = omega arith
fold_sessions m (e ∷ es) =
    let one = step_sessions m e.session e.call in
    let rest = fold_sessions (advance m e) es in
    omega (arith, one, rest)

pub few_sessions : (history : List Entry) → length (state_after history).sessions ≤ length history
few_sessions history = let h = fold_sessions nothing history in omega (arith, h)

-- ## How many sessions are open

-- the call neither opens nor closes a session
abbrev pub keeps_sessions : Call → Bool
keeps_sessions (Opened tables) = false
keeps_sessions Open = false
keeps_sessions Close = false
keeps_sessions _ = true

step_keeps : (m : MachineState) (s : ℕ) (call : Call) → keeps_sessions call ≡ true → length (step m s call).0.sessions ≡ length m.sessions
step_keeps m s (Opened tables) keeps = absurd (true≢false (sym keeps))
step_keeps m s Open keeps = absurd (true≢false (sym keeps))
step_keeps m s (Insert place row) keeps = inserted_sessions m place row (check_of (table_at m.tables place) row None)
step_keeps m s (Look list) keeps = looked_sessions m s (pick m list)
step_keeps m s End keeps = ended_sessions m s (mode_of m s)
step_keeps m s Abort keeps = aborted_sessions m s (mode_of m s)
step_keeps m s RowId keeps = refl
step_keeps m s (Select place most) keeps = refl
step_keeps m s Close keeps = absurd (true≢false (sym keeps))
step_keeps m s Sync keeps = refl

pub sessions_push : (history : List Entry) (e : Entry) → keeps_sessions e.call ≡ true → length (state_after (history ++ e ∷ [])).sessions ≡ length (state_after history).sessions
sessions_push history e keeps = ap (λ (m : MachineState). length m.sessions) (state_push history e) ∙ step_keeps (state_after history) e.session e.call keeps

pub sessions_opened : (history : List Entry) (e : Entry) → e.call ≡ Open → length (state_after (history ++ e ∷ [])).sessions ≡ length (state_after history).sessions + 1
sessions_opened history e opens =
    let m = state_after history in
    let same : state_after (history ++ e ∷ []) ≡ (step m e.session Open).0 = state_push history e ∙ ap (λ c. (step m e.session c).0) opens in
    let size : length (m.sessions ++ record { session = m.next_session; mode = NonOwner } ∷ []) ≡ length m.sessions + 1 = length-append m.sessions (record { session = m.next_session; mode = NonOwner } ∷ []) in
    ap (λ (x : MachineState). length x.sessions) same ∙ size

-- without a session that is there, there is one less
fewer_step : (s : ℕ) (x : OpenSession) (xs : List OpenSession) (b : Bool) → (x.session == s) ≡ b → cond b (Some x) (find (λ (y : OpenSession). y.session == s) xs) ≢ None
    → (find (λ (y : OpenSession). y.session == s) xs ≢ None → length (without_session s xs) + 1 ≤ length xs) → length (cond (not b) (x ∷ without_session s xs) (without_session s xs)) + 1 ≤ length (x ∷ xs)
fewer_step s x xs true is there later = let rest = left_sessions s xs in omega (arith, rest)
fewer_step s x xs false is there later = let rest = later there in omega (arith, rest)

fewer_sessions : (s : ℕ) (sessions : List OpenSession) → session_in sessions s ≢ None → length (without_session s sessions) + 1 ≤ length sessions
fewer_sessions s [] there = absurd (there refl)
fewer_sessions s (x ∷ xs) there = fewer_step s x xs (x.session == s) refl there (fewer_sessions s xs)

closed_fewer : (m : MachineState) (s : ℕ) (o : Option SessionMode) → mode_of m s ≡ o → o ≢ None → session_in m.sessions s ≢ None → length (closed m s o).0.sessions + 1 ≤ length m.sessions
closed_fewer m s (Some NonOwner) is some there = fewer_sessions s m.sessions there
closed_fewer m s (Some Empty) is some there = fewer_sessions s m.sessions there
closed_fewer m s (Some (Owner t n)) is some there = fewer_sessions s m.sessions there
closed_fewer m s None is some there = absurd (some refl)

pub sessions_closed : (history : List Entry) (e : Entry) → e.call ≡ Close → mode_of (state_after history) e.session ≢ None → length (state_after (history ++ e ∷ [])).sessions + 1 ≤ length (state_after history).sessions
sessions_closed history e closes there =
    let m = state_after history in
    let same : state_after (history ++ e ∷ []) ≡ (step m e.session Close).0 = state_push history e ∙ ap (λ c. (step m e.session c).0) closes in
    subst (λ (x : MachineState). length x.sessions + 1 ≤ length m.sessions) (sym same) (closed_fewer m e.session (mode_of m e.session) refl there (λ none. there (ap (option_map (λ (x : OpenSession). x.mode)) none)))

-- ## One more entry

any_more : {X : Type 0} (P : X → Type 0) (xs ys : List X) → Any P xs → Any P (xs ++ ys)
any_more P xs ys some =
    let size = length-append xs ys in
    (some.0, some.1, omega (arith, size, some.2), get_or-append xs ys some.1 some.0 some.2 ∙ some.3, some.4)

pub legal_push : (history : List Entry) (e : Entry) → IsLegal history → IsNext history e → length history + 1 < 2 ^ 61 → IsLegal (history ++ e ∷ [])
legal_push history e legal next few =
    let size : length (history ++ e ∷ []) ≡ length history + 1 = length-append history (e ∷ []) in
    let sessions = few_sessions (history ++ e ∷ []) in
    record {
      opening = legal.opening;
      rest = legal.rest ++ e ∷ [];
      whole = ap (λ h. h ++ e ∷ []) legal.whole;
      opens = legal.opens;
      each = λ before x later is. elim (split_push legal.rest e before x later is) [
        | inl same ↦ subst (λ b. IsNext (legal.opening ∷ b) x) (sym same.0) (subst (λ y. IsNext (legal.opening ∷ legal.rest) y) (sym same.1) (subst (λ h. IsNext h e) legal.whole next))
        | inr cut ↦ legal.each before x cut.0 cut.1
      ];
      few = omega (arith, size, sessions, few);
      few_owing = λ _. omega (arith, size, sessions, few);
    }

-- an entry that is no change leaves all settled
pub settled_push : (history : List Entry) (e : Entry) → ((place : ℕ) → IsSettled history place) → is_change (state_after history) e.call e.session e.reply ≡ false → (place : ℕ) → IsSettled (history ++ e ∷ []) place
settled_push history e settled calm place before x later is within change = elim (split_push history e before x later is) [
  | inl same ↦
      let here : is_change (state_after history) e.call e.session e.reply ≡ true =
      subst (λ b. is_change (state_after b) e.call e.session e.reply ≡ true) same.0 (subst (λ (y : Entry). is_change (state_after before) y.call y.session y.reply ≡ true) same.1 change) in
      absurd (true≢false (sym here ∙ calm))
  | inr cut ↦
      let old = settled (length before) before x cut.0 cut.1 (omega arith) change in
      subst (Any (λ (y : Entry). y.call ≡ Sync)) (sym cut.2) (any_more (λ (y : Entry). y.call ≡ Sync) cut.0 (e ∷ []) old)
]

-- a sync at the end settles all
pub settled_by_sync : (history : List Entry) (e : Entry) → e.call ≡ Sync → (place : ℕ) → IsSettled (history ++ e ∷ []) place
settled_by_sync history e sync place before x later is within change = elim (split_push history e before x later is) [
  | inl same ↦
      let calm : is_change (state_after before) x.call x.session x.reply ≡ false = ap (λ (y : Entry). is_change (state_after before) y.call x.session x.reply) same.1 ∙ ap (λ c. is_change (state_after before) c x.session x.reply) sync in
      absurd (true≢false (sym change ∙ calm))
  | inr cut ↦ subst (Any (λ (y : Entry). y.call ≡ Sync)) (sym cut.2) (Any-push (λ (y : Entry). y.call ≡ Sync) cut.0 e sync)
]

any_none : {X : Type 0} (P : X → Type 0) → Any P [] → ⊥
any_none P some = omega (arith, some.2)

-- a change at the end is not settled
pub unsettled_push : (history : List Entry) (e : Entry) → is_change (state_after history) e.call e.session e.reply ≡ true → IsSettled (history ++ e ∷ []) (length (history ++ e ∷ [])) → ⊥
unsettled_push history e change settled =
    let size = length-append history (e ∷ []) in
    any_none (λ (x : Entry). x.call ≡ Sync) (settled history e [] refl (omega (arith, size)) change)

any_single : (e : Entry) → (e.call ≡ Sync → ⊥) → Any (λ (x : Entry). x.call ≡ Sync) (e ∷ []) → ⊥
any_single e other (zero, x, inside, is, sync) = other (ap (λ (y : Entry). y.call) is ∙ sync)
any_single e other (suc k, x, inside, is, sync) = omega (arith, inside)

-- nor with one more entry that is no sync
pub unsettled_more : (history : List Entry) (e next : Entry) → is_change (state_after history) e.call e.session e.reply ≡ true → (next.call ≡ Sync → ⊥)
    → IsSettled ((history ++ e ∷ []) ++ next ∷ []) (length ((history ++ e ∷ []) ++ next ∷ [])) → ⊥
unsettled_more history e next change other settled =
    let size2 = length-append (history ++ e ∷ []) (next ∷ []) in
    let size1 = length-append history (e ∷ []) in
    any_single next other (settled history e (next ∷ []) (append_assoc history (e ∷ []) (next ∷ [])) (omega (arith, size1, size2)) change)

-- one more entry, which is no sync or an owed one
pub owed_push : (history : List Entry) (e : Entry) → SyncsAreOwed history → (e.call ≡ Sync → IsSettled history (length history) → ⊥) → SyncsAreOwed (history ++ e ∷ [])
owed_push history e owed last before x later is sync settled = elim (split_push history e before x later is) [
  | inl same ↦
      let here : IsSettled history (length history) = subst (λ h. IsSettled h (length h)) same.0 settled in
      last (ap (λ (y : Entry). y.call) (sym same.1) ∙ sync) here
  | inr cut ↦ owed before x cut.0 cut.1 sync settled
]

-- ## Who opened a session

opener_step : (b : Bool) (k caller : ℕ) (old new : Option ℕ) → cond b (Some k) old ≡ Some caller → (old ≡ Some caller → new ≡ Some caller) → cond b (Some k) new ≡ Some caller
opener_step true k caller old new is later = is
opener_step false k caller old new is later = later is

-- who opened a session doesn't change
pub opener_more : (history more : List Entry) (s caller : ℕ) → opener history s ≡ Some caller → opener (history ++ more) s ≡ Some caller
opener_more [] more s caller is = cc is
opener_more (e ∷ es) more s caller is = opener_step (opens_session e.call && e.session == s) e.caller caller (opener es s) (opener (es ++ more) s) is (opener_more es more s caller)

either_zero : (b : Bool) (k : ℕ) (o : Option ℕ) → k ≡ 0 → o ≡ Some 0 → cond b (Some k) o ≡ Some 0
either_zero true k o is_zero later = ap Some is_zero
either_zero false k o is_zero later = later

-- a session that is opened now, in a history of caller 0
pub opener_now : (history : List Entry) (s : ℕ) (e : Entry) → All (λ (x : Entry). x.caller ≡ 0) history → e.caller ≡ 0 → opens_session e.call ≡ true → e.session ≡ s → opener (history ++ e ∷ []) s ≡ Some 0
opener_now [] s e by_zero caller opens is =
    let test : (opens_session e.call && e.session == s) ≡ true = and_from (opens_session e.call) (e.session == s) opens (eq-eqb e.session s is) in
    ap (λ (b : Bool). cond b (Some e.caller) None) test ∙ ap Some caller
opener_now (x ∷ xs) s e by_zero caller opens is =
    either_zero (opens_session x.call && x.session == s) x.caller (opener (xs ++ e ∷ []) s) (All-head (λ (y : Entry). y.caller ≡ 0) x xs by_zero) (opener_now xs s e (All-tail (λ (y : Entry). y.caller ≡ 0) x xs by_zero) caller opens is)
