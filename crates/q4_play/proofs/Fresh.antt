-- A session number is new where a session opens, and the entries of the session behind it are its opener's.
use Rattle.std.proofs.Common.{◌≡◌, ◌==◌, ◌<◌, ◌++◌, ◌∷◌, ◌∙◌, [], List, ℕ, Bool, true, false, cond, Option, Some, None, All, refl, sym, ap, subst, arith, append_assoc, append-nil}
use Rattle.std.proofs.lemmas.Bool.{true≢false, and_from, and_right, eq-eqb, ne_eqb}
use Rattle.std.proofs.lemmas.List.Elements.{All-head, All-tail, All-cons, All-nil, All-push, All-weaker}
use Rattle.q4_machine.specs.declared.session.SessionMode.{SessionMode}
use Rattle.q4_machine.specs.declared.session.SessionMode.TheVariants.{NonOwner}
use Rattle.q4_machine.specs.declared.entry.Entry.{Entry}
use Rattle.q4_machine.specs.declared.entry.Call.{Call}
use Rattle.q4_machine.specs.declared.entry.Call.TheVariants.{Opened, Open, Insert, Look, End, Abort, RowId, Select, Close, Sync}
use Rattle.q4_machine.specs.Machine.{MachineState, mode_of, IsSessionOpen}
use Rattle.q4_machine.specs.Step.{step, MayStep}
use Rattle.q4_machine.specs.Valid.{IsValid}
use Rattle.q4_machine.specs.History.{nothing, state_after, opens_session, opener, IsNext, IsLegal}
use Rattle.q4_machine.proofs.Histories.{cons_head, state_push}
use Rattle.q4_machine.proofs.Reached.{valid_reached}
use Rattle.q4_play.proofs.Placing.{some_is}
use Rattle.q4_play.proofs.Staying.{next_of}
use Rattle.q4_play.proofs.Gone.{next_stepped, open_below}

-- ## Lists

-- what holds of all, holds of those before a place
pub all_front : {X : Type 0} (P : X → Type 0) (xs ys : List X) → All P (xs ++ ys) → All P xs
all_front P [] ys all = All-nil P
all_front P (x ∷ xs) ys all = All-cons P x xs (All-head P x (xs ++ ys) all) (all_front P xs ys (All-tail P x (xs ++ ys) all))

-- and of those behind it
pub all_back : {X : Type 0} (P : X → Type 0) (xs ys : List X) → All P (xs ++ ys) → All P ys
all_back P [] ys all = all
all_back P (x ∷ xs) ys all = all_back P xs ys (All-tail P x (xs ++ ys) all)

-- and of the one at it
pub all_middle : {X : Type 0} (P : X → Type 0) (xs : List X) (x : X) (ys : List X) → All P (xs ++ x ∷ ys) → P x
all_middle P xs x ys all = All-head P x ys (all_back P xs (x ∷ ys) all)

-- what holds at each cut
pub all_by_cuts : {X : Type 0} (P : X → Type 0) (xs : List X) → ((before : List X) (x : X) (later : List X) → xs ≡ before ++ x ∷ later → P x) → All P xs
all_by_cuts P [] each = All-nil P
all_by_cuts {X = X} P (x ∷ xs) each = All-cons P x xs (each [] x xs refl) (all_by_cuts P xs (λ before y later is. each (x ∷ before) y later (ap (λ (zs : List X). x ∷ zs) is)))

-- ## The sessions of a history are below the next number

some_there : (o : Option SessionMode) (mode : SessionMode) → o ≡ Some mode → o ≡ None → ⊥
some_there o mode is none = different (sym is ∙ none) where
  different : Some mode ≡ None → ⊥
  different same = cc same

open_stepped : (m : MachineState) (s : ℕ) (call : Call) → IsValid m → MayStep m s call → IsSessionOpen m s → s < (step m s call).0.next_session
open_stepped m s call valid may there =
    let below = open_below m s valid there in
    let more = next_stepped m s call may in
    omega (arith, below, more)

-- a step's session is below the number that is next then
stepped_below : (m : MachineState) (s : ℕ) (call : Call) → IsValid m → MayStep m s call → s < (step m s call).0.next_session
stepped_below m s (Opened tables) valid may = absurd may
stepped_below m s Open valid may = omega (arith, may)
stepped_below m s (Insert t row) valid may = open_stepped m s (Insert t row) valid may may.0
stepped_below m s (Look list) valid may = open_stepped m s (Look list) valid may (some_there (mode_of m s) NonOwner may.0)
stepped_below m s End valid may = open_stepped m s End valid may may
stepped_below m s Abort valid may = open_stepped m s Abort valid may may
stepped_below m s RowId valid may = open_stepped m s RowId valid may may
stepped_below m s (Select t most) valid may = open_stepped m s (Select t most) valid may may.0
stepped_below m s Close valid may = open_stepped m s Close valid may may
stepped_below m s Sync valid may = open_stepped m s Sync valid may may

abbrev AreBelow : List Entry → Type 0
AreBelow history = All (λ (e : Entry). e.session < (state_after history).next_session) history

below_push : (history : List Entry) (e : Entry) → IsValid (state_after history) → IsNext history e → AreBelow history → AreBelow (history ++ e ∷ [])
below_push history e valid next below =
    let m = state_after history in
    let now : (state_after (history ++ e ∷ [])).next_session ≡ (step m e.session e.call).0.next_session = ap (λ (x : MachineState). x.next_session) (state_push history e) in
    let more = next_stepped m e.session e.call next.may in
    let here = stepped_below m e.session e.call valid next.may in
    let P = λ (x : Entry). x.session < (state_after (history ++ e ∷ [])).next_session in
    All-push P history e (All-weaker (λ (x : Entry). x.session < m.next_session) P (λ x was. omega (arith, was, more, now)) history below) (omega (arith, here, now))

below_walk : (history : List Entry) → IsLegal history → (b : Entry) (bs grown later : List Entry) → history ≡ b ∷ (bs ++ (grown ++ later)) → AreBelow (b ∷ bs) → AreBelow (b ∷ (bs ++ grown))
below_walk history legal b bs [] later is below = subst (λ (h : List Entry). AreBelow (b ∷ h)) (sym (append-nil bs)) below
below_walk history legal b bs (e ∷ es) later is below =
    let next : IsNext (b ∷ bs) e = next_of history legal b bs e (es ++ later) is in
    let valid : IsValid (state_after (b ∷ bs)) = valid_reached history legal (b ∷ bs) (e ∷ (es ++ later)) is (λ none. cc none) in
    subst (λ (h : List Entry). AreBelow (b ∷ h)) (append_assoc bs (e ∷ []) es)
    (below_walk history legal b (bs ++ e ∷ []) es later (is ∙ ap (λ (h : List Entry). b ∷ h) (sym (append_assoc bs (e ∷ []) (es ++ later)))) (below_push (b ∷ bs) e valid next below))

below_first : (history : List Entry) → IsLegal history → (b : Entry) (later : List Entry) → history ≡ b ∷ later → AreBelow (b ∷ [])
below_first history legal b later is =
    let same : legal.opening ≡ b = cons_head (sym legal.whole ∙ is) in
    let next : (state_after (b ∷ [])).next_session ≡ 1 = ap (λ (call : Call). (step nothing b.session call).0.next_session) (ap (λ (x : Entry). x.call) (sym same) ∙ legal.opens.call) in
    let zeroth : b.session ≡ 0 = ap (λ (x : Entry). x.session) (sym same) ∙ legal.opens.session in
    All-cons (λ (e : Entry). e.session < (state_after (b ∷ [])).next_session) b [] (omega (arith, next, zeroth)) (All-nil (λ (e : Entry). e.session < (state_after (b ∷ [])).next_session))

all_below : (history : List Entry) → IsLegal history → (b : Entry) (bs later : List Entry) → history ≡ b ∷ (bs ++ later) → AreBelow (b ∷ bs)
all_below history legal b bs later is = below_walk history legal b [] bs later is (below_first history legal b (bs ++ later) is)

-- ## An opening gives a number that no entry had

open_next : (m : MachineState) (s : ℕ) (call : Call) → MayStep m s call → opens_session call ≡ true → s ≡ m.next_session
open_next m s (Opened tables) may opens = absurd may
open_next m s Open may opens = may
open_next m s (Insert t row) may opens = cc opens
open_next m s (Look list) may opens = cc opens
open_next m s End may opens = cc opens
open_next m s Abort may opens = cc opens
open_next m s RowId may opens = cc opens
open_next m s (Select t most) may opens = cc opens
open_next m s Close may opens = cc opens
open_next m s Sync may opens = cc opens

-- The entries are of other sessions.
abbrev pub AreOthers : ℕ → List Entry → Type 0
AreOthers session entries = All (λ (e : Entry). e.session ≡ session → ⊥) entries

pub fresh : (history : List Entry) → IsLegal history → (before : List Entry) (e : Entry) (later : List Entry) → history ≡ before ++ e ∷ later → opens_session e.call ≡ true → AreOthers e.session before
fresh history legal [] e later is opens = All-nil (λ (x : Entry). x.session ≡ e.session → ⊥)
fresh history legal (b ∷ bs) e later is opens =
    let next : IsNext (b ∷ bs) e = next_of history legal b bs e later is in
    let m = state_after (b ∷ bs) in
    let here : e.session ≡ m.next_session = open_next m e.session e.call next.may opens in
    All-weaker (λ (x : Entry). x.session < m.next_session) (λ (x : Entry). x.session ≡ e.session → ⊥) (λ x was same. omega (arith, was, same, here)) (b ∷ bs) (all_below history legal b bs (e ∷ later) is)

-- ## Behind an opening

-- who opened a session that no entry had before
opener_here : (before : List Entry) (e : Entry) (later : List Entry) (s : ℕ) → AreOthers s before → opens_session e.call ≡ true → e.session ≡ s → opener (before ++ e ∷ later) s ≡ Some e.caller
opener_here [] e later s others opens is = ap (λ (b : Bool). cond b (Some e.caller) (opener later s)) (and_from (opens_session e.call) (e.session == s) opens (eq-eqb e.session s is))
opener_here (b ∷ bs) e later s others opens is =
    ap (λ (x : Bool). cond x (Some b.caller) (opener (bs ++ e ∷ later) s)) (and_right (opens_session b.call) (b.session == s) (ne_eqb b.session s (All-head (λ (x : Entry). x.session ≡ s → ⊥) b bs others)))
    ∙ opener_here bs e later s (All-tail (λ (x : Entry). x.session ≡ s → ⊥) b bs others) opens is

next_behind : (history : List Entry) → IsLegal history → (before : List Entry) (o : Entry) (mid : List Entry) (e : Entry) (later : List Entry) → history ≡ (before ++ o ∷ mid) ++ e ∷ later → IsNext (before ++ o ∷ mid) e
next_behind history legal [] o mid e later is = next_of history legal o mid e later is
next_behind history legal (b ∷ bs) o mid e later is = next_of history legal b (bs ++ o ∷ mid) e later is

-- an entry of the session: its caller is the one who opened it, and it opens none
pub record IsOwn (caller session : ℕ) (e : Entry) : Type 0 where
  pub by : e.session ≡ session → e.caller ≡ caller
  pub no_open : e.session ≡ session → opens_session e.call ≡ true → ⊥

own_entry : (history : List Entry) → IsLegal history → (before : List Entry) (o : Entry) (mid : List Entry) (e : Entry) (later : List Entry) → history ≡ (before ++ o ∷ mid) ++ e ∷ later → opens_session o.call ≡ true
    → AreOthers o.session before → (b : Bool) → opens_session e.call ≡ b → IsOwn o.caller o.session e
own_entry history legal before o mid e later is opens others true also =
    let different : e.session ≡ o.session → ⊥ = λ same. all_middle (λ (x : Entry). x.session ≡ e.session → ⊥) before o mid (fresh history legal (before ++ o ∷ mid) e later is also) (sym same) in
    record { by = λ same. absurd (different same); no_open = λ same _. different same }
own_entry history legal before o mid e later is opens others false also =
    let next : IsNext (before ++ o ∷ mid) e = next_behind history legal before o mid e later is in
    record {
      by = λ same. some_is e.caller o.caller (sym (next.caller also) ∙ ap (opener (before ++ o ∷ mid)) same ∙ opener_here before o mid o.session others opens refl);
      no_open = λ same open_now. true≢false (sym open_now ∙ also);
    }

-- the entries behind an opening
pub own_behind : (history : List Entry) → IsLegal history → (before : List Entry) (o : Entry) (later : List Entry) → history ≡ before ++ o ∷ later → opens_session o.call ≡ true → All (IsOwn o.caller o.session) later
own_behind history legal before o later is opens = all_by_cuts (IsOwn o.caller o.session) later (λ mid e rest cut.
    own_entry history legal before o mid e rest (is ∙ ap (λ (h : List Entry). before ++ o ∷ h) cut ∙ sym (append_assoc before (o ∷ mid) (e ∷ rest))) opens (fresh history legal before o later is opens) (opens_session e.call) refl)
