-- The calls of one session among the entries of one caller, part for part.
use Rattle.std.proofs.Common.{◌≡◌, ◌==◌, ◌&&◌, ◌++◌, ◌∷◌, ◌∙◌, [], List, ℕ, Bool, true, false, cond, not, Option, Some, None, All, refl, sym, ap, subst}
use Rattle.std.proofs.lemmas.Bool.{true≢false, and_left, eq-eqb, ne_eqb}
use Rattle.std.proofs.lemmas.List.Elements.{All-head, All-tail, All-cons, All-nil, All-weaker, filter-append}
use Rattle.q4_machine.specs.declared.entry.Entry.{Entry}
use Rattle.q4_machine.specs.History.{is_sync}
use Rattle.q4_machine.specs.Parts.{of_caller, calls_of, OpensAt, IsClosed}
use Rattle.q4_machine.specs.Patience.{PatienceState}
use Rattle.q4_session.specs.Exchanges.{Client, Exchange, IsExchange}
use Rattle.q4_play.specs.Turns.{Closes}
use Rattle.q4_play.specs.Whole.{calls_in, opening_entry, closing_entry}
use Rattle.q4_play.proofs.Fresh.{AreOthers, IsOwn, all_middle}
use Rattle.q4_play.proofs.Speaking.{does_session}

-- the calls of a session among its caller's entries
abbrev pub own_calls : ℕ → ℕ → List Entry → List Entry
own_calls session caller history = calls_in session (of_caller caller history)

pub calls_append : (s : ℕ) (xs ys : List Entry) → calls_in s (xs ++ ys) ≡ calls_in s xs ++ calls_in s ys
calls_append s xs ys = filter-append (λ (e : Entry). e.session == s && not (is_sync e.call)) xs ys

pub own_append : (s c : ℕ) (xs ys : List Entry) → own_calls s c (xs ++ ys) ≡ own_calls s c xs ++ own_calls s c ys
own_append s c xs ys = ap (calls_in s) (filter-append (λ (e : Entry). e.caller == c) xs ys) ∙ calls_append s (of_caller c xs) (of_caller c ys)

-- ## Entries of other sessions

-- entries of other sessions are no calls of this one
pub calls_others : (s : ℕ) (xs : List Entry) → AreOthers s xs → calls_in s xs ≡ []
calls_others s [] others = refl
calls_others s (e ∷ es) others =
    ap (λ (b : Bool). cond b (e ∷ calls_in s es) (calls_in s es)) (and_left (e.session == s) (not (is_sync e.call)) (ne_eqb e.session s (All-head (λ (x : Entry). x.session ≡ s → ⊥) e es others)))
    ∙ calls_others s es (All-tail (λ (x : Entry). x.session ≡ s → ⊥) e es others)

pub own_none : (s c : ℕ) (xs : List Entry) → of_caller c xs ≡ [] → own_calls s c xs ≡ []
own_none s c xs none = ap (calls_in s) none

pub own_empty : (s c : ℕ) (xs : List Entry) → xs ≡ [] → own_calls s c xs ≡ []
own_empty s c xs none = ap (own_calls s c) none

-- the caller's entries are of another session
pub own_other : (s c k : ℕ) (xs : List Entry) → All (λ (e : Entry). e.session ≡ k) (of_caller c xs) → (k ≡ s → ⊥) → own_calls s c xs ≡ []
own_other s c k xs all other = calls_others s (of_caller c xs) (All-weaker (λ (e : Entry). e.session ≡ k) (λ (e : Entry). e.session ≡ s → ⊥) (λ e is same. other (sym is ∙ same)) (of_caller c xs) all)

-- ## Entries of the session

keep_step : (s c : ℕ) (e : Entry) (es : List Entry) (b : Bool) → (e.caller == c) ≡ b → (e.session ≡ s → e.caller ≡ c) → calls_in s es ≡ own_calls s c es
    → calls_in s (e ∷ es) ≡ calls_in s (cond b (e ∷ of_caller c es) (of_caller c es))
keep_step s c e es true is by rest = ap (λ (h : List Entry). cond (e.session == s && not (is_sync e.call)) (e ∷ h) h) rest
keep_step s c e es false is by rest =
    let other : (e.session == s) ≡ false = ne_eqb e.session s (λ same. true≢false (sym (eq-eqb e.caller c (by same)) ∙ is)) in
    ap (λ (b : Bool). cond b (e ∷ calls_in s es) (calls_in s es)) (and_left (e.session == s) (not (is_sync e.call)) other) ∙ rest

-- where the session's entries are the caller's, its calls are those among the caller's entries
pub calls_own : (s c : ℕ) (xs : List Entry) → All (IsOwn c s) xs → calls_in s xs ≡ own_calls s c xs
calls_own s c [] own = refl
calls_own s c (e ∷ es) own = keep_step s c e es (e.caller == c) refl (All-head (IsOwn c s) e es own).by (calls_own s c es (All-tail (IsOwn c s) e es own))

all_step : (s c : ℕ) (e : Entry) (es : List Entry) (b : Bool) → All (λ (x : Entry). x.session ≡ s) (cond b (e ∷ of_caller c es) (of_caller c es))
    → (All (λ (x : Entry). x.session ≡ s) (of_caller c es) → own_calls s c es ≡ calls_of c es) → calls_in s (cond b (e ∷ of_caller c es) (of_caller c es)) ≡ cond (b && not (is_sync e.call)) (e ∷ calls_of c es) (calls_of c es)
all_step s c e es true all rest =
    let here : (e.session == s) ≡ true = eq-eqb e.session s (All-head (λ (x : Entry). x.session ≡ s) e (of_caller c es) all) in
    ap (λ (b : Bool). cond (b && not (is_sync e.call)) (e ∷ own_calls s c es) (own_calls s c es)) here
    ∙ ap (λ (h : List Entry). cond (not (is_sync e.call)) (e ∷ h) h) (rest (All-tail (λ (x : Entry). x.session ≡ s) e (of_caller c es) all))
all_step s c e es false all rest = rest all

-- where the caller's entries are the session's, its calls are all the caller's calls
pub own_all : (s c : ℕ) (xs : List Entry) → All (λ (e : Entry). e.session ≡ s) (of_caller c xs) → own_calls s c xs ≡ calls_of c xs
own_all s c [] all = refl
own_all s c (e ∷ es) all = all_step s c e es (e.caller == c) all (own_all s c es)

-- ## Openings, closings and exchanges

-- the caller's one entry in an opening
pub opening_of : (limit : ℕ) (before grown : List Entry) (c s : ℕ) → OpensAt limit before grown c s → of_caller c grown ≡ opening_entry c s ∷ []
opening_of limit before grown c s opens =
    let e : Entry = opening_entry c s in
    ap (of_caller c) opens.cut
    ∙ filter-append (λ (x : Entry). x.caller == c) opens.front (e ∷ opens.back)
    ∙ ap (λ (h : List Entry). h ++ of_caller c (e ∷ opens.back)) opens.none_front
    ∙ ap (λ (b : Bool). cond b (e ∷ of_caller c opens.back) (of_caller c opens.back)) (eq-eqb c c refl)
    ∙ ap (λ (h : List Entry). e ∷ h) opens.none_back

-- the entries of another opening are of its session
pub opening_session : (limit : ℕ) (before grown : List Entry) (c s : ℕ) → OpensAt limit before grown c s → All (λ (e : Entry). e.session ≡ s) (of_caller c grown)
opening_session limit before grown c s opens =
    subst (All (λ (e : Entry). e.session ≡ s)) (sym (opening_of limit before grown c s opens)) (All-cons (λ (e : Entry). e.session ≡ s) (opening_entry c s) [] refl (All-nil (λ (e : Entry). e.session ≡ s)))

-- where a session opened once, another opening is of another
pub opening_other : (limit : ℕ) (before grown : List Entry) (c s k : ℕ) → OpensAt limit before grown c k → All (IsOwn c s) grown → k ≡ s → ⊥
opening_other limit before grown c s k opens own same =
    (all_middle (IsOwn c s) opens.front (opening_entry c k) opens.back (subst (All (IsOwn c s)) opens.cut own)).no_open same refl

pub own_closed : (s c : ℕ) (xs : List Entry) → IsClosed c s xs → own_calls s c xs ≡ closing_entry c s ∷ []
own_closed s c xs closed =
    ap (calls_in s) closed ∙ ap (λ (b : Bool). cond (b && true) (closing_entry c s ∷ []) []) (eq-eqb s s refl)

pub own_closed_other : (s c k : ℕ) (xs : List Entry) → IsClosed c k xs → (k ≡ s → ⊥) → own_calls s c xs ≡ []
own_closed_other s c k xs closed other =
    own_other s c k xs (subst (All (λ (e : Entry). e.session ≡ k)) (sym closed) (All-cons (λ (e : Entry). e.session ≡ k) (closing_entry c k) [] refl (All-nil (λ (e : Entry). e.session ≡ k)))) other

-- a label closes another session or none
pub closes_other : (s c : ℕ) (seat : Option ℕ) (xs : List Entry) → Closes c seat xs → (seat ≡ Some s → ⊥) → own_calls s c xs ≡ []
closes_other s c None xs none other = own_empty s c xs none
closes_other s c (Some k) xs closed other = own_closed_other s c k xs closed (λ same. other (ap Some same))

-- the entries of an exchange are of its session
pub exchange_session : (client : Client) (before : List Entry) (patience : PatienceState) (e : Exchange) → IsExchange client before patience e → All (λ (x : Entry). x.session ≡ client.session) (of_caller client.caller e.grown)
exchange_session client before patience e answers = does_session client before patience e answers.read answers.does
