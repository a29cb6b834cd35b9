-- Each step leads from a valid machine to a valid one.
use Rattle.std.proofs.Common.{◌≡◌, ◌≢◌, ◌==◌, ◌∙◌, ◌⊎◌, List, ℕ, Bool, true, false, cond, Option, Some, None, refl, sym, ap, inl, inr}
use Rattle.std.specs.Option.{option_map}
use Rattle.std.specs.Prelude.{option_and_then}
use Rattle.std.proofs.lemmas.Bool.{ne_eqb, eq-eqb, cases_eq}
use Rattle.q4_machine.specs.declared.session.SessionMode.{SessionMode}
use Rattle.q4_machine.specs.declared.session.SessionMode.TheVariants.{NonOwner, Empty, Owner}
use Rattle.q4_machine.specs.declared.session.OpenSession.{OpenSession}
use Rattle.q4_table.specs.declared.rows.StoredRow.{StoredRow}
use Rattle.q4_table.specs.Rows.{row_in, owned_by, with_owner}
use Rattle.q4_machine.specs.Machine.{session_in, in_mode, with_mode}
use Rattle.q4_table.proofs.Lookup.{found, found_key, some_of, found-map}

-- ## Modes and owners that agree, as functions of a session and of a row

pub record Agrees (mode : ℕ → Option SessionMode) (owner : ℕ → ℕ → Option ℕ) : Type 0 where
  pub owns : (s t n : ℕ) → mode s ≡ Some (Owner t n) → owner t n ≡ Some s
  pub owned : (s t n : ℕ) → owner t n ≡ Some s → mode s ≡ Some (Owner t n)

abbrev pub OwnsNothing : Option SessionMode → Type 0
OwnsNothing o = (t n : ℕ) → o ≡ Some (Owner t n) → ⊥

-- A session that owns nothing goes to another such mode, or comes, or goes.
pub agrees_quiet : (mode mode' : ℕ → Option SessionMode) (owner owner' : ℕ → ℕ → Option ℕ) (s : ℕ) → Agrees mode owner
    → ((t n : ℕ) → owner' t n ≡ owner t n) → ((j : ℕ) → j ≢ s → mode' j ≡ mode j) → OwnsNothing (mode s) → OwnsNothing (mode' s) → Agrees mode' owner'
agrees_quiet mode mode' owner owner' s agree same others before after = record {
  owns = λ j t n is. elim (cases_eq j s) [
    | inl here ↦ absurd (after t n (ap mode' (sym here) ∙ is))
    | inr other ↦ same t n ∙ agree.owns j t n (sym (others j other) ∙ is)
  ];
  owned = λ j t n is. elim (cases_eq j s) [
    | inl here ↦ absurd (before t n (ap mode (sym here) ∙ agree.owned j t n (sym (same t n) ∙ is)))
    | inr other ↦ others j other ∙ agree.owned j t n (sym (same t n) ∙ is)
  ];
}

pub none_some : {X : Type 0} (x : X) → None ≡ Some x → ⊥
none_some x is = cc is

owner_place : (t n q k : ℕ) → Some (Owner t n) ≡ Some (Owner q k) → t ≡ q
owner_place t n q k is = ap (λ o. place_of o) is where
  place_of : Option SessionMode → ℕ
  place_of (Some (Owner a b)) = a
  place_of (Some NonOwner) = 0
  place_of (Some Empty) = 0
  place_of None = 0

owner_number : (t n q k : ℕ) → Some (Owner t n) ≡ Some (Owner q k) → n ≡ k
owner_number t n q k is = ap (λ o. number_of o) is where
  number_of : Option SessionMode → ℕ
  number_of (Some (Owner a b)) = b
  number_of (Some NonOwner) = 0
  number_of (Some Empty) = 0
  number_of None = 0

same_row : (t n q k : ℕ) → ((q ≡ t) × (k ≡ n)) ⊎ (q ≡ t → k ≡ n → ⊥)
same_row t n q k = elim (cases_eq q t) [
  | inl here ↦ elim (cases_eq k n) [ inl number ↦ inl (here, number) | inr other ↦ inr (λ a b. other b) ]
  | inr other ↦ inr (λ a b. other a)
]

along : (owner : ℕ → ℕ → Option ℕ) (t n q k : ℕ) → q ≡ t → k ≡ n → owner q k ≡ owner t n
along owner t n q k here number = ap (λ x. owner x k) here ∙ ap (λ x. owner t x) number

-- A session that owns nothing takes a row that nobody owns.
pub agrees_take : (mode mode' : ℕ → Option SessionMode) (owner owner' : ℕ → ℕ → Option ℕ) (s t n : ℕ) → Agrees mode owner
    → OwnsNothing (mode s) → owner t n ≡ None → owner' t n ≡ Some s → ((q k : ℕ) → (q ≡ t → k ≡ n → ⊥) → owner' q k ≡ owner q k)
    → mode' s ≡ Some (Owner t n) → ((j : ℕ) → j ≢ s → mode' j ≡ mode j) → Agrees mode' owner'
agrees_take mode mode' owner owner' s t n agree before free taken rows took others = record {
  owns = λ j q k is. elim (cases_eq j s) [
    | inl here ↦
        let e : Some (Owner t n) ≡ Some (Owner q k) = sym took ∙ ap mode' (sym here) ∙ is in
        along owner' t n q k (sym (owner_place t n q k e)) (sym (owner_number t n q k e)) ∙ taken ∙ ap Some (sym here)
    | inr other ↦
        let owner_is : owner q k ≡ Some j = agree.owns j q k (sym (others j other) ∙ is) in
        rows q k (λ a b. none_some j (sym free ∙ sym (along owner t n q k a b) ∙ owner_is)) ∙ owner_is
  ];
  owned = λ j q k is. elim (same_row t n q k) [
    | inl here ↦
        let e : Some j ≡ Some s = sym is ∙ along owner' t n q k here.0 here.1 ∙ taken in
        let session : j ≡ s = some_of j s e in
        ap mode' session ∙ took ∙ ap (λ x. Some (Owner x n)) (sym here.0) ∙ ap (λ x. Some (Owner q x)) (sym here.1)
    | inr other ↦
        let mode_is : mode j ≡ Some (Owner q k) = agree.owned j q k (sym (rows q k other) ∙ is) in
        others j (λ here. before q k (ap mode (sym here) ∙ mode_is)) ∙ mode_is
  ];
}

-- A session leaves the row that it owns, which has no owner then.
pub agrees_leave : (mode mode' : ℕ → Option SessionMode) (owner owner' : ℕ → ℕ → Option ℕ) (s t n : ℕ) → Agrees mode owner
    → mode s ≡ Some (Owner t n) → owner' t n ≡ None → ((q k : ℕ) → (q ≡ t → k ≡ n → ⊥) → owner' q k ≡ owner q k)
    → OwnsNothing (mode' s) → ((j : ℕ) → j ≢ s → mode' j ≡ mode j) → Agrees mode' owner'
agrees_leave mode mode' owner owner' s t n agree had gone rows after others = record {
  owns = λ j q k is. elim (cases_eq j s) [
    | inl here ↦ absurd (after q k (ap mode' (sym here) ∙ is))
    | inr other ↦
        let owner_is : owner q k ≡ Some j = agree.owns j q k (sym (others j other) ∙ is) in
        rows q k (λ a b. other (some_of j s (sym owner_is ∙ along owner t n q k a b ∙ agree.owns s t n had))) ∙ owner_is
  ];
  owned = λ j q k is. elim (same_row t n q k) [
    | inl here ↦ absurd (none_some j (sym gone ∙ sym (along owner' t n q k here.0 here.1) ∙ is))
    | inr other ↦
        let mode_is : mode j ≡ Some (Owner q k) = agree.owned j q k (sym (rows q k other) ∙ is) in
        others j (λ here.
        let e : Some (Owner t n) ≡ Some (Owner q k) = sym had ∙ ap mode (sym here) ∙ mode_is in
        other (sym (owner_place t n q k e)) (sym (owner_number t n q k e))) ∙ mode_is
  ];
}

-- ## Rows and sessions after a change

pub keeps_session : (session : ℕ) (mode : SessionMode) (x : OpenSession) → (in_mode session mode x).session ≡ x.session
keeps_session session mode x = elim (x.session == session) as (λ b. (cond b (record { session = x.session; mode = mode }) x).session ≡ x.session) [ true ↦ refl | false ↦ refl ]

pub keeps_number : (number : ℕ) (owner : Option ℕ) (x : StoredRow) → (owned_by number owner x).number ≡ x.number
keeps_number number owner x = elim (x.number == number) as (λ b. (cond b (record { number = x.number; row = x.row; owner = owner }) x).number ≡ x.number) [ true ↦ refl | false ↦ refl ]

moved_mode : (session : ℕ) (mode : SessionMode) (sessions : List OpenSession) (o : Option OpenSession) → found (λ (s : OpenSession). s.session) session sessions ≡ o → o ≢ None
    → option_map (λ (s : OpenSession). s.mode) (option_map (in_mode session mode) o) ≡ Some mode
moved_mode session mode sessions None is there = absurd (there refl)
moved_mode session mode sessions (Some x) is there =
    let same : (x.session == session) ≡ true = eq-eqb x.session session (found_key (λ (s : OpenSession). s.session) session sessions x is) in
    ap (λ (b : Bool). Some (cond b (record { session = x.session; mode = mode }) x).mode) same

map_some : {X Y : Type 0} (f : X → Y) (o : Option X) → option_map f o ≢ None → o ≢ None
map_some f o there is = there (ap (option_map f) is)

-- the session has the mode that it was given
pub mode_given : (session : ℕ) (mode : SessionMode) (sessions : List OpenSession) → option_map (λ (s : OpenSession). s.mode) (session_in sessions session) ≢ None
    → option_map (λ (s : OpenSession). s.mode) (session_in (with_mode session mode sessions) session) ≡ Some mode
mode_given session mode sessions there =
    ap (option_map (λ (s : OpenSession). s.mode)) (found-map (λ (s : OpenSession). s.session) (in_mode session mode) (keeps_session session mode) session sessions)
    ∙ moved_mode session mode sessions (session_in sessions session) refl (map_some (λ (s : OpenSession). s.mode) (session_in sessions session) there)

kept_mode : (session k : ℕ) (mode : SessionMode) (sessions : List OpenSession) (o : Option OpenSession) → found (λ (s : OpenSession). s.session) k sessions ≡ o → k ≢ session
    → option_map (λ (s : OpenSession). s.mode) (option_map (in_mode session mode) o) ≡ option_map (λ (s : OpenSession). s.mode) o
kept_mode session k mode sessions None is other = refl
kept_mode session k mode sessions (Some x) is other =
    let differs : (x.session == session) ≡ false = ne_eqb x.session session (λ e. other (sym (found_key (λ (s : OpenSession). s.session) k sessions x is) ∙ e)) in
    ap (λ (b : Bool). Some (cond b (record { session = x.session; mode = mode }) x).mode) differs

-- other sessions keep their modes
pub mode_other : (session k : ℕ) (mode : SessionMode) (sessions : List OpenSession) → k ≢ session
    → option_map (λ (s : OpenSession). s.mode) (session_in (with_mode session mode sessions) k) ≡ option_map (λ (s : OpenSession). s.mode) (session_in sessions k)
mode_other session k mode sessions other =
    ap (option_map (λ (s : OpenSession). s.mode)) (found-map (λ (s : OpenSession). s.session) (in_mode session mode) (keeps_session session mode) k sessions)
    ∙ kept_mode session k mode sessions (session_in sessions k) refl other

given_row : (number : ℕ) (owner : Option ℕ) (rows : List StoredRow) (o : Option StoredRow) → found (λ (r : StoredRow). r.number) number rows ≡ o → o ≢ None
    → option_and_then (λ (r : StoredRow). r.owner) (option_map (owned_by number owner) o) ≡ owner
given_row number owner rows None is there = absurd (there refl)
given_row number owner rows (Some x) is there =
    let same : (x.number == number) ≡ true = eq-eqb x.number number (found_key (λ (r : StoredRow). r.number) number rows x is) in
    ap (λ (b : Bool). (cond b (record { number = x.number; row = x.row; owner = owner }) x).owner) same

-- a row that is there has the owner that it was given
pub owner_given : (number : ℕ) (owner : Option ℕ) (rows : List StoredRow) → row_in rows number ≢ None
    → option_and_then (λ (r : StoredRow). r.owner) (row_in (with_owner number owner rows) number) ≡ owner
owner_given number owner rows there =
    ap (option_and_then (λ (r : StoredRow). r.owner)) (found-map (λ (r : StoredRow). r.number) (owned_by number owner) (keeps_number number owner) number rows)
    ∙ given_row number owner rows (row_in rows number) refl there

kept_row : (number k : ℕ) (owner : Option ℕ) (rows : List StoredRow) (o : Option StoredRow) → found (λ (r : StoredRow). r.number) k rows ≡ o → k ≢ number
    → option_and_then (λ (r : StoredRow). r.owner) (option_map (owned_by number owner) o) ≡ option_and_then (λ (r : StoredRow). r.owner) o
kept_row number k owner rows None is other = refl
kept_row number k owner rows (Some x) is other =
    let differs : (x.number == number) ≡ false = ne_eqb x.number number (λ e. other (sym (found_key (λ (r : StoredRow). r.number) k rows x is) ∙ e)) in
    ap (λ (b : Bool). (cond b (record { number = x.number; row = x.row; owner = owner }) x).owner) differs

-- other rows keep their owners
pub owner_other : (number k : ℕ) (owner : Option ℕ) (rows : List StoredRow) → k ≢ number
    → option_and_then (λ (r : StoredRow). r.owner) (row_in (with_owner number owner rows) k) ≡ option_and_then (λ (r : StoredRow). r.owner) (row_in rows k)
owner_other number k owner rows other =
    ap (option_and_then (λ (r : StoredRow). r.owner)) (found-map (λ (r : StoredRow). r.number) (owned_by number owner) (keeps_number number owner) k rows)
    ∙ kept_row number k owner rows (row_in rows k) refl other
