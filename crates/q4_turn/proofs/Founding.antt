-- The two founding steps keep the rule: the slot is taken empty, and goes home with the value.
use Rattle.std.proofs.Common.{◌≡◌, ◌≢◌, ℕ, zero, suc, ◌+◌, ◌%◌, ◌^◌, ◌<◌, ◌≤◌, eqb, ne_eqb, Bool, true, false, true≢false, List, [], ◌∷◌, length, get_or, set, refl, sym, ap, ap₂, ◌∙◌, subst, inl, inr, ⊎_elim, arith}
use Rattle.std.specs.Prelude.{Option, Some, None}
use mathlib.Core.Option.{some, none, some-ne-none, some-injective}
use mathlib.Core.Option as maybe
use lib.ListN.{get_elem?}
use Rattle.atomic_table.specs.Table.{State, Me, step, opening, takes, gives, stepped, rest, put_back, Allows}
use Rattle.q4_turn.specs.declared.view.View.{View}
use Rattle.q4_turn.specs.Lists.{total, Every, one_if}
use Rattle.q4_turn.specs.Views.{times, claims, claimed, numbered, ticketed, held, live_parts, founding_view, founding_taken, first_view}
use Rattle.q4_turn.specs.Rules.{Fits, IsTurn, IsFounding, Keeps}
use Rattle.q4_turn.specs.Steps.{TellsOpening, TellsFirst}
use Rattle.q4_turn.proofs.Basics.{marked_all, set_same, starts_self, Every-weaker}

module _ {V E : Type 0} (stands : V → List E → Type 0) (mark : E → ℕ) (all : ℕ) where
  abbrev St : Type 0
  St = State (Option V) (View E)

  abbrev M : Type 0
  M = Me (Option V) (View E)

  pub starts : (bells : List ℕ) → Keeps stands mark all (opening (0 ∷ 0 ∷ 0 ∷ 1 ∷ bells) (None ∷ []) (founding_view all))
  starts bells = inl record { bells = bells; words = refl; one = inl (refl, refl) }

  -- the founding view stands alone
  not_yet : (s : St) (id : ℕ) (v : View E) → get_elem? s.views id ≡ some v → v.founding ≡ true → Keeps stands mark all s → IsFounding all s
  not_yet s id v at young k = ⊎_elim (λ (u : IsFounding all s). u) (λ (r : IsTurn stands mark all s). absurd (true≢false (sym young ∙ (r.each id v at).founded))) k

  alone : (x v : View E) (i : ℕ) → get_elem? (x ∷ []) i ≡ some v → (i ≡ 0) × (x ≡ v)
  alone x v zero e = (refl, some-injective x v e)
  alone x v (suc i) e = absurd (some-ne-none v (sym e))

  pub opens : (slots id : ℕ) (me : M) → me.0 ≡ founding_view all → me.1 ≡ [] → Allows (Keeps stands mark all) slots id me 0 (λ n. n) (TellsOpening (step slots 0 0 0 none) me)
  opens slots id me young bare s k _ at _ =
      let u = not_yet s id me.0 at (ap (λ (v : View E). v.founding) young) k in
      ⊎_elim
      (λ (h : (s.homes ≡ some None ∷ []) × (s.views ≡ founding_view all ∷ [])).
      let here = alone (founding_view all) me.0 id (subst (λ (l : List (View E)). get_elem? l id ≡ some me.0) h.1 at) in (
        record me.0 { holding = true },
        takes 0 None,
        ap (λ (l : List (maybe.Option (Option V))). get_elem? l 0) h.0,
        inl record {
          bells = u.bells;
          words = set_same s.words 0 0 ∙ u.words;
          one = inr (
            ap (λ (l : List (maybe.Option (Option V))). set l 0 none) h.0,
            ap₂ (λ (l : List (View E)) (i : ℕ). set l i (record me.0 { holding = true })) h.1 here.0 ∙ ap (λ (v : View E). record v { holding = true } ∷ []) young,
          );
        },
        (refl, ap (λ (l : List (ℕ × Option V)). (0, None) ∷ l) bare),
      ))
      (λ (h : (s.homes ≡ none ∷ []) × (s.views ≡ founding_taken all ∷ [])).
      let here = alone (founding_taken all) me.0 id (subst (λ (l : List (View E)). get_elem? l id ≡ some me.0) h.1 at) in
      absurd (true≢false (ap (λ (v : View E). v.holding) (here.1 ∙ young)))) u.one

  first_turn : (s : St) (y : V) (es : List E) (bells : List ℕ) → s.words ≡ 0 ∷ 0 ∷ length es ∷ 1 ∷ bells → s.homes ≡ some (Some y) ∷ [] → s.views ≡ first_view all es ∷ [] → length es ≡ 1 → 0 < all → stands y es → Every (λ e. mark e ≡ 0) es → IsTurn stands mark all s
  first_turn s y es bells words homes views one some_part fits mine =
      let b : View E = first_view all es in
      let is : (f : View E → ℕ) → total f s.views ≡ f b = λ f. ap (λ (l : List (View E)). total f l) views ∙ (omega arith) in
      let zeroth : times 0 (claims b) ≡ 1 = refl in
      let apart : (n : ℕ) → 0 ≢ n → numbered n b ≡ 0 = λ n ne. let a : one_if (eqb 0 n) ≡ 0 = ap one_if (ne_eqb 0 n ne) in omega arith in
      record {
        ticket = 0;
        serving = 0;
        made = 1;
        history = es;
        bells = bells;
        words = words;
        small = (omega arith, omega arith, omega arith, omega arith);
        waits = λ t le lt. absurd (omega arith);
        past = λ t lt. absurd (omega arith);
        future = λ t le. is (ticketed t);
        slot = inl (is held, (y, homes, fits));
        parts = is live_parts;
        each = λ id v at.
            let here = alone b v id (subst (λ (l : List (View E)). get_elem? l id ≡ some v) views at) in
            subst (Fits mark all 0 es) here.1 record {
              founded = refl;
              holding = λ h. absurd (true≢false (sym h));
              closing = λ h. absurd (true≢false (sym h));
              knows = λ _. record { part = some_part; seen = starts_self es; unmerged = (es, refl); exact = ((marked_all mark 0 es mine, marked_all mark 0 es mine), tt) };
            };
        below = λ n h. let e : n ≡ 0 = omega arith in is (numbered n) ∙ ap (λ (m : ℕ). numbered m b) e;
        above = λ n h. is (numbered n) ∙ apart n (λ e. omega arith);
        added = Every-weaker (λ e. mark e ≡ 0) (λ e. 0 < total (claimed (mark e)) s.views) (λ e h. subst (λ (n : ℕ). 0 < total (claimed n) s.views) (sym h) (let a = is (claimed 0) in omega arith)) es mine;
      }

  pub begins : (slots id : ℕ) (me : M) (y : V) (es : List E) → me.0 ≡ founding_taken all → me.1 ≡ (0, Some y) ∷ [] → length es ≡ 1 → 0 < all → stands y es → Every (λ e. mark e ≡ 0) es
      → Allows (Keeps stands mark all) slots id me 2 (λ n. (n + 1) % 2 ^ 64) (TellsFirst mark es (step slots 2 1 0 none) me)
  begins slots id me y es young has one some_part fits mine s k _ at _ =
      let u = not_yet s id me.0 at (ap (λ (v : View E). v.founding) young) k in
      let x : ℕ = get_or s.words 2 0 in
      let is : x ≡ 0 = ap (λ (l : List ℕ). get_or l 2 0) u.words in
      let next : (x + 1) % 18446744073709551616 ≡ length es = omega arith in
      let w : View E = first_view me.0.parts es in
      ⊎_elim
      (λ (h : (s.homes ≡ some None ∷ []) × (s.views ≡ founding_view all ∷ [])).
      let here = alone (founding_view all) me.0 id (subst (λ (l : List (View E)). get_elem? l id ≡ some me.0) h.1 at) in
      absurd (true≢false (sym (ap (λ (v : View E). v.holding) (here.1 ∙ young)))))
      (λ (h : (s.homes ≡ none ∷ []) × (s.views ≡ founding_taken all ∷ [])).
      let here = alone (founding_taken all) me.0 id (subst (λ (l : List (View E)). get_elem? l id ≡ some me.0) h.1 at) in (
        w,
        gives,
        tt,
        inr (first_turn (stepped s 2 ((x + 1) % 18446744073709551616) id me.1 w gives) y es u.bells
            (ap₂ (λ (l : List ℕ) (n : ℕ). set l 2 n) u.words next)
            (ap₂ (λ (l : List (maybe.Option (Option V))) (c : List (ℕ × Option V)). put_back l c) h.0 has)
            (ap₂ (λ (l : List (View E)) (i : ℕ). set l i w) h.1 here.0 ∙ ap (λ (v : View E). first_view v.parts es ∷ []) young)
            one some_part fits mine),
        (refl, ap (λ (c : List (ℕ × Option V)). rest c) has, record { lists = (marked_all mark 0 es mine, tt); once = λ n. few_of (eqb 0 n) }),
      )) u.one
    where
      few_of : (b : Bool) → one_if b + 0 ≤ 1
      few_of true = omega arith
      few_of false = omega arith
