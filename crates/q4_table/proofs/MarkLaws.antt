-- What a mark is after one was set.
use Rattle.std.proofs.Common.{◌≡◌, ◌≢◌, ◌==◌, ◌∷◌, ◌∙◌, [], List, ℕ, Bool, true, false, cond, Option, Some, None, filter, unwrap_or, refl, sym, ap, inl, inr, arith}
use Rattle.std.specs.Option.{option_map, option_or}
use Rattle.std.proofs.lemmas.Bool.{eq-eqb, ne_eqb, eqb-true, lt-ltb, le-ltb, cases_lt}
use Rattle.std.proofs.lemmas.List.Folds.{find-append}
use Rattle.q4_table.specs.declared.marks.Mark.{Mark}
use Rattle.q4_table.specs.Marks.{mark_of, with_mark}
use Rattle.q4_table.proofs.Lookup.{found, or_none}
use Rattle.q4_table.proofs.Marking.{source, lesser, greater}

kept_step : {X : Type 0} (key : X → ℕ) (p : X → Bool) (k : ℕ) (x : X) (xs : List X) (here passes : Bool) → (key x == k) ≡ here → p x ≡ passes → (here ≡ true → passes ≡ true) → found key k (filter p xs) ≡ found key k xs
    → found key k (cond passes (x ∷ filter p xs) (filter p xs)) ≡ cond here (Some x) (found key k xs)
kept_step key p k x xs here true is test pass later = ap (λ (b : Bool). cond b (Some x) (found key k (filter p xs))) is ∙ ap (λ o. cond here (Some x) o) later
kept_step key p k x xs true false is test pass later = let h : false ≡ true = pass refl in cc h
kept_step key p k x xs false false is test pass later = later

-- a filter that keeps the elements of a number keeps what is found by it
found_kept : {X : Type 0} (key : X → ℕ) (p : X → Bool) (k : ℕ) (xs : List X) → ((x : X) → key x ≡ k → p x ≡ true) → found key k (filter p xs) ≡ found key k xs
found_kept key p k [] keeps = refl
found_kept key p k (x ∷ xs) keeps = kept_step key p k x xs (key x == k) (p x) refl refl (λ is. keeps x (eqb-true (key x) k is)) (found_kept key p k xs keeps)

lost_step : {X : Type 0} (key : X → ℕ) (p : X → Bool) (k : ℕ) (x : X) (xs : List X) (here passes : Bool) → (key x == k) ≡ here → p x ≡ passes → (here ≡ true → passes ≡ false) → found key k (filter p xs) ≡ None
    → found key k (cond passes (x ∷ filter p xs) (filter p xs)) ≡ None
lost_step key p k x xs here false is test fail later = later
lost_step key p k x xs true true is test fail later = let h : true ≡ false = fail refl in cc h
lost_step key p k x xs false true is test fail later = ap (λ (b : Bool). cond b (Some x) (found key k (filter p xs))) is ∙ later

-- a filter that drops them finds none
found_lost : {X : Type 0} (key : X → ℕ) (p : X → Bool) (k : ℕ) (xs : List X) → ((x : X) → key x ≡ k → p x ≡ false) → found key k (filter p xs) ≡ None
found_lost key p k [] drops = refl
found_lost key p k (x ∷ xs) drops = lost_step key p k x xs (key x == k) (p x) refl refl (λ is. drops x (eqb-true (key x) k is)) (found_lost key p k xs drops)

abbrev number_of : Option Mark → ℕ
number_of o = unwrap_or (option_map (λ m. m.number) o) 0

-- what is found is found in front, or is the mark that was set, or is found behind
parted : (s n t : ℕ) (marks : List Mark) → found source t (with_mark s n marks) ≡ option_or (found source t (filter (lesser s) marks)) (cond (s == t) (Some (record { source = s; number = n })) (found source t (filter (greater s) marks)))
parted s n t marks = find-append (λ m. source m == t) (filter (lesser s) marks) (record { source = s; number = n } ∷ filter (greater s) marks)

pub mark-set : (marks : List Mark) (s n : ℕ) → mark_of (with_mark s n marks) s ≡ n
mark-set marks s n =
    let set : Mark = record { source = s; number = n } in
    let front = found_lost source (lesser s) s marks (λ m is. le-ltb m.source s (omega (arith, is))) in
    ap number_of (parted s n s marks ∙ (ap (λ o. option_or o (cond (s == s) (Some set) (found source s (filter (greater s) marks)))) front
    ∙ ap (λ (b : Bool). cond b (Some set) (found source s (filter (greater s) marks))) (eq-eqb s s refl)))

pub mark-others : (marks : List Mark) (s t n : ℕ) → t ≢ s → mark_of (with_mark s n marks) t ≡ mark_of marks t
mark-others marks s t n other =
    let set : Mark = record { source = s; number = n } in
    let front = found source t (filter (lesser s) marks) in
    let back = found source t (filter (greater s) marks) in
    let apart : (s == t) ≡ false = ne_eqb s t (λ is. other (sym is)) in
    let behind : found source t (with_mark s n marks) ≡ option_or front back = parted s n t marks ∙ ap (λ (b : Bool). option_or front (cond b (Some set) back)) apart in
    elim (cases_lt t s) [
      | inl low ↦
          let kept = found_kept source (lesser s) t marks (λ m is. lt-ltb m.source s (omega (arith, is, low))) in
          let lost = found_lost source (greater s) t marks (λ m is. le-ltb s m.source (omega (arith, is, low))) in
          ap number_of (behind ∙ (ap (option_or front) lost ∙ (or_none front ∙ kept)))
      | inr high ↦
          let lost = found_lost source (lesser s) t marks (λ m is. le-ltb m.source s (omega (arith, is, high))) in
          let kept = found_kept source (greater s) t marks (λ m is. lt-ltb s m.source (omega (arith, is, high, other))) in
          ap number_of (behind ∙ (ap (λ o. option_or o back) lost ∙ kept))
    ]
