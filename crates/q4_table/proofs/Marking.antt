-- Marks by rising source, and what setting one does.
use Rattle.std.proofs.Common.{◌≡◌, ◌≢◌, ◌<◌, ◌≤◌, ◌∷◌, ◌++◌, ◌∙◌, [], List, ℕ, zero, suc, Bool, true, false, cond, All, filter, length, set, get_or, refl, sym, ap, arith, is_ok, is_err}
use Rattle.std.specs.List.{insert}
use Rattle.std.specs.Prelude.{Result, Ok, Err, OnOk, OnErr, is_err}
use Rattle.std.specs.List.Sorted.{IsNonDecreasingBy}
use Rattle.std.specs.Prelude.{nat_lt}
use Rattle.std.proofs.lemmas.Bool.{lt-ltb, le-ltb, ltb-true}
use Rattle.std.proofs.lemmas.List.Elements.{All-cons, All-head, All-tail, All-append, All-filter, All-get_or, All-weaker, filter_passes}
use Rattle.q4_table.specs.declared.marks.Mark.{Mark}
use Rattle.q4_table.specs.Marks.{with_mark}
use Rattle.q4_table.specs.Place.{IsPlace}
use Rattle.q4_table.specs.Valid.{SourcesRise, IsMark, IsMarks}
use Rattle.q4_table.proofs.Places.{place_tail, place_later, place_first}

abbrev pub source : Mark → ℕ
source m = m.source

-- sources that rise do not fall
pub sources_order : (marks : List Mark) → SourcesRise marks → IsNonDecreasingBy source marks
sources_order [] rise i j d before inside = absurd (omega (arith, inside))
sources_order (m ∷ ms) rise zero zero d before inside = omega arith
sources_order (m ∷ ms) rise zero (suc j) d before inside =
    let above : m.source < source (get_or ms j d) = All-get_or (λ (n : Mark). m.source < n.source) ms j d (omega (arith, inside)) rise.0 in
    omega (arith, above)
sources_order (m ∷ ms) rise (suc i) zero d before inside = absurd (omega (arith, before))
sources_order (m ∷ ms) rise (suc i) (suc j) d before inside = sources_order ms rise.1 i j d (omega (arith, before)) (omega (arith, inside))

abbrev pub lesser : ℕ → Mark → Bool
lesser s m = nat_lt m.source s

abbrev pub greater : ℕ → Mark → Bool
greater s m = nat_lt s m.source

none_lesser : (s : ℕ) (marks : List Mark) → All (λ m. s ≤ m.source) marks → filter (lesser s) marks ≡ []
none_lesser s [] high = refl
none_lesser s (m ∷ ms) high =
    ap (λ (b : Bool). cond b (m ∷ filter (lesser s) ms) (filter (lesser s) ms)) (le-ltb m.source s (All-head (λ (n : Mark). s ≤ n.source) m ms high))
    ∙ none_lesser s ms (All-tail (λ (n : Mark). s ≤ n.source) m ms high)

all_greater : (s : ℕ) (marks : List Mark) → All (λ m. s < m.source) marks → filter (greater s) marks ≡ marks
all_greater s [] high = refl
all_greater s (m ∷ ms) high =
    ap (λ (b : Bool). cond b (m ∷ filter (greater s) ms) (filter (greater s) ms)) (lt-ltb s m.source (All-head (λ (n : Mark). s < n.source) m ms high))
    ∙ ap (λ ns. m ∷ ns) (all_greater s ms (All-tail (λ (n : Mark). s < n.source) m ms high))

-- the marks behind one are greater, so where it is not lesser they are greater too
above : (s : ℕ) (m : Mark) (ms : List Mark) → s ≤ m.source → All (λ n. m.source < n.source) ms → All (λ n. s < n.source) ms
above s m ms high behind = All-weaker (λ (n : Mark). m.source < n.source) (λ (n : Mark). s < n.source) (λ n later. let h : m.source < n.source = later in omega (arith, h, high)) ms behind

none_lesser_from : (s : ℕ) (m : Mark) (ms : List Mark) → s ≤ m.source → All (λ n. m.source < n.source) ms → filter (lesser s) (m ∷ ms) ≡ []
none_lesser_from s m ms high behind =
    none_lesser s (m ∷ ms) (All-cons (λ (n : Mark). s ≤ n.source) m ms high (All-weaker (λ (n : Mark). s < n.source) (λ (n : Mark). s ≤ n.source) (λ n later. let h : s < n.source = later in omega (arith, h)) ms (above s m ms high behind)))

abbrev mark : ℕ → ℕ → Mark
mark s n = record { source = s; number = n }

-- a mark that is lesser stays in front
lesser_first : (s n : ℕ) (m : Mark) (ms : List Mark) → m.source < s → with_mark s n (m ∷ ms) ≡ m ∷ with_mark s n ms
lesser_first s n m ms low =
    let front = filter (lesser s) ms in
    let back = filter (greater s) ms in
    ap (λ (b : Bool). cond b (m ∷ front) front ++ mark s n ∷ filter (greater s) (m ∷ ms)) (lt-ltb m.source s low)
    ∙ ap (λ (b : Bool). m ∷ (front ++ mark s n ∷ cond b (m ∷ back) back)) (le-ltb s m.source (omega (arith, low)))

-- where the source has a mark, that mark is replaced
pub mark-replaced : (s n i : ℕ) (marks : List Mark) (old : Mark) → SourcesRise marks → IsPlace source marks s i → i < length marks → old ≡ get_or marks i old → old.source ≡ s
    → set marks i (mark s n) ≡ with_mark s n marks
mark-replaced s n i [] old rise at inside is same = absurd (omega (arith, inside))
mark-replaced s n zero (m ∷ ms) old rise at inside is same =
    let here : m.source ≡ s = ap source (sym is) ∙ same in
    let high : s ≤ m.source = omega (arith, here) in
    let back = filter (greater s) ms in
    sym (ap (λ ns. ns ++ mark s n ∷ filter (greater s) (m ∷ ms)) (none_lesser_from s m ms high rise.0)
    ∙ (ap (λ (b : Bool). mark s n ∷ cond b (m ∷ back) back) (le-ltb s m.source (omega (arith, here))) ∙ ap (λ ns. mark s n ∷ ns) (all_greater s ms (above s m ms high rise.0))))
mark-replaced s n (suc i) (m ∷ ms) old rise at inside is same =
    ap (λ ns. m ∷ ns) (mark-replaced s n i ms old rise.1 (place_tail source m ms s i at) (omega (arith, inside)) is same) ∙ sym (lesser_first s n m ms (place_later source m ms s i at))

-- where it has none, the mark comes in at its place
pub mark-inserted : (s n i : ℕ) (marks : List Mark) → SourcesRise marks → IsPlace source marks s i → ((old : Mark) → i < length marks → old ≡ get_or marks i old → old.source ≢ s)
    → insert marks i (mark s n) ≡ with_mark s n marks
mark-inserted s n zero [] rise at other = refl
mark-inserted s n (suc i) [] rise at other = refl
mark-inserted s n zero (m ∷ ms) rise at other =
    let differs : m.source ≢ s = other m (omega arith) refl in
    let least : s ≤ m.source = place_first source m ms s at in
    let high : s < m.source = omega (arith, least, differs) in
    sym (ap (λ ns. ns ++ mark s n ∷ filter (greater s) (m ∷ ms)) (none_lesser_from s m ms least rise.0)
    ∙ ap (λ ns. mark s n ∷ ns) (all_greater s (m ∷ ms) (All-cons (λ (k : Mark). s < k.source) m ms high (above s m ms least rise.0))))
mark-inserted s n (suc i) (m ∷ ms) rise at other =
    ap (λ ns. m ∷ ns) (mark-inserted s n i ms rise.1 (place_tail source m ms s i at) (λ old inside is. other old (omega (arith, inside)) is)) ∙ sym (lesser_first s n m ms (place_later source m ms s i at))

rises-filter : (p : Mark → Bool) (marks : List Mark) → SourcesRise marks → SourcesRise (filter p marks)
rises-filter p [] rise = tt
rises-filter p (m ∷ ms) rise = elim (p m) as (λ b. SourcesRise (cond b (m ∷ filter p ms) (filter p ms))) [
  | true ↦ (All-filter p (λ (n : Mark). m.source < n.source) ms rise.0, rises-filter p ms rise.1)
  | false ↦ rises-filter p ms rise.1
]

rises-middle : (front back : List Mark) (m : Mark) → SourcesRise front → SourcesRise back → All (λ n. n.source < m.source) front → All (λ n. m.source < n.source) back → SourcesRise (front ++ m ∷ back)
rises-middle [] back m rise rise' low high = (high, rise')
rises-middle (k ∷ front) back m rise rise' low high =
    let here : k.source < m.source = All-head (λ (n : Mark). n.source < m.source) k front low in
    let behind = All-weaker (λ (n : Mark). m.source < n.source) (λ (n : Mark). k.source < n.source) (λ n later. let h : m.source < n.source = later in omega (arith, h, here)) back high in (
      All-append (λ (n : Mark). k.source < n.source) front (m ∷ back) rise.0 (All-cons (λ (n : Mark). k.source < n.source) m back here behind),
      rises-middle front back m rise.1 rise' (All-tail (λ (n : Mark). n.source < m.source) k front low) high,
    )

-- setting a mark leaves marks
pub marks-with : (s n : ℕ) (marks : List Mark) → IsMark (mark s n) → IsMarks marks → IsMarks (with_mark s n marks)
marks-with s n marks one all = record {
  rise = rises-middle (filter (lesser s) marks) (filter (greater s) marks) (mark s n) (rises-filter (lesser s) marks all.rise) (rises-filter (greater s) marks all.rise)
      (All-weaker (λ (m : Mark). lesser s m ≡ true) (λ (m : Mark). m.source < s) (λ m is. ltb-true m.source s is) (filter (lesser s) marks) (filter_passes (lesser s) marks))
      (All-weaker (λ (m : Mark). greater s m ≡ true) (λ (m : Mark). s < m.source) (λ m is. ltb-true s m.source is) (filter (greater s) marks) (filter_passes (greater s) marks));
  each = All-append IsMark (filter (lesser s) marks) (mark s n ∷ filter (greater s) marks) (All-filter (lesser s) IsMark marks all.each)
      (All-cons IsMark (mark s n) (filter (greater s) marks) one (All-filter (greater s) IsMark marks all.each));
}

-- by what a call answered
pub by_result : {A B P Q : Type 0} (r : Result A B) (R : Type 0) → OnOk r P → OnErr r Q → (P → R) → (Q → R) → R
by_result (Ok x) R ok err set kept = set ok
by_result (Err e) R ok err set kept = kept err

pub on_err : {A B P : Type 0} (r : Result A B) → is_err r ≡ true → OnErr r P → P
on_err (Ok x) is p = cc is
on_err (Err e) is p = p

pub on_ok : {A B P : Type 0} (r : Result A B) → is_err r ≡ false → OnOk r P → P
on_ok (Ok x) is p = p
on_ok (Err e) is p = cc is

pub is_ok_of : {A B : Type 0} (r : Result A B) → is_err r ≡ false → is_ok r ≡ true
is_ok_of (Ok x) is = refl
is_ok_of (Err e) is = cc is

pub on_err_of : {A B P : Type 0} (r : Result A B) → P → OnErr r P
on_err_of (Ok x) p = tt
on_err_of (Err e) p = p
