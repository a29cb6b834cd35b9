-- Where the first `:` of an entry stands, in its text and in its field.
use Rattle.std.proofs.Common.{◌≡◌, ◌==◌, ◌<◌, ◌++◌, ◌∷◌, ◌∙◌, [], List, ℕ, Bool, true, false, All, length, take, get_or, refl, sym, ap, subst, arith, inl, inr, if◌then◌else◌}
use Rattle.std.specs.List.{before_first, after_first, position_or_len}
use Rattle.std.proofs.Math.Seq.{get_or-append_seam}
use Rattle.std.proofs.Math.ListN.{get_or-append}
use Rattle.std.proofs.lemmas.Bool.{ne_eqb, eqb-true, cases_lt}
use Rattle.std.proofs.lemmas.List.{length-append, take_at, take_all, get_or_default, get_or-take, length-take}
use Rattle.std.proofs.lemmas.List.Concat.{flat_map-cons, flat_map-append}
use Rattle.std.proofs.lemmas.List.Elements.{All-nil, All-cons, All-head, All-tail, All-append}
use Rattle.std.proofs.lemmas.List.Sums.{position_or_len_is, split_at_first, fails_before_first, passes_at_first}
use Rattle.q4_value.specs.Escape.{escaped, escaped_byte}
use Rattle.q4_value.specs.Names.{IsNameByte, IsName}

abbrev pub is_colon : ℕ → Bool
is_colon b = b == 58

abbrev pub IsOther : ℕ → Type 0
IsOther b = is_colon b ≡ false

no_colon : (b : ℕ) → IsNameByte b → IsOther b
no_colon b (inl lower) = ne_eqb b 58 (λ e. omega (arith, e, lower.0))
no_colon b (inr (inl digit)) = ne_eqb b 58 (λ e. omega (arith, e, digit.1))
no_colon b (inr (inr line)) = ne_eqb b 58 (λ e. omega (arith, e, line))

named_other : (name : List ℕ) → IsName name → All IsOther name
named_other name is k d inside = no_colon (get_or name k d) (is.bytes k d inside)

-- what stands before the first colon is what has none
other_alone : (front : List ℕ) → All IsOther front → before_first is_colon front ≡ front
other_alone front other =
    let at : position_or_len is_colon front ≡ length front = position_or_len_is is_colon front (length front) 0 (omega arith) (λ k lt. other k 0 lt) (λ lt. let none : ⊥ = omega (arith, lt) in absurd none) in
    ap (λ n. take n front) at ∙ take_all (length front) front (omega arith)

other_before : (front more : List ℕ) → All IsOther front → before_first is_colon (front ++ 58 ∷ more) ≡ front
other_before front more other =
    let whole = front ++ 58 ∷ more in
    let size = length-append front (58 ∷ more) in
    let at : position_or_len is_colon whole ≡ length front = position_or_len_is is_colon whole (length front) 0 (omega (arith, size))
    (λ k lt. ap is_colon (get_or-append front (58 ∷ more) 0 k lt) ∙ other k 0 lt) (λ lt. ap is_colon (get_or-append_seam front 58 more 0)) in
    ap (λ n. take n whole) at ∙ take_at front (58 ∷ more) (length front) refl

pub name_alone : (name : List ℕ) → IsName name → before_first is_colon name ≡ name
name_alone name is = other_alone name (named_other name is)

pub name_before : (name text : List ℕ) → IsName name → before_first is_colon (name ++ 58 ∷ text) ≡ name
name_before name text is = other_before name text (named_other name is)

-- ## No escape has a colon

other_shape : (b : ℕ) (tab newline return backslash : Bool) → IsOther b
    → All IsOther (if tab then 92 ∷ 116 ∷ [] else if newline then 92 ∷ 110 ∷ [] else if return then 92 ∷ 114 ∷ [] else if backslash then 92 ∷ 92 ∷ [] else b ∷ [])
other_shape b true newline return backslash other = All-cons IsOther 92 (116 ∷ []) refl (All-cons IsOther 116 [] refl (All-nil IsOther))
other_shape b false true return backslash other = All-cons IsOther 92 (110 ∷ []) refl (All-cons IsOther 110 [] refl (All-nil IsOther))
other_shape b false false true backslash other = All-cons IsOther 92 (114 ∷ []) refl (All-cons IsOther 114 [] refl (All-nil IsOther))
other_shape b false false false true other = All-cons IsOther 92 (92 ∷ []) refl (All-cons IsOther 92 [] refl (All-nil IsOther))
other_shape b false false false false other = All-cons IsOther b [] other (All-nil IsOther)

escaped_other : (text : List ℕ) → All IsOther text → All IsOther (escaped text)
escaped_other [] other = All-nil IsOther
escaped_other (b ∷ text) other = subst (All IsOther) (sym (flat_map-cons escaped_byte b text))
    (All-append IsOther (escaped_byte b) (escaped text) (other_shape b (b == 9) (b == 10) (b == 13) (b == 92) (All-head IsOther b text other)) (escaped_other text (All-tail IsOther b text other)))

before_other : (text : List ℕ) → All IsOther (before_first is_colon text)
before_other text k d inside =
    let n = position_or_len is_colon text in
    let below : k < n = omega (arith, inside, length-take n text) in
    let at : get_or (take n text) k d ≡ get_or text k 0 = get_or_default (take n text) k d 0 inside ∙ get_or-take n text k 0 below in
    ap is_colon at ∙ fails_before_first is_colon text k 0 below

-- what stands before the first colon of a field is the spelling of what stands before that of its text
pub before_escaped : (text : List ℕ) → before_first is_colon (escaped text) ≡ escaped (before_first is_colon text)
before_escaped text = elim (cases_lt (position_or_len is_colon text) (length text)) [
  | inl there ↦
      let front = before_first is_colon text in
      let behind = after_first is_colon text in
      let colon : get_or text (position_or_len is_colon text) 0 ≡ 58 = eqb-true (get_or text (position_or_len is_colon text) 0) 58 (passes_at_first is_colon text 0 there) in
      let cut : text ≡ front ++ 58 ∷ behind = split_at_first is_colon text 0 there ∙ ap (λ b. front ++ b ∷ behind) colon in
      let spelled : escaped text ≡ escaped front ++ 58 ∷ escaped behind = ap escaped cut ∙ flat_map-append escaped_byte front (58 ∷ behind) ∙ ap (λ xs. escaped front ++ xs) (flat_map-cons escaped_byte 58 behind) in
      ap (before_first is_colon) spelled ∙ other_before (escaped front) (escaped behind) (escaped_other front (before_other text))
  | inr past ↦
      let whole : before_first is_colon text ≡ text = take_all (position_or_len is_colon text) text past in
      other_alone (escaped text) (escaped_other text (subst (All IsOther) whole (before_other text))) ∙ ap escaped (sym whole)
]
