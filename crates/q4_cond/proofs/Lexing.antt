-- How the runs of a text and its numbers are read byte by byte.
use Rattle.std.proofs.Common.{inl, inr, ap₂, eqb, eq-eqb, ne_eqb, ◌≡◌, ℕ, suc, ◌+◌, ◌-◌, ◌*◌, ◌^◌, ◌<◌, ◌≤◌, List, [], ◌∷◌, ◌++◌, Bool, true, false, not, Option, Some, None, length, get_or, drop, refl, sym, ap, ◌∙◌, subst, arith, append_assoc, ltb, le-ltb}
use Rattle.std.specs.Prelude.{MatchOption}
use Rattle.std.proofs.lemmas.List.{drop_more}
use Rattle.std.proofs.lemmas.Bool.{cond-true, cond-false, cases_Bool}
use Rattle.q4_cond.specs.declared.tree.Token.TheVariants.{Bad}
use Rattle.q4_cond.specs.Tokens.{is_digit, digits_from, numeral, Quoted, longer, with_byte, quoted}

-- the byte at the place, and what follows it
pub drop_here : (bs : List ℕ) (i : ℕ) → i < length bs → drop i bs ≡ get_or bs i 0 ∷ drop (i + 1) bs
drop_here bs i h = drop_more bs i 0 h

grow_from : (n m : ℕ) (o : Option ℕ) → n ≤ m → MatchOption o (Unit {0}) (λ k. m ≤ k) → MatchOption o (Unit {0}) (λ k. n ≤ k)
grow_from n m None le h = tt
grow_from n m (Some k) le h = omega (arith, h)

-- a number does not get less with more digits
pub digits_grow : (n : ℕ) (bs : List ℕ) → MatchOption (digits_from n bs) (Unit {0}) (λ m. n ≤ m)
digits_grow n [] = omega arith
digits_grow n (b ∷ bs) =
    elim (cases_Bool (is_digit b)) as (λ _. MatchOption (digits_from n (b ∷ bs)) (Unit {0}) (λ m. n ≤ m)) [
      | inl e ↦ subst (λ o. MatchOption o (Unit {0}) (λ m. n ≤ m)) (sym (cond-true (is_digit b) (digits_from (10 * n + (b - 48)) bs) None e)) (grow_from n (10 * n + (b - 48)) (digits_from (10 * n + (b - 48)) bs) (omega arith) (digits_grow (10 * n + (b - 48)) bs))
      | inr e ↦ subst (λ o. MatchOption o (Unit {0}) (λ m. n ≤ m)) (sym (cond-false (is_digit b) (digits_from (10 * n + (b - 48)) bs) None e)) tt
    ]

numeral_large : (n : ℕ) (o : Option ℕ) → 2 ^ 127 ≤ n → MatchOption o (Unit {0}) (λ m. n ≤ m) → numeral o ≡ Bad
numeral_large n None le h = refl
numeral_large n (Some m) le h = let far : 2 ^ 127 ≤ m = omega (arith, h) in cond-false (ltb m (2 ^ 127)) _ _ (le-ltb m (2 ^ 127) far)

pub digits_large : (n : ℕ) (bs : List ℕ) → 2 ^ 127 ≤ n → numeral (digits_from n bs) ≡ Bad
digits_large n bs le = numeral_large n (digits_from n bs) le (digits_grow n bs)

-- a digit more, and the number is too large
pub digits_over : (n i : ℕ) (bs : List ℕ) → i < length bs → is_digit (get_or bs i 0) ≡ true → 2 ^ 127 ≤ 10 * n + (get_or bs i 0 - 48) → numeral (digits_from n (drop i bs)) ≡ Bad
digits_over n i bs h digit le =
    ap (λ l. numeral (digits_from n l)) (drop_here bs i h)
    ∙ (ap numeral (cond-true (is_digit (get_or bs i 0)) (digits_from (10 * n + (get_or bs i 0 - 48)) (drop (i + 1) bs)) None digit)
    ∙ digits_large (10 * n + (get_or bs i 0 - 48)) (drop (i + 1) bs) le)

-- what stands before the end of a text, once n more bytes with this text are read
abbrev pub prefixed : List ℕ → ℕ → Option Quoted → Option Quoted
prefixed text n None = None
prefixed text n (Some q) = Some (record { text = text ++ q.text; size = n + q.size })

prefixed_byte : (text : List ℕ) (n b : ℕ) (o : Option Quoted) → prefixed text n (with_byte b o) ≡ prefixed (text ++ b ∷ []) (n + 1) o
prefixed_byte text n b None = refl
prefixed_byte text n b (Some q) =
    let e : text ++ b ∷ q.text ≡ (text ++ b ∷ []) ++ q.text = simp append_assoc in
    let f : n + suc q.size ≡ n + 1 + q.size = omega arith in
    ap₂ (λ x y. Some (record { text = x; size = y })) e f

prefixed_longer : (text : List ℕ) (n : ℕ) (o : Option Quoted) → prefixed text n (longer o) ≡ prefixed text (n + 1) o
prefixed_longer text n None = refl
prefixed_longer text n (Some q) =
    let f : n + suc q.size ≡ n + 1 + q.size = omega arith in
    ap (λ y. Some (record { text = text ++ q.text; size = y })) f

-- a byte that is no quote
pub text_plain : (text bs : List ℕ) (i : ℕ) → i < length bs → eqb (get_or bs i 0) 39 ≡ false → prefixed text i (quoted false (drop i bs)) ≡ prefixed (text ++ get_or bs i 0 ∷ []) (i + 1) (quoted false (drop (i + 1) bs))
text_plain text bs i h e =
    let b = get_or bs i 0 in
    let r = drop (i + 1) bs in
    ap (λ l. prefixed text i (quoted false l)) (drop_here bs i h)
    ∙ (ap (λ o. prefixed text i o) (cond-false (eqb b 39) (longer (quoted (eqb b 39) r)) (with_byte b (quoted (eqb b 39) r)) e)
    ∙ (ap (λ t. prefixed text i (with_byte b (quoted t r))) e ∙ prefixed_byte text i b (quoted false r)))

-- a quote that may be the last
pub text_quote : (text bs : List ℕ) (i : ℕ) → i < length bs → eqb (get_or bs i 0) 39 ≡ true → prefixed text i (quoted false (drop i bs)) ≡ prefixed text (i + 1) (quoted true (drop (i + 1) bs))
text_quote text bs i h e =
    let b = get_or bs i 0 in
    let r = drop (i + 1) bs in
    ap (λ l. prefixed text i (quoted false l)) (drop_here bs i h)
    ∙ (ap (λ o. prefixed text i o) (cond-true (eqb b 39) (longer (quoted (eqb b 39) r)) (with_byte b (quoted (eqb b 39) r)) e)
    ∙ (ap (λ t. prefixed text i (longer (quoted t r))) e ∙ prefixed_longer text i (quoted true r)))

-- the second of two quotes
pub text_doubled : (text bs : List ℕ) (i : ℕ) → i < length bs → get_or bs i 0 ≡ 39 → prefixed text i (quoted true (drop i bs)) ≡ prefixed (text ++ get_or bs i 0 ∷ []) (i + 1) (quoted false (drop (i + 1) bs))
text_doubled text bs i h e =
    let b = get_or bs i 0 in
    let r = drop (i + 1) bs in
    ap (λ l. prefixed text i (quoted true l)) (drop_here bs i h)
    ∙ (ap (λ o. prefixed text i o) (cond-true (eqb b 39) (with_byte 39 (quoted false r)) (Some (record { text = []; size = 0 })) (eq-eqb b 39 e))
    ∙ (ap (λ x. prefixed text i (with_byte x (quoted false r))) (sym e) ∙ prefixed_byte text i b (quoted false r)))

-- one byte of a text: what was read so far, and what is left
text_goes : (text text' text'' bs : List ℕ) (i : ℕ) (closed closed' now next : Bool) → closed ≡ now → closed' ≡ next → text' ≡ text'' → prefixed text i (quoted now (drop i bs)) ≡ prefixed text'' (i + 1) (quoted next (drop (i + 1) bs)) → quoted false bs ≡ prefixed text i (quoted closed (drop i bs)) → quoted false bs ≡ prefixed text' (i + 1) (quoted closed' (drop (i + 1) bs))
text_goes text text' text'' bs i closed closed' now next e f g step inv =
    inv ∙ (ap (λ k. prefixed text i (quoted k (drop i bs))) e ∙ (step ∙ ap₂ (λ t k. prefixed t (i + 1) (quoted k (drop (i + 1) bs))) (sym g) (sym f)))

pub text_goes_plain : (text text' bs : List ℕ) (i : ℕ) (closed closed' : Bool) → i < length bs → (get_or bs i 0 ≡ 39 → ⊥) → closed ≡ false → closed' ≡ closed → text' ≡ text ++ get_or bs i 0 ∷ [] → quoted false bs ≡ prefixed text i (quoted closed (drop i bs)) → quoted false bs ≡ prefixed text' (i + 1) (quoted closed' (drop (i + 1) bs))
text_goes_plain text text' bs i closed closed' h ne e f g inv = text_goes text text' (text ++ get_or bs i 0 ∷ []) bs i closed closed' false false e (f ∙ e) g (text_plain text bs i h (ne_eqb _ _ ne)) inv

pub text_goes_doubled : (text text' bs : List ℕ) (i : ℕ) (closed closed' : Bool) → i < length bs → get_or bs i 0 ≡ 39 → closed ≡ true → closed' ≡ not closed → text' ≡ text ++ get_or bs i 0 ∷ [] → quoted false bs ≡ prefixed text i (quoted closed (drop i bs)) → quoted false bs ≡ prefixed text' (i + 1) (quoted closed' (drop (i + 1) bs))
text_goes_doubled text text' bs i closed closed' h q e f g inv = text_goes text text' (text ++ get_or bs i 0 ∷ []) bs i closed closed' true false e (f ∙ ap not e) g (text_doubled text bs i h q) inv

pub text_goes_quote : (text text' bs : List ℕ) (i : ℕ) (closed closed' : Bool) → i < length bs → get_or bs i 0 ≡ 39 → closed ≡ false → closed' ≡ not closed → text' ≡ text → quoted false bs ≡ prefixed text i (quoted closed (drop i bs)) → quoted false bs ≡ prefixed text' (i + 1) (quoted closed' (drop (i + 1) bs))
text_goes_quote text text' bs i closed closed' h q e f g inv = text_goes text text' text bs i closed closed' false true e (f ∙ ap not e) g (text_quote text bs i h (eq-eqb _ _ q)) inv
