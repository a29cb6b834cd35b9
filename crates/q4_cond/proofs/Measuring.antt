-- No text has fewer bytes than its tokens need, and its tokens are columns, numbers, texts and signs.
use Rattle.std.proofs.Common.{◌≡◌, ℕ, zero, suc, ◌+◌, ◌-◌, ◌*◌, ◌^◌, ◌<◌, ◌≤◌, List, [], ◌∷◌, ◌++◌, length, get_or, take, drop, Bool, true, false, ◌&&◌, Option, Some, None, refl, sym, ap, ◌∙◌, subst, cond, arith, leb, ltb, eqb, ltb-true, length-append, pos, inl, inr, ◌⊎◌}
use Rattle.std.specs.Prelude.{slice_get}
use Rattle.std.specs.Str.{IsUtf8, IsCharBoundary, bytes_eq}
use Rattle.std.proofs.Math.Nat.{pow-succ', mul-le-mul_right}
use Rattle.std.proofs.lemmas.Bool.{cases_eq, cond-true, cond-false, cond_both, and_parts, eqb-true, leb-true, or_left}
use Rattle.std.proofs.lemmas.List.{length-drop, get_or_append_left, take_at, get_or_at}
use Rattle.std.proofs.lemmas.Fmt.{length-decimal-le_wide}
use Rattle.std.proofs.lemmas.Slice.Eq.{bytes_eq-Decides}
use Rattle.std.proofs.lemmas.Str.{IsUtf8-drop, IsUtf8-take, IsCharBoundary-before_ascii, IsCharBoundary-after_ascii}
use Rattle.q4_cond.specs.declared.tree.Operator.TheVariants.{Or, And, Equal, Unequal, Below, AtMost, Above, AtLeast, Add, Subtract, Multiply, Divide, Remainder}
use Rattle.q4_cond.specs.declared.tree.Atom.TheVariants.{Column as named, Number, Text}
use Rattle.q4_cond.specs.declared.tree.Front.{Front}
use Rattle.q4_cond.specs.declared.tree.Token.{Token}
use Rattle.q4_cond.specs.declared.tree.Token.TheVariants.{Operand, Sign, Not, Open, Close, Bad}
use Rattle.q4_cond.specs.Tokens.{is_letter, is_digit, is_word_byte, word_run, place_of, word_token, digits_from, numeral, number_token, Quoted, longer, with_byte, quoted, run_front, text_front, one_byte, two_bytes, sign_front, front_of, Placed, tokens_from, bare}
use Rattle.q4_cond.specs.Shown.{doubled, name_text}
use Rattle.q4_cond.proofs.Sound.{cond_opened}
use Rattle.q4_cond.specs.Reading.{unknown_here, first_unknown}
use Rattle.q4_cond.proofs.Scanning.{space_first, token_first}
use Rattle.q4_cond.proofs.Canonical.{is_word, token_text, gap, cost, cost_left, gap_none, TakesTurns}
use Rattle.q4_cond.proofs.Spelling.{AllWordBytes, word_at, word_byte_small, digit_word, IsToken, AreTokens}

-- the column that a token names is one of so many
abbrev pub IsKnown : ℕ → Token → Type 0
IsKnown count (Operand (named c)) = c < count
IsKnown count (Operand (Number n)) = Unit {0}
IsKnown count (Operand (Text s)) = Unit {0}
IsKnown count (Sign op) = Unit {0}
IsKnown count Not = Unit {0}
IsKnown count Open = Unit {0}
IsKnown count Close = Unit {0}
IsKnown count Bad = Unit {0}

-- what the token at the front of a text says of the text
pub record IsFront (names : List (List ℕ)) (s : List ℕ) (f : Front) : Type 0 where
  pub some : 0 < f.size
  pub inside : f.size ≤ length s
  pub long : length (token_text names f.token) ≤ f.size
  pub starts : is_word f.token ≡ true → is_word_byte (get_or s 0 0) ≡ true
  pub stops : is_word f.token ≡ true → is_word_byte (get_or (drop f.size s) 0 0) ≡ false
  pub plain : (f.token ≡ Bad → ⊥) → get_or s (f.size - 1) 0 < 128
  pub token : (f.token ≡ Bad → ⊥) → IsKnown (length names) f.token → IsUtf8 s → IsToken names f.token

run_bytes : (s : List ℕ) → AllWordBytes (word_run s)
run_bytes [] = tt
run_bytes (b ∷ s) = cond_both (is_word_byte b) (b ∷ word_run s) [] (λ l. AllWordBytes l) (λ e. (e, run_bytes s)) (λ e. tt)

-- a run of words, and what follows it
record IsRun (s run : List ℕ) : Type 0 where
  split : s ≡ run ++ drop (length run) s
  stop : is_word_byte (get_or (drop (length run) s) 0 0) ≡ false

longer_run : (b : ℕ) (s run : List ℕ) → IsRun s run → IsRun (b ∷ s) (b ∷ run)
longer_run b s run r = record { split = ap (λ l. b ∷ l) r.split; stop = r.stop }

run_is : (s : List ℕ) → IsRun s (word_run s)
run_is [] = record { split = refl; stop = refl }
run_is (b ∷ s) = cond_both (is_word_byte b) (b ∷ word_run s) [] (λ l. IsRun (b ∷ s) l) (λ e. longer_run b s (word_run s) (run_is s)) (λ e. record { split = refl; stop = e })

-- the column of a word, if it has one
place_is : (names : List (List ℕ)) (w : List ℕ) → (slice_get names (place_of names w) ≡ None) ⊎ (slice_get names (place_of names w) ≡ Some w)
place_is [] w = inl refl
place_is (n ∷ ns) w =
    cond_both (bytes_eq n w) 0 (suc (place_of ns w)) (λ k. (slice_get (n ∷ ns) k ≡ None) ⊎ (slice_get (n ∷ ns) k ≡ Some w))
    (λ e. inr (ap Some ((bytes_eq-Decides n w).0 e))) (λ e. place_is ns w)

name_short : (o : Option (List ℕ)) (w : List ℕ) → (o ≡ None) ⊎ (o ≡ Some w) → length (name_text o) ≤ length w
name_short o w (inl e) = subst (λ x. length (name_text x) ≤ length w) (sym e) (omega arith)
name_short o w (inr e) = subst (λ x. length (name_text x) ≤ length w) (sym e) (omega arith)

get_none : (names : List (List ℕ)) (c : ℕ) → c < length names → slice_get names c ≡ None → ⊥
get_none [] c h e = omega arith
get_none (n ∷ ns) zero h e = cc
get_none (n ∷ ns) (suc c) h e = get_none ns c (omega arith) e

known_name : (names : List (List ℕ)) (c : ℕ) (w : List ℕ) → c < length names → (slice_get names c ≡ None) ⊎ (slice_get names c ≡ Some w) → slice_get names c ≡ Some w
known_name names c w h (inl e) = absurd (get_none names c h e)
known_name names c w h (inr e) = e

digits_bound : (m n : ℕ) (bs : List ℕ) → digits_from m bs ≡ Some n → n < (m + 1) * 10 ^ length bs
digits_bound m n [] e = let same : m ≡ n = cc in omega arith
digits_bound m n (b ∷ bs) e =
    let c = cond_opened (is_digit b) (digits_from (10 * m + (b - 48)) bs) n e in
    let k = and_parts (leb 48 b) (leb b 57) c.0 in
    let small : b ≤ 57 = leb-true b 57 k.1 in
    let le : 10 * m + (b - 48) + 1 ≤ 10 * (m + 1) = omega arith in
    let ih = digits_bound (10 * m + (b - 48)) n bs c.1 in
    let more = mul-le-mul_right (10 ^ length bs) le in
    let p = pow-succ' 10 (length bs) in
    subst (λ x. n < (m + 1) * x) (sym p) (omega arith)

module _ (names : List (List ℕ)) where
  -- a token that is read from a run
  record IsRunToken (w : List ℕ) (t : Token) : Type 0 where
    long : length (token_text names t) ≤ length w
    token : (t ≡ Bad → ⊥) → IsKnown (length names) t → IsToken names t

  run_front_is : (b : ℕ) (bs w : List ℕ) (t : Token) → is_word_byte b ≡ true → w ≡ word_run (b ∷ bs) → w ≡ b ∷ word_run bs → IsRunToken w t → IsFront names (b ∷ bs) (run_front t w)
  run_front_is b bs w t h e f r =
      let run = subst (IsRun (b ∷ bs)) (sym e) (run_is (b ∷ bs)) in
      let bytes = subst AllWordBytes (sym e) (run_bytes (b ∷ bs)) in
      let some : 0 < length w = omega (arith, ap length f) in
      let last : length w - 1 < length w = omega arith in
      record {
        some = some;
        inside = omega (arith, ap length run.split, length-append w (drop (length w) (b ∷ bs)));
        long = r.long;
        starts = λ _. h;
        stops = λ _. run.stop;
        plain = λ good. subst (λ x. x < 128) (sym (ap (λ l. get_or l (length w - 1) 0) run.split ∙ get_or_append_left w (drop (length w) (b ∷ bs)) 0 (length w - 1) last)) (word_byte_small _ (word_at w (length w - 1) bytes last));
        token = λ good known utf8. r.token good known;
      }

  number_of : (w : List ℕ) (o : Option ℕ) → digits_from 0 w ≡ o → 0 < length w → IsRunToken w (numeral o)
  number_of w None e some = record { long = omega arith; token = λ good. absurd (good refl) }
  number_of w (Some n) e some =
      let bound = digits_bound 0 n w e in
      cond_both (ltb n (2 ^ 127)) (Operand (Number (pos n))) Bad (IsRunToken w)
      (λ less. let small = ltb-true n (2 ^ 127) less in record { long = length-decimal-le_wide (length w) n some (omega arith) (omega arith); token = λ good known. (n, refl, small) })
      (λ more. record { long = omega arith; token = λ good. absurd (good refl) })

  number_token_is : (w : List ℕ) → 0 < length w → IsRunToken w (number_token w)
  number_token_is w some =
      cond_both (eqb (get_or w 0 0) 48 && ltb 1 (length w)) Bad (numeral (digits_from 0 w)) (IsRunToken w)
      (λ e. record { long = omega arith; token = λ good. absurd (good refl) })
      (λ e. number_of w (digits_from 0 w) refl some)

  -- the token of a run that begins with a letter
  word_of : (first : ℕ) (rest : List ℕ) → is_letter first ≡ true → AllWordBytes (first ∷ rest) → IsRunToken (first ∷ rest) (word_token names (first ∷ rest))
  word_of first rest letter bytes =
      let w = first ∷ rest in
      let Is = λ (t : Token). word_token names w ≡ t → IsRunToken w t in
      let named_token = Operand (named (place_of names w)) in
      cond_both (bytes_eq w (111 ∷ 114 ∷ [])) (Sign Or) _ Is
      (λ e same. record { long = omega (arith, ap length ((bytes_eq-Decides w (111 ∷ 114 ∷ [])).0 e)); token = λ good known. tt })
      (λ _. cond_both (bytes_eq w (97 ∷ 110 ∷ 100 ∷ [])) (Sign And) _ Is
      (λ e same. record { long = omega (arith, ap length ((bytes_eq-Decides w (97 ∷ 110 ∷ 100 ∷ [])).0 e)); token = λ good known. tt })
      (λ _. cond_both (bytes_eq w (110 ∷ 111 ∷ 116 ∷ [])) Not named_token Is
      (λ e same. record { long = omega (arith, ap length ((bytes_eq-Decides w (110 ∷ 111 ∷ 116 ∷ [])).0 e)); token = λ good known. tt })
      (λ _ same. record {
        long = name_short (slice_get names (place_of names w)) w (place_is names w);
        token = λ good known. record { first = first; rest = rest; known = known; is = known_name names (place_of names w) w known (place_is names w); letter = letter; bytes = bytes; reads = same };
      })))
      refl

-- a text up to its last quote
record IsQuoted (bs : List ℕ) (q : Quoted) : Type 0 where
  split : bs ≡ doubled q.text ++ 39 ∷ drop q.size bs
  size : q.size ≡ suc (length (doubled q.text))

-- and behind a quote that may be the last
record IsBehindQuote (bs : List ℕ) (q : Quoted) : Type 0 where
  split : 39 ∷ bs ≡ doubled q.text ++ 39 ∷ drop q.size bs
  size : q.size ≡ length (doubled q.text)

abbrev IfSome : (Quoted → Type 0) → Option Quoted → Type 0
IfSome P None = Unit {0}
IfSome P (Some q) = P q

quote_here : (b : ℕ) (bs : List ℕ) (o : Option Quoted) → b ≡ 39 → IfSome (IsBehindQuote bs) o → IfSome (IsQuoted (b ∷ bs)) (longer o)
quote_here b bs None e h = tt
quote_here b bs (Some q) e h = record { split = ap (λ x. x ∷ bs) e ∙ h.split; size = ap suc h.size }

byte_here : (b : ℕ) (bs : List ℕ) (o : Option Quoted) → eqb b 39 ≡ false → IfSome (IsQuoted bs) o → IfSome (IsQuoted (b ∷ bs)) (with_byte b o)
byte_here b bs None e h = tt
byte_here b bs (Some q) e h =
    let d : doubled (b ∷ q.text) ≡ b ∷ doubled q.text = cond-false (eqb b 39) _ _ e in
    record { split = ap (λ l. b ∷ l) h.split ∙ ap (λ l. l ++ 39 ∷ drop q.size bs) (sym d); size = ap suc (h.size ∙ ap length (sym d)) }

second_quote : (b : ℕ) (bs : List ℕ) (o : Option Quoted) → b ≡ 39 → IfSome (IsQuoted bs) o → IfSome (IsBehindQuote (b ∷ bs)) (with_byte 39 o)
second_quote b bs None e h = tt
second_quote b bs (Some q) e h = record { split = ap (λ x. 39 ∷ x ∷ bs) e ∙ ap (λ l. 39 ∷ 39 ∷ l) h.split; size = ap suc h.size }

mutual
  quoted_is : (bs : List ℕ) → IfSome (IsQuoted bs) (quoted false bs)
  quoted_is [] = tt
  quoted_is (b ∷ bs) =
      cond_both (eqb b 39) (longer (quoted (eqb b 39) bs)) (with_byte b (quoted (eqb b 39) bs)) (IfSome (IsQuoted (b ∷ bs)))
      (λ e. subst (λ k. IfSome (IsQuoted (b ∷ bs)) (longer (quoted k bs))) (sym e) (quote_here b bs (quoted true bs) (eqb-true b 39 e) (behind_quote_is bs)))
      (λ e. subst (λ k. IfSome (IsQuoted (b ∷ bs)) (with_byte b (quoted k bs))) (sym e) (byte_here b bs (quoted false bs) e (quoted_is bs)))

  behind_quote_is : (bs : List ℕ) → IfSome (IsBehindQuote bs) (quoted true bs)
  behind_quote_is [] = record { split = refl; size = refl }
  behind_quote_is (b ∷ bs) =
      cond_both (eqb b 39) (with_byte 39 (quoted false bs)) (Some (record { text = []; size = 0 })) (IfSome (IsBehindQuote (b ∷ bs)))
      (λ e. second_quote b bs (quoted false bs) (eqb-true b 39 e) (quoted_is bs))
      (λ e. record { split = refl; size = refl })

module _ (names : List (List ℕ)) where
  text_utf8 : (b : ℕ) (bs : List ℕ) (q : Quoted) → b ≡ 39 → IsQuoted bs q → IsUtf8 (b ∷ bs) → IsUtf8 (doubled q.text)
  text_utf8 b bs q e h u =
      let d = doubled q.text in
      let behind : IsUtf8 bs = IsUtf8-drop (b ∷ bs) 1 u (IsCharBoundary-after_ascii (b ∷ bs) 0 u (omega arith) (omega arith)) in
      let here : get_or bs (length d) 0 ≡ 39 = ap (λ l. get_or l (length d) 0) h.split ∙ get_or_at d 39 (drop q.size bs) 0 (length d) refl in
      let within : length d < length bs = omega (arith, ap length h.split, length-append d (39 ∷ drop q.size bs)) in
      let front : take (length d) bs ≡ d = ap (take (length d)) h.split ∙ take_at d (39 ∷ drop q.size bs) (length d) refl in
      subst IsUtf8 front (IsUtf8-take bs (length d) behind (IsCharBoundary-before_ascii bs (length d) within (omega arith)))

  text_front_is : (b : ℕ) (bs : List ℕ) (o : Option Quoted) → b ≡ 39 → IfSome (IsQuoted bs) o → IsFront names (b ∷ bs) (text_front bs o)
  text_front_is b bs None e h =
      record { some = omega arith; inside = omega arith; long = omega arith; starts = λ w. absurd cc; stops = λ w. absurd cc; plain = λ good. absurd (good refl); token = λ good. absurd (good refl) }
  text_front_is b bs (Some q) e h =
      let d = doubled q.text in
      let at : suc q.size - 1 ≡ suc (length d) = omega (arith, h.size) in
      let here : get_or bs (length d) 0 ≡ 39 = ap (λ l. get_or l (length d) 0) h.split ∙ get_or_at d 39 (drop q.size bs) 0 (length d) refl in
      record {
        some = omega arith;
        inside = omega (arith, h.size, ap length h.split, length-append d (39 ∷ drop q.size bs));
        long = omega (arith, h.size, length-append d (39 ∷ []));
        starts = λ w. absurd cc;
        stops = λ w. absurd cc;
        plain = λ good. subst (λ i. get_or (b ∷ bs) i 0 < 128) (sym at) (omega (arith, here));
        token = λ good known u. text_utf8 b bs q e h u;
      }

  one_front_is : (b : ℕ) (bs : List ℕ) (t : Token) → is_word t ≡ false → length (token_text names t) ≤ 1 → ((t ≡ Bad → ⊥) → (b < 128) × IsToken names t) → IsFront names (b ∷ bs) (one_byte t)
  one_front_is b bs t w long h =
      record { some = omega arith; inside = omega arith; long = long; starts = λ e. absurd cc; stops = λ e. absurd cc; plain = λ good. (h good).0; token = λ good known u. (h good).1 }

  two_front_is : (b next : ℕ) (bs : List ℕ) (t : Token) → is_word t ≡ false → length (token_text names t) ≤ 2 → get_or bs 0 0 ≡ next → 0 < next → next < 128 → IsToken names t → IsFront names (b ∷ bs) (two_bytes t)
  two_front_is b next [] t w long e some small is = absurd (omega (arith, e))
  two_front_is b next (c ∷ bs) t w long e some small is =
      record { some = omega arith; inside = omega arith; long = long; starts = λ x. absurd cc; stops = λ x. absurd cc; plain = λ good. omega (arith, e); token = λ good known u. is }

  one_sign : (b n : ℕ) (bs : List ℕ) (t : Token) → eqb b n ≡ true → n < 128 → is_word t ≡ false → length (token_text names t) ≤ 1 → IsToken names t → IsFront names (b ∷ bs) (one_byte t)
  one_sign b n bs t e small w long is = let same = eqb-true b n e in one_front_is b bs t w long (λ good. (omega arith, is))

  sign_front_is : (b : ℕ) (bs : List ℕ) → IsFront names (b ∷ bs) (sign_front b (get_or bs 0 0))
  sign_front_is b bs =
      let next = get_or bs 0 0 in
      let Is = IsFront names (b ∷ bs) in
      cond_both (eqb b 61) _ _ Is (λ e. one_sign b 61 bs (Sign Equal) e (omega arith) refl (omega arith) tt)
      (λ _. cond_both (eqb b 60) _ _ Is
      (λ e. cond_both (eqb next 62) _ _ Is (λ f. two_front_is b 62 bs (Sign Unequal) refl (omega arith) (eqb-true next 62 f) (omega arith) (omega arith) tt)
      (λ _. cond_both (eqb next 61) _ _ Is (λ f. two_front_is b 61 bs (Sign AtMost) refl (omega arith) (eqb-true next 61 f) (omega arith) (omega arith) tt)
      (λ _. one_sign b 60 bs (Sign Below) e (omega arith) refl (omega arith) tt)))
      (λ _. cond_both (eqb b 62) _ _ Is
      (λ e. cond_both (eqb next 61) _ _ Is (λ f. two_front_is b 61 bs (Sign AtLeast) refl (omega arith) (eqb-true next 61 f) (omega arith) (omega arith) tt)
      (λ _. one_sign b 62 bs (Sign Above) e (omega arith) refl (omega arith) tt))
      (λ _. cond_both (eqb b 43) _ _ Is (λ e. one_sign b 43 bs (Sign Add) e (omega arith) refl (omega arith) tt)
      (λ _. cond_both (eqb b 45) _ _ Is (λ e. one_sign b 45 bs (Sign Subtract) e (omega arith) refl (omega arith) tt)
      (λ _. cond_both (eqb b 42) _ _ Is (λ e. one_sign b 42 bs (Sign Multiply) e (omega arith) refl (omega arith) tt)
      (λ _. cond_both (eqb b 47) _ _ Is (λ e. one_sign b 47 bs (Sign Divide) e (omega arith) refl (omega arith) tt)
      (λ _. cond_both (eqb b 37) _ _ Is (λ e. one_sign b 37 bs (Sign Remainder) e (omega arith) refl (omega arith) tt)
      (λ _. cond_both (eqb b 40) _ _ Is (λ e. one_sign b 40 bs Open e (omega arith) refl (omega arith) tt)
      (λ _. cond_both (eqb b 41) _ _ Is (λ e. one_sign b 41 bs Close e (omega arith) refl (omega arith) tt)
      (λ _. one_front_is b bs Bad refl (omega arith) (λ good. absurd (good refl))))))))))))

  letter_front_is : (b : ℕ) (bs : List ℕ) → is_letter b ≡ true → IsFront names (b ∷ bs) (run_front (word_token names (word_run (b ∷ bs))) (word_run (b ∷ bs)))
  letter_front_is b bs letter =
      let w : is_word_byte b ≡ true = or_left _ _ letter in
      let e : word_run (b ∷ bs) ≡ b ∷ word_run bs = cond-true (is_word_byte b) _ _ w in
      subst (λ r. IsFront names (b ∷ bs) (run_front (word_token names r) r)) (sym e)
      (run_front_is names b bs (b ∷ word_run bs) (word_token names (b ∷ word_run bs)) w (sym e) refl (word_of names b (word_run bs) letter (w, run_bytes bs)))

  digit_front_is : (b : ℕ) (bs : List ℕ) → is_digit b ≡ true → IsFront names (b ∷ bs) (run_front (number_token (word_run (b ∷ bs))) (word_run (b ∷ bs)))
  digit_front_is b bs digit =
      let w : is_word_byte b ≡ true = digit_word b digit in
      let e : word_run (b ∷ bs) ≡ b ∷ word_run bs = cond-true (is_word_byte b) _ _ w in
      subst (λ r. IsFront names (b ∷ bs) (run_front (number_token r) r)) (sym e)
      (run_front_is names b bs (b ∷ word_run bs) (number_token (b ∷ word_run bs)) w (sym e) refl (number_token_is names (b ∷ word_run bs) (omega arith)))

  -- the token at the front of a text, whatever it is
  pub front_is : (b : ℕ) (bs : List ℕ) → IsFront names (b ∷ bs) (front_of names (b ∷ bs))
  front_is b bs =
      let Is = IsFront names (b ∷ bs) in
      cond_both (is_letter b) _ _ Is (letter_front_is b bs)
      (λ _. cond_both (is_digit b) _ _ Is (digit_front_is b bs)
      (λ _. cond_both (eqb b 39) _ _ Is (λ e. text_front_is b bs (quoted false bs) (eqb-true b 39 e) (quoted_is bs))
      (λ _. sign_front_is b bs)))

no_gap : (p w : Bool) → (p ≡ true → w ≡ true → ⊥) → gap p w ≡ 0
no_gap true true h = absurd (h refl refl)
no_gap true false h = refl
no_gap false true h = refl
no_gap false false h = refl

-- no token is bad
abbrev NoneBad : List Token → Type 0
NoneBad [] = Unit {0}
NoneBad (t ∷ ts) = (t ≡ Bad → ⊥) × NoneBad ts

turns_good : (w : Bool) (ts : List Token) → TakesTurns w ts → NoneBad ts
turns_good w [] h = tt
turns_good true (Operand a ∷ ts) h = (λ e. cc, turns_good false ts h)
turns_good true (Sign op ∷ ts) h = (λ e. cc, turns_good true ts h.1)
turns_good true (Not ∷ ts) h = (λ e. cc, turns_good true ts h)
turns_good true (Open ∷ ts) h = (λ e. cc, turns_good true ts h)
turns_good true (Close ∷ ts) h = absurd h
turns_good true (Bad ∷ ts) h = absurd h
turns_good false (Operand a ∷ ts) h = absurd h
turns_good false (Sign op ∷ ts) h = (λ e. cc, turns_good true ts h)
turns_good false (Not ∷ ts) h = absurd h
turns_good false (Open ∷ ts) h = absurd h
turns_good false (Close ∷ ts) h = (λ e. cc, turns_good false ts h)
turns_good false (Bad ∷ ts) h = absurd h

named_known : (count c p : ℕ) (rest : Option ℕ) (b : Bool) → ltb c count ≡ b → cond b rest (Some p) ≡ None → (c < count) × (rest ≡ None)
named_known count c p rest true e h = (ltb-true c count e, h)
named_known count c p rest false e h = absurd cc

here_known : (count p : ℕ) (t : Token) (rest : Option ℕ) → unknown_here count p t rest ≡ None → IsKnown count t × (rest ≡ None)
here_known count p (Operand (named c)) rest h = named_known count c p rest (ltb c count) refl h
here_known count p (Operand (Number n)) rest h = (tt, h)
here_known count p (Operand (Text s)) rest h = (tt, h)
here_known count p (Sign op) rest h = (tt, h)
here_known count p Not rest h = (tt, h)
here_known count p Open rest h = (tt, h)
here_known count p Close rest h = (tt, h)
here_known count p Bad rest h = (tt, h)

module _ (names : List (List ℕ)) where
  abbrev Costs : Bool → List ℕ → List Placed → Type 0
  Costs p s ps = cost names p (bare ps) false ≤ length s

  -- a text has as many bytes as its tokens need
  pub thrift : (m place : ℕ) (s : List ℕ) (p : Bool) → length s ≤ m → (p ≡ true → is_word_byte (get_or s 0 0) ≡ false) → Costs p s (tokens_from names 0 place s)
  thrift m place [] p le h = omega (arith, gap_none names p)
  thrift zero place (b ∷ s) p le h = absurd (omega arith)
  thrift (suc m) place (b ∷ s) p le h =
      elim (cases_eq b 32) as (λ _. Costs p (b ∷ s) (tokens_from names 0 place (b ∷ s))) [
        | inl e ↦
            (let rest = tokens_from names 0 (place + 1) s in
            let ih = thrift m (place + 1) s false (omega arith) (λ x. absurd cc) in
            subst (Costs p (b ∷ s)) (sym (space_first names place b s e)) (omega (arith, cost_left names p (bare rest) false, ih)))
        | inr ne ↦
            (let f = front_of names (b ∷ s) in
            let is = front_is names b s in
            let rest = tokens_from names 0 (place + f.size) (drop f.size (b ∷ s)) in
            let ih = thrift m (place + f.size) (drop f.size (b ∷ s)) (is_word f.token) (omega (arith, is.some, length-drop f.size (b ∷ s))) is.stops in
            let none = no_gap p (is_word f.token) (λ x y. let u = h x in let v = is.starts y in absurd cc) in
            subst (Costs p (b ∷ s)) (sym (token_first names place b s f ne refl is.some)) (omega (arith, none, is.long, is.inside, ih, length-drop f.size (b ∷ s))))
      ]

  abbrev Good : List Placed → Type 0
  Good ps = NoneBad (bare ps) → first_unknown (length names) ps ≡ None → AreTokens names (bare ps)

  -- where no token is bad or unknown, all are columns, numbers, texts and signs
  pub tokens_good : (m place : ℕ) (s : List ℕ) → length s ≤ m → IsUtf8 s → Good (tokens_from names 0 place s)
  tokens_good m place [] le u = λ good known. tt
  tokens_good zero place (b ∷ s) le u = absurd (omega arith)
  tokens_good (suc m) place (b ∷ s) le u =
      elim (cases_eq b 32) as (λ _. Good (tokens_from names 0 place (b ∷ s))) [
        | inl e ↦
            (let behind : IsUtf8 s = IsUtf8-drop (b ∷ s) 1 u (IsCharBoundary-after_ascii (b ∷ s) 0 u (omega arith) (omega arith)) in
            subst Good (sym (space_first names place b s e)) (tokens_good m (place + 1) s (omega arith) behind))
        | inr ne ↦
            (let f = front_of names (b ∷ s) in
            let is = front_is names b s in
            let rest = tokens_from names 0 (place + f.size) (drop f.size (b ∷ s)) in
            subst Good (sym (token_first names place b s f ne refl is.some))
            (λ good known.
            let k = here_known (length names) place f.token (first_unknown (length names) rest) known in
            let last : f.size - 1 < length (b ∷ s) = omega (arith, is.some, is.inside) in
            let e : f.size - 1 + 1 ≡ f.size = omega (arith, is.some) in
            let cut = subst (IsCharBoundary (b ∷ s)) e (IsCharBoundary-after_ascii (b ∷ s) (f.size - 1) u last (is.plain good.0)) in
            (is.token good.0 k.0 u, tokens_good m (place + f.size) (drop f.size (b ∷ s)) (omega (arith, is.some, length-drop f.size (b ∷ s))) (IsUtf8-drop (b ∷ s) f.size u cut) good.1 k.1)))
      ]

  pub text_good : (place : ℕ) (s : List ℕ) → IsUtf8 s → TakesTurns true (bare (tokens_from names 0 place s)) → first_unknown (length names) (tokens_from names 0 place s) ≡ None → AreTokens names (bare (tokens_from names 0 place s))
  text_good place s u turns known = tokens_good (length s) place s (omega arith) u (turns_good true (bare (tokens_from names 0 place s)) turns) known
