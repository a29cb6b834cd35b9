-- The text of tokens that take turns is cut into these tokens.
use Rattle.std.proofs.Common.{◌≡◌, ℕ, suc, ◌+◌, ◌^◌, ◌<◌, ◌≤◌, List, [], ◌∷◌, ◌++◌, length, get_or, drop, Bool, true, false, ◌&&◌, Some, refl, sym, ap, ap₂, ◌∙◌, subst, arith, leb, ltb, eqb, lt-ltb, leb-true, length-append, pos, inl, inr}
use Rattle.std.specs.Fmt.{decimal}
use Rattle.std.proofs.lemmas.Bool.{cond-true, cond-false, cases_Bool, and_left, and_right, and_parts, eqb-true, lt-leb, ne_eqb, le-ltb}
use Rattle.std.proofs.lemmas.List.{get_or_append_left, drop_at}
use Rattle.q4_cond.specs.declared.tree.Operator.{Operator}
use Rattle.q4_cond.specs.declared.tree.Operator.TheVariants.{Or, And, Equal, Unequal, Below, AtMost, Above, AtLeast, Add, Subtract, Multiply, Divide, Remainder}
use Rattle.q4_cond.specs.declared.tree.Atom.TheVariants.{Column as named, Number, Text}
use Rattle.q4_cond.specs.declared.tree.Front.{Front}
use Rattle.q4_cond.specs.declared.tree.Token.{Token}
use Rattle.q4_cond.specs.declared.tree.Token.TheVariants.{Operand, Sign, Not, Open, Close, Bad}
use Rattle.q4_cond.specs.Tokens.{is_letter, is_digit, is_word_byte, word_run, word_token, number_token, numeral, quoted, longer, with_byte, run_front, text_front, one_byte, front_of, tokens_from, bare}
use Rattle.q4_cond.specs.Shown.{doubled, name_text, sign_text}
use Rattle.q4_cond.proofs.Scanning.{space_first, token_first}
use Rattle.q4_cond.proofs.Canonical.{is_word, sign_is_word, token_text, TakesTurns}
use Rattle.q4_cond.proofs.Spelling.{AllWordBytes, IsDigits, decimal_digits, IsToken, AreTokens, token_ends, spaces, written, number_text}

-- a run of words ends where no byte of words follows
run_ends : (bs : List ℕ) → is_word_byte (get_or bs 0 0) ≡ false → word_run bs ≡ []
run_ends [] h = refl
run_ends (b ∷ bs) h = cond-false (is_word_byte b) _ _ h

word_run-append : (w rest : List ℕ) → AllWordBytes w → is_word_byte (get_or rest 0 0) ≡ false → word_run (w ++ rest) ≡ w
word_run-append [] rest h k = run_ends rest k
word_run-append (b ∷ w) rest h k = cond-true (is_word_byte b) _ _ h.0 ∙ ap (λ x. b ∷ x) (word_run-append w rest h.1 k)

digit_no_letter : (b : ℕ) → is_digit b ≡ true → is_letter b ≡ false
digit_no_letter b h =
    let k = and_parts (leb 48 b) (leb b 57) h in
    let small : b ≤ 57 = leb-true b 57 k.1 in
    and_left (leb 97 b) (leb b 122) (lt-leb 97 b (omega arith))

-- a number's own digits are read as the number
number_reads : (n : ℕ) (ds : List ℕ) → IsDigits n ds → n < 2 ^ 127 → number_token ds ≡ Operand (Number (pos n))
number_reads n ds h small =
    let plain : (eqb (get_or ds 0 0) 48 && ltb 1 (length ds)) ≡ false =
    elim (cases_Bool (eqb (get_or ds 0 0) 48)) as (λ _. (eqb (get_or ds 0 0) 48 && ltb 1 (length ds)) ≡ false) [
      | inl e ↦ (let one = (h.zeros (eqb-true _ _ e)).1 in and_right _ _ (le-ltb 1 (length ds) (omega arith)))
      | inr e ↦ and_left _ _ e
    ] in
    cond-false _ _ _ plain ∙ (ap numeral h.value ∙ cond-true (ltb n (2 ^ 127)) _ _ (lt-ltb n (2 ^ 127) small))

-- behind its last quote a text ends, unless another quote follows
quote_ends : (bs : List ℕ) → eqb (get_or bs 0 0) 39 ≡ false → quoted true bs ≡ Some (record { text = []; size = 0 })
quote_ends [] h = refl
quote_ends (b ∷ bs) h = cond-false (eqb b 39) _ _ h

quoted-doubled : (s behind : List ℕ) → eqb (get_or behind 0 0) 39 ≡ false → quoted false ((doubled s ++ 39 ∷ []) ++ behind) ≡ Some (record { text = s; size = suc (length (doubled s)) })
quoted-doubled [] behind h = ap longer (quote_ends behind h)
quoted-doubled (b ∷ s) behind h =
    elim (cases_Bool (eqb b 39)) as (λ _. quoted false ((doubled (b ∷ s) ++ 39 ∷ []) ++ behind) ≡ Some (record { text = b ∷ s; size = suc (length (doubled (b ∷ s))) })) [
      | inl e ↦
          (let d : doubled (b ∷ s) ≡ 39 ∷ 39 ∷ doubled s = cond-true (eqb b 39) _ _ e in
          let ih = quoted-doubled s behind h in
          ap (λ l. quoted false ((l ++ 39 ∷ []) ++ behind)) d
          ∙ (ap (λ o. longer (with_byte 39 o)) ih
          ∙ ap₂ (λ x n. Some (record { text = x ∷ s; size = suc n })) (sym (eqb-true b 39 e)) (ap length (sym d))))
      | inr e ↦
          (let d : doubled (b ∷ s) ≡ b ∷ doubled s = cond-false (eqb b 39) _ _ e in
          let ih = quoted-doubled s behind h in
          let rest = (doubled s ++ 39 ∷ []) ++ behind in
          ap (λ l. quoted false ((l ++ 39 ∷ []) ++ behind)) d
          ∙ (cond-false (eqb b 39) (longer (quoted (eqb b 39) rest)) (with_byte b (quoted (eqb b 39) rest)) e
          ∙ (ap (λ k. with_byte b (quoted k rest)) e
          ∙ (ap (with_byte b) ih ∙ ap (λ n. Some (record { text = b ∷ s; size = suc n })) (ap length (sym d))))))
    ]

-- what stands behind a token, so that no longer token begins with it
abbrev AfterSign : Operator → ℕ → Type 0
AfterSign Or b = is_word_byte b ≡ false
AfterSign And b = is_word_byte b ≡ false
AfterSign Equal b = Unit {0}
AfterSign Unequal b = Unit {0}
AfterSign Below b = (eqb b 62 ≡ false) × (eqb b 61 ≡ false)
AfterSign AtMost b = Unit {0}
AfterSign Above b = eqb b 61 ≡ false
AfterSign AtLeast b = Unit {0}
AfterSign Add b = Unit {0}
AfterSign Subtract b = Unit {0}
AfterSign Multiply b = Unit {0}
AfterSign Divide b = Unit {0}
AfterSign Remainder b = Unit {0}

abbrev After : Token → ℕ → Type 0
After (Operand (named c)) b = is_word_byte b ≡ false
After (Operand (Number n)) b = is_word_byte b ≡ false
After (Operand (Text s)) b = eqb b 39 ≡ false
After (Sign op) b = AfterSign op b
After Not b = is_word_byte b ≡ false
After Open b = Unit {0}
After Close b = Unit {0}
After Bad b = Unit {0}

abbrev front_is : Token → List ℕ → Front
front_is t text = record { token = t; size = length text }

module _ (names : List (List ℕ)) where
  word_front : (first : ℕ) (rest behind : List ℕ) (t : Token) → is_letter first ≡ true → AllWordBytes (first ∷ rest) → word_token names (first ∷ rest) ≡ t → is_word_byte (get_or behind 0 0) ≡ false → front_of names ((first ∷ rest) ++ behind) ≡ front_is t (first ∷ rest)
  word_front first rest behind t letter bytes reads h =
      cond-true (is_letter first) _ _ letter
      ∙ (ap (λ w. run_front (word_token names w) w) (word_run-append (first ∷ rest) behind bytes h) ∙ ap (λ x. front_is x (first ∷ rest)) reads)

  digits_front : (ds behind : List ℕ) (t : Token) → is_digit (get_or ds 0 0) ≡ true → 0 < length ds → AllWordBytes ds → number_token ds ≡ t → is_word_byte (get_or behind 0 0) ≡ false → front_of names (ds ++ behind) ≡ front_is t ds
  digits_front [] behind t digit some bytes reads h = absurd (omega arith)
  digits_front (d ∷ ds) behind t digit some bytes reads h =
      cond-false (is_letter d) _ _ (digit_no_letter d digit)
      ∙ (cond-true (is_digit d) _ _ digit
      ∙ (ap (λ w. run_front (number_token w) w) (word_run-append (d ∷ ds) behind bytes h) ∙ ap (λ x. front_is x (d ∷ ds)) reads))

  sign_front_is : (op : Operator) (behind : List ℕ) → AfterSign op (get_or behind 0 0) → front_of names (sign_text op ++ behind) ≡ front_is (Sign op) (sign_text op)
  sign_front_is Or behind h = word_front 111 (114 ∷ []) behind (Sign Or) refl (refl, (refl, tt)) refl h
  sign_front_is And behind h = word_front 97 (110 ∷ 100 ∷ []) behind (Sign And) refl (refl, (refl, (refl, tt))) refl h
  sign_front_is Equal behind h = refl
  sign_front_is Unequal behind h = refl
  sign_front_is Below behind h = cond-false (eqb (get_or behind 0 0) 62) _ _ h.0 ∙ cond-false (eqb (get_or behind 0 0) 61) _ _ h.1
  sign_front_is AtMost behind h = refl
  sign_front_is Above behind h = cond-false (eqb (get_or behind 0 0) 61) _ _ h
  sign_front_is AtLeast behind h = refl
  sign_front_is Add behind h = refl
  sign_front_is Subtract behind h = refl
  sign_front_is Multiply behind h = refl
  sign_front_is Divide behind h = refl
  sign_front_is Remainder behind h = refl

  -- a token's text is cut off as this token
  pub token_front : (t : Token) (behind : List ℕ) → IsToken names t → After t (get_or behind 0 0) → front_of names (token_text names t ++ behind) ≡ front_is t (token_text names t)
  token_front (Operand (named c)) behind h a =
      let e : token_text names (Operand (named c)) ≡ h.first ∷ h.rest = ap name_text h.is in
      ap (λ l. front_of names (l ++ behind)) e ∙ (word_front h.first h.rest behind (Operand (named c)) h.letter h.bytes h.reads a ∙ ap (front_is (Operand (named c))) (sym e))
  token_front (Operand (Number n)) behind h a =
      let d = decimal_digits h.0 h.2 in
      let e = number_text names n h.0 h.1 in
      let reads = number_reads h.0 (decimal h.0) d h.2 ∙ ap (λ x. Operand (Number x)) (sym h.1) in
      ap (λ l. front_of names (l ++ behind)) e ∙ (digits_front (decimal h.0) behind (Operand (Number n)) d.digit d.some d.bytes reads a ∙ ap (front_is (Operand (Number n))) (sym e))
  token_front (Operand (Text s)) behind h a =
      let n : suc (suc (length (doubled s))) ≡ suc (length (doubled s ++ 39 ∷ [])) = omega (arith, length-append (doubled s) (39 ∷ [])) in
      ap (text_front ((doubled s ++ 39 ∷ []) ++ behind)) (quoted-doubled s behind a) ∙ ap (λ k. record { token = Operand (Text s); size = k }) n
  token_front (Sign op) behind h a = sign_front_is op behind a
  token_front Not behind h a = word_front 110 (111 ∷ 116 ∷ []) behind Not refl (refl, (refl, (refl, tt))) refl a
  token_front Open behind h a = refl
  token_front Close behind h a = refl
  token_front Bad behind h a = absurd h

-- whether an operand is wanted behind a token
abbrev turn : Token → Bool
turn (Operand a) = false
turn (Sign op) = true
turn Not = true
turn Open = true
turn Close = false
turn Bad = true

turns_next : (w : Bool) (t : Token) (ts : List Token) → TakesTurns w (t ∷ ts) → TakesTurns (turn t) ts
turns_next true (Operand a) ts h = h
turns_next true (Sign op) ts h = h.1
turns_next true Not ts h = h
turns_next true Open ts h = h
turns_next true Close ts h = absurd h
turns_next true Bad ts h = absurd h
turns_next false (Operand a) ts h = absurd h
turns_next false (Sign op) ts h = h
turns_next false Not ts h = absurd h
turns_next false Open ts h = absurd h
turns_next false Close ts h = h
turns_next false Bad ts h = absurd h

-- a byte that goes on no sign
record IsApart (b : ℕ) : Type 0 where
  above : eqb b 62 ≡ false
  equal : eqb b 61 ≡ false

large_apart : (b : ℕ) → 62 < b → IsApart b
large_apart b h = record { above = ne_eqb b 62 (λ e. omega arith); equal = ne_eqb b 61 (λ e. omega arith) }

small_apart : (b : ℕ) → b < 61 → IsApart b
small_apart b h = record { above = ne_eqb b 62 (λ e. omega arith); equal = ne_eqb b 61 (λ e. omega arith) }

letter_apart : (b : ℕ) → is_letter b ≡ true → IsApart b
letter_apart b h = let k = and_parts (leb 97 b) (leb b 122) h in large_apart b (omega (arith, leb-true 97 b k.0))

digit_apart : (b : ℕ) → is_digit b ≡ true → IsApart b
digit_apart b h = let k = and_parts (leb 48 b) (leb b 57) h in small_apart b (omega (arith, leb-true b 57 k.1))

sign_no_quote : (op : Operator) (rest : List ℕ) → eqb (get_or (spaces false (sign_is_word op) ++ (sign_text op ++ rest)) 0 0) 39 ≡ false
sign_no_quote Or rest = refl
sign_no_quote And rest = refl
sign_no_quote Equal rest = refl
sign_no_quote Unequal rest = refl
sign_no_quote Below rest = refl
sign_no_quote AtMost rest = refl
sign_no_quote Above rest = refl
sign_no_quote AtLeast rest = refl
sign_no_quote Add rest = refl
sign_no_quote Subtract rest = refl
sign_no_quote Multiply rest = refl
sign_no_quote Divide rest = refl
sign_no_quote Remainder rest = refl

word_stops : (w : Bool) (text : List ℕ) → is_word_byte (get_or text 0 0) ≡ w → is_word_byte (get_or (spaces true w ++ text) 0 0) ≡ false
word_stops true text h = refl
word_stops false text h = h

-- the spaces before a token, and what follows them
record Skipped (names : List (List ℕ)) (place : ℕ) (text rest : List ℕ) : Type 0 where
  behind : ℕ
  same : tokens_from names 0 place text ≡ tokens_from names 0 behind rest

skip_spaces : (names : List (List ℕ)) (p q : Bool) (place : ℕ) (rest : List ℕ) → Skipped names place (spaces p q ++ rest) rest
skip_spaces names true true place rest = record { behind = place + 1; same = space_first names place 32 rest refl }
skip_spaces names true false place rest = record { behind = place; same = refl }
skip_spaces names false true place rest = record { behind = place; same = refl }
skip_spaces names false false place rest = record { behind = place; same = refl }

-- what begins with a space begins with no token
space_front : (names : List (List ℕ)) (s : List ℕ) → get_or s 0 0 ≡ 32 → front_of names s ≡ one_byte Bad
space_front names [] e = refl
space_front names (b ∷ bs) e = ap (λ x. front_of names (x ∷ bs)) e

token_at : (names : List (List ℕ)) (p : ℕ) (s : List ℕ) (f : Front) → 0 < length s → (get_or s 0 0 ≡ 32 → ⊥) → f ≡ front_of names s → 0 < f.size → tokens_from names 0 p s ≡ record { place = p; token = f.token } ∷ tokens_from names 0 (p + f.size) (drop f.size s)
token_at names p [] f some ne e size = absurd (omega arith)
token_at names p (b ∷ s) f some ne e size = token_first names p b s f ne e size

module _ (names : List (List ℕ)) where
  after_word : (ts : List Token) → AreTokens names ts → is_word_byte (get_or (written names true ts) 0 0) ≡ false
  after_word [] h = refl
  after_word (u ∷ us) h =
      let e = token_ends names u h.0 in
      let rest = written names (is_word u) us in
      word_stops (is_word u) (token_text names u ++ rest) (ap is_word_byte (get_or_append_left (token_text names u) rest 0 0 e.some) ∙ e.first)

  after_text : (ts : List Token) → TakesTurns false ts → eqb (get_or (written names false ts) 0 0) 39 ≡ false
  after_text [] h = refl
  after_text (Operand a ∷ us) h = absurd h
  after_text (Sign op ∷ us) h = sign_no_quote op (written names (sign_is_word op) us)
  after_text (Not ∷ us) h = absurd h
  after_text (Open ∷ us) h = absurd h
  after_text (Close ∷ us) h = refl
  after_text (Bad ∷ us) h = absurd h

  word_apart : (text bytes rest : List ℕ) → text ≡ bytes → 0 < length bytes → IsApart (get_or bytes 0 0) → IsApart (get_or (text ++ rest) 0 0)
  word_apart text bytes rest e some h = subst IsApart (sym (ap (λ l. get_or (l ++ rest) 0 0) e ∙ get_or_append_left bytes rest 0 0 some)) h

  after_sign : (ts : List Token) → AreTokens names ts → TakesTurns true ts → IsApart (get_or (written names false ts) 0 0)
  after_sign [] h k = small_apart 0 (omega arith)
  after_sign (Operand (named c) ∷ us) h k = let n = h.0 in word_apart (token_text names (Operand (named c))) (n.first ∷ n.rest) (written names true us) (ap name_text n.is) (omega arith) (letter_apart n.first n.letter)
  after_sign (Operand (Number n) ∷ us) h k = let d = decimal_digits h.0.0 h.0.2 in word_apart (token_text names (Operand (Number n))) (decimal h.0.0) (written names true us) (number_text names n h.0.0 h.0.1) d.some (digit_apart _ d.digit)
  after_sign (Operand (Text s) ∷ us) h k = small_apart 39 (omega arith)
  after_sign (Sign op ∷ us) h k = subst (λ o. IsApart (get_or (written names false (Sign o ∷ us)) 0 0)) (sym k.0) (small_apart 45 (omega arith))
  after_sign (Not ∷ us) h k = large_apart 110 (omega arith)
  after_sign (Open ∷ us) h k = small_apart 40 (omega arith)
  after_sign (Close ∷ us) h k = absurd k
  after_sign (Bad ∷ us) h k = absurd k

  sign_after : (op : Operator) (ts : List Token) → AreTokens names ts → TakesTurns true ts → AfterSign op (get_or (written names (sign_is_word op) ts) 0 0)
  sign_after Or ts h k = after_word ts h
  sign_after And ts h k = after_word ts h
  sign_after Equal ts h k = tt
  sign_after Unequal ts h k = tt
  sign_after Below ts h k = let a = after_sign ts h k in (a.above, a.equal)
  sign_after AtMost ts h k = tt
  sign_after Above ts h k = (after_sign ts h k).equal
  sign_after AtLeast ts h k = tt
  sign_after Add ts h k = tt
  sign_after Subtract ts h k = tt
  sign_after Multiply ts h k = tt
  sign_after Divide ts h k = tt
  sign_after Remainder ts h k = tt

  after_next : (t : Token) (ts : List Token) → AreTokens names ts → TakesTurns (turn t) ts → After t (get_or (written names (is_word t) ts) 0 0)
  after_next (Operand (named c)) ts h k = after_word ts h
  after_next (Operand (Number n)) ts h k = after_word ts h
  after_next (Operand (Text s)) ts h k = after_text ts k
  after_next (Sign op) ts h k = sign_after op ts h k
  after_next Not ts h k = after_word ts h
  after_next Open ts h k = tt
  after_next Close ts h k = tt
  after_next Bad ts h k = tt

  no_space : (t : Token) (text : List ℕ) → IsToken names t → front_of names text ≡ front_is t (token_text names t) → get_or text 0 0 ≡ 32 → ⊥
  no_space t text h f e = let bad : Bad ≡ t = ap (λ x. x.token) (sym (space_front names text e) ∙ f) in subst (IsToken names) (sym bad) h

  -- the text of tokens that take turns is cut into them
  pub cut_written : (p wants : Bool) (place : ℕ) (ts : List Token) → AreTokens names ts → TakesTurns wants ts → bare (tokens_from names 0 place (written names p ts)) ≡ ts
  cut_written p wants place [] h k = refl
  cut_written p wants place (t ∷ ts) h k =
      let next = turns_next wants t ts k in
      let text = token_text names t in
      let rest = written names (is_word t) ts in
      let some = (token_ends names t h.0).some in
      let front = token_front names t rest h.0 (after_next t ts h.1 next) in
      let skip = skip_spaces names p (is_word t) place (text ++ rest) in
      let some' : 0 < length (text ++ rest) = omega (arith, some, length-append text rest) in
      let cut = token_at names skip.behind (text ++ rest) (front_is t text) some' (no_space t (text ++ rest) h.0 front) (sym front) some in
      ap bare (skip.same ∙ cut)
      ∙ ap (λ l. t ∷ l) (ap (λ l. bare (tokens_from names 0 (skip.behind + length text) l)) (drop_at text rest (length text) refl) ∙ cut_written (is_word t) (turn t) (skip.behind + length text) ts h.1 next)
