-- The text of tokens, with a space between two words or numbers. A tree's text is that of its own tokens.
use Rattle.std.proofs.Common.{◌≡◌, ℕ, zero, suc, ◌+◌, ◌-◌, ◌*◌, ◌^◌, ◌/◌, ◌%◌, ◌<◌, ◌≤◌, List, [], ◌∷◌, ◌++◌, length, get_or, Bool, true, false, ◌&&◌, Some, refl, sym, ap, ap₂, ◌∙◌, subst, cond, arith, append_assoc, append-nil, leb, le-leb, ltb, length-append, pos}
use Rattle.std.specs.Prelude.{slice_get}
use Rattle.std.specs.Str.{IsUtf8, IsAscii}
use Rattle.std.specs.Fmt.{decimal}
use Rattle.std.proofs.lemmas.Bool.{cond-true, and_from, and_parts, or_right, or_left, ltb-true}
use Rattle.std.proofs.lemmas.List.{get_or_append_left, get_or-append-add}
use Rattle.std.proofs.lemmas.Fmt.{decimal_by_steps_wide, IsAscii-decimal_wide}
use Rattle.std.proofs.lemmas.Str.{IsUtf8-append, IsUtf8-from_ascii, IsUtf8-nil}
use Rattle.std.proofs.lemmas.Str.Ascii.{IsAscii-nil, IsAscii-cons}
use Rattle.q4_cond.specs.declared.tree.Operator.{Operator}
use Rattle.q4_cond.specs.declared.tree.Operator.TheVariants.{Or, And, Equal, Unequal, Below, AtMost, Above, AtLeast, Add, Subtract, Multiply, Divide, Remainder}
use Rattle.q4_cond.specs.declared.tree.Atom.{Atom}
use Rattle.q4_cond.specs.declared.tree.Atom.TheVariants.{Column as named, Number, Text}
use Rattle.q4_cond.specs.declared.tree.Token.{Token}
use Rattle.q4_cond.specs.declared.tree.Token.TheVariants.{Operand, Sign, Not, Open, Close, Bad}
use Rattle.q4_cond.specs.Tree.{Tree, Simple, Two, NotOf, MinusOf, left_level, right_level}
use Rattle.q4_cond.specs.Grammar.{Phrase, atom, group, minus, inverse, both, looser}
use Rattle.q4_cond.specs.Tokens.{is_letter, is_digit, is_word_byte, word_token, digits_from}
use Rattle.q4_cond.specs.Shown.{doubled, atom_text, name_text, sign_text, spaced, wrapped, shown}
use Rattle.q4_cond.proofs.Sound.{cond_opened}
use Rattle.q4_cond.proofs.Canonical.{tree_level, in_group, canonical, canonical_at, is_word, sign_is_word, token_text, gap, cost}

abbrev pub AllWordBytes : List ℕ → Type 0
AllWordBytes [] = Unit {0}
AllWordBytes (b ∷ bs) = (is_word_byte b ≡ true) × AllWordBytes bs

pub word_at : (bs : List ℕ) (i : ℕ) → AllWordBytes bs → i < length bs → is_word_byte (get_or bs i 0) ≡ true
word_at [] i h lt = absurd (omega arith)
word_at (b ∷ bs) zero h lt = h.0
word_at (b ∷ bs) (suc i) h lt = word_at bs i h.1 (omega arith)

pub word_byte_small : (b : ℕ) → is_word_byte b ≡ true → b < 128
word_byte_small b h = grind arith

word_ascii : (bs : List ℕ) → AllWordBytes bs → IsAscii bs
word_ascii [] h = IsAscii-nil
word_ascii (b ∷ bs) h = IsAscii-cons b bs (word_byte_small b h.0) (word_ascii bs h.1)

abbrev all_small : List ℕ → Bool
all_small [] = true
all_small (b ∷ bs) = ltb b 128 && all_small bs

small_ascii : (bs : List ℕ) → all_small bs ≡ true → IsAscii bs
small_ascii [] h = IsAscii-nil
small_ascii (b ∷ bs) h = let k = and_parts (ltb b 128) (all_small bs) h in IsAscii-cons b bs (ltb-true b 128 k.0) (small_ascii bs k.1)

small_text : (bs : List ℕ) → all_small bs ≡ true → IsUtf8 bs
small_text bs h = IsUtf8-from_ascii bs (small_ascii bs h)

-- the digits of a number
pub record IsDigits (n : ℕ) (ds : List ℕ) : Type 0 where
  pub value : digits_from 0 ds ≡ Some n
  pub bytes : AllWordBytes ds
  pub digit : is_digit (get_or ds 0 0) ≡ true
  pub some : 0 < length ds
  pub zeros : get_or ds 0 0 ≡ 48 → (n ≡ 0) × (length ds ≡ 1)

digit_is : (d : ℕ) → d < 10 → is_digit (48 + d) ≡ true
digit_is d h = and_from _ _ (le-leb 48 (48 + d) (omega arith)) (le-leb (48 + d) 57 (omega arith))

pub digit_word : (b : ℕ) → is_digit b ≡ true → is_word_byte b ≡ true
digit_word b h = or_right _ _ (or_left _ _ h)

digits_push : (m n d : ℕ) (ds : List ℕ) → digits_from m ds ≡ Some n → is_digit d ≡ true → digits_from m (ds ++ d ∷ []) ≡ Some (10 * n + (d - 48))
digits_push m n d [] e h = let same : m ≡ n = cc in cond-true (is_digit d) _ _ h ∙ ap (λ x. Some (10 * x + (d - 48))) same
digits_push m n d (b ∷ ds) e h =
    let c = cond_opened (is_digit b) (digits_from (10 * m + (b - 48)) ds) n e in
    cond-true (is_digit b) _ _ c.0 ∙ digits_push (10 * m + (b - 48)) n d ds c.1 h

word_push : (ds : List ℕ) (d : ℕ) → AllWordBytes ds → is_word_byte d ≡ true → AllWordBytes (ds ++ d ∷ [])
word_push [] d h k = (k, tt)
word_push (b ∷ ds) d h k = (h.0, word_push ds d h.1 k)

one_digit : (n : ℕ) → n < 10 → IsDigits n ((48 + n) ∷ [])
one_digit n h =
    let is = digit_is n h in
    let v : 10 * 0 + (48 + n - 48) ≡ n = omega arith in
    record { value = cond-true (is_digit (48 + n)) _ _ is ∙ ap Some v; bytes = (digit_word (48 + n) is, tt); digit = is; some = omega arith; zeros = λ e. (omega arith, refl) }

more_digits : (n : ℕ) (ds : List ℕ) → 10 ≤ n → IsDigits (n / 10) ds → IsDigits n (ds ++ (48 + n % 10) ∷ [])
more_digits n ds le h =
    let d = 48 + n % 10 in
    let small : n % 10 < 10 = omega arith in
    let is = digit_is (n % 10) small in
    let v : 10 * (n / 10) + (48 + n % 10 - 48) ≡ n = omega arith in
    let front : get_or (ds ++ d ∷ []) 0 0 ≡ get_or ds 0 0 = get_or_append_left ds (d ∷ []) 0 0 h.some in
    record {
      value = digits_push 0 (n / 10) d ds h.value is ∙ ap Some v;
      bytes = word_push ds d h.bytes (digit_word d is);
      digit = ap is_digit front ∙ h.digit;
      some = omega (arith, length-append ds (d ∷ []));
      zeros = λ e. (let z = (h.zeros (sym front ∙ e)).0 in absurd (omega arith));
    }

pub decimal_digits : (n : ℕ) → n < 2 ^ 127 → IsDigits n (decimal n)
decimal_digits n h = decimal_by_steps_wide IsDigits one_digit more_digits n (omega arith)

-- the word of a column
pub record IsName (names : List (List ℕ)) (c : ℕ) : Type 0 where
  pub first : ℕ
  pub rest : List ℕ
  pub known : c < length names
  pub is : slice_get names c ≡ Some (first ∷ rest)
  pub letter : is_letter first ≡ true
  pub bytes : AllWordBytes (first ∷ rest)
  pub reads : word_token names (first ∷ rest) ≡ Operand (named c)

-- what a token of a text is
abbrev pub IsAtom : List (List ℕ) → Atom → Type 0
IsAtom names (named c) = IsName names c
IsAtom names (Number n) = (k : ℕ) × (n ≡ pos k) × (k < 2 ^ 127)
IsAtom names (Text s) = IsUtf8 (doubled s)

abbrev pub IsToken : List (List ℕ) → Token → Type 0
IsToken names (Operand a) = IsAtom names a
IsToken names (Sign op) = Unit {0}
IsToken names Not = Unit {0}
IsToken names Open = Unit {0}
IsToken names Close = Unit {0}
IsToken names Bad = ⊥

abbrev pub AreTokens : List (List ℕ) → List Token → Type 0
AreTokens names [] = Unit {0}
AreTokens names (t ∷ ts) = IsToken names t × AreTokens names ts

abbrev last_byte : List ℕ → ℕ
last_byte bs = get_or bs (length bs - 1) 0

last-append : (xs ys : List ℕ) → 0 < length ys → last_byte (xs ++ ys) ≡ last_byte ys
last-append xs ys some =
    let e : length (xs ++ ys) - 1 ≡ length xs + (length ys - 1) = omega (arith, length-append xs ys) in
    ap (λ i. get_or (xs ++ ys) i 0) e ∙ get_or-append-add xs ys (length ys - 1) 0

-- where a token is a word or a number its text begins and ends with a byte of words, and else it does not
pub record Ends (t : Token) (text : List ℕ) : Type 0 where
  pub some : 0 < length text
  pub first : is_word_byte (get_or text 0 0) ≡ is_word t
  pub last : is_word_byte (last_byte text) ≡ is_word t

word_ends : (t : Token) (text bytes : List ℕ) → is_word t ≡ true → text ≡ bytes → AllWordBytes bytes → 0 < length bytes → Ends t text
word_ends t text bytes w e h some =
    let g = word_at bytes 0 h some in
    let k = word_at bytes (length bytes - 1) h (omega arith) in
    subst (λ x. Ends t x) (sym e) (record { some = some; first = g ∙ sym w; last = k ∙ sym w })

sign_ends : (op : Operator) → Ends (Sign op) (sign_text op)
sign_ends Or = record { some = omega arith; first = refl; last = refl }
sign_ends And = record { some = omega arith; first = refl; last = refl }
sign_ends Equal = record { some = omega arith; first = refl; last = refl }
sign_ends Unequal = record { some = omega arith; first = refl; last = refl }
sign_ends Below = record { some = omega arith; first = refl; last = refl }
sign_ends AtMost = record { some = omega arith; first = refl; last = refl }
sign_ends Above = record { some = omega arith; first = refl; last = refl }
sign_ends AtLeast = record { some = omega arith; first = refl; last = refl }
sign_ends Add = record { some = omega arith; first = refl; last = refl }
sign_ends Subtract = record { some = omega arith; first = refl; last = refl }
sign_ends Multiply = record { some = omega arith; first = refl; last = refl }
sign_ends Divide = record { some = omega arith; first = refl; last = refl }
sign_ends Remainder = record { some = omega arith; first = refl; last = refl }

module _ (names : List (List ℕ)) where
  pub number_text : (n : _) (k : ℕ) → n ≡ pos k → atom_text names (Number n) ≡ decimal k
  number_text n k e = ap (λ x. atom_text names (Number x)) e

  pub token_ends : (t : Token) → IsToken names t → Ends t (token_text names t)
  token_ends (Operand (named c)) h = word_ends (Operand (named c)) (token_text names (Operand (named c))) (h.first ∷ h.rest) refl (ap name_text h.is) h.bytes (omega arith)
  token_ends (Operand (Number n)) h = let d = decimal_digits h.0 h.2 in word_ends (Operand (Number n)) (token_text names (Operand (Number n))) (decimal h.0) refl (number_text n h.0 h.1) d.bytes d.some
  token_ends (Operand (Text s)) h = record { some = omega arith; first = refl; last = ap is_word_byte (last-append (39 ∷ doubled s) (39 ∷ []) (omega arith)) }
  token_ends (Sign op) h = sign_ends op
  token_ends Not h = record { some = omega arith; first = refl; last = refl }
  token_ends Open h = record { some = omega arith; first = refl; last = refl }
  token_ends Close h = record { some = omega arith; first = refl; last = refl }
  token_ends Bad h = absurd h

abbrev pub spaces : Bool → Bool → List ℕ
spaces true true = 32 ∷ []
spaces true false = []
spaces false true = []
spaces false false = []

spaces_before : (q : Bool) → spaces false q ≡ []
spaces_before true = refl
spaces_before false = refl

spaces_behind : (p : Bool) → spaces p false ≡ []
spaces_behind true = refl
spaces_behind false = refl

length-spaces : (p q : Bool) → length (spaces p q) ≡ gap p q
length-spaces true true = refl
length-spaces true false = refl
length-spaces false true = refl
length-spaces false false = refl

spaces_text : (p q : Bool) → IsUtf8 (spaces p q)
spaces_text true true = small_text (32 ∷ []) refl
spaces_text true false = IsUtf8-nil
spaces_text false true = IsUtf8-nil
spaces_text false false = IsUtf8-nil

spaced_by : (p q : Bool) (a b : List ℕ) → cond (p && q) (a ++ 32 ∷ b) (a ++ b) ≡ a ++ (spaces p q ++ b)
spaced_by true true a b = refl
spaced_by true false a b = refl
spaced_by false true a b = refl
spaced_by false false a b = refl

sign_utf8 : (op : Operator) → IsUtf8 (sign_text op)
sign_utf8 Or = small_text (sign_text Or) refl
sign_utf8 And = small_text (sign_text And) refl
sign_utf8 Equal = small_text (sign_text Equal) refl
sign_utf8 Unequal = small_text (sign_text Unequal) refl
sign_utf8 Below = small_text (sign_text Below) refl
sign_utf8 AtMost = small_text (sign_text AtMost) refl
sign_utf8 Above = small_text (sign_text Above) refl
sign_utf8 AtLeast = small_text (sign_text AtLeast) refl
sign_utf8 Add = small_text (sign_text Add) refl
sign_utf8 Subtract = small_text (sign_text Subtract) refl
sign_utf8 Multiply = small_text (sign_text Multiply) refl
sign_utf8 Divide = small_text (sign_text Divide) refl
sign_utf8 Remainder = small_text (sign_text Remainder) refl

-- whether the last token is a word or a number, and whether the first is
abbrev last_word : Bool → List Token → Bool
last_word p [] = p
last_word p (t ∷ ts) = last_word (is_word t) ts

abbrev first_word : List Token → Bool
first_word [] = false
first_word (t ∷ ts) = is_word t

module _ (names : List (List ℕ)) where
  -- the tokens' text, behind a word or number where p says so
  abbrev pub written : Bool → List Token → List ℕ
  written p [] = []
  written p (t ∷ ts) = spaces p (is_word t) ++ (token_text names t ++ written (is_word t) ts)

  pub length-written : (p : Bool) (ts : List Token) → length (written p ts) ≡ cost names p ts false
  length-written true [] = refl
  length-written false [] = refl
  length-written p (t ∷ ts) =
      omega (arith, length-append (spaces p (is_word t)) (token_text names t ++ written (is_word t) ts), length-append (token_text names t) (written (is_word t) ts), length-spaces p (is_word t), length-written (is_word t) ts)

  written-append : (p : Bool) (a b : List Token) → written p (a ++ b) ≡ written p a ++ written (last_word p a) b
  written-append p [] b = refl
  written-append p (t ∷ a) b =
      ap (λ l. spaces p (is_word t) ++ (token_text names t ++ l)) (written-append (is_word t) a b)
      ∙ (ap (λ l. spaces p (is_word t) ++ l) (sym (append_assoc (token_text names t) (written (is_word t) a) (written (last_word (is_word t) a) b)))
      ∙ sym (append_assoc (spaces p (is_word t)) (token_text names t ++ written (is_word t) a) (written (last_word (is_word t) a) b)))

  written_behind : (p : Bool) (b : List Token) → written p b ≡ spaces p (first_word b) ++ written false b
  written_behind p [] = sym (ap (λ l. l ++ []) (spaces_behind p))
  written_behind p (t ∷ ts) = ap (λ l. spaces p (is_word t) ++ l) (sym (ap (λ l. l ++ (token_text names t ++ written (is_word t) ts)) (spaces_before (is_word t))))

  written_first : (ts : List Token) → AreTokens names ts → is_word_byte (get_or (written false ts) 0 0) ≡ first_word ts
  written_first [] h = refl
  written_first (t ∷ ts) h =
      let e = token_ends names t h.0 in
      ap (λ l. is_word_byte (get_or (l ++ (token_text names t ++ written (is_word t) ts)) 0 0)) (spaces_before (is_word t))
      ∙ (ap is_word_byte (get_or_append_left (token_text names t) (written (is_word t) ts) 0 0 e.some) ∙ e.first)

  written_some : (p : Bool) (t : Token) (ts : List Token) → IsToken names t → 0 < length (written p (t ∷ ts))
  written_some p t ts h =
      let e = token_ends names t h in
      let some = e.some in
      omega (arith, length-append (spaces p (is_word t)) (token_text names t ++ written (is_word t) ts), length-append (token_text names t) (written (is_word t) ts))

  written_last : (p : Bool) (t : Token) (ts : List Token) → AreTokens names (t ∷ ts) → is_word_byte (last_byte (written p (t ∷ ts))) ≡ last_word p (t ∷ ts)
  written_last p t [] h =
      let e = token_ends names t h.0 in
      ap (λ l. is_word_byte (last_byte (spaces p (is_word t) ++ l))) (append-nil (token_text names t))
      ∙ (ap is_word_byte (last-append (spaces p (is_word t)) (token_text names t) e.some) ∙ e.last)
  written_last p t (u ∷ us) h =
      let rest = written (is_word t) (u ∷ us) in
      let some = written_some (is_word t) u us h.1.0 in
      let some' : 0 < length (token_text names t ++ rest) = omega (arith, some, length-append (token_text names t) rest) in
      ap is_word_byte (last-append (spaces p (is_word t)) (token_text names t ++ rest) some' ∙ last-append (token_text names t) rest some)
      ∙ written_last (is_word t) u us h.1

  written_end : (ts : List Token) → AreTokens names ts → is_word_byte (last_byte (written false ts)) ≡ last_word false ts
  written_end [] h = refl
  written_end (t ∷ ts) h = written_last false t ts h

  spaced_written : (a b : List Token) → AreTokens names a → AreTokens names b → spaced (written false a) (written false b) ≡ written false (a ++ b)
  spaced_written a b h k =
      let x = written false a in
      let y = written false b in
      ap₂ (λ p q. cond (p && q) (x ++ 32 ∷ y) (x ++ y)) (written_end a h) (written_first b k)
      ∙ (spaced_by (last_word false a) (first_word b) x y
      ∙ (ap (λ l. x ++ l) (sym (written_behind (last_word false a) b)) ∙ sym (written-append false a b)))

  written_close : (ts : List Token) → written false (ts ++ Close ∷ []) ≡ written false ts ++ 41 ∷ []
  written_close ts = written-append false ts (Close ∷ []) ∙ ap (λ l. written false ts ++ (l ++ 41 ∷ [])) (spaces_behind (last_word false ts))

  written_cond : (b : Bool) (ts us : List Token) → written false (cond b ts us) ≡ cond b (written false ts) (written false us)
  written_cond true ts us = refl
  written_cond false ts us = refl

  -- its leaves are columns, numbers and texts
  abbrev pub LeavesAre : Tree → Type 0
  LeavesAre (Simple a) = IsAtom names a
  LeavesAre (Two op t u) = LeavesAre t × LeavesAre u
  LeavesAre (NotOf t) = LeavesAre t
  LeavesAre (MinusOf t) = LeavesAre t

  pub tokens_both : (a b : List Token) → AreTokens names a → AreTokens names b → AreTokens names (a ++ b)
  tokens_both [] b h k = k
  tokens_both (t ∷ a) b h k = (h.0, tokens_both a b h.1 k)

  tokens_left : (a b : List Token) → AreTokens names (a ++ b) → AreTokens names a
  tokens_left [] b h = tt
  tokens_left (t ∷ a) b h = (h.0, tokens_left a b h.1)

  tokens_right : (a b : List Token) → AreTokens names (a ++ b) → AreTokens names b
  tokens_right [] b h = h
  tokens_right (t ∷ a) b h = tokens_right a b h.1

  placed_tokens : (b : Bool) (ts : List Token) → AreTokens names ts → AreTokens names (cond b ts (in_group ts))
  placed_tokens true ts h = h
  placed_tokens false ts h = (tt, tokens_both ts (Close ∷ []) h (tt, tt))

  pub canonical_tokens : (t : Tree) → LeavesAre t → AreTokens names (canonical t)
  canonical_tokens (Simple a) h = (h, tt)
  canonical_tokens (Two op t u) h =
      tokens_both (canonical_at (left_level op) t) (Sign op ∷ canonical_at (right_level op) u)
      (placed_tokens (leb (left_level op) (tree_level t)) (canonical t) (canonical_tokens t h.0))
      (tt, placed_tokens (leb (right_level op) (tree_level u)) (canonical u) (canonical_tokens u h.1))
  canonical_tokens (NotOf t) h = (tt, placed_tokens (leb 3 (tree_level t)) (canonical t) (canonical_tokens t h))
  canonical_tokens (MinusOf t) h = (tt, placed_tokens (leb 7 (tree_level t)) (canonical t) (canonical_tokens t h))

  -- a tree's leaves are tokens of every text that spells it
  pub phrase_leaves : {n l : ℕ} {ts : List Token} {t : Tree} → Phrase n l ts t → AreTokens names ts → LeavesAre t
  phrase_leaves (atom a) h = h.0
  phrase_leaves (group {n} {ts} {t} p) h = phrase_leaves p (tokens_left ts (Close ∷ []) h.1)
  phrase_leaves (minus p) h = phrase_leaves p h.1
  phrase_leaves (inverse p) h = phrase_leaves p h.1
  phrase_leaves (both {n} op {left} {right} {t} {u} p q) h = let k = tokens_right left (Sign op ∷ right) h in (phrase_leaves p (tokens_left left (Sign op ∷ right) h), phrase_leaves q k.1)
  phrase_leaves (looser p) h = phrase_leaves p h

  shown_level : (t : Tree) → (shown names t).level ≡ tree_level t
  shown_level (Simple a) = refl
  shown_level (Two op t u) = refl
  shown_level (NotOf t) = refl
  shown_level (MinusOf t) = refl

  wrapped_written : (l : ℕ) (t : Tree) → (shown names t).text ≡ written false (canonical t) → wrapped l (shown names t) ≡ written false (canonical_at l t)
  wrapped_written l t e =
      ap₂ (λ k x. cond (leb l k) x (40 ∷ (x ++ 41 ∷ []))) (shown_level t) e
      ∙ (ap (λ x. cond (leb l (tree_level t)) (written false (canonical t)) (40 ∷ x)) (sym (written_close (canonical t)))
      ∙ sym (written_cond (leb l (tree_level t)) (canonical t) (in_group (canonical t))))

  at_tokens : (l : ℕ) (t : Tree) → LeavesAre t → AreTokens names (canonical_at l t)
  at_tokens l t h = placed_tokens (leb l (tree_level t)) (canonical t) (canonical_tokens t h)

  sign_written : (op : Operator) → sign_text op ≡ written false (Sign op ∷ [])
  sign_written op = sym (ap (λ l. l ++ (sign_text op ++ [])) (spaces_before (sign_is_word op)) ∙ append-nil (sign_text op))

  two_written : (op : Operator) (x y : List ℕ) (a b : List Token) → x ≡ written false a → y ≡ written false b → AreTokens names a → AreTokens names b → spaced (spaced x (sign_text op)) y ≡ written false (a ++ Sign op ∷ b)
  two_written op x y a b e f h k =
      ap₂ (λ p q. spaced (spaced p (sign_text op)) q) e f
      ∙ (ap (λ s. spaced (spaced (written false a) s) (written false b)) (sign_written op)
      ∙ (ap (λ l. spaced l (written false b)) (spaced_written a (Sign op ∷ []) h (tt, tt))
      ∙ (spaced_written (a ++ Sign op ∷ []) b (tokens_both a (Sign op ∷ []) h (tt, tt)) k
      ∙ ap (written false) (append_assoc a (Sign op ∷ []) b))))

  -- a tree is shown by the text of its own tokens
  pub shown_written : (t : Tree) → LeavesAre t → (shown names t).text ≡ written false (canonical t)
  shown_written (Simple (named c)) h = sym (append-nil (atom_text names (named c)))
  shown_written (Simple (Number n)) h = sym (append-nil (atom_text names (Number n)))
  shown_written (Simple (Text s)) h = sym (append-nil (atom_text names (Text s)))
  shown_written (Two op t u) h =
      two_written op (wrapped (left_level op) (shown names t)) (wrapped (right_level op) (shown names u)) (canonical_at (left_level op) t) (canonical_at (right_level op) u)
      (wrapped_written (left_level op) t (shown_written t h.0)) (wrapped_written (right_level op) u (shown_written u h.1)) (at_tokens (left_level op) t h.0) (at_tokens (right_level op) u h.1)
  shown_written (NotOf t) h = ap (λ x. spaced (110 ∷ 111 ∷ 116 ∷ []) x) (wrapped_written 3 t (shown_written t h)) ∙ spaced_written (Not ∷ []) (canonical_at 3 t) (tt, tt) (at_tokens 3 t h)
  shown_written (MinusOf t) h = ap (λ x. 45 ∷ x) (wrapped_written 7 t (shown_written t h))

  token_utf8 : (t : Token) → IsToken names t → IsUtf8 (token_text names t)
  token_utf8 (Operand (named c)) h = subst IsUtf8 (sym (ap name_text h.is)) (IsUtf8-from_ascii _ (word_ascii (h.first ∷ h.rest) h.bytes))
  token_utf8 (Operand (Number n)) h = subst IsUtf8 (sym (number_text names n h.0 h.1)) (IsUtf8-from_ascii _ (IsAscii-decimal_wide h.0 (let k = h.2 in omega arith)))
  token_utf8 (Operand (Text s)) h =
      let quote : IsUtf8 (39 ∷ []) = small_text (39 ∷ []) refl in
      IsUtf8-append (39 ∷ []) (doubled s ++ 39 ∷ []) quote (IsUtf8-append (doubled s) (39 ∷ []) h quote)
  token_utf8 (Sign op) h = sign_utf8 op
  token_utf8 Not h = small_text (110 ∷ 111 ∷ 116 ∷ []) refl
  token_utf8 Open h = small_text (40 ∷ []) refl
  token_utf8 Close h = small_text (41 ∷ []) refl
  token_utf8 Bad h = absurd h

  pub written_utf8 : (p : Bool) (ts : List Token) → AreTokens names ts → IsUtf8 (written p ts)
  written_utf8 p [] h = IsUtf8-nil
  written_utf8 p (t ∷ ts) h =
      IsUtf8-append (spaces p (is_word t)) (token_text names t ++ written (is_word t) ts) (spaces_text p (is_word t))
      (IsUtf8-append (token_text names t) (written (is_word t) ts) (token_utf8 t h.0) (written_utf8 (is_word t) ts h.1))
