-- What can be decided of lists, numbers, texts and names.
use Rattle.std.proofs.Common.{◌≡◌, ◌≢◌, ◌==◌, ◌<◌, ◌≤◌, ◌-◌, ◌^◌, ◌++◌, ◌∷◌, ◌∙◌, ◌⊎◌, [], List, ℕ, zero, suc, ℤ, pos, negsuc, Bool, true, false, Some, length, get_or, FitsSigned, refl, sym, ap, subst, arith, inl, inr, if◌then◌else◌}
use Rattle.std.specs.Fmt.{signed_decimal}
use Rattle.std.specs.Int.{w64}
use Rattle.std.specs.List.{Contains}
use Rattle.std.specs.Prelude.{slice_get}
use Rattle.std.specs.Str.{IsUtf8, is_utf8}
use Rattle.std.proofs.lemmas.Bool.{cases_order, cases_lt, ne_eqb, true≢false}
use Rattle.std.proofs.lemmas.List.{get_or_default}
use Rattle.std.proofs.lemmas.List.Concat.{flat_map-cons}
use Rattle.std.proofs.lemmas.Option.{slice_get_cases}
use Rattle.std.proofs.lemmas.Str.{IsUtf8-from_is_utf8, is_utf8-from_IsUtf8}
use Rattle.q4_value.specs.declared.column.Column.{Column}
use Rattle.q4_value.specs.declared.column.Kind.{Kind}
use Rattle.q4_value.specs.declared.column.Kind.TheVariants as kind
use Rattle.q4_value.specs.declared.row.Value.{Value}
use Rattle.q4_value.specs.declared.row.Value.TheVariants.{Int, Word, Null}
use Rattle.q4_value.specs.Escape.{escaped, escaped_byte}
use Rattle.q4_value.specs.Row.{Takes, IsValue}
use Rattle.q4_value.proofs.EscapeLaws.{escaped_once}
use Rattle.q4_value.proofs.Runs.{plain_byte}
use Rattle.q4_machine.proofs.Histories.{cons_head, cons_tail}
use Rattle.q4_proto.specs.declared.keyword.Keyword.{Keyword}
use Rattle.q4_proto.specs.declared.keyword.Keyword.TheVariants.{Insert, Source, Wait, RowId, End, Abort, Select, Compact, Quit}
use Rattle.q4_proto.specs.Fields.{IsSpelled}
use Rattle.q4_proto.specs.Commands.{word_of, null_field, spelled_value, IsNoValue}
use Rattle.q4_proto.proofs.Spellings.{no_null, no_int, no_words}

-- It holds, or it does not.
abbrev pub Decided : Type 0 → Type 0
Decided P = P ⊎ (P → ⊥)

-- ## Lists and numbers

pub number_told : (x y : ℕ) → Decided (x ≡ y)
number_told x y = elim (cases_order x y) [
  | inl same ↦ inl same
  | inr (inl below) ↦ inr (λ is. omega (arith, is, below))
  | inr (inr above) ↦ inr (λ is. omega (arith, is, above))
]

cons_told : (x y : ℕ) (xs ys : List ℕ) → Decided (x ≡ y) → Decided (xs ≡ ys) → Decided (x ∷ xs ≡ y ∷ ys)
cons_told x y xs ys (inl a) (inl b) = inl (ap (λ z. z ∷ xs) a ∙ ap (λ zs. y ∷ zs) b)
cons_told x y xs ys (inl a) (inr b) = inr (λ is. b (cons_tail is))
cons_told x y xs ys (inr a) b = inr (λ is. a (cons_head is))

pub list_told : (xs ys : List ℕ) → Decided (xs ≡ ys)
list_told [] [] = inl refl
list_told [] (y ∷ ys) = inr (λ is. cc)
list_told (x ∷ xs) [] = inr (λ is. cc)
list_told (x ∷ xs) (y ∷ ys) = cons_told x y xs ys (number_told x y) (list_told xs ys)

-- whether P holds of some number up to the most
below_next : (P : ℕ → Type 0) (most : ℕ) → Decided ((n : ℕ) × (n ≤ most) × P n) → Decided (P (suc most)) → Decided ((n : ℕ) × (n ≤ suc most) × P n)
below_next P most (inl some) here = inl (some.0, (let below = some.1 in omega (arith, below)), some.2)
below_next P most (inr none) (inl holds) = inl (suc most, omega arith, holds)
below_next P most (inr none) (inr fails) = inr (λ some. elim (cases_order some.0 (suc most)) [
  | inl same ↦ fails (subst P same some.2)
  | inr (inl below) ↦ none (some.0, omega (arith, below), some.2)
  | inr (inr above) ↦ let most_is = some.1 in omega (arith, above, most_is)
])

pub below_told : (P : ℕ → Type 0) → ((n : ℕ) → Decided (P n)) → (most : ℕ) → Decided ((n : ℕ) × (n ≤ most) × P n)
below_told P each zero = elim (each zero) [
  | inl holds ↦ inl (zero, omega arith, holds)
  | inr fails ↦ inr (λ some. fails (subst P (let below = some.1 in omega (arith, below)) some.2))
]
below_told P each (suc most) = below_next P most (below_told P each most) (each (suc most))

-- ## Texts in fields

-- the text of a field; `escape` is whether a backslash came
letter : ℕ → ℕ
letter b = if b == 116 then 9 else if b == 110 then 10 else if b == 114 then 13 else 92

abbrev unescaped : Bool → List ℕ → List ℕ
unescaped escape [] = []
unescaped true (b ∷ rest) = letter b ∷ unescaped false rest
unescaped false (b ∷ rest) = if b == 92 then unescaped true rest else b ∷ unescaped false rest

one_back : (b : ℕ) (rest : List ℕ) → unescaped false (escaped_byte b ++ rest) ≡ b ∷ unescaped false rest
unfolding letter
one_back b rest = by_byte (number_told b 9) (number_told b 10) (number_told b 13) (number_told b 92) where
  by_byte : Decided (b ≡ 9) → Decided (b ≡ 10) → Decided (b ≡ 13) → Decided (b ≡ 92) → unescaped false (escaped_byte b ++ rest) ≡ b ∷ unescaped false rest
  by_byte (inl is) newline return backslash = subst (λ x. unescaped false (escaped_byte x ++ rest) ≡ x ∷ unescaped false rest) (sym is) refl
  by_byte (inr tab) (inl is) return backslash = subst (λ x. unescaped false (escaped_byte x ++ rest) ≡ x ∷ unescaped false rest) (sym is) refl
  by_byte (inr tab) (inr newline) (inl is) backslash = subst (λ x. unescaped false (escaped_byte x ++ rest) ≡ x ∷ unescaped false rest) (sym is) refl
  by_byte (inr tab) (inr newline) (inr return) (inl is) = subst (λ x. unescaped false (escaped_byte x ++ rest) ≡ x ∷ unescaped false rest) (sym is) refl
  by_byte (inr tab) (inr newline) (inr return) (inr other) =
      ap (λ xs. unescaped false (xs ++ rest)) (plain_byte b (tab, newline, return) other) ∙ ap (λ (t : Bool). if t then unescaped true rest else b ∷ unescaped false rest) (ne_eqb b 92 other)

back : (text : List ℕ) → unescaped false (escaped text) ≡ text
back [] = refl
back (b ∷ text) = ap (unescaped false) (flat_map-cons escaped_byte b text) ∙ one_back b (escaped text) ∙ ap (λ xs. b ∷ xs) (back text)

pub spelled_told : (field : List ℕ) → Decided (IsSpelled field)
spelled_told field = elim (list_told field (escaped (unescaped false field))) [
  | inl is ↦ inl (unescaped false field, is)
  | inr differs ↦ inr (λ spelled. differs (spelled.1 ∙ ap escaped (sym (back spelled.0)) ∙ ap (λ f. escaped (unescaped false f)) (sym spelled.1)))
]

pub text_told : (bytes : List ℕ) → Decided (IsUtf8 bytes)
text_told bytes = by_test (is_utf8 bytes) refl where
  by_test : (b : Bool) → is_utf8 bytes ≡ b → Decided (IsUtf8 bytes)
  by_test true is = inl (IsUtf8-from_is_utf8 bytes is)
  by_test false is = inr (λ text. true≢false (sym (is_utf8-from_IsUtf8 bytes text) ∙ is))

-- ## Names and words

got : (names : List (List ℕ)) (name : List ℕ) (k : ℕ) → k < length names → get_or names k name ≡ name → slice_get names k ≡ Some name
got names name k inside is = elim (slice_get_cases names k).1 [
  | inl there ↦ there.2 ∙ ap Some (sym there.3 ∙ get_or_default names k there.0 name inside ∙ is)
  | inr past ↦ let beyond = past.0 in absurd (omega (arith, inside, beyond))
]

inside_told : (names : List (List ℕ)) (name : List ℕ) (k : ℕ) → Decided (k < length names) → Decided (get_or names k name ≡ name) → Decided ((k < length names) × (get_or names k name ≡ name))
inside_told names name k (inl inside) (inl is) = inl (inside, is)
inside_told names name k (inl inside) (inr differs) = inr (λ both. differs both.1)
inside_told names name k (inr past) is = inr (λ both. past both.0)

less_told : (m n : ℕ) → Decided (m < n)
less_told m n = elim (cases_lt m n) [ inl below ↦ inl below | inr above ↦ inr (λ below. omega (arith, above, below)) ]

-- the place of a name, or that there is none
pub name_told : (names : List (List ℕ)) (name : List ℕ) → ((k : ℕ) × (slice_get names k ≡ Some name)) ⊎ (Contains names name → ⊥)
name_told names name = elim (below_told (λ k. (k < length names) × (get_or names k name ≡ name)) (λ k. inside_told names name k (less_told k (length names)) (list_told (get_or names k name) name)) (length names)) [
  | inl some ↦ inl (some.0, got names name some.0 some.2.0 some.2.1)
  | inr none ↦ inr (λ contains. none (contains.0, (let inside = contains.1 in omega (arith, inside)), (contains.1, contains.2)))
]

no_word : (word : List ℕ) → (word ≢ word_of Insert) → (word ≢ word_of Source) → (word ≢ word_of Wait) → (word ≢ word_of RowId) → (word ≢ word_of End) → (word ≢ word_of Abort) → (word ≢ word_of Select) → (word ≢ word_of Compact) → (word ≢ word_of Quit) → (k : Keyword) → word ≡ word_of k → ⊥
no_word word a b c d e f g h i Insert is = a is
no_word word a b c d e f g h i Source is = b is
no_word word a b c d e f g h i Wait is = c is
no_word word a b c d e f g h i RowId is = d is
no_word word a b c d e f g h i End is = e is
no_word word a b c d e f g h i Abort is = f is
no_word word a b c d e f g h i Select is = g is
no_word word a b c d e f g h i Compact is = h is
no_word word a b c d e f g h i Quit is = i is

-- the command whose word it is, or that there is none
pub word_told : (word : List ℕ) → ((k : Keyword) × (word ≡ word_of k)) ⊎ ((k : Keyword) → word ≡ word_of k → ⊥)
word_told word = elim (list_told word (word_of Insert)) [
  | inl is ↦ inl (Insert, is)
  | inr a ↦
      elim (list_told word (word_of Source)) [
        | inl is ↦ inl (Source, is)
        | inr b ↦
            elim (list_told word (word_of Wait)) [
              | inl is ↦ inl (Wait, is)
              | inr c ↦
                  elim (list_told word (word_of RowId)) [
                    | inl is ↦ inl (RowId, is)
                    | inr d ↦
                        elim (list_told word (word_of End)) [
                          | inl is ↦ inl (End, is)
                          | inr e ↦
                              elim (list_told word (word_of Abort)) [
                                | inl is ↦ inl (Abort, is)
                                | inr f ↦
                                    elim (list_told word (word_of Select)) [
                                      | inl is ↦ inl (Select, is)
                                      | inr g ↦
                                          elim (list_told word (word_of Compact)) [
                                            | inl is ↦ inl (Compact, is)
                                            | inr h ↦
                                                elim (list_told word (word_of Quit)) [ inl is ↦ inl (Quit, is) | inr i ↦ inr (no_word word a b c d e f g h i) ]
                                          ]
                                    ]
                              ]
                        ]
                  ]
            ]
      ]
]

-- ## Values

-- the field spells a value that the column takes
abbrev pub SpellsValue : Column → List ℕ → Type 0
SpellsValue column field = (value : Value) × Takes column value × IsValue value × (field ≡ spelled_value value)

unspelled : (c : Column) (field : List ℕ) → IsNoValue c field → SpellsValue c field → ⊥
unspelled c field none spells = none spells.0 spells.1 spells.2 spells.3

null_told : (c : Column) (field : List ℕ) (optional : Bool) → c.optional ≡ optional → field ≡ null_field → Decided (SpellsValue c field)
null_told c field true takes is = inl (Null, takes, tt, is)
null_told c field false required is = inr (unspelled c field (no_null c field is required))

fits_64 : (z : ℤ) (n : ℕ) → n ≤ 2 ^ 63 - 1 → n < 2 ^ 63
fits_64 z n most = omega (arith, most)

int_told : (c : Column) (field : List ℕ) → c.kind ≡ kind.Int → (field ≢ null_field) → Decided ((n : ℕ) × (n ≤ 2 ^ 63 - 1) × (field ≡ signed_decimal (pos n))) → Decided ((n : ℕ) × (n ≤ 2 ^ 63 - 1) × (field ≡ signed_decimal (negsuc n)))
    → Decided (SpellsValue c field)
int_told c field of differs (inl some) negative = inl (Int (pos some.0), of, record { sfits = fits_64 (pos some.0) some.0 some.1 }, some.2)
int_told c field of differs (inr none) (inl some) = inl (Int (negsuc some.0), of, record { sfits = fits_64 (negsuc some.0) some.0 some.1 }, some.2)
int_told c field of differs (inr none) (inr other) = inr (unspelled c field (no_int c field of differs by_number)) where
  by_number : (z : ℤ) → FitsSigned w64 z → field ≡ signed_decimal z → ⊥
  by_number (pos n) fits is = none (n, (let small = fits.sfits in omega (arith, small)), is)
  by_number (negsuc n) fits is = other (n, (let small = fits.sfits in omega (arith, small)), is)

words_told : (c : Column) (field : List ℕ) → c.kind ≡ kind.Words → (field ≢ null_field) → Decided (IsSpelled field) → Decided (SpellsValue c field)
words_told c field of differs (inr bad) = inr (unspelled c field (no_words c field of differs (λ text utf8 short is. bad (text, is))))
words_told c field of differs (inl spelled) = by_text (text_told spelled.0) (cases_lt 65535 (length spelled.0)) where
  same : (text : List ℕ) → field ≡ escaped text → text ≡ spelled.0
  same text is = escaped_once text spelled.0 (sym is ∙ spelled.1)

  by_text : Decided (IsUtf8 spelled.0) → (65535 < length spelled.0) ⊎ (length spelled.0 ≤ 65535) → Decided (SpellsValue c field)
  by_text (inr bad) size = inr (unspelled c field (no_words c field of differs (λ text utf8 short is. bad (subst IsUtf8 (same text is) utf8))))
  by_text (inl text) (inl long) = inr (unspelled c field (no_words c field of differs (λ other utf8 short is. let count = ap length (same other is) in omega (arith, count, short, long))))
  by_text (inl text) (inr short) = inl (Word spelled.0, of, (text, short), spelled.1)

kind_told : (c : Column) (field : List ℕ) (k : Kind) → c.kind ≡ k → (field ≢ null_field) → Decided (SpellsValue c field)
kind_told c field kind.Int of differs = int_told c field of differs (below_told (λ n. field ≡ signed_decimal (pos n)) (λ n. list_told field (signed_decimal (pos n))) (2 ^ 63 - 1)) (below_told (λ n. field ≡ signed_decimal (negsuc n)) (λ n. list_told field (signed_decimal (negsuc n))) (2 ^ 63 - 1))
kind_told c field kind.Words of differs = words_told c field of differs (spelled_told field)

by_field : (c : Column) (field : List ℕ) → Decided (field ≡ null_field) → Decided (SpellsValue c field)
by_field c field (inl same) = null_told c field c.optional refl same
by_field c field (inr differs) = kind_told c field c.kind refl differs

pub value_told : (c : Column) (field : List ℕ) → Decided (SpellsValue c field)
value_told c field = by_field c field (list_told field null_field)
