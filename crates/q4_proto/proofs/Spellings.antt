-- How values stand in fields: each in one way, and null as the spelling of no text.
use Rattle.std.proofs.Common.{◌≡◌, ◌≢◌, ◌<◌, ◌≤◌, ◌+◌, ◌^◌, ◌∷◌, ◌∙◌, [], List, ℕ, ℤ, zero, suc, pos, negsuc, Bool, true, false, All, map, length, decimal, FitsSigned, refl, sym, ap, subst, arith, inr, if◌then◌else◌}
use Rattle.std.specs.Fmt.{signed_decimal}
use Rattle.std.specs.Int.{w64}
use Rattle.std.specs.Int.Digits.{digits_of, AllBelowBase}
use Rattle.std.specs.Str.{IsUtf8, bytes_eq}
use Rattle.std.proofs.lemmas.Bool.{true≢false}
use Rattle.std.proofs.lemmas.Fmt.{decimal_digit, decimal-digits_of, signed_decimal_injective}
use Rattle.std.proofs.lemmas.Int.Digits.{all_below_base_digits_of}
use Rattle.std.proofs.lemmas.List.Elements.{All-nil, All-cons, All-head, All-tail, All-map, All-weaker}
use Rattle.std.proofs.lemmas.Slice.Eq.{bytes_eq-Decides}
use Rattle.q4_value.specs.declared.column.Column.{Column}
use Rattle.q4_value.specs.declared.column.Kind.TheVariants as kind
use Rattle.q4_value.specs.declared.row.Value.{Value}
use Rattle.q4_value.specs.declared.row.Value.TheVariants.{Int, Word, Null}
use Rattle.q4_value.specs.Escape.{escaped, IsFieldByte, BadAt}
use Rattle.q4_value.specs.Row.{Takes, TakeEach, IsValue}
use Rattle.q4_value.proofs.EscapeLaws.{escaped_once, stands}
use Rattle.q4_value.proofs.Runs.{IsNoBackslash, plain}
use Rattle.q4_machine.proofs.Histories.{cons_head, cons_tail}
use Rattle.q4_proto.specs.Fields.{IsSpelled}
use Rattle.q4_proto.specs.Commands.{null_field, spelled_value, text_of_value, IsNoValue}

-- ## A number stands for itself in a field

below_all : (ds : List ℕ) → AllBelowBase 10 ds → All (λ d. d < 10) ds
below_all [] below = All-nil (λ d. d < 10)
below_all (d ∷ ds) below = All-cons (λ d. d < 10) d ds below.0 (below_all ds below.1)

abbrev IsNumberByte : ℕ → Type 0
IsNumberByte b = (45 ≤ b) × (b ≤ 57)

digits_number : (n : ℕ) → n < 2 ^ 64 → All IsNumberByte (decimal n)
digits_number zero small = subst (All IsNumberByte) (sym (decimal_digit 0 (omega arith))) (All-cons IsNumberByte 48 [] (omega arith, omega arith) (All-nil IsNumberByte))
digits_number (suc n) small = subst (All IsNumberByte) (sym (decimal-digits_of (suc n) (omega arith) small))
    (All-map IsNumberByte (λ d. 48 + d) (digits_of 10 (suc n)) (All-weaker (λ d. d < 10) (λ d. IsNumberByte (48 + d)) (λ d h. let lt : d < 10 = h in (omega arith, omega (arith, lt))) (digits_of 10 (suc n)) (below_all (digits_of 10 (suc n)) (all_below_base_digits_of 10 (suc n) (omega arith)))))

number_bytes : (z : ℤ) → FitsSigned w64 z → All IsNumberByte (signed_decimal z)
number_bytes (pos n) fits = digits_number n (let small = fits.sfits in omega (arith, small))
number_bytes (negsuc n) fits = All-cons IsNumberByte 45 (decimal (suc n)) (omega arith, omega arith) (digits_number (suc n) (let small = fits.sfits in omega (arith, small)))

number_field : (b : ℕ) → IsNumberByte b → IsFieldByte b
number_field b h = (λ e. omega (arith, e, h.0), λ e. omega (arith, e, h.0), λ e. omega (arith, e, h.0))

number_plain : (b : ℕ) → IsNumberByte b → IsNoBackslash b
number_plain b h = λ e. omega (arith, e, h.1)

number_spelled : (z : ℤ) → FitsSigned w64 z → signed_decimal z ≡ escaped (signed_decimal z)
number_spelled z fits = sym (plain (signed_decimal z) (All-weaker IsNumberByte IsFieldByte number_field (signed_decimal z) (number_bytes z fits)) (All-weaker IsNumberByte IsNoBackslash number_plain (signed_decimal z) (number_bytes z fits)))

-- ## Null is the spelling of no text and of no number

null_bad : BadAt null_field 0
null_bad = record {
  front = [];
  rest = null_field;
  bytes_are = refl;
  place = refl;
  bad = inr (refl, (λ e. omega (arith, e), λ e. omega (arith, e), λ e. omega (arith, e), λ e. omega (arith, e)));
}

no_text : (text : List ℕ) → null_field ≡ escaped text → ⊥
no_text text is = stands null_field text 0 null_bad is

no_number : (z : ℤ) → FitsSigned w64 z → null_field ≡ signed_decimal z → ⊥
no_number z fits is = no_text (signed_decimal z) (is ∙ number_spelled z fits)

-- a text's spelling counts as itself
text_of_spelled : (field : List ℕ) → IsSpelled field → text_of_value field ≡ field
text_of_spelled field spelled = by_test (bytes_eq field null_field) refl where
  by_test : (b : Bool) → bytes_eq field null_field ≡ b → text_of_value field ≡ field
  by_test true is = absurd (no_text spelled.0 (sym ((bytes_eq-Decides field null_field).0 is) ∙ spelled.1))
  by_test false is = ap (λ (t : Bool). if t then [] else field) is

pub text_of_null : (field : List ℕ) → field ≡ null_field → text_of_value field ≡ []
text_of_null field is = ap (λ (t : Bool). if t then [] else field) ((bytes_eq-Decides field null_field).1 is)

pub text_of_other : (field : List ℕ) → (field ≢ null_field) → text_of_value field ≡ field
text_of_other field differs = by_test (bytes_eq field null_field) refl where
  by_test : (b : Bool) → bytes_eq field null_field ≡ b → text_of_value field ≡ field
  by_test true is = absurd (differs ((bytes_eq-Decides field null_field).0 is))
  by_test false is = ap (λ (t : Bool). if t then [] else field) is

-- what a value is spelled as has no bad escape
pub value_text : (v : Value) → IsValue v → IsSpelled (text_of_value (spelled_value v))
value_text (Int z) is = subst IsSpelled (sym (text_of_spelled (signed_decimal z) (signed_decimal z, number_spelled z is))) (signed_decimal z, number_spelled z is)
value_text (Word text) is = subst IsSpelled (sym (text_of_spelled (escaped text) (text, refl))) (text, refl)
value_text Null is = ([], text_of_null null_field refl)

-- ## A field that spells no value of a column

kinds_apart : kind.Int ≡ kind.Words → ⊥
kinds_apart same = cc

pub no_null : (c : Column) (field : List ℕ) → field ≡ null_field → c.optional ≡ false → IsNoValue c field
no_null c field null required (Int z) takes fits is = no_number z fits (sym null ∙ is)
no_null c field null required (Word text) takes fits is = no_text text (sym null ∙ is)
no_null c field null required Null takes fits is = true≢false (sym takes ∙ required)

pub no_int : (c : Column) (field : List ℕ) → c.kind ≡ kind.Int → (field ≢ null_field) → ((z : ℤ) → FitsSigned w64 z → field ≡ signed_decimal z → ⊥) → IsNoValue c field
no_int c field of differs none (Int z) takes fits is = none z fits is
no_int c field of differs none (Word text) takes fits is = kinds_apart (sym of ∙ takes)
no_int c field of differs none Null takes fits is = differs is

pub no_words : (c : Column) (field : List ℕ) → c.kind ≡ kind.Words → (field ≢ null_field) → ((text : List ℕ) → IsUtf8 text → length text ≤ 65535 → field ≡ escaped text → ⊥) → IsNoValue c field
no_words c field of differs none (Int z) takes fits is = kinds_apart (sym takes ∙ of)
no_words c field of differs none (Word text) takes fits is = none text fits.0 fits.1 is
no_words c field of differs none Null takes fits is = differs is

-- ## A row has one spelling

value_once : (c : Column) (v w : Value) → Takes c v → Takes c w → IsValue v → IsValue w → spelled_value v ≡ spelled_value w → v ≡ w
value_once c (Int x) (Int y) one other a b same = ap Int (signed_decimal_injective x y a.sfits b.sfits same)
value_once c (Int x) (Word y) one other a b same = absurd (kinds_apart (sym one ∙ other))
value_once c (Int x) Null one other a b same = absurd (no_number x a (sym same))
value_once c (Word x) (Int y) one other a b same = absurd (kinds_apart (sym other ∙ one))
value_once c (Word x) (Word y) one other a b same = ap Word (escaped_once x y same)
value_once c (Word x) Null one other a b same = absurd (no_text x (sym same))
value_once c Null (Int y) one other a b same = absurd (no_number y b same)
value_once c Null (Word y) one other a b same = absurd (no_text y same)
value_once c Null Null one other a b same = refl

pub row_once : (cs : List Column) (a b : List Value) → TakeEach cs a → TakeEach cs b → All IsValue a → All IsValue b → map spelled_value a ≡ map spelled_value b → a ≡ b
row_once [] [] [] one other x y same = refl
row_once [] [] (w ∷ b) one other x y same = absurd other
row_once [] (v ∷ a) b one other x y same = absurd one
row_once (c ∷ cs) [] b one other x y same = absurd one
row_once (c ∷ cs) (v ∷ a) [] one other x y same = absurd other
row_once (c ∷ cs) (v ∷ a) (w ∷ b) one other x y same =
    let here = value_once c v w one.0 other.0 (All-head IsValue v a x) (All-head IsValue w b y) (cons_head same) in
    let rest = row_once cs a b one.1 other.1 (All-tail IsValue v a x) (All-tail IsValue w b y) (cons_tail same) in
    ap (λ z. z ∷ a) here ∙ ap (λ zs. w ∷ zs) rest
