-- A text that is escaped run by run.
use Rattle.std.proofs.Common.{◌≡◌, ◌≢◌, ℕ, ◌+◌, ◌<◌, true, List, [], ◌∷◌, ◌++◌, ◌||◌, ◌==◌, ◌-◌, length, get_or, take, drop, refl, sym, ap, subst, ◌∙◌, append_assoc, arith}
use Rattle.std.specs.List.{All}
use Rattle.std.proofs.lemmas.Bool.{ne_eqb, eq-eqb, or_left, or_right}
use Rattle.std.proofs.lemmas.List.{take_all, take_rest, get_or_default, append-nil, take-append-drop, drop_more, get_or-take, length-take}
use Rattle.std.proofs.lemmas.List.Concat.{flat_map-append, flat_map-cons}
use Rattle.std.proofs.lemmas.List.Elements.{All-head, All-tail}
use Rattle.memchr.specs.Find.{Nowhere, Passes, is_byte, is_byte3}
use Rattle.q4_value.specs.Escape.{escaped_byte, escaped, IsFieldByte}

abbrev pub IsNoBackslash : ℕ → Type 0
IsNoBackslash b = b ≢ 92

pub plain_byte : (b : ℕ) → IsFieldByte b → IsNoBackslash b → escaped_byte b ≡ b ∷ []
plain_byte b field other = rw (ne_eqb b 9 field.0, ne_eqb b 10 field.1, ne_eqb b 13 field.2, ne_eqb b 92 other) refl

-- bytes that stand for themselves
pub plain : (bytes : List ℕ) → All IsFieldByte bytes → All IsNoBackslash bytes → escaped bytes ≡ bytes
plain [] field other = refl
plain (b ∷ bytes) field other =
    flat_map-cons escaped_byte b bytes
    ∙ ap (λ x. x ++ escaped bytes) (plain_byte b (All-head IsFieldByte b bytes field) (All-head IsNoBackslash b bytes other))
    ∙ ap (λ x. b ∷ x) (plain bytes (All-tail IsFieldByte b bytes field) (All-tail IsNoBackslash b bytes other))

read_front : (bytes : List ℕ) (n k d : ℕ) → k < length (take n bytes) → (k < n) × (get_or (take n bytes) k d ≡ get_or bytes k 0)
read_front bytes n k d lt =
    let below : k < n = omega (arith, length-take n bytes) in
    (below, get_or_default (take n bytes) k d 0 lt ∙ get_or-take n bytes k 0 below)

field_byte : (b : ℕ) → (is_byte3 9 10 13 b ≡ true → ⊥) → IsFieldByte b
field_byte b none = (
  λ e. none (or_left (b == 9 || b == 10) (b == 13) (or_left (b == 9) (b == 10) (eq-eqb b 9 e))),
  λ e. none (or_left (b == 9 || b == 10) (b == 13) (or_right (b == 9) (b == 10) (eq-eqb b 10 e))),
  λ e. none (or_right (b == 9 || b == 10) (b == 13) (eq-eqb b 13 e)),
)

-- before the first place that was found no byte is one that was sought
pub field_before : (bytes : List ℕ) (n : ℕ) → Nowhere (Passes (is_byte3 9 10 13) bytes) 0 n → All IsFieldByte (take n bytes)
field_before bytes n none k d lt =
    let at = read_front bytes n k d lt in
    subst IsFieldByte (sym at.1) (field_byte (get_or bytes k 0) (none k (omega arith) at.0))

pub plain_before : (bytes : List ℕ) (n : ℕ) → Nowhere (Passes (is_byte 92) bytes) 0 n → All IsNoBackslash (take n bytes)
plain_before bytes n none k d lt =
    let at = read_front bytes n k d lt in
    subst IsNoBackslash (sym at.1) (λ e. none k (omega arith) at.0 (eq-eqb (get_or bytes k 0) 92 e))

pub field_nowhere : (bytes : List ℕ) → Nowhere (Passes (is_byte3 9 10 13) bytes) 0 (length bytes) → All IsFieldByte bytes
field_nowhere bytes none = subst (All IsFieldByte) (take_all (length bytes) bytes (omega arith)) (field_before bytes (length bytes) none)

pub plain_nowhere : (bytes : List ℕ) → Nowhere (Passes (is_byte 92) bytes) 0 (length bytes) → All IsNoBackslash bytes
plain_nowhere bytes none = subst (All IsNoBackslash) (take_all (length bytes) bytes (omega arith)) (plain_before bytes (length bytes) none)

-- What was put so far: the escaped front of a text.
pub record Escaping (text rest old out : List ℕ) : Type 0 where
  pub front : List ℕ
  pub text_is : text ≡ front ++ rest
  pub out_is : out ≡ old ++ escaped front

pub escaping_starts : (text old : List ℕ) → Escaping text text old old
escaping_starts text old = record { front = []; text_is = refl; out_is = sym (append-nil old) }

pub escaping_goes_on : (text rest old out : List ℕ) (run more out' : List ℕ) → Escaping text rest old out → rest ≡ run ++ more → out' ≡ out ++ escaped run → Escaping text more old out'
escaping_goes_on text rest old out run more out' e rest_is put = record {
  front = e.front ++ run;
  text_is = e.text_is ∙ ap (λ x. e.front ++ x) rest_is ∙ sym (append_assoc e.front run more);
  out_is = put ∙ ap (λ x. x ++ escaped run) e.out_is ∙ append_assoc old (escaped e.front) (escaped run) ∙ ap (λ x. old ++ x) (sym (flat_map-append escaped_byte e.front run));
}

-- a run and the byte behind it were put
pub escaping_byte : (text rest old out out1 out2 : List ℕ) (at b : ℕ) → Escaping text rest old out → at < length rest → get_or rest at 0 ≡ b → out1 ≡ out ++ escaped (take at rest) → out2 ≡ out1 ++ escaped_byte b
    → Escaping text (take (length rest - (at + 1)) (drop (at + 1) rest)) old out2
escaping_byte text rest old out out1 out2 at b e lt is put1 put2 =
    let behind : rest ≡ take at rest ++ drop at rest = sym (take-append-drop at rest) in
    let first = escaping_goes_on text rest old out (take at rest) (drop at rest) out1 e behind put1 in
    let next : drop at rest ≡ (b ∷ []) ++ take (length rest - (at + 1)) (drop (at + 1) rest) = drop_more rest at 0 lt ∙ ap (λ x. x ∷ drop (at + 1) rest) is ∙ ap (λ x. b ∷ x) (sym (take_rest rest (at + 1))) in
    let one : escaped (b ∷ []) ≡ escaped_byte b = flat_map-cons escaped_byte b [] ∙ append-nil (escaped_byte b) in
    escaping_goes_on text (drop at rest) old out1 (b ∷ []) (take (length rest - (at + 1)) (drop (at + 1) rest)) out2 first next (put2 ∙ ap (λ x. out1 ++ x) (sym one))

pub escaping_ends : (text rest old out out' : List ℕ) → Escaping text rest old out → out' ≡ out ++ escaped rest → out' ≡ old ++ escaped text
escaping_ends text rest old out out' e put =
    let all = escaping_goes_on text rest old out rest [] out' e (sym (append-nil rest)) put in
    all.out_is ∙ ap (λ x. old ++ escaped x) (sym (append-nil all.front) ∙ sym all.text_is)

pub escaping_stops : (text rest old out : List ℕ) (more out' : List ℕ) → Escaping text rest old out → out' ≡ out ++ more → (part : List ℕ) × (out' ≡ old ++ part)
escaping_stops text rest old out more out' e put = (escaped e.front ++ more, put ∙ ap (λ x. x ++ more) e.out_is ∙ append_assoc old (escaped e.front) more)
