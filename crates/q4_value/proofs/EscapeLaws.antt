-- An escaped text shows which text it is, and holds no byte that cuts lines or fields.
use Rattle.std.proofs.Common.{◌≡◌, ℕ, cond, eqb, List, [], ◌∷◌, ◌++◌, Option, Some, None, Result, Ok, Err, refl, sym, ap, subst, ◌∙◌, append_assoc, inl, inr, ◌⊎◌, arith, length}
use Rattle.std.specs.Prelude.{IfOk, IfErr}
use Rattle.std.specs.Option.{option_map}
use Rattle.std.specs.List.{All}
use Rattle.std.proofs.lemmas.Bool.{ne_eqb, cases_eq}
use Rattle.std.proofs.lemmas.List.{append-nil}
use Rattle.std.proofs.lemmas.List.Concat.{flat_map-cons}
use Rattle.std.proofs.lemmas.List.Elements.{All-nil, All-cons, All-append}
use Rattle.q4_value.specs.declared.escaping.EscapeFault.{EscapeFault}
use Rattle.q4_value.specs.declared.escaping.EscapeFault.TheVariants as fault
use Rattle.q4_value.specs.Escape.{escaped_byte, escaped, IsFieldByte, IsBadStart, BadAt, UnescapeFails}
use Rattle.q4_value.proofs.Runs.{plain_byte}

-- which of the bytes that are escaped it is, if any
shape : (b : ℕ) → (b ≡ 9) ⊎ ((b ≡ 10) ⊎ ((b ≡ 13) ⊎ ((b ≡ 92) ⊎ (IsFieldByte b × (b ≡ 92 → ⊥)))))
shape b =
    elim (cases_eq b 9) [
      | inl is ↦ inl is
      | inr not_tab ↦ elim (cases_eq b 10) [
        | inl is ↦ inr (inl is)
        | inr not_newline ↦ elim (cases_eq b 13) [
          | inl is ↦ inr (inr (inl is))
          | inr not_return ↦ elim (cases_eq b 92) [
            | inl is ↦ inr (inr (inr (inl is)))
            | inr not_backslash ↦ inr (inr (inr (inr ((not_tab, not_newline, not_return), not_backslash))))
          ]
        ]
      ]
    ]

-- a fact of each byte, from the five cases
by_shape : (P : ℕ → Type 0) → P 9 → P 10 → P 13 → P 92 → ((b : ℕ) → IsFieldByte b → (b ≡ 92 → ⊥) → P b) → (b : ℕ) → P b
by_shape P tab newline return backslash other b =
    elim (shape b) [
      | inl is ↦ subst P (sym is) tab
      | inr (inl is) ↦ subst P (sym is) newline
      | inr (inr (inl is)) ↦ subst P (sym is) return
      | inr (inr (inr (inl is))) ↦ subst P (sym is) backslash
      | inr (inr (inr (inr is))) ↦ other b is.0 is.1
    ]

-- what stands first in an escaped text, and what follows it
letter : ℕ → Option ℕ
letter y = cond (eqb y 116) (Some 9) (cond (eqb y 110) (Some 10) (cond (eqb y 114) (Some 13) (cond (eqb y 92) (Some 92) None)))

behind : List ℕ → Option (ℕ × List ℕ)
behind [] = None
behind (y ∷ ys) = option_map (λ c. (c, ys)) (letter y)

first : List ℕ → Option (ℕ × List ℕ)
first [] = None
first (x ∷ xs) = cond (eqb x 92) (behind xs) (Some (x, xs))

first_is : (y : List ℕ) (b : ℕ) → first (escaped_byte b ++ y) ≡ Some (b, y)
unfolding first behind letter
first_is y = by_shape (λ b. first (escaped_byte b ++ y) ≡ Some (b, y)) refl refl refl refl (λ b field other. rw (plain_byte b field other, ne_eqb b 92 other) refl)

some_same : {X : Type 0} (x y : X) (o : Option X) → o ≡ Some x → o ≡ Some y → x ≡ y
some_same x y o p q = cc

escape_same : (a b : ℕ) (x y : List ℕ) → escaped_byte a ++ x ≡ escaped_byte b ++ y → (a ≡ b) × (x ≡ y)
escape_same a b x y e =
    let same = some_same (a, x) (b, y) (first (escaped_byte a ++ x)) (first_is x a) (ap first e ∙ first_is y b) in
    (ap (λ (p : ℕ × List ℕ). p.0) same, ap (λ (p : ℕ × List ℕ). p.1) same)

never_empty : (b : ℕ) (x : List ℕ) → escaped_byte b ++ x ≡ [] → ⊥
unfolding first
never_empty b x e = let is = sym (first_is x b) ∙ ap first e in cc

-- what a text has behind a front that stands escaped
pub record Follows (front words rest : List ℕ) : Type 0 where
  pub others : List ℕ
  pub words_are : words ≡ front ++ others
  pub rest_is : rest ≡ escaped others

follows : (front words rest : List ℕ) → escaped words ≡ escaped front ++ rest → Follows front words rest
follows [] words rest e = record { others = words; words_are = refl; rest_is = sym e }
follows (f ∷ front) [] rest e = absurd (never_empty f (escaped front ++ rest) (sym (append_assoc (escaped_byte f) (escaped front) rest) ∙ ap (λ x. x ++ rest) (sym (flat_map-cons escaped_byte f front)) ∙ sym e))
follows (f ∷ front) (w ∷ words) rest e =
    let one = escape_same w f (escaped words) (escaped front ++ rest) (sym (flat_map-cons escaped_byte w words) ∙ e ∙ ap (λ x. x ++ rest) (flat_map-cons escaped_byte f front) ∙ append_assoc (escaped_byte f) (escaped front) rest) in
    let deeper = follows front words rest one.1 in
    record { others = deeper.others; words_are = ap (λ x. x ∷ words) one.0 ∙ ap (λ x. f ∷ x) deeper.words_are; rest_is = deeper.rest_is }

-- no two texts have one spelling
pub escaped_once : (one other : List ℕ) → escaped one ≡ escaped other → one ≡ other
escaped_once one other e =
    let f = follows other one [] (e ∙ sym (append-nil (escaped other))) in
    let none : f.others ≡ [] = no_text f.others (sym f.rest_is) in
    f.words_are ∙ ap (λ x. other ++ x) none ∙ append-nil other
  where
    no_text : (words : List ℕ) → escaped words ≡ [] → words ≡ []
    no_text [] e = refl
    no_text (w ∷ words) e = absurd (never_empty w (escaped words) (sym (flat_map-cons escaped_byte w words) ∙ e))

field_92 : IsFieldByte 92
field_92 = (λ e. omega (arith, e), λ e. omega (arith, e), λ e. omega (arith, e))

bad_byte : (x : List ℕ) (b : ℕ) → IsBadStart (escaped_byte b ++ x) → ⊥
bad_byte x = by_shape (λ b. IsBadStart (escaped_byte b ++ x) → ⊥)
    (λ bad. elim bad [ inl raw ↦ raw field_92 | inr escape ↦ escape.1.0 refl ])
    (λ bad. elim bad [ inl raw ↦ raw field_92 | inr escape ↦ escape.1.1 refl ])
    (λ bad. elim bad [ inl raw ↦ raw field_92 | inr escape ↦ escape.1.2 refl ])
    (λ bad. elim bad [ inl raw ↦ raw field_92 | inr escape ↦ escape.1.3 refl ])
    (λ b field other bad. plain_start b x field other (subst IsBadStart (ap (λ w. w ++ x) (plain_byte b field other)) bad))
  where
    plain_start : (b : ℕ) (x : List ℕ) → IsFieldByte b → (b ≡ 92 → ⊥) → IsBadStart (b ∷ x) → ⊥
    plain_start b x field other (inl raw) = raw field
    plain_start b x field other (inr escape) = other escape.0

start_stands : (words : List ℕ) → IsBadStart (escaped words) → ⊥
start_stands [] bad = bad
start_stands (w ∷ words) bad = bad_byte (escaped words) w (subst IsBadStart (flat_map-cons escaped_byte w words) bad)

pub stands : (bytes words : List ℕ) (at : ℕ) → BadAt bytes at → bytes ≡ escaped words → ⊥
stands bytes words at bad e =
    let f = follows bad.front words bad.rest (sym e ∙ bad.bytes_are) in
    start_stands f.others (subst IsBadStart f.rest_is bad.bad)

-- ---- one place at most

same_front : (front other rest more : List ℕ) → escaped front ++ rest ≡ escaped other ++ more → IsBadStart rest → IsBadStart more → front ≡ other
same_front [] [] rest more e bad worse = refl
same_front [] (b ∷ other) rest more e bad worse =
    absurd (bad_byte (escaped other ++ more) b (subst IsBadStart (e ∙ ap (λ x. x ++ more) (flat_map-cons escaped_byte b other) ∙ append_assoc (escaped_byte b) (escaped other) more) bad))
same_front (a ∷ front) [] rest more e bad worse =
    absurd (bad_byte (escaped front ++ rest) a (subst IsBadStart (sym e ∙ ap (λ x. x ++ rest) (flat_map-cons escaped_byte a front) ∙ append_assoc (escaped_byte a) (escaped front) rest) worse))
same_front (a ∷ front) (b ∷ other) rest more e bad worse =
    let one = escape_same a b (escaped front ++ rest) (escaped other ++ more) (sym (append_assoc (escaped_byte a) (escaped front) rest) ∙ ap (λ x. x ++ rest) (sym (flat_map-cons escaped_byte a front)) ∙ e ∙ ap (λ x. x ++ more) (flat_map-cons escaped_byte b other) ∙ append_assoc (escaped_byte b) (escaped other) more) in
    ap (λ x. x ∷ front) one.0 ∙ ap (λ x. b ∷ x) (same_front front other rest more one.1 bad worse)

pub one_place : (bytes : List ℕ) (place other : ℕ) → BadAt bytes place → BadAt bytes other → place ≡ other
one_place bytes place other f g =
    f.place ∙ ap (λ x. length (escaped x)) (same_front f.front g.front f.rest g.rest (sym f.bytes_are ∙ g.bytes_are) f.bad g.bad) ∙ sym g.place

pub made_again : (bytes : List ℕ) (r : Result (List ℕ) EscapeFault) → IfOk r (λ words. bytes ≡ escaped words) → IfErr r (UnescapeFails bytes) → (words : List ℕ) → bytes ≡ escaped words → (r ≡ Ok words) ⊎ (r ≡ Err fault.Memory)
made_again bytes (Ok made) read fails words e = inl (ap Ok (escaped_once made words (sym read ∙ e)))
made_again bytes (Err (fault.BadEscape at)) read fails words e = absurd (stands bytes words at fails e)
made_again bytes (Err fault.Memory) read fails words e = inr refl

field_pair : (b : ℕ) → IsFieldByte b → All IsFieldByte (92 ∷ b ∷ [])
field_pair b field = All-cons IsFieldByte 92 (b ∷ []) field_92 (All-cons IsFieldByte b [] field (All-nil IsFieldByte))

field_bytes : (b : ℕ) → All IsFieldByte (escaped_byte b)
field_bytes = by_shape (λ b. All IsFieldByte (escaped_byte b))
    (field_pair 116 (λ e. omega (arith, e), λ e. omega (arith, e), λ e. omega (arith, e)))
    (field_pair 110 (λ e. omega (arith, e), λ e. omega (arith, e), λ e. omega (arith, e)))
    (field_pair 114 (λ e. omega (arith, e), λ e. omega (arith, e), λ e. omega (arith, e)))
    (field_pair 92 field_92)
    (λ b field other. subst (All IsFieldByte) (sym (plain_byte b field other)) (All-cons IsFieldByte b [] field (All-nil IsFieldByte)))

-- nothing in it cuts a line or a field
pub escaped_in_field : (text : List ℕ) → All IsFieldByte (escaped text)
escaped_in_field [] = All-nil IsFieldByte
escaped_in_field (b ∷ text) = subst (All IsFieldByte) (sym (flat_map-cons escaped_byte b text)) (All-append IsFieldByte (escaped_byte b) (escaped text) (field_bytes b) (escaped_in_field text))
