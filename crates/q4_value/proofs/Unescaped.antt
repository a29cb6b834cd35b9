-- A text that is made again escape by escape.
use Rattle.std.proofs.Common.{◌≡◌, ℕ, ◌+◌, ◌-◌, ◌<◌, ◌≤◌, true, ◌||◌, ◌==◌, List, [], ◌∷◌, ◌++◌, length, get_or, take, drop, refl, sym, ap, subst, ◌∙◌, append_assoc, inl, inr, arith}
use Rattle.std.specs.List.{All}
use Rattle.std.specs.Str.{IsUtf8, IsCharBoundary}
use Rattle.std.proofs.lemmas.Bool.{or_cases, eqb-true}
use Rattle.std.proofs.lemmas.List.{get_or_default, append-nil, take-append-drop, length-append}
use Rattle.std.proofs.lemmas.List.Concat.{flat_map-append, flat_map-cons}
use Rattle.std.proofs.lemmas.Str.{IsUtf8-drop, IsCharBoundary-before_ascii, IsCharBoundary-after_ascii}
use Rattle.std.proofs.lemmas.List.Elements.{All-take, All-drop}
use Rattle.memchr.specs.Find.{Nowhere, NoneBefore, Passes, is_byte, is_byte3}
use Rattle.q4_value.specs.declared.escaping.EscapeFault.{EscapeFault}
use Rattle.q4_value.specs.declared.escaping.EscapeFault.TheVariants as fault
use Rattle.std.proofs.Math.Seq.{get_or-append_seam}
use Rattle.q4_value.proofs.EscapeLaws.{escaped_in_field}
use Rattle.q4_value.proofs.Rows.{parted}
use Rattle.q4_value.proofs.Runs.{plain as plain_run, plain_before, plain_nowhere}
use Rattle.q4_value.specs.Escape.{escaped_byte, escaped, IsFieldByte, NoLetter, IsBadStart, BadAt, UnescapeFails}

-- a run without a backslash, and the bytes from the first backslash on
pub record IsRun (rest plain escape : List ℕ) : Type 0 where
  pub parts : rest ≡ plain ++ escape
  pub same : escaped plain ≡ plain
  pub is_text : IsUtf8 escape
  pub in_field : All IsFieldByte escape

pub run_found : (rest bytes plain escape : List ℕ) (at : ℕ) → bytes ≡ rest → IsUtf8 rest → All IsFieldByte rest → NoneBefore (Passes (is_byte 92) bytes) 0 (length bytes) at × Passes (is_byte 92) bytes at → plain ≡ take at rest → escape ≡ drop at rest → IsRun rest plain escape
run_found rest bytes plain escape at bytes_are utf8 in_field found plain_is escape_is =
    let found_in : NoneBefore (Passes (is_byte 92) rest) 0 (length rest) at × Passes (is_byte 92) rest at = subst (λ x. NoneBefore (Passes (is_byte 92) x) 0 (length x) at × Passes (is_byte 92) x at) bytes_are found in
    let lt : at < length rest = found_in.0.high in
    let low : get_or rest at 0 < 128 = omega (arith, eqb-true (get_or rest at 0) 92 found_in.1) in
    record {
      parts = sym (take-append-drop at rest) ∙ ap (λ x. x ++ drop at rest) (sym plain_is) ∙ ap (λ x. plain ++ x) (sym escape_is);
      same = ap escaped plain_is ∙ plain_run (take at rest) (All-take IsFieldByte at rest in_field) (plain_before rest at found_in.0.before) ∙ sym plain_is;
      is_text = subst IsUtf8 (sym escape_is) (IsUtf8-drop rest at utf8 (IsCharBoundary-before_ascii rest at lt low));
      in_field = subst (All IsFieldByte) (sym escape_is) (All-drop IsFieldByte at rest in_field);
    }

-- no backslash is left
pub last_run : (rest bytes : List ℕ) → bytes ≡ rest → All IsFieldByte rest → Nowhere (Passes (is_byte 92) bytes) 0 (length bytes) → escaped rest ≡ rest
last_run rest bytes bytes_are in_field none =
    plain_run rest in_field (plain_nowhere rest (subst (λ x. Nowhere (Passes (is_byte 92) x) 0 (length x)) bytes_are none))

-- the escape that was read, and what is behind it
pub record IsEscape (escape after : List ℕ) (c : ℕ) : Type 0 where
  pub parts : escape ≡ escaped_byte c ++ after
  pub is_text : IsUtf8 after
  pub in_field : All IsFieldByte after

pub escape_read : (escape bytes after : List ℕ) (c : ℕ) → bytes ≡ escape → IsUtf8 escape → All IsFieldByte escape → IsCharBoundary escape 2 → take 2 bytes ≡ escaped_byte c → after ≡ drop 2 escape → IsEscape escape after c
escape_read escape bytes after c bytes_are utf8 in_field boundary front after_is = record {
  parts = sym (take-append-drop 2 escape) ∙ ap (λ x. x ++ drop 2 escape) (ap (take 2) (sym bytes_are) ∙ front) ∙ ap (λ x. escaped_byte c ++ x) (sym after_is);
  is_text = subst IsUtf8 (sym after_is) (IsUtf8-drop escape 2 utf8 boundary);
  in_field = subst (All IsFieldByte) (sym after_is) (All-drop IsFieldByte 2 escape in_field);
}

pub after_escape : (escape : List ℕ) → IsUtf8 escape → 2 ≤ length escape → get_or escape 1 0 < 128 → IsCharBoundary escape 2
after_escape escape utf8 long ascii = IsCharBoundary-after_ascii escape 1 utf8 (omega arith) ascii

-- a run and the escape behind it were made
pub made_more : (run made rest plain escape after made' : List ℕ) (c : ℕ) → run ≡ escaped made ++ rest → rest ≡ plain ++ escape → escaped plain ≡ plain → escape ≡ escaped_byte c ++ after → made' ≡ (made ++ plain) ++ c ∷ [] → run ≡ escaped made' ++ after
made_more run made rest plain escape after made' c e rest_is same escape_is made_is =
    let one : escaped (c ∷ []) ≡ escaped_byte c = flat_map-cons escaped_byte c [] ∙ append-nil (escaped_byte c) in
    let whole : escaped made' ≡ (escaped made ++ escaped plain) ++ escaped_byte c =
    ap escaped made_is ∙ flat_map-append escaped_byte (made ++ plain) (c ∷ []) ∙ ap (λ x. x ++ escaped (c ∷ [])) (flat_map-append escaped_byte made plain) ∙ ap (λ x. (escaped made ++ escaped plain) ++ x) one in
    e ∙ ap (λ x. escaped made ++ x) (rest_is ∙ ap (λ x. x ++ escape) (sym same) ∙ ap (λ x. escaped plain ++ x) escape_is)
    ∙ sym (ap (λ x. x ++ after) whole ∙ append_assoc (escaped made ++ escaped plain) (escaped_byte c) after ∙ append_assoc (escaped made) (escaped plain) (escaped_byte c ++ after))

pub made_all : (run made rest words : List ℕ) → run ≡ escaped made ++ rest → escaped rest ≡ rest → words ≡ made ++ rest → run ≡ escaped words
made_all run made rest words e same words_are = e ∙ ap (λ x. escaped made ++ x) (sym same) ∙ sym (flat_map-append escaped_byte made rest) ∙ ap escaped (sym words_are)

pub bad_escape : (run made rest plain escape : List ℕ) (at : ℕ) → run ≡ escaped made ++ rest → rest ≡ plain ++ escape → escaped plain ≡ plain → at ≡ length run - length escape → IsBadStart escape → BadAt run at
bad_escape run made rest plain escape at e rest_is same place bad =
    let whole : run ≡ escaped (made ++ plain) ++ escape =
    e ∙ ap (λ x. escaped made ++ x) (rest_is ∙ ap (λ x. x ++ escape) (sym same)) ∙ sym (append_assoc (escaped made) (escaped plain) escape) ∙ ap (λ x. x ++ escape) (sym (flat_map-append escaped_byte made plain)) in
    record {
      front = made ++ plain;
      rest = escape;
      bytes_are = whole;
      place = omega (arith, place, ap length whole, length-append (escaped (made ++ plain)) escape);
      bad = bad;
    }

-- what cuts a field is no letter of an escape
cut_is_no_letter : (b : ℕ) (more : List ℕ) → (IsFieldByte b → ⊥) → NoLetter (b ∷ more)
cut_is_no_letter b more cut = (
  λ e. cut (omega (arith, e), omega (arith, e), omega (arith, e)),
  λ e. cut (omega (arith, e), omega (arith, e), omega (arith, e)),
  λ e. cut (omega (arith, e), omega (arith, e), omega (arith, e)),
  λ e. cut (omega (arith, e), omega (arith, e), omega (arith, e)),
)

bad_longer : (rest more : List ℕ) → NoLetter more → IsBadStart rest → IsBadStart (rest ++ more)
bad_longer [] more cut bad = absurd bad
bad_longer (b ∷ []) more cut (inl raw) = inl raw
bad_longer (b ∷ []) more cut (inr escape) = inr (escape.0, cut)
bad_longer (b ∷ c ∷ rest) more cut (inl raw) = inl raw
bad_longer (b ∷ c ∷ rest) more cut (inr escape) = inr escape

-- a run, and behind it a raw TAB, newline or byte 13
pub record IsCutOff (text run : List ℕ) : Type 0 where
  pub byte : ℕ
  pub more : List ℕ
  pub text_is : text ≡ run ++ byte ∷ more
  pub cuts : IsFieldByte byte → ⊥

pub cut_off : (text bytes run : List ℕ) (at : ℕ) → bytes ≡ text → NoneBefore (Passes (is_byte3 9 10 13) bytes) 0 (length bytes) at × Passes (is_byte3 9 10 13) bytes at → run ≡ take at text → IsCutOff text run
cut_off text bytes run at bytes_are found run_is =
    let lt : at < length text = subst (λ x. at < length x) bytes_are found.0.high in
    record {
      byte = get_or text at 0;
      more = drop (at + 1) text;
      text_is = parted text at (get_or text at 0) lt (get_or_default text at 0 (get_or text at 0) lt) ∙ ap (λ x. x ++ get_or text at 0 ∷ drop (at + 1) text) (sym run_is);
      cuts = cuts (get_or text at 0) (subst (λ x. Passes (is_byte3 9 10 13) x at) bytes_are found.1);
    }
  where
    cuts : (b : ℕ) → is_byte3 9 10 13 b ≡ true → IsFieldByte b → ⊥
    cuts b found field =
        elim (or_cases (b == 9 || b == 10) (b == 13) found) [
          | inl either ↦ elim (or_cases (b == 9) (b == 10) either) [
            | inl is ↦ field.0 (eqb-true b 9 is)
            | inr is ↦ field.1 (eqb-true b 10 is)
          ]
          | inr is ↦ field.2 (eqb-true b 13 is)
        ]

pub cut_run_fails : (text run : List ℕ) (why : EscapeFault) → IsCutOff text run → UnescapeFails run why → UnescapeFails text why
cut_run_fails text run fault.Memory cut fails = tt
cut_run_fails text run (fault.BadEscape at) cut fails = record {
  front = fails.front;
  rest = fails.rest ++ cut.byte ∷ cut.more;
  bytes_are = cut.text_is ∙ ap (λ x. x ++ cut.byte ∷ cut.more) fails.bytes_are ∙ append_assoc (escaped fails.front) fails.rest (cut.byte ∷ cut.more);
  place = fails.place;
  bad = bad_longer fails.rest (cut.byte ∷ cut.more) (cut_is_no_letter cut.byte cut.more cut.cuts) fails.bad;
}

pub cut_is_bad : (text run words : List ℕ) (at : ℕ) → IsCutOff text run → run ≡ escaped words → length run ≡ at → BadAt text at
cut_is_bad text run words at cut read len = record {
  front = words;
  rest = cut.byte ∷ cut.more;
  bytes_are = cut.text_is ∙ ap (λ x. x ++ cut.byte ∷ cut.more) read;
  place = sym len ∙ ap length read;
  bad = inl cut.cuts;
}

-- ## Whether a text is a spelling

-- a text with a raw TAB, newline or byte 13 is none
pub raw_is_none : (text : List ℕ) (at : ℕ) → NoneBefore (Passes (is_byte3 9 10 13) text) 0 (length text) at × Passes (is_byte3 9 10 13) text at → (words : List ℕ) → text ≡ escaped words → ⊥
raw_is_none text at found words is =
    let cut = cut_off text text (take at text) at refl found refl in
    let seam : get_or text (length (take at text)) 0 ≡ cut.byte = ap (λ x. get_or x (length (take at text)) 0) cut.text_is ∙ get_or-append_seam (take at text) cut.byte cut.more 0 in
    let inside : length (take at text) < length text = omega (arith, ap length cut.text_is, length-append (take at text) (cut.byte ∷ cut.more)) in
    let field : IsFieldByte (get_or text (length (take at text)) 0) = subst (All IsFieldByte) (sym is) (escaped_in_field words) (length (take at text)) 0 inside in
    cut.cuts (subst IsFieldByte seam field)

-- the run up to a backslash and what stands from it on
pub run_parts : (rest : List ℕ) (at : ℕ) → All IsFieldByte rest → NoneBefore (Passes (is_byte 92) rest) 0 (length rest) at → escaped (take at rest) ≡ take at rest
run_parts rest at in_field found = plain_run (take at rest) (All-take IsFieldByte at rest in_field) (plain_before rest at found.before)
