-- A line and its fields.
use Rattle.std.proofs.Common.{◌≡◌, ◌==◌, ◌<◌, ◌≤◌, ◌+◌, ◌++◌, ◌∷◌, ◌∙◌, [], List, ℕ, Bool, true, false, cond, length, get_or, take, drop, refl, sym, ap, subst, arith}
use Rattle.std.specs.List.{All, onto_first}
use Rattle.std.specs.Str.{IsUtf8, IsCharBoundary}
use Rattle.std.proofs.lemmas.Bool.{eqb-true, ne_eqb, eq-eqb}
use Rattle.std.proofs.lemmas.List.{drop_more, get_or-drop, get_or-take, get_or_default, length-drop, length-take, take-append-drop}
use Rattle.std.proofs.lemmas.List.Splits.{slice_split_at, slice_split_none, slice_split-cons_yes, length-slice_split}
use Rattle.std.proofs.lemmas.List.Sums.{count_by-le-length}
use Rattle.std.proofs.lemmas.Str.{IsUtf8-drop, IsCharBoundary-before_ascii, IsCharBoundary-after_ascii}
use Rattle.memchr.specs.Find.{NoneBefore, NoneAfter, Passes, is_byte}
use Rattle.q4_proto.specs.Fields.{fields_of}

abbrev pub is_tab : ℕ → Bool
is_tab b = b == 9

-- a line has at most one field more than bytes
pub few_fields : (line first : List ℕ) (rest : List (List ℕ)) → fields_of line ≡ first ∷ rest → length rest ≤ length line
few_fields line first rest is =
    let count = length-slice_split is_tab line in
    let most = count_by-le-length is_tab line in
    omega (arith, ap length is, count, most)

-- a line has a field
pub some_field : (line : List ℕ) → fields_of line ≡ [] → ⊥
some_field line none = let count = length-slice_split is_tab line in omega (arith, ap length none, count)

-- ## The first field

-- the TAB at this place, before which there is none
abbrev pub IsFirstTab : List ℕ → ℕ → Type 0
IsFirstTab line tab = NoneBefore (Passes (is_byte 9) line) 0 (length line) tab × Passes (is_byte 9) line tab

no_tab_before : (line : List ℕ) (tab : ℕ) → IsFirstTab line tab → All (λ b. is_tab b ≡ false) (take tab line)
no_tab_before line tab found k d inside =
    let size = length-take tab line in
    let at : get_or (take tab line) k d ≡ get_or line k 0 = get_or_default (take tab line) k d 0 inside ∙ get_or-take tab line k 0 (omega (arith, inside, size)) in
    ne_eqb (get_or (take tab line) k d) 9 (λ is. found.0.before k (omega arith) (omega (arith, inside, size)) (eq-eqb (get_or line k 0) 9 (sym at ∙ is)))

-- a line that has a TAB at this place, in two parts
cut_at : (line : List ℕ) (tab : ℕ) → tab < length line → Passes (is_byte 9) line tab → drop tab line ≡ 9 ∷ drop (tab + 1) line
cut_at line tab inside here = drop_more line tab 0 inside ∙ ap (λ b. b ∷ drop (tab + 1) line) (eqb-true (get_or line tab 0) 9 here)

pub first_cut : (line field back rest : List ℕ) (tab : ℕ) → IsFirstTab line tab → field ≡ take tab line → back ≡ drop tab line → rest ≡ drop 1 back → fields_of line ≡ field ∷ fields_of rest
first_cut line field back rest tab found field_is back_is rest_is =
    let next = cut_at line tab found.0.high found.1 in
    let behind : rest ≡ drop (tab + 1) line = rest_is ∙ ap (drop 1) (back_is ∙ next) in
    let whole : line ≡ take tab line ++ 9 ∷ drop (tab + 1) line = sym (take-append-drop tab line) ∙ ap (λ xs. take tab line ++ xs) next in
    ap fields_of whole ∙ slice_split_at is_tab (take tab line) 9 (drop (tab + 1) line) (no_tab_before line tab found) refl
    ∙ ap (λ xs. xs ∷ fields_of (drop (tab + 1) line)) (sym field_is) ∙ ap (λ xs. field ∷ fields_of xs) (sym behind)

-- ## The last field

put_first : (b : ℕ) (parts more : List (List ℕ)) → 1 ≤ length parts → onto_first b (parts ++ more) ≡ onto_first b parts ++ more
put_first b [] more some = let none : ⊥ = omega (arith, some) in absurd none
put_first b (part ∷ parts) more some = refl

one_byte : (tab : Bool) (b : ℕ) (parts more : List (List ℕ)) → 1 ≤ length parts → cond tab ([] ∷ (parts ++ more)) (onto_first b (parts ++ more)) ≡ cond tab ([] ∷ parts) (onto_first b parts) ++ more
one_byte true b parts more some = refl
one_byte false b parts more some = put_first b parts more some

-- what stands behind the last TAB is the last field
behind_tab : (front last : List ℕ) → All (λ b. is_tab b ≡ false) last → fields_of (front ++ 9 ∷ last) ≡ fields_of front ++ last ∷ []
behind_tab [] last none = slice_split-cons_yes is_tab 9 last refl ∙ ap (λ ps. [] ∷ ps) (slice_split_none is_tab last none)
behind_tab (b ∷ front) last none =
    ap (λ ps. cond (is_tab b) ([] ∷ ps) (onto_first b ps)) (behind_tab front last none)
    ∙ one_byte (is_tab b) b (fields_of front) (last ∷ []) (let some = length-slice_split is_tab front in omega (arith, some))

abbrev pub IsLastTab : List ℕ → ℕ → Type 0
IsLastTab line tab = NoneAfter (Passes (is_byte 9) line) 0 (length line) tab × Passes (is_byte 9) line tab

no_tab : (line : List ℕ) (tab : ℕ) → IsLastTab line tab → All (λ b. is_tab b ≡ false) (drop (tab + 1) line)
no_tab line tab found k d inside =
    let size = length-drop (tab + 1) line in
    let at : get_or (drop (tab + 1) line) k d ≡ get_or line (tab + 1 + k) 0 = get_or_default (drop (tab + 1) line) k d 0 inside ∙ get_or-drop (tab + 1) line k 0 in
    ne_eqb (get_or (drop (tab + 1) line) k d) 9 (λ is. found.0.after (tab + 1 + k) (omega arith) (omega (arith, inside, size)) (eq-eqb (get_or line (tab + 1 + k) 0) 9 (sym at ∙ is)))

pub last_cut : (line front back last : List ℕ) (tab : ℕ) → IsLastTab line tab → front ≡ take tab line → back ≡ drop tab line → last ≡ drop 1 back → fields_of line ≡ fields_of front ++ last ∷ []
last_cut line front back last tab found front_is back_is last_is =
    let next = cut_at line tab found.0.high found.1 in
    let rest : last ≡ drop (tab + 1) line = last_is ∙ ap (drop 1) (back_is ∙ next) in
    let whole : line ≡ take tab line ++ 9 ∷ drop (tab + 1) line = sym (take-append-drop tab line) ∙ ap (λ xs. take tab line ++ xs) next in
    ap fields_of whole ∙ behind_tab (take tab line) (drop (tab + 1) line) (no_tab line tab found)
    ∙ ap (λ xs. fields_of xs ++ drop (tab + 1) line ∷ []) (sym front_is) ∙ ap (λ xs. fields_of front ++ xs ∷ []) (sym rest)

pub no_cut : (line : List ℕ) → ((k : ℕ) → 0 ≤ k → k < length line → Passes (is_byte 9) line k → ⊥) → fields_of line ≡ line ∷ []
no_cut line none = slice_split_none is_tab line (λ k d inside. ne_eqb (get_or line k d) 9 (λ is. none k (omega arith) inside (eq-eqb (get_or line k 0) 9 (get_or_default line k 0 d inside ∙ is))))

-- a character begins behind a TAB
pub after_tab : (line back : List ℕ) (tab : ℕ) → IsUtf8 line → tab < length line → Passes (is_byte 9) line tab → back ≡ drop tab line → IsCharBoundary back 1
after_tab line back tab text inside passes back_is =
    let here : get_or line tab 0 ≡ 9 = eqb-true (get_or line tab 0) 9 passes in
    let cut : IsCharBoundary line tab = IsCharBoundary-before_ascii line tab inside (omega (arith, here)) in
    let first : get_or (drop tab line) 0 0 ≡ 9 = get_or-drop tab line 0 0 ∙ ap (λ n. get_or line n 0) (omega arith) ∙ here in
    let some : 0 < length (drop tab line) = omega (arith, length-drop tab line, inside) in
    subst (λ xs. IsCharBoundary xs 1) (sym back_is) (IsCharBoundary-after_ascii (drop tab line) 0 (IsUtf8-drop line tab text cut) some (omega (arith, first)))
