-- A line has its label before its first space.
use Rattle.std.proofs.Common.{◌≡◌, ◌≢◌, ◌++◌, ◌∷◌, ◌∙◌, [], List, ◌+◌, ℕ, All, decimal, refl, sym, ap, subst, arith}
use Rattle.std.proofs.lemmas.List.Elements.{All-head, All-tail, All-map, All-cons, All-nil}
use Rattle.std.specs.Int.Digits.{digits_of, AllBelowBase}
use Rattle.std.proofs.lemmas.Fmt.{decimal-digits_of}
use Rattle.std.proofs.lemmas.Int.Digits.{all_below_base_digits_of}
use Rattle.q4_play.specs.Labels.{IsLabel, IsUnlabelled}

abbrev pub HasNoSpace : List ℕ → Type 0
HasNoSpace bytes = All (λ b. b ≢ 32) bytes

below_plain : (ds : List ℕ) → AllBelowBase 10 ds → All (λ d. 48 + d ≢ 32) ds
below_plain [] below = All-nil (λ d. 48 + d ≢ 32)
below_plain (d ∷ ds) below = All-cons (λ d. 48 + d ≢ 32) d ds (λ same. omega (arith, same)) (below_plain ds below.1)

-- the digits of a label have no space
label_plain : (label : ℕ) → IsLabel label → HasNoSpace (decimal label)
label_plain label is = subst HasNoSpace (sym (decimal-digits_of label (omega (arith, is)) (omega (arith, is))))
    (All-map (λ b. b ≢ 32) (λ d. 48 + d) (digits_of 10 label) (below_plain (digits_of 10 label) (all_below_base_digits_of 10 label (omega arith))))

head_is : (x y : ℕ) (xs ys : List ℕ) → x ∷ xs ≡ y ∷ ys → x ≡ y
head_is x y xs ys is = cc is

tail_is : (x y : ℕ) (xs ys : List ℕ) → x ∷ xs ≡ y ∷ ys → xs ≡ ys
tail_is x y xs ys is = cc is

-- what stands before the first space
front_once : (xs ys : List ℕ) (rest more : List ℕ) → HasNoSpace xs → HasNoSpace ys → xs ++ 32 ∷ rest ≡ ys ++ 32 ∷ more → xs ≡ ys
front_once [] [] rest more plain also is = refl
front_once [] (y ∷ ys) rest more plain also is = absurd (All-head (λ b. b ≢ 32) y ys also (sym (head_is 32 y rest (ys ++ 32 ∷ more) is)))
front_once (x ∷ xs) [] rest more plain also is = absurd (All-head (λ b. b ≢ 32) x xs plain (head_is x 32 (xs ++ 32 ∷ rest) more is))
front_once (x ∷ xs) (y ∷ ys) rest more plain also is =
    ap (λ (b : ℕ). b ∷ xs) (head_is x y (xs ++ 32 ∷ rest) (ys ++ 32 ∷ more) is)
    ∙ ap (λ (bytes : List ℕ). y ∷ bytes) (front_once xs ys rest more (All-tail (λ b. b ≢ 32) x xs plain) (All-tail (λ b. b ≢ 32) y ys also) (tail_is x y (xs ++ 32 ∷ rest) (ys ++ 32 ∷ more) is))

-- a list with a space has one
no_space : (xs ys rest : List ℕ) → HasNoSpace xs → xs ≡ ys ++ 32 ∷ rest → ⊥
no_space [] [] rest plain is = cc is
no_space [] (y ∷ ys) rest plain is = cc is
no_space (x ∷ xs) [] rest plain is = All-head (λ b. b ≢ 32) x xs plain (head_is x 32 xs rest is)
no_space (x ∷ xs) (y ∷ ys) rest plain is = no_space xs ys rest (All-tail (λ b. b ≢ 32) x xs plain) (tail_is x y xs (ys ++ 32 ∷ rest) is)

-- a line without a space that is no label
pub unlabelled_alone : (line : List ℕ) → HasNoSpace line → ((label : ℕ) → IsLabel label → line ≡ decimal label → ⊥) → IsUnlabelled line
unlabelled_alone line plain none = record {
  not_alone = none;
  no_command = λ label command is_label is. no_space line (decimal label) command plain is;
}

-- a line with no label before its first space
pub unlabelled_command : (digits command : List ℕ) → HasNoSpace digits → ((label : ℕ) → IsLabel label → digits ≡ decimal label → ⊥) → IsUnlabelled (digits ++ 32 ∷ command)
unlabelled_command digits command plain none = record {
  not_alone = λ label is_label is. no_space (decimal label) digits command (label_plain label is_label) (sym is);
  no_command = λ label other is_label is. none label is_label (front_once digits (decimal label) command other plain (label_plain label is_label) is);
}
