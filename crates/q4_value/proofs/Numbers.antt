-- What spells a number is a text, and std's parsing gives back that number.
use Rattle.std.proofs.Common.{◌≡◌, ℕ, Bool, true, false, eqb, ℤ, ◌<◌, ◌^◌, List, Result, Ok, Err, decimal, FitsSigned, refl, subst, sym}
use Rattle.std.specs.Fmt.{signed_decimal}
use Rattle.std.specs.Int.{w64}
use Rattle.std.specs.Str.{IsUtf8}
use Rattle.std.specs.Str.Parse.{ParsesSigned, ParsesUnsigned}
use Rattle.std.proofs.lemmas.Fmt.{parse-decimal, parse-signed_decimal, IsAscii-decimal, IsAscii-signed}
use Rattle.std.proofs.lemmas.Str.{IsUtf8-from_ascii}
use Rattle.std.proofs.lemmas.Slice.Eq.{slice_eq-Decides}
use Rattle.std.proofs.lemmas.Bool.Decides.{Decides-eqb}
use Rattle.std.specs.Cmp.Lexicographic.{pointwise}

pub signed_is_text : (z : ℤ) (text : List ℕ) → FitsSigned w64 z → text ≡ signed_decimal z → IsUtf8 text
signed_is_text z text fits spelled = subst IsUtf8 (sym spelled) (IsUtf8-from_ascii _ (IsAscii-signed z fits.sfits))

pub unsigned_is_text : (n : ℕ) (text : List ℕ) → n < 2 ^ 64 → text ≡ decimal n → IsUtf8 text
unsigned_is_text n text fits spelled = subst IsUtf8 (sym spelled) (IsUtf8-from_ascii _ (IsAscii-decimal n fits))

differ : {T E : Type 0} (e : E) (x : T) (r : Result T E) → r ≡ Err e → r ≡ Ok x → ⊥
differ e x r p q = cc

agree : {T E : Type 0} (x y : T) (r : Result T E) → r ≡ Ok x → r ≡ Ok y → x ≡ y
agree x y r p q = cc

-- a spelling is parsed
pub signed_no_error : {E : Type 0} (z : ℤ) (text : List ℕ) (e : E) → FitsSigned w64 z → text ≡ signed_decimal z → ParsesSigned {E = E} w64 10 text (Err e) → ⊥
signed_no_error {E} z text e fits spelled parsed = differ e z (Err e) refl (parse-signed_decimal {E = E} w64 z text (Err e) fits fits.sfits spelled parsed)

pub unsigned_no_error : {E : Type 0} (n : ℕ) (text : List ℕ) (e : E) → n < 2 ^ 64 → text ≡ decimal n → ParsesUnsigned {E = E} 64 10 text (Err e) → ⊥
unsigned_no_error {E} n text e fits spelled parsed = differ e n (Err e) refl (parse-decimal {E = E} 64 n text (Err e) fits fits spelled parsed)

-- nothing but its own number is read from it
pub signed_same : {E : Type 0} (z y : ℤ) (text : List ℕ) (r : Result ℤ E) → r ≡ Ok y → ParsesSigned w64 10 text r → FitsSigned w64 z → text ≡ signed_decimal z → text ≡ signed_decimal y
signed_same z y text r read parsed fits spelled =
    subst (λ (x : ℤ). text ≡ signed_decimal x) (sym (agree y z r read (parse-signed_decimal w64 z text r fits fits.sfits spelled parsed))) spelled

pub unsigned_same : {E : Type 0} (n m : ℕ) (text : List ℕ) (r : Result ℕ E) → r ≡ Ok m → ParsesUnsigned 64 10 text r → n < 2 ^ 64 → text ≡ decimal n → text ≡ decimal m
unsigned_same n m text r read parsed fits spelled =
    subst (λ (x : ℕ). text ≡ decimal x) (sym (agree m n r read (parse-decimal 64 n text r fits fits spelled parsed))) spelled

-- so the test that it is printed the same does not fail
pub differs_not : (text shown : List ℕ) (same : Bool) → same ≡ pointwise eqb text shown → same ≡ false → text ≡ shown → ⊥
differs_not text shown same tested off e =
    let on : same ≡ true = (slice_eq-Decides Decides-eqb text shown same tested).1 e in cc
