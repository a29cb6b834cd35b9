-- Records that are sealed for a commit.
use Rattle.std.proofs.Common.{◌≡◌, ℕ, ◌-◌, List, [], ◌∷◌, ◌++◌, length, take, drop, refl, sym, ◌∙◌, ap, arith, append_assoc, length-append}
use Rattle.std.specs.Int.{w32, to_be_bytes}
use Rattle.std.proofs.lemmas.List.{take_at}
use Rattle.q4_store.specs.Commit.{sealed}
use Rattle.q4_store.specs.Waiting.{unsealed, IsSealed}

pub unsealed_sealed : (records : List ℕ) → unsealed (sealed records) ≡ records
unsealed_sealed records =
    let size : length (sealed records) - 5 ≡ length records = omega (arith, length-append records (0 ∷ [])) in
    ap (λ (n : ℕ). take n (records ++ 0 ∷ [])) size ∙ take_at records (0 ∷ []) (length records) refl

-- without the closed gate
open_is : (records : List ℕ) → take (length (sealed records) - 1) (sealed records) ≡ to_be_bytes w32 (length records) ++ records
open_is records =
    let front = to_be_bytes w32 (length records) ++ records in
    let size : length (sealed records) - 1 ≡ length front = omega (arith, length-append records (0 ∷ [])) in
    ap (λ (n : ℕ). take n (front ++ 0 ∷ [])) size ∙ take_at front (0 ∷ []) (length front) refl

-- more records behind those that there were, sealed again
pub added_is : (bytes more mid final : List ℕ) → IsSealed bytes → mid ≡ take (length bytes - 1) bytes ++ more → final ≡ to_be_bytes w32 (length mid - 4) ++ (drop 4 mid ++ 0 ∷ []) → final ≡ sealed (unsealed bytes ++ more)
added_is bytes more mid final is mid_is final_is =
    let old = unsealed bytes in
    let front = to_be_bytes w32 (length old) in
    let mid_at : mid ≡ front ++ (old ++ more) =
    mid_is ∙ ap (λ (l : List ℕ). take (length l - 1) l ++ more) is ∙ ap (λ (l : List ℕ). l ++ more) (open_is old) ∙ append_assoc front old more in
    let size : length mid - 4 ≡ length (old ++ more) = omega (arith, ap length mid_at) in
    final_is ∙ ap (λ (n : ℕ). to_be_bytes w32 n ++ (drop 4 mid ++ 0 ∷ [])) size ∙ ap (λ (l : List ℕ). to_be_bytes w32 (length (old ++ more)) ++ (drop 4 l ++ 0 ∷ [])) mid_at

pub added_unsealed : (bytes more mid final : List ℕ) → IsSealed bytes → mid ≡ take (length bytes - 1) bytes ++ more → final ≡ to_be_bytes w32 (length mid - 4) ++ (drop 4 mid ++ 0 ∷ []) → unsealed final ≡ unsealed bytes ++ more
added_unsealed bytes more mid final is mid_is final_is = ap unsealed (added_is bytes more mid final is mid_is final_is) ∙ unsealed_sealed (unsealed bytes ++ more)

pub sealed_again : (bytes more mid final : List ℕ) → IsSealed bytes → mid ≡ take (length bytes - 1) bytes ++ more → final ≡ to_be_bytes w32 (length mid - 4) ++ (drop 4 mid ++ 0 ∷ []) → IsSealed final
sealed_again bytes more mid final is mid_is final_is =
    added_is bytes more mid final is mid_is final_is ∙ ap sealed (sym (added_unsealed bytes more mid final is mid_is final_is))
