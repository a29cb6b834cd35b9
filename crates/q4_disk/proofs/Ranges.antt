-- What a write, whole or torn, leaves of bytes in parts.
use Rattle.std.proofs.Common.{◌≡◌, ℕ, ◌+◌, ◌<◌, ◌≤◌, min, List, ◌∷◌, ◌++◌, length, take, drop, get_or, sym, ◌∙◌, ap, arith, length-append}
use Rattle.std.proofs.lemmas.List.{take_at, take-append-drop, drop_more}
use Rattle.std.proofs.Math.Seq.{drop-append-add}
use Rattle.q4_disk.specs.Images.{written, Torn}

-- bytes and any end
pub record Begins (front bytes : List ℕ) : Type 0 where
  pub end : List ℕ
  pub is : bytes ≡ front ++ end

-- bytes and any byte in their middle
pub record AnyByte (front back bytes : List ℕ) : Type 0 where
  pub byte : ℕ
  pub is : bytes ≡ front ++ byte ∷ back

pub written_at : (x y b : List ℕ) (n : ℕ) → length x ≡ n → written (x ++ y) n b ≡ x ++ (b ++ drop (length b) y)
written_at x y b n is =
    ap (λ (l : List ℕ). l ++ (b ++ drop (n + length b) (x ++ y))) (take_at x y n is)
    ∙ ap (λ (l : List ℕ). x ++ (b ++ l)) (ap (λ (k : ℕ). drop (k + length b) (x ++ y)) (sym is) ∙ drop-append-add x y (length b))

-- a write that lies within the old bytes, or at their end
pub kept_front : (d c : List ℕ) (n m : ℕ) → n ≤ length d → Torn n m d c → take n c ≡ take n d
kept_front d c n m le torn = let e : n ≡ min n (length d) = omega (arith, le) in ap (λ (k : ℕ). take k c) e ∙ torn.before

-- a torn write leaves what stands before it
pub torn_front : (x y c : List ℕ) (n m : ℕ) → length x ≡ n → Torn n m (x ++ y) c → Begins x c
torn_front x y c n m is torn = record {
  end = drop n c;
  is = sym (take-append-drop n c) ∙ ap (λ (l : List ℕ). l ++ drop n c) (kept_front (x ++ y) c n m (omega (arith, is, length-append x y)) torn ∙ take_at x y n is);
}

-- and a torn byte all the rest
pub torn_byte : (x y c : List ℕ) (g n : ℕ) → length x ≡ n → Torn n 1 (x ++ g ∷ y) c → AnyByte x y c
torn_byte x y c g n is torn =
    let long : n < length c = omega (arith, torn.no_shorter, length-append x (g ∷ y), is) in
    let back : drop (n + 1) (x ++ g ∷ y) ≡ y = ap (λ (k : ℕ). drop (k + 1) (x ++ g ∷ y)) (sym is) ∙ drop-append-add x (g ∷ y) 1 in
    record {
      byte = get_or c n 0;
      is = sym (take-append-drop n c) ∙ ap (λ (l : List ℕ). l ++ drop n c) (kept_front (x ++ g ∷ y) c n 1 (omega (arith, is, length-append x (g ∷ y))) torn ∙ take_at x (g ∷ y) n is)
          ∙ ap (λ (l : List ℕ). x ++ l) (drop_more c n 0 long ∙ ap (λ (l : List ℕ). get_or c n 0 ∷ l) (torn.after ∙ back));
    }
