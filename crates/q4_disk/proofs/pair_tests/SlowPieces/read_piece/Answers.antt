use Rattle.std.proofs.Common.{◌≡◌, ◌⊎◌, ℕ, zero, suc, ◌-◌, ◌≤◌, min, List, ◌++◌, length, take, drop, refl, inl, inr, arith}
use Rattle.q4_disk.specs.Pieces.{IsPiece}
use Rattle.q4_disk.proofs.pair_tests.SlowPieces.read_piece.Goals as goal

none_of : (room len at n : ℕ) → n ≡ min (min room (len - at)) 2 → n ≡ 0 → (room ≡ 0) ⊎ (len ≤ at)
none_of zero len at n count none = inl refl
none_of (suc room) len at n count none = inr (omega (arith, count, none))

-- two bytes at most are a piece
piece_of : (bytes : List ℕ) (at : ℕ) (before after : List ℕ) (n : ℕ) → n ≡ min (min (length before) (length bytes - at)) 2 → after ≡ take n (drop at bytes) ++ drop n before → IsPiece bytes at before after n
piece_of bytes at before after n count into = record {
  within = omega (arith, count);
  into = into;
  none = none_of (length before) (length bytes) at n count;
}

pub returns-clause-read : goal.returns-clause-read
returns-clause-read c tells = piece_of _ _ _ _ _ c.read_two.ensures.count c.read_two.ensures.into
