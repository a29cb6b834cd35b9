-- How many operands are complete at once.
use Rattle.std.proofs.Common.{◌≡◌, ◌<◌, ◌≤◌, ◌+◌, ◌∙◌, ℕ, suc, List, [], ◌∷◌, length, drop, get_or, drop-cons, add-one, sym, ap, arith}
use Rattle.std.specs.Prelude.{max}
use Rattle.q4_cond.specs.declared.tree.Node.{Node}
use Rattle.q4_cond.specs.declared.tree.Node.TheVariants.{Leaf, Binary, Inverted, Negated}
use Rattle.q4_cond.specs.Execution.{count_after, most_operands}

at_least : (xs : List Node) (n : ℕ) → n ≤ most_operands xs n
at_least [] n = omega arith
at_least (x ∷ xs) n = omega arith

-- one node more, where the most so far are known
pub most-more : (most count total : ℕ) (x : Node) (xs : List Node) → count ≤ most → max most (most_operands (x ∷ xs) count) ≡ total
    → max (max (count_after x count) most) (most_operands xs (count_after x count)) ≡ total
most-more most count total x xs few is = omega (arith, at_least xs (count_after x count), few, is)

-- what one node needs, and what is needed behind it
pub room-here : (n count : ℕ) (x : Node) (xs : List Node) → most_operands (x ∷ xs) count ≤ n → count_after x count ≤ n
room-here n count x xs room = omega (arith, at_least xs (count_after x count), room)

pub room-more : (n count : ℕ) (x : Node) (xs : List Node) → most_operands (x ∷ xs) count ≤ n → most_operands xs (count_after x count) ≤ n
room-more n count x xs room = omega (arith, room)

-- the nodes from one on are that one and those behind it
pub drop-node : (xs : List Node) (i : ℕ) (x : Node) → i < length xs → x ≡ get_or xs i x → drop i xs ≡ x ∷ drop (i + 1) xs
drop-node xs i x inside is = rw add-one (drop-cons xs i x inside ∙ ap (λ y. y ∷ drop (suc i) xs) (sym is))

pub one-more : (x : Node) (n : ℕ) → count_after x n ≤ n + 1
one-more (Leaf a) n = omega arith
one-more (Binary op) n = omega arith
one-more Inverted n = omega arith
one-more Negated n = omega arith

pub most-few : (xs : List Node) (n : ℕ) → most_operands xs n ≤ n + length xs
most-few [] n = omega arith
most-few (x ∷ xs) n = omega (arith, most-few xs (count_after x n), one-more x n)
