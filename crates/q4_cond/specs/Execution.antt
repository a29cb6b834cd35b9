-- The value of a condition, node by node. No public clause cites it.
use Rattle.std.specs.Prelude.{ℕ, ◌+◌, ◌-◌, List, [], ◌∷◌, Bool, true, map, reverse, max}
use Rattle.q4_value.specs.declared.row.Value.{Value}
use Rattle.q4_cond.specs.declared.tree.Node.{Node}
use Rattle.q4_cond.specs.declared.tree.Node.TheVariants.{Leaf, Binary, Inverted, Negated}
use Rattle.q4_cond.specs.declared.value.Operand.{Operand}
use Rattle.q4_cond.specs.declared.value.Operand.TheVariants.{Nothing, Integer, Slice}
use Rattle.q4_cond.specs.Values.{Meaning, Absent, Whole, Words, atom_of, two_of, not_of, minus_of, is_true}

abbrev pub meaning_of : Operand → Meaning
meaning_of Nothing = Absent
meaning_of (Integer n) = Whole n
meaning_of (Slice s) = Words s.now

-- the operands on a stack, the latest first
abbrev pub meanings : List Operand → List Meaning
meanings items = reverse (map meaning_of items)

-- one node takes its operands from those that are complete, the latest first
abbrev pub execute_node : List Value → Node → List Meaning → List Meaning
execute_node row (Leaf a) ms = atom_of row a ∷ ms
execute_node row (Binary op) [] = []
execute_node row (Binary op) (b ∷ []) = []
execute_node row (Binary op) (b ∷ a ∷ ms) = two_of op a b ∷ ms
execute_node row Inverted [] = []
execute_node row Inverted (a ∷ ms) = not_of a ∷ ms
execute_node row Negated [] = []
execute_node row Negated (a ∷ ms) = minus_of a ∷ ms

abbrev pub execute : List Value → List Node → List Meaning → List Meaning
execute row [] ms = ms
execute row (n ∷ ns) ms = execute row ns (execute_node row n ms)

abbrev pub verdict : List Meaning → Bool
verdict [] = true
verdict (m ∷ ms) = is_true m

-- how many operands are complete behind a node, where so many were before it
abbrev pub count_after : Node → ℕ → ℕ
count_after (Leaf a) n = n + 1
count_after (Binary op) n = n - 1
count_after Inverted n = n
count_after Negated n = n

-- the most operands that are complete at once, where so many are at first
abbrev pub most_operands : List Node → ℕ → ℕ
most_operands [] n = n
most_operands (x ∷ xs) n = max n (most_operands xs (count_after x n))
