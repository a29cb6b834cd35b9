-- The tree of a condition, and the levels of its operators.
use Rattle.std.specs.Prelude.{ℕ, suc, List, [], ◌∷◌, ◌++◌}
use Rattle.q4_cond.specs.declared.tree.Operator.{Operator}
use Rattle.q4_cond.specs.declared.tree.Operator.TheVariants.{Or, And, Equal, Unequal, Below, AtMost, Above, AtLeast, Add, Subtract, Multiply, Divide, Remainder}
use Rattle.q4_cond.specs.declared.tree.Atom.{Atom}
use Rattle.q4_cond.specs.declared.tree.Node.{Node}
use Rattle.q4_cond.specs.declared.tree.Node.TheVariants.{Leaf, Binary, Inverted, Negated}

-- a condition's tree, which keeps no parentheses
pub data Tree : Type 0 where
  Simple : Atom → Tree
  Two : Operator → Tree → Tree → Tree
  NotOf : Tree → Tree
  MinusOf : Tree → Tree

-- the levels of the grammar, the loosest first: 1 or, 2 and, 3 not, 4 comparisons, 5 sums, 6 terms, 7 unary, 8 atoms
abbrev pub level_of : Operator → ℕ
level_of Or = 1
level_of And = 2
level_of Equal = 4
level_of Unequal = 4
level_of Below = 4
level_of AtMost = 4
level_of Above = 4
level_of AtLeast = 4
level_of Add = 5
level_of Subtract = 5
level_of Multiply = 6
level_of Divide = 6
level_of Remainder = 6

-- the level of an operator's left operand: its own, so that repeated operators group to the left;
-- but a comparison has sums on both sides, and does not chain
abbrev pub left_level : Operator → ℕ
left_level Or = 1
left_level And = 2
left_level Equal = 5
left_level Unequal = 5
left_level Below = 5
left_level AtMost = 5
left_level Above = 5
left_level AtLeast = 5
left_level Add = 5
left_level Subtract = 5
left_level Multiply = 6
left_level Divide = 6
left_level Remainder = 6

-- the level of an operator's right operand: the next tighter one
abbrev pub right_level : Operator → ℕ
right_level op = suc (level_of op)

-- a tree in postfix order, each operator behind its operands
abbrev pub postfix : Tree → List Node
postfix (Simple a) = Leaf a ∷ []
postfix (Two op t u) = postfix t ++ (postfix u ++ Binary op ∷ [])
postfix (NotOf t) = postfix t ++ Inverted ∷ []
postfix (MinusOf t) = postfix t ++ Negated ∷ []
