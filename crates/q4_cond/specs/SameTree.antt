-- Whether two trees are one, as a function.
use Rattle.std.specs.Prelude.{ℕ, ◌==◌, Bool, true, false, ◌&&◌, Option, Some, None}
use Rattle.std.specs.Ordering.{int_eq}
use Rattle.std.specs.Str.{bytes_eq}
use Rattle.q4_cond.specs.declared.tree.Operator.{Operator}
use Rattle.q4_cond.specs.declared.tree.Operator.TheVariants.{Or, And, Equal, Unequal, Below, AtMost, Above, AtLeast, Add, Subtract, Multiply, Divide, Remainder}
use Rattle.q4_cond.specs.declared.tree.Atom.{Atom}
use Rattle.q4_cond.specs.declared.tree.Atom.TheVariants.{Column as named, Number, Text}
use Rattle.q4_cond.specs.Tree.{Tree, Simple, Two, NotOf, MinusOf}

-- the place of an operator among the operators
abbrev pub operator_place : Operator → ℕ
operator_place Or = 0
operator_place And = 1
operator_place Equal = 2
operator_place Unequal = 3
operator_place Below = 4
operator_place AtMost = 5
operator_place Above = 6
operator_place AtLeast = 7
operator_place Add = 8
operator_place Subtract = 9
operator_place Multiply = 10
operator_place Divide = 11
operator_place Remainder = 12

-- one operator
abbrev pub same_operator : Operator → Operator → Bool
same_operator op with = operator_place op == operator_place with

-- one column, one number, or texts of the same bytes
abbrev pub same_atom : Atom → Atom → Bool
same_atom (named c) (named d) = c == d
same_atom (named c) (Number y) = false
same_atom (named c) (Text t) = false
same_atom (Number x) (Number y) = int_eq x y
same_atom (Number x) (named d) = false
same_atom (Number x) (Text t) = false
same_atom (Text s) (Text t) = bytes_eq s t
same_atom (Text s) (named d) = false
same_atom (Text s) (Number y) = false

-- the same atoms and the same operators, at the same places
abbrev pub same_part : Tree → Tree → Bool
same_part (Simple a) (Simple b) = same_atom a b
same_part (Simple a) (Two with v w) = false
same_part (Simple a) (NotOf v) = false
same_part (Simple a) (MinusOf v) = false
same_part (Two op t u) (Two with v w) = same_operator op with && (same_part t v && same_part u w)
same_part (Two op t u) (Simple b) = false
same_part (Two op t u) (NotOf v) = false
same_part (Two op t u) (MinusOf v) = false
same_part (NotOf t) (NotOf v) = same_part t v
same_part (NotOf t) (Simple b) = false
same_part (NotOf t) (Two with v w) = false
same_part (NotOf t) (MinusOf v) = false
same_part (MinusOf t) (MinusOf v) = same_part t v
same_part (MinusOf t) (Simple b) = false
same_part (MinusOf t) (Two with v w) = false
same_part (MinusOf t) (NotOf v) = false

-- the empty condition has no tree, and is the same as the empty one alone
abbrev pub same_tree : Option Tree → Option Tree → Bool
same_tree None None = true
same_tree None (Some u) = false
same_tree (Some t) None = false
same_tree (Some t) (Some u) = same_part t u
