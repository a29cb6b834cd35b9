-- The tree that a list of nodes in postfix order stands for.
use Rattle.std.specs.Prelude.{List, [], ◌∷◌, Option, Some, None}
use Rattle.q4_cond.specs.declared.tree.Node.{Node}
use Rattle.q4_cond.specs.declared.tree.Node.TheVariants.{Leaf, Binary, Inverted, Negated}
use Rattle.q4_cond.specs.Tree.{Tree, Simple, Two, NotOf, MinusOf, postfix}

-- one node takes its operands from the trees that are complete, the latest first
abbrev pub apply_node : Node → List Tree → List Tree
apply_node (Leaf a) ts = Simple a ∷ ts
apply_node (Binary op) [] = []
apply_node (Binary op) (u ∷ []) = []
apply_node (Binary op) (u ∷ t ∷ ts) = Two op t u ∷ ts
apply_node Inverted [] = []
apply_node Inverted (t ∷ ts) = NotOf t ∷ ts
apply_node Negated [] = []
apply_node Negated (t ∷ ts) = MinusOf t ∷ ts

abbrev pub build : List Node → List Tree → List Tree
build [] ts = ts
build (n ∷ ns) ts = build ns (apply_node n ts)

abbrev pub first_tree : List Tree → Option Tree
first_tree [] = None
first_tree (t ∷ ts) = Some t

-- no node stands for the empty condition
abbrev pub tree_of : List Node → Option Tree
tree_of ns = first_tree (build ns [])

abbrev pub nodes_of : Option Tree → List Node
nodes_of None = []
nodes_of (Some t) = postfix t
