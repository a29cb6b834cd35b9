-- Nodes in order have the value of their tree.
use Rattle.std.proofs.Common.{◌≡◌, List, [], ◌∷◌, map, refl, ap, ◌∙◌}
use Rattle.q4_value.specs.declared.row.Value.{Value}
use Rattle.q4_cond.specs.declared.tree.Node.{Node}
use Rattle.q4_cond.specs.declared.tree.Node.TheVariants.{Leaf, Binary, Inverted, Negated}
use Rattle.q4_cond.specs.Tree.{Tree}
use Rattle.q4_cond.specs.Postfix.{apply_node, build, first_tree, tree_of}
use Rattle.q4_cond.specs.Values.{value_of, meets}
use Rattle.q4_cond.specs.Execution.{execute_node, execute, verdict}

module _ (row : List Value) where
  node_meaning : (n : Node) (ts : List Tree) → execute_node row n (map (value_of row) ts) ≡ map (value_of row) (apply_node n ts)
  node_meaning (Leaf a) ts = refl
  node_meaning (Binary op) [] = refl
  node_meaning (Binary op) (u ∷ []) = refl
  node_meaning (Binary op) (u ∷ t ∷ ts) = refl
  node_meaning Inverted [] = refl
  node_meaning Inverted (t ∷ ts) = refl
  node_meaning Negated [] = refl
  node_meaning Negated (t ∷ ts) = refl

  execute-build : (ns : List Node) (ts : List Tree) → execute row ns (map (value_of row) ts) ≡ map (value_of row) (build ns ts)
  execute-build [] ts = refl
  execute-build (n ∷ ns) ts = ap (execute row ns) (node_meaning n ts) ∙ execute-build ns (apply_node n ts)

  first_meaning : (ts : List Tree) → verdict (map (value_of row) ts) ≡ meets row (first_tree ts)
  first_meaning [] = refl
  first_meaning (t ∷ ts) = refl

  pub verdict-execute : (ns : List Node) → verdict (execute row ns []) ≡ meets row (tree_of ns)
  verdict-execute ns = ap verdict (execute-build ns []) ∙ first_meaning (build ns [])
