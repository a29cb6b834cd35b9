-- Nodes in order write the text of their tree.
use Rattle.std.proofs.Common.{◌≡◌, ℕ, List, [], ◌∷◌, map, refl, sym, ap, ◌∙◌, subst}
use Rattle.std.specs.Prelude.{IfOk, Ok, Err}
use Rattle.std.specs.declared.result.Result.{Result}
use Rattle.q4_value.specs.declared.NoMemory.{NoMemory}
use Rattle.q4_cond.specs.declared.tree.Node.{Node}
use Rattle.q4_cond.specs.declared.tree.Node.TheVariants.{Leaf, Binary, Inverted, Negated}
use Rattle.q4_cond.specs.Tree.{Tree}
use Rattle.q4_cond.specs.Postfix.{apply_node, build, first_tree, tree_of}
use Rattle.q4_cond.specs.Shown.{shown, condition_text, write_node, write_nodes, first_text}

module _ (names : List (List ℕ)) where
  node_text : (n : Node) (ts : List Tree) → write_node names n (map (shown names) ts) ≡ map (shown names) (apply_node n ts)
  node_text (Leaf a) ts = refl
  node_text (Binary op) [] = refl
  node_text (Binary op) (u ∷ []) = refl
  node_text (Binary op) (u ∷ t ∷ ts) = refl
  node_text Inverted [] = refl
  node_text Inverted (t ∷ ts) = refl
  node_text Negated [] = refl
  node_text Negated (t ∷ ts) = refl

  write_nodes-build : (ns : List Node) (ts : List Tree) → write_nodes names ns (map (shown names) ts) ≡ map (shown names) (build ns ts)
  write_nodes-build [] ts = refl
  write_nodes-build (n ∷ ns) ts = ap (write_nodes names ns) (node_text n ts) ∙ write_nodes-build ns (apply_node n ts)

  first_shown : (ts : List Tree) → first_text (map (shown names) ts) ≡ condition_text names (first_tree ts)
  first_shown [] = refl
  first_shown (t ∷ ts) = refl

  pub first_text-nodes : (ns : List Node) → first_text (write_nodes names ns []) ≡ condition_text names (tree_of ns)
  first_text-nodes ns = ap first_text (write_nodes-build ns []) ∙ first_shown (build ns [])

-- what holds of a list holds of words that are it
pub of_words : (P : List ℕ → Type 0) (x : List ℕ) (r : Result (List ℕ) NoMemory) → P x → IfOk r (λ words. words ≡ x) → IfOk r P
of_words P x (Ok words) h e = subst P (sym e) h
of_words P x (Err m) h e = tt
