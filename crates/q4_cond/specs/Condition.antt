-- What a contract sees of a condition.
use Rattle.std.specs.Prelude.{◌≡◌, ℕ, List, [], ◌∷◌, ◌++◌, Option, Some, None, refl}
use Rattle.std.proofs.Common.{sym, ap, ◌∙◌, append_assoc, append-nil}
use Rattle.std.specs.Str.{IsUtf8}
use Rattle.std.specs.Coded.{Coded, code_by}
use Rattle.q4_value.specs.declared.column.Column.{Column}
use Rattle.q4_value.specs.declared.column.Kind.{Kind}
use Rattle.q4_cond.specs.declared.tree.Node.{Node}
use Rattle.q4_cond.specs.declared.tree.Node.TheVariants.{Binary, Inverted, Negated}
use Rattle.q4_cond.specs.Tree.{Tree, Simple, Two, NotOf, MinusOf, postfix}
use Rattle.q4_cond.specs.Reading.{IsRead, kinds_of}
use Rattle.q4_cond.specs.Postfix.{build, first_tree, tree_of, nodes_of}

-- its tree, none for the empty condition, and the kinds of the columns that it was read with
pub record Condition : Type 0 where
  pub tree : Option Tree
  pub kinds : List Kind

-- the text reads as this condition
pub record ReadsAs (columns : List Column) (text : List ℕ) (cond : Condition) : Type 0 where
  pub tree : IsRead columns text cond.tree
  pub kinds : cond.kinds ≡ kinds_of columns

-- some text reads as this tree on these columns, as on those that the condition was read with
pub record IsShowable (columns : List Column) (tree : Option Tree) : Type 0 where
  pub text : List ℕ
  pub utf8 : IsUtf8 text
  pub reads : IsRead columns text tree

pub build-postfix : (t : Tree) (rest : List Node) (st : List Tree) → build (postfix t ++ rest) st ≡ build rest (t ∷ st)
build-postfix (Simple a) rest st = refl
build-postfix (Two op t u) rest st =
    ap (λ l. build l st) (append_assoc (postfix t) (postfix u ++ Binary op ∷ []) rest ∙ ap (λ l. postfix t ++ l) (append_assoc (postfix u) (Binary op ∷ []) rest))
    ∙ (build-postfix t (postfix u ++ (Binary op ∷ rest)) st ∙ build-postfix u (Binary op ∷ rest) (t ∷ st))
build-postfix (NotOf t) rest st = ap (λ l. build l st) (append_assoc (postfix t) (Inverted ∷ []) rest) ∙ build-postfix t (Inverted ∷ rest) st
build-postfix (MinusOf t) rest st = ap (λ l. build l st) (append_assoc (postfix t) (Negated ∷ []) rest) ∙ build-postfix t (Negated ∷ rest) st

-- the nodes of a tree stand for it
pub tree_of-postfix : (t : Tree) → tree_of (postfix t) ≡ Some t
tree_of-postfix t = ap first_tree (ap (λ l. build l []) (sym (append-nil (postfix t))) ∙ build-postfix t [] [])

pub tree_of-nodes_of : (t : Option Tree) → tree_of (nodes_of t) ≡ t
tree_of-nodes_of None = refl
tree_of-nodes_of (Some t) = tree_of-postfix t

-- conditions are told apart by their nodes and kinds
abbrev pub condition_code : Coded (List Node × List Kind) → Coded Condition
condition_code code = code_by (List Node × List Kind) code (λ c. (nodes_of c.tree, c.kinds)) (λ p. record { tree = tree_of p.0; kinds = p.1 }) (λ c. ap (λ t. record { tree = t; kinds = c.kinds }) (tree_of-nodes_of c.tree))
