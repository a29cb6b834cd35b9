-- `same_tree` tells of two trees whether they are one.
use Rattle.std.proofs.Common.{◌≡◌, ℕ, List, Bool, true, ◌==◌, ◌&&◌, if◌then◌else◌, Option, Some, None, refl, sym, ap, ◌∙◌}
use Rattle.std.specs.Bool.{Decides}
use Rattle.std.specs.Ordering.{int_eq}
use Rattle.std.specs.Str.{bytes_eq}
use Rattle.std.proofs.lemmas.Bool.Decides.{Decides-eqb, Decides-int_eq, Decides-like, Decides-and, same_from_decides}
use Rattle.std.proofs.lemmas.Slice.Eq.{bytes_eq-Decides}
use Rattle.q4_cond.specs.declared.tree.Operator.{Operator}
use Rattle.q4_cond.specs.declared.tree.Operator.TheVariants.{Or, And, Equal, Unequal, Below, AtMost, Above, AtLeast, Add, Subtract, Multiply, Divide, Remainder}
use Rattle.q4_cond.specs.declared.tree.Atom.{Atom}
use Rattle.q4_cond.specs.declared.tree.Atom.TheVariants.{Column as named, Number, Text}
use Rattle.q4_cond.specs.declared.tree.Node.{Node}
use Rattle.q4_cond.specs.Tree.{Tree, Simple, Two, NotOf, MinusOf}
use Rattle.q4_cond.specs.Postfix.{tree_of, nodes_of}
use Rattle.q4_cond.specs.SameTree.{operator_place, same_operator, same_atom, same_part, same_tree}

-- the operator at a place
abbrev operator_at : ℕ → Operator
operator_at n =
    if n == 0 then Or else if n == 1 then And else if n == 2 then Equal else if n == 3 then Unequal else if n == 4 then Below else if n == 5 then AtMost else if n == 6 then Above else if n == 7 then AtLeast else if n == 8 then Add else if n == 9 then Subtract else if n == 10 then Multiply else if n == 11 then Divide else Remainder

operator_at-place : (op : Operator) → operator_at (operator_place op) ≡ op
operator_at-place Or = refl
operator_at-place And = refl
operator_at-place Equal = refl
operator_at-place Unequal = refl
operator_at-place Below = refl
operator_at-place AtMost = refl
operator_at-place Above = refl
operator_at-place AtLeast = refl
operator_at-place Add = refl
operator_at-place Subtract = refl
operator_at-place Multiply = refl
operator_at-place Divide = refl
operator_at-place Remainder = refl

pub operator-Decides : (op with : Operator) → Decides (same_operator op with) (op ≡ with)
operator-Decides op with =
    Decides-like (same_operator op with) (λ e. sym (operator_at-place op) ∙ (ap operator_at e ∙ operator_at-place with)) (ap operator_place)
    (Decides-eqb (operator_place op) (operator_place with))

pub atom-Decides : (a b : Atom) → Decides (same_atom a b) (a ≡ b)
atom-Decides (named c) (named d) = Decides-like (c == d) (ap (λ x. named x)) (λ e. cc) (Decides-eqb c d)
atom-Decides (named c) (Number y) = (λ e. absurd cc, λ e. absurd cc)
atom-Decides (named c) (Text t) = (λ e. absurd cc, λ e. absurd cc)
atom-Decides (Number x) (Number y) = Decides-like (int_eq x y) (ap (λ x. Number x)) (λ e. cc) (Decides-int_eq x y)
atom-Decides (Number x) (named d) = (λ e. absurd cc, λ e. absurd cc)
atom-Decides (Number x) (Text t) = (λ e. absurd cc, λ e. absurd cc)
atom-Decides (Text s) (Text t) = Decides-like (bytes_eq s t) (ap (λ x. Text x)) (λ e. cc) (bytes_eq-Decides s t)
atom-Decides (Text s) (named d) = (λ e. absurd cc, λ e. absurd cc)
atom-Decides (Text s) (Number y) = (λ e. absurd cc, λ e. absurd cc)

two_same : (op with : Operator) (t u v w : Tree) → (op ≡ with) × ((t ≡ v) × (u ≡ w)) → Two op t u ≡ Two with v w
two_same op with t u v w h = let a = h.0 in let b = h.1.0 in let c = h.1.1 in cc

two_parts : (op with : Operator) (t u v w : Tree) → Two op t u ≡ Two with v w → (op ≡ with) × ((t ≡ v) × (u ≡ w))
two_parts op with t u v w e = (cc, (cc, cc))

pub part-Decides : (t u : Tree) → Decides (same_part t u) (t ≡ u)
part-Decides (Simple a) (Simple b) = Decides-like (same_atom a b) (ap (λ x. Simple x)) (λ e. cc) (atom-Decides a b)
part-Decides (Simple a) (Two with v w) = (λ e. absurd cc, λ e. absurd cc)
part-Decides (Simple a) (NotOf v) = (λ e. absurd cc, λ e. absurd cc)
part-Decides (Simple a) (MinusOf v) = (λ e. absurd cc, λ e. absurd cc)
part-Decides (Two op t u) (Two with v w) =
    Decides-like (same_operator op with && (same_part t v && same_part u w)) (two_same op with t u v w) (two_parts op with t u v w)
    (Decides-and (same_operator op with) (same_part t v && same_part u w) (operator-Decides op with)
    (Decides-and (same_part t v) (same_part u w) (part-Decides t v) (part-Decides u w)))
part-Decides (Two op t u) (Simple b) = (λ e. absurd cc, λ e. absurd cc)
part-Decides (Two op t u) (NotOf v) = (λ e. absurd cc, λ e. absurd cc)
part-Decides (Two op t u) (MinusOf v) = (λ e. absurd cc, λ e. absurd cc)
part-Decides (NotOf t) (NotOf v) = Decides-like (same_part t v) (ap (λ x. NotOf x)) (λ e. cc) (part-Decides t v)
part-Decides (NotOf t) (Simple b) = (λ e. absurd cc, λ e. absurd cc)
part-Decides (NotOf t) (Two with v w) = (λ e. absurd cc, λ e. absurd cc)
part-Decides (NotOf t) (MinusOf v) = (λ e. absurd cc, λ e. absurd cc)
part-Decides (MinusOf t) (MinusOf v) = Decides-like (same_part t v) (ap (λ x. MinusOf x)) (λ e. cc) (part-Decides t v)
part-Decides (MinusOf t) (Simple b) = (λ e. absurd cc, λ e. absurd cc)
part-Decides (MinusOf t) (Two with v w) = (λ e. absurd cc, λ e. absurd cc)
part-Decides (MinusOf t) (NotOf v) = (λ e. absurd cc, λ e. absurd cc)

-- it is true exactly where the trees are one
pub same-Decides : (t u : Option Tree) → Decides (same_tree t u) (t ≡ u)
same-Decides None None = (λ _. refl, λ _. refl)
same-Decides None (Some u) = (λ e. absurd cc, λ e. absurd cc)
same-Decides (Some t) None = (λ e. absurd cc, λ e. absurd cc)
same-Decides (Some t) (Some u) = Decides-like (same_part t u) (ap (λ x. Some x)) (λ e. cc) (part-Decides t u)

pub same-refl : (t : Option Tree) → same_tree t t ≡ true
same-refl t = (same-Decides t t).1 refl

pub same-equal : (t u : Option Tree) → same_tree t u ≡ true → t ≡ u
same-equal t u = (same-Decides t u).0

-- what decides whether the trees are one is it
pub same-is : (r : Bool) (t u : Option Tree) → Decides r (t ≡ u) → r ≡ same_tree t u
same-is r t u d = same_from_decides r (same_tree t u) d (same-Decides t u)

-- what decides whether their nodes are one is it
pub same-of_nodes : (r : Bool) (ms ns : List Node) (t u : Option Tree) → nodes_of (tree_of ms) ≡ ms → nodes_of (tree_of ns) ≡ ns → tree_of ms ≡ t → tree_of ns ≡ u → Decides r (ms ≡ ns) → r ≡ same_tree t u
same-of_nodes r ms ns t u hm hn em en d =
    same-is r t u (Decides-like r (λ e. sym em ∙ (ap tree_of e ∙ en)) (λ e. sym hm ∙ (ap nodes_of (em ∙ (e ∙ sym en)) ∙ hn)) d)
