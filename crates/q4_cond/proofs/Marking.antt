-- The texts that are misplaced in a tree are those that are stray in its nodes.
use Rattle.std.proofs.Common.{◌≡◌, ℕ, ◌+◌, ◌<◌, List, [], ◌∷◌, ◌++◌, Bool, true, false, not, ◌&&◌, ◌||◌, Option, Some, None, length, get_or, drop, drop-drop, refl, sym, ap, ap₂, ◌∙◌, cond, append_assoc, append-nil}
use Rattle.std.proofs.lemmas.List.{drop_more}
use Rattle.std.proofs.lemmas.Bool.{cond-false, and_left}
use Rattle.q4_value.specs.declared.column.Kind.{Kind}
use Rattle.q4_cond.specs.declared.tree.Operator.{Operator}
use Rattle.q4_cond.specs.declared.tree.Atom.{Atom}
use Rattle.q4_cond.specs.declared.tree.Node.{Node}
use Rattle.q4_cond.specs.declared.tree.Node.TheVariants.{Leaf, Binary, Inverted, Negated}
use Rattle.q4_cond.specs.Tree.{Tree, Simple, Two, NotOf, MinusOf, postfix}
use Rattle.q4_cond.specs.Reading.{is_text, compares_texts, misplaced, misplaced_in, first_marked}
use Rattle.q4_cond.specs.Postfix.{nodes_of}
use Rattle.q4_cond.specs.Marks.{next_compares, next_is_side, is_stray, strays}

abbrev is_leaf : Tree → Bool
is_leaf (Simple a) = true
is_leaf (Two op t u) = false
is_leaf (NotOf t) = false
is_leaf (MinusOf t) = false

-- a tree's first node is a leaf
no_compare : (t : Tree) (rest : List Node) → next_compares (postfix t ++ rest) ≡ false
no_compare (Simple a) rest = refl
no_compare (Two op t u) rest = let flat : (postfix t ++ (postfix u ++ Binary op ∷ [])) ++ rest ≡ postfix t ++ (postfix u ++ (Binary op ∷ rest)) = simp append_assoc in ap next_compares flat ∙ no_compare t (postfix u ++ (Binary op ∷ rest))
no_compare (NotOf t) rest = ap next_compares (append_assoc (postfix t) (Inverted ∷ []) rest) ∙ no_compare t (Inverted ∷ rest)
no_compare (MinusOf t) rest = ap next_compares (append_assoc (postfix t) (Negated ∷ []) rest) ∙ no_compare t (Negated ∷ rest)

and_none : (b : Bool) → (b && false) ≡ false
and_none true = refl
and_none false = refl

-- a tree that is no leaf does not begin with a side and its comparison
module _ (kinds : List Kind) where
  no_side_from : (t : Tree) (next : Node) (rest : List Node) → next_compares (next ∷ rest) ≡ false → ((is_leaf t ≡ false) → next_is_side kinds (postfix t ++ next ∷ rest) ≡ false) → next_is_side kinds (postfix t ++ next ∷ rest) ≡ false
  no_side_from (Simple a) next rest e ih = ap (λ b. is_text kinds a && b) e ∙ and_none (is_text kinds a)
  no_side_from (Two op t u) next rest e ih = ih refl
  no_side_from (NotOf t) next rest e ih = ih refl
  no_side_from (MinusOf t) next rest e ih = ih refl

  -- two trees and an operator, where the first is a leaf or is not
  no_side_two : (t u : Tree) (rest : List Node) → ((is_leaf t ≡ false) → next_is_side kinds (postfix t ++ (postfix u ++ rest)) ≡ false) → next_is_side kinds (postfix t ++ (postfix u ++ rest)) ≡ false
  no_side_two (Simple a) u rest ih = ap (λ b. is_text kinds a && b) (no_compare u rest) ∙ and_none (is_text kinds a)
  no_side_two (Two op t t') u rest ih = ih refl
  no_side_two (NotOf t) u rest ih = ih refl
  no_side_two (MinusOf t) u rest ih = ih refl

  no_side : (t : Tree) (rest : List Node) → is_leaf t ≡ false → next_is_side kinds (postfix t ++ rest) ≡ false
  no_side (Simple a) rest e = absurd cc
  no_side (Two op t u) rest e =
      let flat : (postfix t ++ (postfix u ++ Binary op ∷ [])) ++ rest ≡ postfix t ++ (postfix u ++ (Binary op ∷ rest)) = simp append_assoc in
      ap (next_is_side kinds) flat ∙ no_side_two t u (Binary op ∷ rest) (λ h. no_side t (postfix u ++ (Binary op ∷ rest)) h)
  no_side (NotOf t) rest e = ap (next_is_side kinds) (append_assoc (postfix t) (Inverted ∷ []) rest) ∙ no_side_from t Inverted rest refl (λ h. no_side t (Inverted ∷ rest) h)
  no_side (MinusOf t) rest e = ap (next_is_side kinds) (append_assoc (postfix t) (Negated ∷ []) rest) ∙ no_side_from t Negated rest refl (λ h. no_side t (Negated ∷ rest) h)

  -- whether the last node before what follows is a text atom
  abbrev last_text : Tree → Bool
  last_text (Simple a) = is_text kinds a
  last_text (Two op t u) = false
  last_text (NotOf t) = false
  last_text (MinusOf t) = false

  alone : (x before : Bool) (side compares : Bool) → side ≡ false → (before && compares) ≡ false → (x && not (side || (before && compares))) ≡ x
  alone true before side compares e f = ap not (ap₂ (λ p q. p || q) e f)
  alone false before side compares e f = refl

  -- what an operator behind a tree does not pair
  record Apart (t : Tree) (before : Bool) (rest : List Node) : Type 0 where
    side : is_leaf t ≡ true → next_is_side kinds rest ≡ false
    compare : is_leaf t ≡ true → (before && next_compares rest) ≡ false

  -- both sides of an operator
  pair : (op : Operator) (a b : Atom) (before : Bool) (rest : List Node) (x y eq : Bool) → x ≡ is_text kinds a → y ≡ is_text kinds b → eq ≡ compares_texts op → (x && not ((y && eq) || (before && false))) ∷ (y && not (false || (x && eq))) ∷ strays kinds false rest ≡ cond (eq && (x && y)) (false ∷ false ∷ []) (x ∷ y ∷ []) ++ strays kinds false rest
  pair op a b before rest true true true e f g = refl
  pair op a b true rest true true false e f g = refl
  pair op a b false rest true true false e f g = refl
  pair op a b true rest true false true e f g = refl
  pair op a b false rest true false true e f g = refl
  pair op a b true rest true false false e f g = refl
  pair op a b false rest true false false e f g = refl
  pair op a b before rest false true true e f g = refl
  pair op a b before rest false true false e f g = refl
  pair op a b before rest false false true e f g = refl
  pair op a b before rest false false false e f g = refl

  operands : (t u : Tree) (op : Operator) → (is_leaf t && is_leaf u) ≡ false → misplaced kinds (Two op t u) ≡ misplaced kinds t ++ misplaced kinds u
  operands (Simple a) (Simple b) op e = absurd cc
  operands (Simple a) (Two o t u) op e = cond-false _ _ _ (and_none (compares_texts op))
  operands (Simple a) (NotOf t) op e = cond-false _ _ _ (and_none (compares_texts op))
  operands (Simple a) (MinusOf t) op e = cond-false _ _ _ (and_none (compares_texts op))
  operands (Two o t u) w op e = cond-false _ _ _ (and_none (compares_texts op))
  operands (NotOf t) w op e = cond-false _ _ _ (and_none (compares_texts op))
  operands (MinusOf t) w op e = cond-false _ _ _ (and_none (compares_texts op))

  flat_two : (t u : Tree) (op : Operator) (rest : List Node) → postfix (Two op t u) ++ rest ≡ postfix t ++ (postfix u ++ (Binary op ∷ rest))
  flat_two t u op rest = simp append_assoc

  goes_leaf : (op : Operator) (a : Atom) (u : Tree) (before : Bool) (rest : List Node) → is_leaf u ≡ false → strays kinds (is_text kinds a) (postfix u ++ (Binary op ∷ rest)) ≡ misplaced kinds u ++ strays kinds (last_text u) (Binary op ∷ rest) → strays kinds before (postfix (Two op (Simple a) u) ++ rest) ≡ misplaced kinds (Two op (Simple a) u) ++ strays kinds false rest
  goes_leaf op a u before rest e ih =
      ap (strays kinds before) (flat_two (Simple a) u op rest)
      ∙ (ap₂ (λ b l. b ∷ l) (alone (is_text kinds a) before _ _ (no_side u (Binary op ∷ rest) e) (ap (λ b. before && b) (no_compare u (Binary op ∷ rest)) ∙ and_none before)) ih
      ∙ ap (λ l. l ++ strays kinds false rest) (sym (operands (Simple a) u op e)))

  goes_tree : (op : Operator) (t u : Tree) (before : Bool) (rest : List Node) → is_leaf t ≡ false → last_text t ≡ false → strays kinds before (postfix t ++ (postfix u ++ (Binary op ∷ rest))) ≡ misplaced kinds t ++ strays kinds (last_text t) (postfix u ++ (Binary op ∷ rest)) → strays kinds false (postfix u ++ (Binary op ∷ rest)) ≡ misplaced kinds u ++ strays kinds (last_text u) (Binary op ∷ rest) → strays kinds before (postfix (Two op t u) ++ rest) ≡ misplaced kinds (Two op t u) ++ strays kinds false rest
  goes_tree op t u before rest e last first second =
      ap (strays kinds before) (flat_two t u op rest)
      ∙ (first ∙ (ap (λ b. misplaced kinds t ++ strays kinds b (postfix u ++ (Binary op ∷ rest))) last
      ∙ (ap (λ l. misplaced kinds t ++ l) second
      ∙ (sym (append_assoc (misplaced kinds t) (misplaced kinds u) (strays kinds false rest))
      ∙ ap (λ l. l ++ strays kinds false rest) (sym (operands t u op (and_left (is_leaf t) (is_leaf u) e)))))))

  -- a tree that stands apart, and what follows
  goes : (t : Tree) (before : Bool) (rest : List Node) → Apart t before rest → strays kinds before (postfix t ++ rest) ≡ misplaced kinds t ++ strays kinds (last_text t) rest
  goes (Simple a) before rest h = ap (λ b. b ∷ strays kinds (is_text kinds a) rest) (alone (is_text kinds a) before _ _ (h.side refl) (h.compare refl))
  goes (NotOf t) before rest h =
      ap (strays kinds before) (append_assoc (postfix t) (Inverted ∷ []) rest)
      ∙ goes t before (Inverted ∷ rest) (record { side = λ _. refl; compare = λ _. and_none before })
  goes (MinusOf t) before rest h =
      ap (strays kinds before) (append_assoc (postfix t) (Negated ∷ []) rest)
      ∙ goes t before (Negated ∷ rest) (record { side = λ _. refl; compare = λ _. and_none before })
  goes (Two op (Simple a) (Simple b)) before rest h = pair op a b before rest (is_text kinds a) (is_text kinds b) (compares_texts op) refl refl refl
  goes (Two op (Simple a) (Two o t u)) before rest h = goes_leaf op a (Two o t u) before rest refl (goes (Two o t u) (is_text kinds a) (Binary op ∷ rest) (record { side = λ e. absurd cc; compare = λ e. absurd cc }))
  goes (Two op (Simple a) (NotOf t)) before rest h = goes_leaf op a (NotOf t) before rest refl (goes (NotOf t) (is_text kinds a) (Binary op ∷ rest) (record { side = λ e. absurd cc; compare = λ e. absurd cc }))
  goes (Two op (Simple a) (MinusOf t)) before rest h = goes_leaf op a (MinusOf t) before rest refl (goes (MinusOf t) (is_text kinds a) (Binary op ∷ rest) (record { side = λ e. absurd cc; compare = λ e. absurd cc }))
  goes (Two op (Two o s t) u) before rest h = goes_tree op (Two o s t) u before rest refl refl (goes (Two o s t) before (postfix u ++ (Binary op ∷ rest)) (record { side = λ e. absurd cc; compare = λ e. absurd cc })) (goes u false (Binary op ∷ rest) (record { side = λ _. refl; compare = λ _. refl }))
  goes (Two op (NotOf t) u) before rest h = goes_tree op (NotOf t) u before rest refl refl (goes (NotOf t) before (postfix u ++ (Binary op ∷ rest)) (record { side = λ e. absurd cc; compare = λ e. absurd cc })) (goes u false (Binary op ∷ rest) (record { side = λ _. refl; compare = λ _. refl }))
  goes (Two op (MinusOf t) u) before rest h = goes_tree op (MinusOf t) u before rest refl refl (goes (MinusOf t) before (postfix u ++ (Binary op ∷ rest)) (record { side = λ e. absurd cc; compare = λ e. absurd cc })) (goes u false (Binary op ∷ rest) (record { side = λ _. refl; compare = λ _. refl }))

  pub strays-postfix : (t : Tree) → strays kinds false (postfix t) ≡ misplaced kinds t
  strays-postfix t = ap (strays kinds false) (sym (append-nil (postfix t))) ∙ (goes t false [] (record { side = λ _. refl; compare = λ _. refl }) ∙ append-nil (misplaced kinds t))

  pub strays-nodes : (t : Option Tree) → strays kinds false (nodes_of t) ≡ misplaced_in kinds t
  strays-nodes None = refl
  strays-nodes (Some t) = strays-postfix t

marked_none : (bs : List Bool) → first_marked bs [] ≡ None
marked_none [] = refl
marked_none (b ∷ bs) = refl

marked_next : (bs : List Bool) (ps : List ℕ) → first_marked (false ∷ bs) ps ≡ first_marked bs (drop 1 ps)
marked_next bs [] = sym (marked_none bs)
marked_next bs (p ∷ ps) = refl

pub marked_leaf : (kinds : List Kind) (before next : Bool) (nodes : List Node) (i leaf leaf' : ℕ) (places : List ℕ) (n : Node) (a : Atom) (o : Option ℕ) → i < length nodes → n ≡ get_or nodes i n → n ≡ Leaf a → is_stray kinds before a (drop (i + 1) nodes) ≡ false → next ≡ is_text kinds a → leaf' ≡ leaf + 1 → first_marked (strays kinds before (drop i nodes)) (drop leaf places) ≡ o → first_marked (strays kinds next (drop (i + 1) nodes)) (drop leaf' places) ≡ o
marked_leaf kinds before next nodes i leaf leaf' places n a o h at is e f g inv =
    let here : drop i nodes ≡ Leaf a ∷ drop (i + 1) nodes = drop_more nodes i n h ∙ ap (λ x. x ∷ drop (i + 1) nodes) (sym at ∙ is) in
    let now = ap (λ l. first_marked (strays kinds before l) (drop leaf places)) here
    ∙ (ap (λ b. first_marked (b ∷ strays kinds (is_text kinds a) (drop (i + 1) nodes)) (drop leaf places)) e
    ∙ (marked_next (strays kinds (is_text kinds a) (drop (i + 1) nodes)) (drop leaf places)
    ∙ ap (first_marked (strays kinds (is_text kinds a) (drop (i + 1) nodes))) (drop-drop 1 leaf places))) in
    ap₂ (λ x k. first_marked (strays kinds x (drop (i + 1) nodes)) (drop k places)) f g ∙ (sym now ∙ inv)

passed : (kinds : List Kind) (before : Bool) (n : Node) (ns : List Node) → ((a : Atom) → n ≡ Leaf a → ⊥) → strays kinds before (n ∷ ns) ≡ strays kinds false ns
passed kinds before (Leaf a) ns no_leaf = absurd (no_leaf a refl)
passed kinds before (Binary op) ns no_leaf = refl
passed kinds before Inverted ns no_leaf = refl
passed kinds before Negated ns no_leaf = refl

pub marked_other : (kinds : List Kind) (before next : Bool) (nodes : List Node) (i leaf leaf' : ℕ) (places : List ℕ) (n : Node) (o : Option ℕ) → i < length nodes → n ≡ get_or nodes i n → ((a : Atom) → n ≡ Leaf a → ⊥) → next ≡ false → leaf' ≡ leaf → first_marked (strays kinds before (drop i nodes)) (drop leaf places) ≡ o → first_marked (strays kinds next (drop (i + 1) nodes)) (drop leaf' places) ≡ o
marked_other kinds before next nodes i leaf leaf' places n o h at no_leaf f g inv =
    let here : drop i nodes ≡ n ∷ drop (i + 1) nodes = drop_more nodes i n h ∙ ap (λ x. x ∷ drop (i + 1) nodes) (sym at) in
    let now = ap (λ l. first_marked (strays kinds before l) (drop leaf places)) here ∙ ap (λ l. first_marked l (drop leaf places)) (passed kinds before n (drop (i + 1) nodes) no_leaf) in
    ap₂ (λ x k. first_marked (strays kinds x (drop (i + 1) nodes)) (drop k places)) f g ∙ (sym now ∙ inv)
