-- What the end of a text says.
use Rattle.std.proofs.Common.{◌≡◌, ℕ, zero, suc, ◌≤◌, List, [], ◌∷◌, ◌++◌, Bool, true, false, Option, Some, None, length, drop, refl, sym, ap, ap₂, ◌∙◌, subst, cond, arith, append-nil, length-append, inr, eqb}
use Rattle.std.proofs.lemmas.List.{length-map}
use Rattle.q4_value.specs.declared.column.Column.{Column}
use Rattle.q4_value.specs.declared.column.Kind.{Kind}
use Rattle.q4_cond.specs.declared.tree.Node.{Node}
use Rattle.q4_cond.specs.declared.tree.Node.TheVariants.{Binary, Inverted, Negated}
use Rattle.q4_cond.specs.declared.tree.Token.{Token}
use Rattle.q4_cond.specs.declared.tree.Token.TheVariants.{Sign, Close}
use Rattle.q4_cond.specs.Tree.{Tree, postfix}
use Rattle.q4_cond.specs.Grammar.{Phrase, atom, group, minus, inverse, both, looser, IsCondition, nothing, whole}
use Rattle.q4_cond.specs.Postfix.{tree_of, nodes_of}
use Rattle.q4_cond.specs.Machine.{State, Wants, Has, run, finished}
use Rattle.q4_cond.specs.Tokens.{Placed, bare, tokens_of, tokens_from, token_here, bytes_behind, front_of, names_of}
use Rattle.q4_cond.specs.Reading.{atom_places, first_unknown, first_marked, misplaced_in, kinds_of, Spells, IsRead, IsAt, IsNoColumn, IsKinds}
use Rattle.q4_cond.specs.Marks.{strays}
use Rattle.q4_cond.specs.Scanned.{Scanned}
use Rattle.q4_cond.proofs.Sound.{run_begins}
use Rattle.q4_cond.specs.Condition.{tree_of-nodes_of}
use Rattle.q4_cond.proofs.Verdicts.{unended, ended_condition, unbegun}
use Rattle.q4_cond.proofs.Marking.{strays-nodes}

-- a tree has no more nodes than it has tokens
phrase_short : {n l : ℕ} {ts : List Token} {t : Tree} → Phrase n l ts t → length (postfix t) ≤ length ts
phrase_short (atom a) = omega arith
phrase_short (group {ts = ts} p) = omega (arith, phrase_short p, length-append ts (Close ∷ []))
phrase_short (minus {t = t} p) = omega (arith, phrase_short p, length-append (postfix t) (Negated ∷ []))
phrase_short (inverse {t = t} p) = omega (arith, phrase_short p, length-append (postfix t) (Inverted ∷ []))
phrase_short (both op {left} {right} {t} {u} p q) = omega (arith, phrase_short p, phrase_short q, length-append left (Sign op ∷ right), length-append (postfix t) (postfix u ++ Binary op ∷ []), length-append (postfix u) (Binary op ∷ []))
phrase_short (looser p) = phrase_short p

condition_short : (n : ℕ) (ts : List Token) (t : Option Tree) → IsCondition n ts t → length (nodes_of t) ≤ length ts
condition_short n _ None nothing = omega arith
condition_short n ts (Some t) (whole p) = phrase_short p

cond_short : (b : Bool) (xs ys : List Placed) → length xs ≤ 1 → length ys ≤ 1 → length (cond b xs ys) ≤ 1
cond_short true xs ys h k = h
cond_short false xs ys h k = k

here_short : (names : List (List ℕ)) (p : ℕ) (s : List ℕ) → length (token_here names p s) ≤ 1
here_short names p [] = omega arith
here_short names p (b ∷ s) = cond_short (eqb b 32) [] (record { place = p; token = (front_of names (b ∷ s)).token } ∷ []) (omega arith) (omega arith)

-- and a text no more tokens than bytes
tokens_short : (names : List (List ℕ)) (k p : ℕ) (s : List ℕ) → length (tokens_from names k p s) ≤ length s
tokens_short names zero p [] = omega arith
tokens_short names (suc k) p [] = omega arith
tokens_short names zero p (b ∷ s) = omega (arith, tokens_short names (bytes_behind names (b ∷ s)) (suc p) s, here_short names p (b ∷ s), length-append (token_here names p (b ∷ s)) (tokens_from names (bytes_behind names (b ∷ s)) (suc p) s))
tokens_short names (suc k) p (b ∷ s) = omega (arith, tokens_short names k (suc p) s)

-- all tokens are read
record Whole (columns : List Column) (text : List ℕ) (s : State) (atoms : List ℕ) (unknown : Option ℕ) : Type 0 where
  read : run 32 (Wants [] []) (bare (tokens_of (names_of columns) text)) ≡ Some s
  places : atoms ≡ atom_places (tokens_of (names_of columns) text)
  unnamed : unknown ≡ first_unknown (length columns) (tokens_of (names_of columns) text)

drop_end : (bs : List ℕ) → drop (length bs) bs ≡ []
drop_end [] = refl
drop_end (b ∷ bs) = drop_end bs

all_read : (columns : List Column) (text : List ℕ) (s : State) (atoms : List ℕ) (unknown : Option ℕ) → Scanned columns text (length text) s atoms unknown → Whole columns text s atoms unknown
all_read columns text s atoms unknown r =
    let ends : tokens_of (names_of columns) text ≡ r.seen = r.split ∙ (ap (λ l. r.seen ++ tokens_from (names_of columns) 0 (length text) l) (drop_end text) ∙ append-nil r.seen) in
    record {
      read = ap (λ l. run 32 (Wants [] []) (bare l)) ends ∙ r.read;
      places = r.places ∙ ap atom_places (sym ends);
      unnamed = r.unnamed ∙ ap (first_unknown (length columns)) (sym ends);
    }

-- a condition with these nodes
pub record Spelled (columns : List Column) (text : List ℕ) (nodes : List Node) : Type 0 where
  pub tree : Option Tree
  pub spells : Spells columns text tree
  pub same : nodes ≡ nodes_of tree

begun : (n : ℕ) (ts : List Token) (s : State) (nodes : List Node) → run n (Wants [] []) ts ≡ Some s → finished s ≡ Some nodes → (tree : Option Tree) × IsCondition n ts tree × (nodes ≡ nodes_of tree)
begun n ts (Wants [] []) nodes e f = let none = unbegun n ts e in (None, subst (λ l. IsCondition n l None) (sym none) nothing, cc)
begun n ts (Wants [] (x ∷ xs)) nodes e f = absurd cc
begun n ts (Wants (x ∷ xs) ns) nodes e f = absurd cc
begun n ts (Has fs ns) nodes e f = let a = ended_condition n ts (Has fs ns) nodes e f in (Some a.tree, whole a.phrase, a.spelled)

not_ended : (n : ℕ) (ts : List Token) (s : State) → run n (Wants [] []) ts ≡ Some s → finished s ≡ None → (m : ℕ) (t : Option Tree) → IsCondition m ts t → ⊥
not_ended n ts (Wants [] []) e f m t c = cc
not_ended n ts (Wants [] (x ∷ xs)) e f m t c = unended n ts (Wants [] (x ∷ xs)) e refl (λ h. cc) m t c
not_ended n ts (Wants (x ∷ xs) ns) e f m t c = unended n ts (Wants (x ∷ xs) ns) e refl (λ h. cc) m t c
not_ended n ts (Has fs ns) e f m t c = unended n ts (Has fs ns) e f (λ h. cc) m t c

pub read_at_end : (columns : List Column) (text : List ℕ) (s : State) (atoms : List ℕ) (unknown : Option ℕ) → length text ≤ 1024 → Scanned columns text (length text) s atoms unknown → finished s ≡ None → IsAt columns text (length text)
read_at_end columns text s atoms unknown short r e =
    let w = all_read columns text s atoms unknown r in
    let ts = bare (tokens_of (names_of columns) text) in
    record { short = short; place = inr (refl, record { begins = run_begins 32 ts s w.read; is_none = not_ended 32 ts s w.read e }) }

pub read_nodes : (columns : List Column) (text : List ℕ) (s : State) (atoms : List ℕ) (unknown : Option ℕ) (nodes : List Node) → length text ≤ 1024 → Scanned columns text (length text) s atoms unknown → finished s ≡ Some nodes → Spelled columns text nodes
read_nodes columns text s atoms unknown nodes short r e =
    let w = all_read columns text s atoms unknown r in
    let b = begun 32 (bare (tokens_of (names_of columns) text)) s nodes w.read e in
    record { tree = b.0; spells = record { short = short; condition = b.1 }; same = b.2 }

pub read_no_column : (columns : List Column) (text : List ℕ) (s : State) (atoms : List ℕ) (unknown : Option ℕ) (nodes : List Node) (p : ℕ) → length text ≤ 1024 → Scanned columns text (length text) s atoms unknown → finished s ≡ Some nodes → unknown ≡ Some p → IsNoColumn columns text p
read_no_column columns text s atoms unknown nodes p short r e f =
    let w = all_read columns text s atoms unknown r in
    let b = read_nodes columns text s atoms unknown nodes short r e in
    record { tree = b.tree; spells = b.spells; unknown = sym w.unnamed ∙ f }

-- the answer on kinds, from the nodes
kinds_at : (columns : List Column) (text : List ℕ) (s : State) (atoms : List ℕ) (unknown : Option ℕ) (nodes : List Node) (kinds : List Kind) (o : Option ℕ) (t : Option Tree) → Scanned columns text (length text) s atoms unknown → nodes ≡ nodes_of t → kinds ≡ kinds_of columns → o ≡ first_marked (strays kinds false nodes) atoms → first_marked (misplaced_in (kinds_of columns) t) (atom_places (tokens_of (names_of columns) text)) ≡ o
kinds_at columns text s atoms unknown nodes kinds o t r e f g =
    let w = all_read columns text s atoms unknown r in
    ap₂ first_marked (sym (strays-nodes (kinds_of columns) t)) (sym w.places)
    ∙ (ap₂ (λ k n. first_marked (strays k false n) atoms) (sym f) (sym e) ∙ sym g)

pub read_kinds : (columns : List Column) (text : List ℕ) (s : State) (atoms : List ℕ) (unknown : Option ℕ) (nodes : List Node) (kinds : List Kind) (o : Option ℕ) (p : ℕ) → length text ≤ 1024 → Scanned columns text (length text) s atoms unknown → finished s ≡ Some nodes → unknown ≡ None → kinds ≡ kinds_of columns → o ≡ first_marked (strays kinds false nodes) atoms → o ≡ Some p → IsKinds columns text p
read_kinds columns text s atoms unknown nodes kinds o p short r e f g h k =
    let w = all_read columns text s atoms unknown r in
    let b = read_nodes columns text s atoms unknown nodes short r e in
    record { tree = b.tree; spells = b.spells; known = sym w.unnamed ∙ f; kinds = kinds_at columns text s atoms unknown nodes kinds o b.tree r b.same g h ∙ k }

pub read_ok : (columns : List Column) (text : List ℕ) (s : State) (atoms : List ℕ) (unknown : Option ℕ) (nodes : List Node) (kinds : List Kind) (o : Option ℕ) → length text ≤ 1024 → Scanned columns text (length text) s atoms unknown → finished s ≡ Some nodes → unknown ≡ None → kinds ≡ kinds_of columns → o ≡ first_marked (strays kinds false nodes) atoms → o ≡ None → IsRead columns text (tree_of nodes)
read_ok columns text s atoms unknown nodes kinds o short r e f g h k =
    let w = all_read columns text s atoms unknown r in
    let b = read_nodes columns text s atoms unknown nodes short r e in
    let same : b.tree ≡ tree_of nodes = sym (ap tree_of b.same ∙ tree_of-nodes_of b.tree) in
    subst (λ t. IsRead columns text t) same (record { spells = b.spells; known = sym w.unnamed ∙ f; kinds = kinds_at columns text s atoms unknown nodes kinds o b.tree r b.same g h ∙ k })

pub read_invariant : (columns : List Column) (text : List ℕ) (s : State) (atoms : List ℕ) (unknown : Option ℕ) (nodes : List Node) → length text ≤ 1024 → Scanned columns text (length text) s atoms unknown → finished s ≡ Some nodes → (nodes_of (tree_of nodes) ≡ nodes) × (length nodes ≤ 1024)
read_invariant columns text s atoms unknown nodes short r e =
    let b = read_nodes columns text s atoms unknown nodes short r e in
    let ts = tokens_of (names_of columns) text in
    let few = condition_short 32 (bare ts) b.tree b.spells.condition in
    let small : length nodes ≤ 1024 = omega (arith, few, ap length b.same, length-map ts (λ p. p.token), tokens_short (names_of columns) 0 0 text) in
    (ap nodes_of (ap tree_of b.same ∙ tree_of-nodes_of b.tree) ∙ sym b.same, small)

pub marked_parts : (k k' : List Kind) (n n' : List Node) (p p' : List ℕ) (o : Option ℕ) → o ≡ first_marked (strays k false n) p → k ≡ k' → n ≡ n' → p ≡ p' → o ≡ first_marked (strays k' false n') p'
marked_parts k k' n n' p p' o e f g h = e ∙ (ap₂ (λ x y. first_marked (strays x false y) p) f g ∙ ap (first_marked (strays k' false n')) h)
