-- What is shown reads as the same tree, and nothing shorter does.
use Rattle.std.proofs.Common.{◌≡◌, ℕ, ◌+◌, ◌≤◌, List, [], ◌∷◌, ◌++◌, length, Bool, true, false, ◌&&◌, Option, Some, None, refl, sym, ap, ◌∙◌, subst, cond, arith, lt-ltb, length-append}
use Rattle.std.specs.Str.{IsUtf8}
use Rattle.std.proofs.lemmas.Bool.{cond-true, cond_both}
use Rattle.std.proofs.lemmas.List.{length-map}
use Rattle.std.proofs.lemmas.Str.{IsUtf8-nil}
use Rattle.q4_value.specs.declared.column.Column.{Column}
use Rattle.q4_value.specs.declared.column.Kind.{Kind}
use Rattle.q4_cond.specs.declared.tree.Atom.TheVariants.{Column as named, Number, Text}
use Rattle.q4_cond.specs.declared.tree.Node.{Node}
use Rattle.q4_cond.specs.declared.tree.Token.{Token}
use Rattle.q4_cond.specs.declared.tree.Token.TheVariants.{Operand, Sign, Not, Open, Close, Bad}
use Rattle.q4_cond.specs.Tree.{Tree}
use Rattle.q4_cond.specs.Grammar.{Phrase, atom, group, minus, inverse, both, looser, nothing, whole}
use Rattle.q4_cond.specs.Tokens.{Placed, bare, tokens_of, names_of}
use Rattle.q4_cond.specs.Reading.{unknown_here, first_unknown, atom_here, atom_places, compares_texts, both_texts, misplaced, first_marked, kinds_of, IsRead}
use Rattle.q4_cond.specs.Condition.{IsShowable}
use Rattle.q4_cond.specs.Postfix.{tree_of}
use Rattle.q4_cond.specs.Shown.{condition_text, write_nodes, first_text}
use Rattle.q4_cond.proofs.Verdicts.{condition_phrase}
use Rattle.q4_cond.proofs.Canonical.{tree_level, canonical, placed_bare, some_level, canonical_phrase, cost, cost_least, phrase_turns}
use Rattle.q4_cond.proofs.Spelling.{IsToken, AreTokens, written, length-written, phrase_leaves, canonical_tokens, shown_written, written_utf8}
use Rattle.q4_cond.proofs.Cutting.{cut_written}
use Rattle.q4_cond.proofs.Measuring.{thrift, text_good}
use Rattle.q4_cond.proofs.Showing.{first_text-nodes}

token_known : (names : List (List ℕ)) (p : ℕ) (t : Token) (rest : Option ℕ) → IsToken names t → rest ≡ None → unknown_here (length names) p t rest ≡ None
token_known names p (Operand (named c)) rest h e = cond-true _ _ _ (lt-ltb c (length names) h.known) ∙ e
token_known names p (Operand (Number n)) rest h e = e
token_known names p (Operand (Text s)) rest h e = e
token_known names p (Sign op) rest h e = e
token_known names p Not rest h e = e
token_known names p Open rest h e = e
token_known names p Close rest h e = e
token_known names p Bad rest h e = e

tokens_known : (names : List (List ℕ)) (ps : List Placed) → AreTokens names (bare ps) → first_unknown (length names) ps ≡ None
tokens_known names [] h = refl
tokens_known names (p ∷ ps) h = token_known names p.place p.token (first_unknown (length names) ps) h.0 (tokens_known names ps h.1)

-- how many tokens are operands
abbrev one_operand : Token → ℕ
one_operand (Operand a) = 1
one_operand (Sign op) = 0
one_operand Not = 0
one_operand Open = 0
one_operand Close = 0
one_operand Bad = 0

abbrev operands : List Token → ℕ
operands [] = 0
operands (t ∷ ts) = one_operand t + operands ts

operands-append : (a b : List Token) → operands (a ++ b) ≡ operands a + operands b
operands-append [] b = omega arith
operands-append (t ∷ a) b = omega (arith, operands-append a b)

here_count : (p : ℕ) (t : Token) → length (atom_here p t) ≡ one_operand t
here_count p (Operand a) = refl
here_count p (Sign op) = refl
here_count p Not = refl
here_count p Open = refl
here_count p Close = refl
here_count p Bad = refl

places_count : (ps : List Placed) → length (atom_places ps) ≡ operands (bare ps)
places_count [] = refl
places_count (p ∷ ps) = omega (arith, length-append (atom_here p.place p.token) (atom_places ps), here_count p.place p.token, places_count ps)

-- a tree has a mark for each operand that spells it, and there is one at least
record IsMarked (kinds : List Kind) (t : Tree) (ts : List Token) : Type 0 where
  some : 1 ≤ operands ts
  marks : length (misplaced kinds t) ≤ operands ts

two_marked : (kinds : List Kind) (same : Bool) (t u : Tree) (left right : List Token) (op : Token) → one_operand op ≡ 0 → IsMarked kinds t left → IsMarked kinds u right → length (cond same (false ∷ false ∷ []) (misplaced kinds t ++ misplaced kinds u)) ≤ operands (left ++ op ∷ right)
two_marked kinds same t u left right op e h k =
    let first = h.some in
    let second = k.some in
    cond_both same (false ∷ false ∷ []) (misplaced kinds t ++ misplaced kinds u) (λ l. length l ≤ operands (left ++ op ∷ right))
    (λ _. omega (arith, operands-append left (op ∷ right), first, second, e))
    (λ _. omega (arith, operands-append left (op ∷ right), length-append (misplaced kinds t) (misplaced kinds u), h.marks, k.marks, e))

marked : (kinds : List Kind) {n l : ℕ} {ts : List Token} {t : Tree} → Phrase n l ts t → IsMarked kinds t ts
marked kinds (atom a) = record { some = omega arith; marks = omega arith }
marked kinds (group {n} {ts} {t} p) = let h = marked kinds p in record { some = omega (arith, h.some, operands-append ts (Close ∷ [])); marks = omega (arith, h.marks, operands-append ts (Close ∷ [])) }
marked kinds (minus {n} {ts} {t} p) = let h = marked kinds p in record { some = omega (arith, h.some); marks = omega (arith, h.marks) }
marked kinds (inverse {n} {ts} {t} p) = let h = marked kinds p in record { some = omega (arith, h.some); marks = omega (arith, h.marks) }
marked kinds (both {n} op {left} {right} {t} {u} p q) =
    let h = marked kinds p in
    let k = marked kinds q in
    record { some = omega (arith, h.some, operands-append left (Sign op ∷ right)); marks = two_marked kinds (compares_texts op && both_texts kinds t u) t u left right (Sign op) refl h k }
marked kinds (looser {n} {l} {ts} {t} p) = let h = marked kinds p in record { some = h.some; marks = h.marks }

-- no mark in one text is none in another
unmarked : (ms : List Bool) (ps qs : List ℕ) → length ms ≤ length ps → first_marked ms ps ≡ None → first_marked ms qs ≡ None
unmarked [] ps qs le e = refl
unmarked (m ∷ ms) [] qs le e = absurd (omega arith)
unmarked (true ∷ ms) (p ∷ ps) qs le e = absurd cc
unmarked (false ∷ ms) (p ∷ ps) [] le e = refl
unmarked (false ∷ ms) (p ∷ ps) (q ∷ qs) le e = unmarked ms ps qs (omega arith) e

-- what holds of a condition's text
pub record IsShown (columns : List Column) (tree : Option Tree) (text : List ℕ) : Type 0 where
  pub utf8 : IsUtf8 text
  pub reads : IsRead columns text tree
  pub least : (other : List ℕ) → IsRead columns other tree → length text ≤ length other

module _ (columns : List Column) where
  -- every text of a tree has as many bytes as the tree's own tokens need
  least_cost : (t : Tree) (text : List ℕ) → IsRead columns text (Some t) → cost (names_of columns) false (canonical t) false ≤ length text
  least_cost t text r =
      let names = names_of columns in
      let ts = bare (tokens_of names text) in
      let c = cost_least names (condition_phrase r.spells.condition) false false in
      let plain = ap (λ l. cost names false l false) (placed_bare 1 (tree_level t) (canonical t) (some_level t)) in
      let most = thrift names (length text) 0 text false (omega arith) (λ x. absurd cc) in
      omega (arith, c, plain, most)

  tree_shown : (t : Tree) → IsShowable columns (Some t) → IsShown columns (Some t) (written (names_of columns) false (canonical t))
  tree_shown t s =
      let names = names_of columns in
      let count : length columns ≡ length names = sym (length-map columns (λ c. c.name)) in
      let p = condition_phrase s.reads.spells.condition in
      let ts = text_good names 0 s.text s.utf8 (phrase_turns p) (subst (λ n. first_unknown n (tokens_of names s.text) ≡ None) count s.reads.known) in
      let own = canonical_tokens names t (phrase_leaves names p ts) in
      let q = canonical_phrase p in
      let shown_text = written names false (canonical t) in
      let cut : bare (tokens_of names shown_text) ≡ canonical t = cut_written names false true 0 (canonical t) own (phrase_turns q) in
      let least = λ (other : List ℕ) (r : IsRead columns other (Some t)). (let c = least_cost t other r in let l = length-written names false (canonical t) in let g : length shown_text ≤ length other = omega arith in g) in
      let few = (marked (kinds_of columns) p).marks in
      let places = places_count (tokens_of names s.text) in
      record {
        utf8 = written_utf8 names false (canonical t) own;
        reads = record {
          spells = record { short = omega (arith, least s.text s.reads, s.reads.spells.short); condition = whole (subst (λ l. Phrase 32 1 l t) (sym cut) q) };
          known = subst (λ n. first_unknown n (tokens_of names shown_text) ≡ None) (sym count) (tokens_known names (tokens_of names shown_text) (subst (AreTokens names) (sym cut) own));
          kinds = unmarked (misplaced (kinds_of columns) t) (atom_places (tokens_of names s.text)) (atom_places (tokens_of names shown_text)) (omega arith) s.reads.kinds;
        };
        least = least;
      }

  -- a condition's text reads as the condition, and is the shortest that does
  pub condition_shown : (tree : Option Tree) → IsShowable columns tree → IsShown columns tree (condition_text (names_of columns) tree)
  condition_shown None s = record { utf8 = IsUtf8-nil; reads = record { spells = record { short = omega arith; condition = nothing }; known = refl; kinds = refl }; least = λ other r. omega arith }
  condition_shown (Some t) s =
      let names = names_of columns in
      let count : length columns ≡ length names = sym (length-map columns (λ c. c.name)) in
      let p = condition_phrase s.reads.spells.condition in
      let ts = text_good names 0 s.text s.utf8 (phrase_turns p) (subst (λ n. first_unknown n (tokens_of names s.text) ≡ None) count s.reads.known) in
      subst (IsShown columns (Some t)) (sym (shown_written names t (phrase_leaves names p ts))) (tree_shown t s)

-- what is written of a condition's nodes
pub record IsWritten (columns : List Column) (tree : Option Tree) (text : List ℕ) : Type 0 where
  pub is : text ≡ condition_text (names_of columns) tree
  pub shown : IsShown columns tree text

pub nodes_written : (columns : List Column) (tree : Option Tree) (text : List ℕ) (nodes inside : List Node) → IsShowable columns tree → text ≡ first_text (write_nodes (names_of columns) nodes []) → nodes ≡ inside → tree_of inside ≡ tree → IsWritten columns tree text
nodes_written columns tree text nodes inside s e f g =
    let names = names_of columns in
    let same = e ∙ (ap (λ ns. first_text (write_nodes names ns [])) f ∙ (first_text-nodes names inside ∙ ap (condition_text names) g)) in
    record { is = same; shown = subst (IsShown columns tree) (sym same) (condition_shown columns tree s) }
