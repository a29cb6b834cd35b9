-- Which list of tokens spells which tree.
use Rattle.std.specs.Prelude.{ℕ, suc, List, [], ◌∷◌, ◌++◌, Option, Some, None}
use Rattle.q4_cond.specs.declared.tree.Operator.{Operator}
use Rattle.q4_cond.specs.declared.tree.Operator.TheVariants.{Subtract}
use Rattle.q4_cond.specs.declared.tree.Atom.{Atom}
use Rattle.q4_cond.specs.declared.tree.Token.{Token}
use Rattle.q4_cond.specs.declared.tree.Token.TheVariants.{Operand, Sign, Not, Open, Close}
use Rattle.q4_cond.specs.Tree.{Tree, Simple, Two, NotOf, MinusOf, level_of, left_level, right_level}

-- `Phrase n l ts t`: at the level l the tokens ts spell the tree t, with at most n of `(`, `not` and unary `-`
-- open at any place. What stands at a level stands at each looser one too
pub data Phrase : ℕ → ℕ → List Token → Tree → Type 0 where
  atom : {n : ℕ} (a : Atom) → Phrase n 8 (Operand a ∷ []) (Simple a)
  group : {n : ℕ} {ts : List Token} {t : Tree} → Phrase n 1 ts t → Phrase (suc n) 8 (Open ∷ (ts ++ Close ∷ [])) t
  minus : {n : ℕ} {ts : List Token} {t : Tree} → Phrase n 7 ts t → Phrase (suc n) 7 (Sign Subtract ∷ ts) (MinusOf t)
  inverse : {n : ℕ} {ts : List Token} {t : Tree} → Phrase n 3 ts t → Phrase (suc n) 3 (Not ∷ ts) (NotOf t)
  both : {n : ℕ} (op : Operator) {left right : List Token} {t u : Tree} → Phrase n (left_level op) left t → Phrase n (right_level op) right u → Phrase n (level_of op) (left ++ Sign op ∷ right) (Two op t u)
  looser : {n l : ℕ} {ts : List Token} {t : Tree} → Phrase n (suc l) ts t → Phrase n l ts t

-- a condition is nothing, or a phrase of the loosest level
pub data IsCondition : ℕ → List Token → Option Tree → Type 0 where
  nothing : {n : ℕ} → IsCondition n [] None
  whole : {n : ℕ} {ts : List Token} {t : Tree} → Phrase n 1 ts t → IsCondition n ts (Some t)

-- the tokens begin a condition in which at most n constructs are open at any place
abbrev pub BeginsWithin : ℕ → List Token → Type 0
BeginsWithin n ts = (rest : List Token) × (t : Option Tree) × IsCondition n (ts ++ rest) t

-- the tokens begin some condition, however deep
abbrev pub Begins : List Token → Type 0
Begins ts = (n : ℕ) × BeginsWithin n ts
