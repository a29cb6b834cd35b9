-- The tokens that a tree is shown by: they spell it, and none that spell it need fewer bytes.
use Rattle.std.proofs.Common.{◌≡◌, ℕ, suc, ◌+◌, ◌<◌, ◌≤◌, List, [], ◌∷◌, ◌++◌, length, Bool, true, false, refl, sym, subst, cond, arith, append_assoc, append-nil, leb, le-leb, inl, inr}
use Rattle.std.proofs.lemmas.Bool.{cond-true, cond-false, cases_lt, lt-leb}
use Rattle.q4_cond.specs.declared.tree.Operator.{Operator}
use Rattle.q4_cond.specs.declared.tree.Operator.TheVariants.{Or, And, Equal, Unequal, Below, AtMost, Above, AtLeast, Add, Subtract, Multiply, Divide, Remainder}
use Rattle.q4_cond.specs.declared.tree.Atom.TheVariants.{Column as named, Number, Text}
use Rattle.q4_cond.specs.declared.tree.Token.{Token}
use Rattle.q4_cond.specs.declared.tree.Token.TheVariants.{Operand, Sign, Not, Open, Close, Bad}
use Rattle.q4_cond.specs.Tree.{Tree, Simple, Two, NotOf, MinusOf, level_of, left_level, right_level}
use Rattle.q4_cond.specs.Grammar.{Phrase, atom, group, minus, inverse, both, looser}
use Rattle.q4_cond.specs.Shown.{atom_text, sign_text}
use Rattle.q4_cond.proofs.ReaderSteps.{levels}
use Rattle.q4_cond.proofs.Sound.{loosen}

-- the level of the phrase that a tree is, with no parentheses around it
abbrev pub tree_level : Tree → ℕ
tree_level (Simple a) = 8
tree_level (Two op t u) = level_of op
tree_level (NotOf t) = 3
tree_level (MinusOf t) = 7

abbrev pub in_group : List Token → List Token
in_group ts = Open ∷ (ts ++ Close ∷ [])

-- tokens of the level k, where the level l is wanted
abbrev pub placed_at : ℕ → ℕ → List Token → List Token
placed_at l k ts = cond (leb l k) ts (in_group ts)

-- a tree's tokens, with parentheses only where they are needed
abbrev pub canonical : Tree → List Token
canonical (Simple a) = Operand a ∷ []
canonical (Two op t u) = placed_at (left_level op) (tree_level t) (canonical t) ++ Sign op ∷ placed_at (right_level op) (tree_level u) (canonical u)
canonical (NotOf t) = Not ∷ placed_at 3 (tree_level t) (canonical t)
canonical (MinusOf t) = Sign Subtract ∷ placed_at 7 (tree_level t) (canonical t)

-- a tree's tokens where the level l is wanted
abbrev pub canonical_at : ℕ → Tree → List Token
canonical_at l t = placed_at l (tree_level t) (canonical t)

pub some_level : (t : Tree) → 1 ≤ tree_level t
some_level (Simple a) = omega arith
some_level (Two op t u) = let a = levels op in omega arith
some_level (NotOf t) = omega arith
some_level (MinusOf t) = omega arith

pub placed_bare : (l k : ℕ) (ts : List Token) → l ≤ k → placed_at l k ts ≡ ts
placed_bare l k ts h = cond-true (leb l k) _ _ (le-leb _ _ h)

pub placed_grouped : (l k : ℕ) (ts : List Token) → k < l → placed_at l k ts ≡ in_group ts
placed_grouped l k ts h = cond-false (leb l k) _ _ (lt-leb _ _ h)

-- a tree of the tightest level is an atom
tightest : (t : Tree) → 8 ≤ tree_level t → {n : ℕ} → Phrase n (tree_level t) (canonical t) t
tightest (Simple a) h = atom a
tightest (Two op t u) h = let a = levels op in absurd (omega arith)
tightest (NotOf t) h = absurd (omega arith)
tightest (MinusOf t) h = absurd (omega arith)

deeper : {n l : ℕ} {ts : List Token} {t : Tree} → Phrase n l ts t → Phrase (suc n) l ts t
deeper (atom a) = atom a
deeper (group p) = group (deeper p)
deeper (minus p) = minus (deeper p)
deeper (inverse p) = inverse (deeper p)
deeper (both op p q) = both op (deeper p) (deeper q)
deeper (looser p) = looser (deeper p)

-- the tree's own tokens fit at the level l within n constructs, with one to spare where they need parentheses
record Fits (n l : ℕ) (t : Tree) : Type 0 where
  plain : l ≤ tree_level t → Phrase n (tree_level t) (canonical t) t
  inside : tree_level t < l → (m : ℕ) × (n ≡ suc m) × Phrase m (tree_level t) (canonical t) t

placed_phrase : (n l : ℕ) (t : Tree) → l ≤ 8 → Fits n l t → Phrase n l (canonical_at l t) t
placed_phrase n l t most f =
    elim (cases_lt (tree_level t) l) as (λ _. Phrase n l (canonical_at l t) t) [
      | inl h ↦
          (let i = f.inside h in
          let p : Phrase (suc i.0) l (in_group (canonical t)) t = loosen 8 l most (group (loosen (tree_level t) 1 (some_level t) i.2)) in
          subst (λ k. Phrase k l (canonical_at l t) t) (sym i.1) (subst (λ ts. Phrase (suc i.0) l ts t) (sym (placed_grouped l (tree_level t) (canonical t) h)) p))
      | inr h ↦ subst (λ ts. Phrase n l ts t) (sym (placed_bare l (tree_level t) (canonical t) h)) (loosen (tree_level t) l h (f.plain h))
    ]

right_most : (op : Operator) → right_level op ≤ 8
right_most op = let a = levels op in omega arith

left_most : (op : Operator) → left_level op ≤ 8
left_most op = let a = levels op in omega arith

loosened : (n l : ℕ) (t : Tree) → Fits n (suc l) t → Fits n l t
loosened n l t f =
    record {
      plain = λ h. elim (cases_lt (tree_level t) (suc l)) as (λ _. Phrase n (tree_level t) (canonical t) t) [
        | inl k ↦ (let i = f.inside k in subst (λ x. Phrase x (tree_level t) (canonical t) t) (sym i.1) (deeper i.2))
        | inr k ↦ f.plain k
      ];
      inside = λ h. f.inside (omega arith);
    }

fits : {n l : ℕ} {ts : List Token} {t : Tree} → Phrase n l ts t → Fits n l t
fits (atom a) = record { plain = λ h. atom a; inside = λ h. absurd (omega arith) }
fits (group {n} {ts} {t} p) = let f = fits p in record { plain = λ h. tightest t h; inside = λ h. (n, refl, f.plain (some_level t)) }
fits (minus {n} {ts} {t} p) = let f = fits p in record { plain = λ h. minus (placed_phrase n 7 t (omega arith) f); inside = λ h. absurd (omega arith) }
fits (inverse {n} {ts} {t} p) = let f = fits p in record { plain = λ h. inverse (placed_phrase n 3 t (omega arith) f); inside = λ h. absurd (omega arith) }
fits (both {n} op {left} {right} {t} {u} p q) =
    let f = fits p in
    let g = fits q in
    record { plain = λ h. both op (placed_phrase n (left_level op) t (left_most op) f) (placed_phrase n (right_level op) u (right_most op) g); inside = λ h. absurd (omega arith) }
fits (looser {n} {l} {ts} {t} p) = loosened n l t (fits p)

-- the tree's own tokens spell it, and nothing is deeper in them
pub canonical_phrase : {n : ℕ} {ts : List Token} {t : Tree} → Phrase n 1 ts t → Phrase n 1 (canonical t) t
canonical_phrase {n} {ts} {t} p = let f = fits p in loosen (tree_level t) 1 (some_level t) (f.plain (some_level t))

-- whether a token is a word or a number
abbrev pub sign_is_word : Operator → Bool
sign_is_word Or = true
sign_is_word And = true
sign_is_word Equal = false
sign_is_word Unequal = false
sign_is_word Below = false
sign_is_word AtMost = false
sign_is_word Above = false
sign_is_word AtLeast = false
sign_is_word Add = false
sign_is_word Subtract = false
sign_is_word Multiply = false
sign_is_word Divide = false
sign_is_word Remainder = false

abbrev pub is_word : Token → Bool
is_word (Operand (named c)) = true
is_word (Operand (Number n)) = true
is_word (Operand (Text s)) = false
is_word (Sign op) = sign_is_word op
is_word Not = true
is_word Open = false
is_word Close = false
is_word Bad = false

abbrev pub token_text : List (List ℕ) → Token → List ℕ
token_text names (Operand a) = atom_text names a
token_text names (Sign op) = sign_text op
token_text names Not = 110 ∷ 111 ∷ 116 ∷ []
token_text names Open = 40 ∷ []
token_text names Close = 41 ∷ []
token_text names Bad = []

-- a space is needed between two words or numbers
abbrev pub gap : Bool → Bool → ℕ
gap true true = 1
gap true false = 0
gap false true = 0
gap false false = 0

gap_left : (p q : Bool) → gap p q ≤ 1 + gap false q
gap_left true true = omega arith
gap_left true false = omega arith
gap_left false true = omega arith
gap_left false false = omega arith

gap_right : (p q : Bool) → gap p q ≤ 1 + gap p false
gap_right true true = omega arith
gap_right true false = omega arith
gap_right false true = omega arith
gap_right false false = omega arith

module _ (names : List (List ℕ)) where
  -- the fewest bytes that have these tokens, where a word or number stands before them or behind them
  abbrev pub cost : Bool → List Token → Bool → ℕ
  cost p [] q = gap p q
  cost p (t ∷ ts) q = gap p (is_word t) + (length (token_text names t) + cost (is_word t) ts q)

  pub cost_left : (p : Bool) (ts : List Token) (q : Bool) → cost p ts q ≤ 1 + cost false ts q
  cost_left p [] q = gap_left p q
  cost_left p (t ∷ ts) q = omega (arith, gap_left p (is_word t))

  cost_right : (p : Bool) (ts : List Token) (q : Bool) → cost p ts q ≤ 1 + cost p ts false
  cost_right p [] q = gap_right p q
  cost_right p (t ∷ ts) q = omega (arith, cost_right (is_word t) ts q)

  cost-append : (p : Bool) (a : List Token) (t : Token) (b : List Token) (q : Bool) → cost p (a ++ t ∷ b) q ≡ cost p a (is_word t) + (length (token_text names t) + cost (is_word t) b q)
  cost-append p [] t b q = refl
  cost-append p (s ∷ a) t b q = omega (arith, cost-append (is_word s) a t b q)

  pub gap_none : (p : Bool) → gap p false ≡ 0
  gap_none true = refl
  gap_none false = refl

  -- parentheses cost two bytes
  cost_group : (p : Bool) (ts : List Token) (q : Bool) → cost p (in_group ts) q ≡ 2 + cost false ts false
  cost_group p ts true = omega (arith, gap_none p, cost-append false ts Close [] true)
  cost_group p ts false = omega (arith, gap_none p, cost-append false ts Close [] false)

  no_dearer : (p : Bool) (ts : List Token) (q : Bool) → cost p ts q ≤ cost p (in_group ts) q
  no_dearer p ts q = omega (arith, cost_left p ts q, cost_right false ts q, cost_group p ts q)

  abbrev pub NoDearer : List Token → List Token → Type 0
  NoDearer a b = (p q : Bool) → cost p a q ≤ cost p b q

  dear_cases : (l k : ℕ) (ts us : List Token) → (l ≤ k → NoDearer ts us) → (k < l → NoDearer (in_group ts) us) → NoDearer (placed_at l k ts) us
  dear_cases l k ts us bare grouped =
      elim (cases_lt k l) as (λ _. NoDearer (placed_at l k ts) us) [
        | inl h ↦ subst (λ x. NoDearer x us) (sym (placed_grouped l k ts h)) (grouped h)
        | inr h ↦ subst (λ x. NoDearer x us) (sym (placed_bare l k ts h)) (bare h)
      ]

  -- where a looser level is wanted, no more is needed
  looser_cost : (l k : ℕ) (ts us : List Token) → NoDearer (placed_at (suc l) k ts) us → NoDearer (placed_at l k ts) us
  looser_cost l k ts us h =
      dear_cases l k ts us
      (λ le. elim (cases_lt k (suc l)) as (λ _. NoDearer ts us) [
        | inl lt ↦ (λ p q. let g : NoDearer (in_group ts) us = subst (λ x. NoDearer x us) (placed_grouped (suc l) k ts lt) h in omega (arith, no_dearer p ts q, g p q))
        | inr more ↦ subst (λ x. NoDearer x us) (placed_bare (suc l) k ts more) h
      ])
      (λ lt. subst (λ x. NoDearer x us) (placed_grouped (suc l) k ts (omega arith)) h)

  group_cost : (k : ℕ) (ts us : List Token) → NoDearer ts us → NoDearer (placed_at 8 k ts) (in_group us)
  group_cost k ts us h =
      dear_cases 8 k ts (in_group us)
      (λ le p q. omega (arith, no_dearer p ts q, cost_group p ts q, cost_group p us q, h false false))
      (λ lt p q. omega (arith, cost_group p ts q, cost_group p us q, h false false))

  two_cost : (op : Operator) (a b left right : List Token) → NoDearer a left → NoDearer b right → NoDearer (a ++ Sign op ∷ b) (left ++ Sign op ∷ right)
  two_cost op a b left right h k p q = omega (arith, cost-append p a (Sign op) b q, cost-append p left (Sign op) right q, h p (sign_is_word op), k (sign_is_word op) q)

  -- no tokens of a tree cost less than its own
  pub cost_least : {n l : ℕ} {ts : List Token} {t : Tree} → Phrase n l ts t → NoDearer (canonical_at l t) ts
  cost_least (atom a) = λ p q. omega arith
  cost_least (group {n} {ts} {t} f) = group_cost (tree_level t) (canonical t) ts (subst (λ x. NoDearer x ts) (placed_bare 1 (tree_level t) (canonical t) (some_level t)) (cost_least f))
  cost_least (minus {n} {ts} {t} f) = λ p q. let g = cost_least f false q in omega arith
  cost_least (inverse {n} {ts} {t} f) = λ p q. let g = cost_least f true q in omega arith
  cost_least (both {n} op {left} {right} {t} {u} f g) =
      subst (λ x. NoDearer x (left ++ Sign op ∷ right)) (sym (placed_bare (level_of op) (level_of op) (canonical (Two op t u)) (omega arith)))
      (two_cost op (canonical_at (left_level op) t) (canonical_at (right_level op) u) left right (cost_least f) (cost_least g))
  cost_least (looser {n} {l} {ts} {t} f) = looser_cost l (tree_level t) (canonical t) ts (cost_least f)

-- what may follow, where an operand is wanted and where one stands
abbrev pub TakesTurns : Bool → List Token → Type 0
TakesTurns true [] = Unit {0}
TakesTurns true (Operand a ∷ ts) = TakesTurns false ts
TakesTurns true (Sign op ∷ ts) = (op ≡ Subtract) × TakesTurns true ts
TakesTurns true (Not ∷ ts) = TakesTurns true ts
TakesTurns true (Open ∷ ts) = TakesTurns true ts
TakesTurns true (Close ∷ ts) = ⊥
TakesTurns true (Bad ∷ ts) = ⊥
TakesTurns false [] = Unit {0}
TakesTurns false (Operand a ∷ ts) = ⊥
TakesTurns false (Sign op ∷ ts) = TakesTurns true ts
TakesTurns false (Not ∷ ts) = ⊥
TakesTurns false (Open ∷ ts) = ⊥
TakesTurns false (Close ∷ ts) = TakesTurns false ts
TakesTurns false (Bad ∷ ts) = ⊥

takes_turns : {n l : ℕ} {ts : List Token} {t : Tree} → Phrase n l ts t → (rest : List Token) → TakesTurns false rest → TakesTurns true (ts ++ rest)
takes_turns (atom a) rest h = h
takes_turns (group {n} {ts} {t} p) rest h = subst (λ x. TakesTurns true x) (sym (append_assoc ts (Close ∷ []) rest)) (takes_turns p (Close ∷ rest) h)
takes_turns (minus p) rest h = (refl, takes_turns p rest h)
takes_turns (inverse p) rest h = takes_turns p rest h
takes_turns (both {n} op {left} {right} {t} {u} p q) rest h = subst (λ x. TakesTurns true x) (sym (append_assoc left (Sign op ∷ right) rest)) (takes_turns p (Sign op ∷ (right ++ rest)) (takes_turns q rest h))
takes_turns (looser p) rest h = takes_turns p rest h

pub phrase_turns : {n l : ℕ} {ts : List Token} {t : Tree} → Phrase n l ts t → TakesTurns true ts
phrase_turns {n} {l} {ts} {t} p = subst (λ x. TakesTurns true x) (append-nil ts) (takes_turns p [] tt)
