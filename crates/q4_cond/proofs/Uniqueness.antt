-- A text has one answer: what it reads as, or one fault.
use Rattle.std.proofs.Common.{◌≡◌, ℕ, List, [], ◌∷◌, ◌++◌, length, Option, Some, None, refl, sym, ap, ◌∙◌, subst, arith, append_assoc, append-nil, inl, inr, ◌⊎◌}
use Rattle.std.proofs.lemmas.List.{map-append}
use Rattle.q4_value.specs.declared.column.Column.{Column}
use Rattle.q4_cond.specs.declared.fault.CondFault.{CondFault}
use Rattle.q4_cond.specs.declared.fault.CondFault.TheVariants.{Long, At, Deep, NoColumn, Kinds, Memory}
use Rattle.q4_cond.specs.declared.tree.Token.{Token}
use Rattle.q4_cond.specs.Tree.{Tree}
use Rattle.q4_cond.specs.Grammar.{IsCondition, BeginsWithin, Begins}
use Rattle.q4_cond.specs.Tokens.{Placed, bare, tokens_of, names_of}
use Rattle.q4_cond.specs.Reading.{atom_places, first_marked, misplaced_in, kinds_of, StopsAt, EndsEarly, DeepAt, Spells, IsRead, IsDeep, IsFault}
use Rattle.q4_cond.proofs.Verdicts.{one_tree}

-- how two splits of one list stand to one another
abbrev Splits : List Placed → Placed → List Placed → Placed → Type 0
Splits a x b y = ((a ≡ b) × (x ≡ y)) ⊎ (((c : List Placed) × (b ≡ a ++ x ∷ c)) ⊎ ((c : List Placed) × (a ≡ b ++ y ∷ c)))

longer_splits : (z : Placed) (a : List Placed) (x : Placed) (b : List Placed) (y : Placed) → Splits a x b y → Splits (z ∷ a) x (z ∷ b) y
longer_splits z a x b y (inl e) = inl (ap (λ l. z ∷ l) e.0, e.1)
longer_splits z a x b y (inr (inl h)) = inr (inl (h.0, ap (λ l. z ∷ l) h.1))
longer_splits z a x b y (inr (inr h)) = inr (inr (h.0, ap (λ l. z ∷ l) h.1))

splits : (a : List Placed) (x : Placed) (r : List Placed) (b : List Placed) (y : Placed) (q : List Placed) → a ++ x ∷ r ≡ b ++ y ∷ q → Splits a x b y
splits [] x r [] y q e = inl (refl, cc)
splits [] x r (z ∷ b) y q e = let same : z ≡ x = cc in inr (inl (b, ap (λ w. w ∷ b) same))
splits (z ∷ a) x r [] y q e = let same : z ≡ y = cc in inr (inr (a, ap (λ w. w ∷ a) same))
splits (z ∷ a) x r (w ∷ b) y q e =
    let same : z ≡ w = cc in
    let rest : a ++ x ∷ r ≡ b ++ y ∷ q = cc in
    subst (λ k. Splits (z ∷ a) x (k ∷ b) y) same (longer_splits z a x b y (splits a x r b y q rest))

begins_front : (n : ℕ) (a b : List Token) → BeginsWithin n (a ++ b) → BeginsWithin n a
begins_front n a b h = (b ++ h.0, h.1, subst (λ l. IsCondition n l h.1) (append_assoc a b h.0) h.2)

-- what begins with the tokens before a place and with the one there
begins_at : (n : ℕ) (ts before after : List Placed) (x : Placed) → ts ≡ before ++ x ∷ after → BeginsWithin n (bare ts) → BeginsWithin n (bare before ++ x.token ∷ [])
begins_at n ts before after x e h =
    let flat : bare ts ≡ (bare before ++ x.token ∷ []) ++ bare after = ap bare e ∙ (map-append (λ p. p.token) before (x ∷ after) ∙ sym (append_assoc (bare before) (x.token ∷ []) (bare after))) in
    begins_front n (bare before ++ x.token ∷ []) (bare after) (subst (BeginsWithin n) flat h)

whole_begins : (columns : List Column) (text : List ℕ) (tree : Option Tree) → Spells columns text tree → BeginsWithin 32 (bare (tokens_of (names_of columns) text))
whole_begins columns text tree h = ([], tree, subst (λ l. IsCondition 32 l tree) (sym (append-nil _)) h.condition)

-- where all tokens begin a condition of the allowed depth, none of them stops it or is too deep
no_stop : (ts : List Placed) (p : ℕ) → BeginsWithin 32 (bare ts) → StopsAt ts p → ⊥
no_stop ts p h s = s.stops (32, begins_at 32 ts s.before s.after (record { place = p; token = s.token }) s.split h)

no_depth : (ts : List Placed) (p : ℕ) → BeginsWithin 32 (bare ts) → DeepAt ts p → ⊥
no_depth ts p h s = s.too_deep (begins_at 32 ts s.before s.after (record { place = p; token = s.token }) s.split h)

one_stop : (ts : List Placed) (p q : ℕ) → StopsAt ts p → StopsAt ts q → p ≡ q
one_stop ts p q s r =
    let x : Placed = record { place = p; token = s.token } in
    let y : Placed = record { place = q; token = r.token } in
    elim (splits s.before x s.after r.before y r.after (sym s.split ∙ r.split)) as (λ _. p ≡ q) [
      | inl e ↦ ap (λ z. z.place) e.1
      | inr (inl h) ↦ absurd (s.stops (32, begins_at 32 r.before s.before h.0 x h.1 r.begins))
      | inr (inr h) ↦ absurd (r.stops (32, begins_at 32 s.before r.before h.0 y h.1 s.begins))
    ]

pub one_depth : (ts : List Placed) (p q : ℕ) → DeepAt ts p → DeepAt ts q → p ≡ q
one_depth ts p q s r =
    let x : Placed = record { place = p; token = s.token } in
    let y : Placed = record { place = q; token = r.token } in
    elim (splits s.before x s.after r.before y r.after (sym s.split ∙ r.split)) as (λ _. p ≡ q) [
      | inl e ↦ ap (λ z. z.place) e.1
      | inr (inl h) ↦ absurd (s.too_deep (begins_at 32 r.before s.before h.0 x h.1 r.begins))
      | inr (inr h) ↦ absurd (r.too_deep (begins_at 32 s.before r.before h.0 y h.1 s.begins))
    ]

-- a place where the tokens stop is none where they are too deep
stop_or_depth : (ts : List Placed) (p q : ℕ) → StopsAt ts p → DeepAt ts q → ⊥
stop_or_depth ts p q s r =
    let x : Placed = record { place = p; token = s.token } in
    let y : Placed = record { place = q; token = r.token } in
    elim (splits s.before x s.after r.before y r.after (sym s.split ∙ r.split)) as (λ _. ⊥) [
      | inl e ↦ s.stops (subst (λ l. Begins (l ++ s.token ∷ [])) (ap bare (sym e.0)) (subst (λ t. Begins (bare r.before ++ t ∷ [])) (ap (λ z. z.token) (sym e.1)) r.goes_on))
      | inr (inl h) ↦ s.stops (32, begins_at 32 r.before s.before h.0 x h.1 r.begins)
      | inr (inr h) ↦ r.too_deep (begins_at 32 s.before r.before h.0 y h.1 s.begins)
    ]

module _ (columns : List Column) (text : List ℕ) where
  abbrev tokens : List Placed
  tokens = tokens_of (names_of columns) text

  -- a text whose tokens are a condition has no place where they stop, end early or are too deep
  spells_no_at : (tree : Option Tree) (p : ℕ) → Spells columns text tree → StopsAt tokens p ⊎ ((p ≡ length text) × EndsEarly tokens) → ⊥
  spells_no_at tree p h (inl s) = no_stop tokens p (whole_begins columns text tree h) s
  spells_no_at tree p h (inr e) = e.1.is_none 32 tree h.condition

  spells_no_deep : (tree : Option Tree) (p : ℕ) → Spells columns text tree → IsDeep columns text p → ⊥
  spells_no_deep tree p h d = no_depth tokens p (whole_begins columns text tree h) d.place

  at_same : (p q : ℕ) → StopsAt tokens p ⊎ ((p ≡ length text) × EndsEarly tokens) → StopsAt tokens q ⊎ ((q ≡ length text) × EndsEarly tokens) → p ≡ q
  at_same p q (inl s) (inl r) = one_stop tokens p q s r
  at_same p q (inl s) (inr e) = absurd (no_stop tokens p e.1.begins s)
  at_same p q (inr e) (inl r) = absurd (no_stop tokens q e.1.begins r)
  at_same p q (inr e) (inr f) = e.0 ∙ sym f.0

  at_no_deep : (p q : ℕ) → StopsAt tokens p ⊎ ((p ≡ length text) × EndsEarly tokens) → IsDeep columns text q → ⊥
  at_no_deep p q (inl s) d = stop_or_depth tokens p q s d.place
  at_no_deep p q (inr e) d = no_depth tokens q e.1.begins d.place

  -- the marks of two readings are the same
  kinds_same : (t u : Option Tree) (o r : Option ℕ) → Spells columns text t → Spells columns text u → first_marked (misplaced_in (kinds_of columns) t) (atom_places tokens) ≡ o → first_marked (misplaced_in (kinds_of columns) u) (atom_places tokens) ≡ r → o ≡ r
  kinds_same t u o r h k e f = let same = one_tree 32 32 (bare tokens) t u h.condition k.condition in sym e ∙ (ap (λ x. first_marked (misplaced_in (kinds_of columns) x) (atom_places tokens)) same ∙ f)

  -- where the text reads as a tree, a fault is want of memory
  pub read_no_fault : (tree : Option Tree) (f : CondFault) → IsRead columns text tree → IsFault columns text f → f ≡ Memory
  read_no_fault tree Long h k = let short = h.spells.short in absurd (omega arith)
  read_no_fault tree (At p) h k = absurd (spells_no_at tree p h.spells k.place)
  read_no_fault tree (Deep p) h k = absurd (spells_no_deep tree p h.spells k)
  read_no_fault tree (NoColumn p) h k = let e = h.known in let f = k.unknown in absurd cc
  read_no_fault tree (Kinds p) h k = let e = kinds_same tree k.tree None (Some p) h.spells k.spells h.kinds k.kinds in absurd cc
  read_no_fault tree Memory h k = refl

  abbrev One : CondFault → CondFault → Type 0
  One f g = (f ≡ g) ⊎ ((f ≡ Memory) ⊎ (g ≡ Memory))

  -- two faults are the same, or one is want of memory
  pub one_fault : (f g : CondFault) → IsFault columns text f → IsFault columns text g → One f g
  one_fault Memory g h k = inr (inl refl)
  one_fault f Memory h k = inr (inr refl)
  one_fault Long Long h k = inl refl
  one_fault Long (At q) h k = let short = k.short in absurd (omega arith)
  one_fault Long (Deep q) h k = let short = k.short in absurd (omega arith)
  one_fault Long (NoColumn q) h k = let short = k.spells.short in absurd (omega arith)
  one_fault Long (Kinds q) h k = let short = k.spells.short in absurd (omega arith)
  one_fault (At p) Long h k = let short = h.short in absurd (omega arith)
  one_fault (At p) (At q) h k = inl (ap (λ x. At x) (at_same p q h.place k.place))
  one_fault (At p) (Deep q) h k = absurd (at_no_deep p q h.place k)
  one_fault (At p) (NoColumn q) h k = absurd (spells_no_at k.tree p k.spells h.place)
  one_fault (At p) (Kinds q) h k = absurd (spells_no_at k.tree p k.spells h.place)
  one_fault (Deep p) Long h k = let short = h.short in absurd (omega arith)
  one_fault (Deep p) (At q) h k = absurd (at_no_deep q p k.place h)
  one_fault (Deep p) (Deep q) h k = inl (ap (λ x. Deep x) (one_depth tokens p q h.place k.place))
  one_fault (Deep p) (NoColumn q) h k = absurd (spells_no_deep k.tree p k.spells h)
  one_fault (Deep p) (Kinds q) h k = absurd (spells_no_deep k.tree p k.spells h)
  one_fault (NoColumn p) Long h k = let short = h.spells.short in absurd (omega arith)
  one_fault (NoColumn p) (At q) h k = absurd (spells_no_at h.tree q h.spells k.place)
  one_fault (NoColumn p) (Deep q) h k = absurd (spells_no_deep h.tree q h.spells k)
  one_fault (NoColumn p) (NoColumn q) h k = let e = h.unknown in let f = k.unknown in let same : p ≡ q = cc in inl (ap (λ x. NoColumn x) same)
  one_fault (NoColumn p) (Kinds q) h k = let e = h.unknown in let f = k.known in absurd cc
  one_fault (Kinds p) Long h k = let short = h.spells.short in absurd (omega arith)
  one_fault (Kinds p) (At q) h k = absurd (spells_no_at h.tree q h.spells k.place)
  one_fault (Kinds p) (Deep q) h k = absurd (spells_no_deep h.tree q h.spells k)
  one_fault (Kinds p) (NoColumn q) h k = let e = h.known in let f = k.unknown in absurd cc
  one_fault (Kinds p) (Kinds q) h k = let e = kinds_same h.tree k.tree (Some p) (Some q) h.spells k.spells h.kinds k.kinds in let same : p ≡ q = cc in inl (ap (λ x. Kinds x) same)
