-- What a text reads as, and where each fault stands.
use Rattle.std.specs.Prelude.{◌≡◌, ℕ, ◌<◌, ◌≤◌, List, [], ◌∷◌, ◌++◌, length, map, Bool, true, false, ◌&&◌, nat_lt, if◌then◌else◌, Option, Some, None, slice_get, ◌⊎◌}
use Rattle.q4_value.specs.declared.column.Column.{Column}
use Rattle.q4_value.specs.declared.column.Kind.{Kind}
use Rattle.q4_value.specs.declared.column.Kind.TheVariants.{Int, Words}
use Rattle.q4_cond.specs.declared.fault.CondFault.{CondFault}
use Rattle.q4_cond.specs.declared.fault.CondFault.TheVariants.{Long, At, Deep, NoColumn, Kinds, Memory}
use Rattle.q4_cond.specs.declared.tree.Operator.{Operator}
use Rattle.q4_cond.specs.declared.tree.Operator.TheVariants.{Or, And, Equal, Unequal, Below, AtMost, Above, AtLeast, Add, Subtract, Multiply, Divide, Remainder}
use Rattle.q4_cond.specs.declared.tree.Atom.{Atom}
use Rattle.q4_cond.specs.declared.tree.Atom.TheVariants.{Column as named, Number, Text}
use Rattle.q4_cond.specs.declared.tree.Token.{Token}
use Rattle.q4_cond.specs.declared.tree.Token.TheVariants.{Operand, Sign, Not, Open, Close, Bad}
use Rattle.q4_cond.specs.Tree.{Tree, Simple, Two, NotOf, MinusOf}
use Rattle.q4_cond.specs.Grammar.{IsCondition, BeginsWithin, Begins}
use Rattle.q4_cond.specs.Tokens.{Placed, bare, tokens_of, names_of}

-- the first token at place p that begins no condition of at most 32 open constructs, whatever its depth
pub record StopsAt (ts : List Placed) (p : ℕ) : Type 0 where
  pub before : List Placed
  pub token : Token
  pub after : List Placed
  pub split : ts ≡ before ++ record { place = p; token = token } ∷ after
  pub begins : BeginsWithin 32 (bare before)
  pub stops : Begins (bare before ++ token ∷ []) → ⊥

-- the tokens begin a condition and are none
pub record EndsEarly (ts : List Placed) : Type 0 where
  pub begins : BeginsWithin 32 (bare ts)
  pub is_none : (n : ℕ) (t : Option Tree) → IsCondition n (bare ts) t → ⊥

-- the first token at place p that begins only deeper conditions
pub record DeepAt (ts : List Placed) (p : ℕ) : Type 0 where
  pub before : List Placed
  pub token : Token
  pub after : List Placed
  pub split : ts ≡ before ++ record { place = p; token = token } ∷ after
  pub begins : BeginsWithin 32 (bare before)
  pub goes_on : Begins (bare before ++ token ∷ [])
  pub too_deep : BeginsWithin 32 (bare before ++ token ∷ []) → ⊥

-- the place of the first word that names none of so many columns
abbrev pub unknown_here : ℕ → ℕ → Token → Option ℕ → Option ℕ
unknown_here count p (Operand (named c)) rest = if nat_lt c count then rest else Some p
unknown_here count p (Operand (Number n)) rest = rest
unknown_here count p (Operand (Text s)) rest = rest
unknown_here count p (Sign op) rest = rest
unknown_here count p Not rest = rest
unknown_here count p Open rest = rest
unknown_here count p Close rest = rest
unknown_here count p Bad rest = rest

abbrev pub first_unknown : ℕ → List Placed → Option ℕ
first_unknown count [] = None
first_unknown count (t ∷ ts) = unknown_here count t.place t.token (first_unknown count ts)

-- the places of the atoms, which stand in the text in the order of the tree's leaves
abbrev pub atom_here : ℕ → Token → List ℕ
atom_here p (Operand a) = p ∷ []
atom_here p (Sign op) = []
atom_here p Not = []
atom_here p Open = []
atom_here p Close = []
atom_here p Bad = []

abbrev pub atom_places : List Placed → List ℕ
atom_places [] = []
atom_places (t ∷ ts) = atom_here t.place t.token ++ atom_places ts

abbrev pub is_words : Option Kind → Bool
is_words None = false
is_words (Some Int) = false
is_words (Some Words) = true

-- a text, or a column of texts
abbrev pub is_text : List Kind → Atom → Bool
is_text kinds (named c) = is_words (slice_get kinds c)
is_text kinds (Number n) = false
is_text kinds (Text s) = true

-- `=` and `<>`, which compare texts too
abbrev pub compares_texts : Operator → Bool
compares_texts Or = false
compares_texts And = false
compares_texts Equal = true
compares_texts Unequal = true
compares_texts Below = false
compares_texts AtMost = false
compares_texts Above = false
compares_texts AtLeast = false
compares_texts Add = false
compares_texts Subtract = false
compares_texts Multiply = false
compares_texts Divide = false
compares_texts Remainder = false

-- both sides are text atoms
abbrev pub both_texts : List Kind → Tree → Tree → Bool
both_texts kinds (Simple a) (Simple b) = is_text kinds a && is_text kinds b
both_texts kinds (Simple a) (Two op t u) = false
both_texts kinds (Simple a) (NotOf t) = false
both_texts kinds (Simple a) (MinusOf t) = false
both_texts kinds (Two op t u) w = false
both_texts kinds (NotOf t) w = false
both_texts kinds (MinusOf t) w = false

-- for each leaf from left to right, whether it is a text atom that is no side of an `=` or `<>` of two text atoms
abbrev pub misplaced : List Kind → Tree → List Bool
misplaced kinds (Simple a) = is_text kinds a ∷ []
misplaced kinds (Two op t u) = if compares_texts op && both_texts kinds t u then false ∷ false ∷ [] else misplaced kinds t ++ misplaced kinds u
misplaced kinds (NotOf t) = misplaced kinds t
misplaced kinds (MinusOf t) = misplaced kinds t

-- the place beside the first mark
abbrev pub first_marked : List Bool → List ℕ → Option ℕ
first_marked [] ps = None
first_marked (b ∷ bs) [] = None
first_marked (true ∷ bs) (p ∷ ps) = Some p
first_marked (false ∷ bs) (p ∷ ps) = first_marked bs ps

abbrev pub misplaced_in : List Kind → Option Tree → List Bool
misplaced_in kinds None = []
misplaced_in kinds (Some t) = misplaced kinds t

abbrev pub kinds_of : List Column → List Kind
kinds_of columns = map (λ c. c.kind) columns

-- the text is short enough and its tokens are this condition
pub record Spells (columns : List Column) (text : List ℕ) (tree : Option Tree) : Type 0 where
  pub short : length text ≤ 1024
  pub condition : IsCondition 32 (bare (tokens_of (names_of columns) text)) tree

-- the text reads as this tree: each word names a column, and texts stand where texts may
pub record IsRead (columns : List Column) (text : List ℕ) (tree : Option Tree) : Type 0 where
  pub spells : Spells columns text tree
  pub known : first_unknown (length columns) (tokens_of (names_of columns) text) ≡ None
  pub kinds : first_marked (misplaced_in (kinds_of columns) tree) (atom_places (tokens_of (names_of columns) text)) ≡ None

pub record IsAt (columns : List Column) (text : List ℕ) (p : ℕ) : Type 0 where
  pub short : length text ≤ 1024
  pub place : StopsAt (tokens_of (names_of columns) text) p ⊎ ((p ≡ length text) × EndsEarly (tokens_of (names_of columns) text))

pub record IsDeep (columns : List Column) (text : List ℕ) (p : ℕ) : Type 0 where
  pub short : length text ≤ 1024
  pub place : DeepAt (tokens_of (names_of columns) text) p

pub record IsNoColumn (columns : List Column) (text : List ℕ) (p : ℕ) : Type 0 where
  pub tree : Option Tree
  pub spells : Spells columns text tree
  pub unknown : first_unknown (length columns) (tokens_of (names_of columns) text) ≡ Some p

pub record IsKinds (columns : List Column) (text : List ℕ) (p : ℕ) : Type 0 where
  pub tree : Option Tree
  pub spells : Spells columns text tree
  pub known : first_unknown (length columns) (tokens_of (names_of columns) text) ≡ None
  pub kinds : first_marked (misplaced_in (kinds_of columns) tree) (atom_places (tokens_of (names_of columns) text)) ≡ Some p

-- what each fault says of the text
abbrev pub IsFault : List Column → List ℕ → CondFault → Type 0
IsFault columns text Long = 1024 < length text
IsFault columns text (At p) = IsAt columns text p
IsFault columns text (Deep p) = IsDeep columns text p
IsFault columns text (NoColumn p) = IsNoColumn columns text p
IsFault columns text (Kinds p) = IsKinds columns text p
IsFault columns text Memory = Unit {0}
