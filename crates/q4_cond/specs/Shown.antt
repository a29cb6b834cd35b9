-- The text of a condition.
use Rattle.std.specs.Prelude.{ℕ, ◌-◌, List, [], ◌∷◌, ◌++◌, length, Option, Some, None, ◌&&◌, ◌==◌, nat_le, if◌then◌else◌, slice_get, slice_index}
use Rattle.std.specs.Fmt.{signed_decimal}
use Rattle.q4_cond.specs.declared.writing.Shown.{Shown}
use Rattle.q4_cond.specs.declared.tree.Operator.{Operator}
use Rattle.q4_cond.specs.declared.tree.Operator.TheVariants.{Or, And, Equal, Unequal, Below, AtMost, Above, AtLeast, Add, Subtract, Multiply, Divide, Remainder}
use Rattle.q4_cond.specs.declared.tree.Atom.{Atom}
use Rattle.q4_cond.specs.declared.tree.Atom.TheVariants.{Column as named, Number, Text}
use Rattle.q4_cond.specs.declared.tree.Node.{Node}
use Rattle.q4_cond.specs.declared.tree.Node.TheVariants.{Leaf, Binary, Inverted, Negated}
use Rattle.q4_cond.specs.Tree.{Tree, Simple, Two, NotOf, MinusOf, level_of, left_level, right_level}
use Rattle.q4_cond.specs.Tokens.{is_word_byte}

-- a quote in a text is written twice
abbrev pub doubled : List ℕ → List ℕ
doubled [] = []
doubled (b ∷ bs) = if b == 39 then 39 ∷ 39 ∷ doubled bs else b ∷ doubled bs

abbrev pub name_text : Option (List ℕ) → List ℕ
name_text None = []
name_text (Some name) = name

abbrev pub atom_text : List (List ℕ) → Atom → List ℕ
atom_text names (named c) = name_text (slice_get names c)
atom_text names (Number n) = signed_decimal n
atom_text names (Text s) = 39 ∷ (doubled s ++ 39 ∷ [])

abbrev pub sign_text : Operator → List ℕ
sign_text Or = 111 ∷ 114 ∷ []
sign_text And = 97 ∷ 110 ∷ 100 ∷ []
sign_text Equal = 61 ∷ []
sign_text Unequal = 60 ∷ 62 ∷ []
sign_text Below = 60 ∷ []
sign_text AtMost = 60 ∷ 61 ∷ []
sign_text Above = 62 ∷ []
sign_text AtLeast = 62 ∷ 61 ∷ []
sign_text Add = 43 ∷ []
sign_text Subtract = 45 ∷ []
sign_text Multiply = 42 ∷ []
sign_text Divide = 47 ∷ []
sign_text Remainder = 37 ∷ []

-- one space stands between two tokens that are each a word or a number, and none elsewhere
abbrev pub spaced : List ℕ → List ℕ → List ℕ
spaced a b = if is_word_byte (slice_index a (length a - 1)) && is_word_byte (slice_index b 0) then a ++ 32 ∷ b else a ++ b

-- parentheses stand where the text is of a looser level than is wanted
abbrev pub wrapped : ℕ → Shown → List ℕ
wrapped l s = if nat_le l s.level then s.text else 40 ∷ (s.text ++ 41 ∷ [])

abbrev pub two_text : Operator → Shown → Shown → Shown
two_text op a b = record { text = spaced (spaced (wrapped (left_level op) a) (sign_text op)) (wrapped (right_level op) b); level = level_of op }

abbrev pub not_text : Shown → Shown
not_text a = record { text = spaced (110 ∷ 111 ∷ 116 ∷ []) (wrapped 3 a); level = 3 }

abbrev pub minus_text : Shown → Shown
minus_text a = record { text = 45 ∷ wrapped 7 a; level = 7 }

-- a tree's text, and the level of the phrase that it is
abbrev pub shown : List (List ℕ) → Tree → Shown
shown names (Simple a) = record { text = atom_text names a; level = 8 }
shown names (Two op t u) = two_text op (shown names t) (shown names u)
shown names (NotOf t) = not_text (shown names t)
shown names (MinusOf t) = minus_text (shown names t)

-- the text of a condition, empty where it is
abbrev pub condition_text : List (List ℕ) → Option Tree → List ℕ
condition_text names None = []
condition_text names (Some t) = (shown names t).text

-- one node takes the texts of its operands from those that are complete, the latest first
abbrev pub write_node : List (List ℕ) → Node → List Shown → List Shown
write_node names (Leaf a) ss = record { text = atom_text names a; level = 8 } ∷ ss
write_node names (Binary op) [] = []
write_node names (Binary op) (b ∷ []) = []
write_node names (Binary op) (b ∷ a ∷ ss) = two_text op a b ∷ ss
write_node names Inverted [] = []
write_node names Inverted (a ∷ ss) = not_text a ∷ ss
write_node names Negated [] = []
write_node names Negated (a ∷ ss) = minus_text a ∷ ss

abbrev pub write_nodes : List (List ℕ) → List Node → List Shown → List Shown
write_nodes names [] ss = ss
write_nodes names (n ∷ ns) ss = write_nodes names ns (write_node names n ss)

abbrev pub first_text : List Shown → List ℕ
first_text [] = []
first_text (s ∷ ss) = s.text
