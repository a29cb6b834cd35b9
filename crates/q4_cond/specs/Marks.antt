-- The misplaced texts of a tree, found in its nodes. No public clause cites it.
use Rattle.std.specs.Prelude.{List, [], ◌∷◌, Bool, false, not, ◌&&◌, ◌||◌}
use Rattle.q4_value.specs.declared.column.Kind.{Kind}
use Rattle.q4_cond.specs.declared.tree.Atom.{Atom}
use Rattle.q4_cond.specs.declared.tree.Node.{Node}
use Rattle.q4_cond.specs.declared.tree.Node.TheVariants.{Leaf, Binary, Inverted, Negated}
use Rattle.q4_cond.specs.Reading.{is_text, compares_texts}

-- an `=` or `<>` comes next
abbrev pub next_compares : List Node → Bool
next_compares [] = false
next_compares (Leaf a ∷ ns) = false
next_compares (Binary op ∷ ns) = compares_texts op
next_compares (Inverted ∷ ns) = false
next_compares (Negated ∷ ns) = false

-- a text atom comes next, and then an `=` or `<>`
abbrev pub next_is_side : List Kind → List Node → Bool
next_is_side kinds [] = false
next_is_side kinds (Leaf a ∷ ns) = is_text kinds a && next_compares ns
next_is_side kinds (Binary op ∷ ns) = false
next_is_side kinds (Inverted ∷ ns) = false
next_is_side kinds (Negated ∷ ns) = false

-- the atom is a text, and no side of an `=` or `<>` with a text atom behind it or, as `before` says, before it
abbrev pub is_stray : List Kind → Bool → Atom → List Node → Bool
is_stray kinds before a ns = is_text kinds a && not (next_is_side kinds ns || (before && next_compares ns))

abbrev pub strays : List Kind → Bool → List Node → List Bool
strays kinds before [] = []
strays kinds before (Leaf a ∷ ns) = is_stray kinds before a ns ∷ strays kinds (is_text kinds a) ns
strays kinds before (Binary op ∷ ns) = strays kinds false ns
strays kinds before (Inverted ∷ ns) = strays kinds false ns
strays kinds before (Negated ∷ ns) = strays kinds false ns
