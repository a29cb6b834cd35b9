-- The conditions that a table keeps, the newest first, and where a look for each begins.
use Rattle.std.specs.Prelude.{ℕ, Bool, List, [], ◌∷◌, Option, map, find, take, min, is_some, unwrap_or, if◌then◌else◌}
use Rattle.std.specs.Option.{option_map}
use Rattle.std.specs.Coded.{Coded, code_by, coded×, coded_ℕ}
use Rattle.std.proofs.Common.{ap}
use Rattle.q4_cond.specs.declared.tree.Node.{Node}
use Rattle.q4_cond.specs.Condition.{tree_of-nodes_of}
use Rattle.q4_cond.specs.Postfix.{tree_of, nodes_of}
use Rattle.q4_cond.specs.Tree.{Tree}
use Rattle.q4_cond.specs.SameTree.{same_tree}
use Rattle.q4_table.specs.TableState.{TableState}

-- the tree of a kept condition, and the row number that a look for it begins at
pub record Cursor : Type 0 where
  pub tree : Option Tree
  pub from : ℕ

-- what contracts see of a table: the table of the rules, and what it keeps beside it
pub record TableView : Type 0 where
  pub state : TableState
  pub kept : List Cursor

-- how many conditions a table keeps at most
abbrev pub kept_limit : ℕ
kept_limit = 64

-- whether a cursor is that of the condition with this tree
abbrev pub is_for : Option Tree → Cursor → Bool
is_for tree c = same_tree c.tree tree

-- the number that a kept condition's cursor stands at
abbrev pub cursor_of : List Cursor → Option Tree → Option ℕ
cursor_of kept tree = option_map (λ c. c.from) (find (is_for tree) kept)

-- whether the condition is kept
abbrev pub is_kept : List Cursor → Option Tree → Bool
is_kept kept tree = is_some (cursor_of kept tree)

-- A look for a kept condition begins at its cursor, and one for another at row 1.
abbrev pub begin_of : List Cursor → Option Tree → ℕ
begin_of kept tree = unwrap_or (cursor_of kept tree) 1

-- the cursors without that of one condition
abbrev pub without_tree : Option Tree → List Cursor → List Cursor
without_tree tree [] = []
without_tree tree (c ∷ cs) = if is_for tree c then cs else c ∷ without_tree tree cs

-- A condition comes to the front, at its own cursor or at row 1 where it was not kept. Of 65 the last one goes.
abbrev pub with_kept : Option Tree → List Cursor → List Cursor
with_kept tree kept = take kept_limit (record { tree = tree; from = begin_of kept tree } ∷ without_tree tree kept)

-- the cursors after several conditions were kept in order
abbrev pub with_each_kept : List (Option Tree) → List Cursor → List Cursor
with_each_kept [] kept = kept
with_each_kept (tree ∷ trees) kept = with_each_kept trees (with_kept tree kept)

-- where the next look begins: at the row that this one found, or at the table's next row where it found none
abbrev pub end_of_look : TableState → Option ℕ → ℕ
end_of_look table found = unwrap_or found table.next

-- A look moves the cursor of its own condition, where that is kept, and no other.
abbrev pub with_moved : Option Tree → ℕ → List Cursor → List Cursor
with_moved tree to [] = []
with_moved tree to (c ∷ cs) = if is_for tree c then record { tree = c.tree; from = to } ∷ cs else c ∷ with_moved tree to cs

-- A row that is given back lowers each cursor above its number to that number.
abbrev pub lowered_to : ℕ → Cursor → Cursor
lowered_to number c = record { tree = c.tree; from = min c.from number }

abbrev pub with_lowered : ℕ → List Cursor → List Cursor
with_lowered number kept = map (lowered_to number) kept

-- cursors are told apart by the nodes of their trees and their numbers
abbrev pub cursor_code : Coded (List Node) → Coded Cursor
cursor_code code = code_by (List Node × ℕ) (coded× code coded_ℕ) (λ c. (nodes_of c.tree, c.from)) (λ p. record { tree = tree_of p.0; from = p.1 }) (λ c. ap (λ t. record { tree = t; from = c.from }) (tree_of-nodes_of c.tree))
