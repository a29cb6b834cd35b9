-- What keeping a condition and moving its cursor do to the list of cursors.
use Rattle.std.proofs.Common.{◌≡◌, ◌≤◌, ◌+◌, ◌∷◌, ◌∙◌, [], List, ℕ, zero, suc, Bool, false, cond, Option, Some, None, find, length, take, is_some, unwrap_or, slice_get, get_or, refl, sym, ap, arith}
use Rattle.std.specs.Option.{option_map}
use Rattle.std.specs.List.{position, remove, slice_set}
use Rattle.q4_cond.specs.Tree.{Tree}
use Rattle.q4_cond.proofs.SameTrees.{same-equal}
use Rattle.q4_table.specs.Cursors.{Cursor, kept_limit, is_for, cursor_of, is_kept, begin_of, without_tree, with_kept, with_moved}
use Rattle.q4_table.proofs.Found.{IsAt, Fail, at-position, fail-position, find-at, find-fail, fail-find, slice-at, at-somewhere}

from : Cursor → ℕ
from c = c.from

-- whether the cursor of a condition is found
pub kept-at : (tree : Option Tree) (kept : List Cursor) (i : ℕ) (c : Cursor) → IsAt (is_for tree) kept i c → cursor_of kept tree ≡ Some c.from
kept-at tree kept i c at = ap (option_map (λ (d : Cursor). d.from)) (find-at (is_for tree) kept i c at)

pub kept_fail : (tree : Option Tree) (kept : List Cursor) → Fail (is_for tree) kept → cursor_of kept tree ≡ None
kept_fail tree kept fail = ap (option_map (λ (d : Cursor). d.from)) (find-fail (is_for tree) kept fail)

-- the first cursor for a tree has that tree
pub tree_at : (tree : Option Tree) (kept : List Cursor) (i : ℕ) (c : Cursor) → IsAt (is_for tree) kept i c → c.tree ≡ tree
tree_at tree [] i c at = absurd at
tree_at tree (x ∷ xs) zero c at = ap (λ (d : Cursor). d.tree) (sym at.0) ∙ same-equal x.tree tree at.1
tree_at tree (x ∷ xs) (suc i) c at = tree_at tree xs i c at.1

pub removed-at : (tree : Option Tree) (kept : List Cursor) (i : ℕ) (c : Cursor) → IsAt (is_for tree) kept i c → remove kept i ≡ without_tree tree kept
removed-at tree [] i c at = absurd at
removed-at tree (x ∷ xs) zero c at = sym (ap (λ (b : Bool). cond b xs (x ∷ without_tree tree xs)) at.1)
removed-at tree (x ∷ xs) (suc i) c at = ap (λ ys. x ∷ ys) (removed-at tree xs i c at.1) ∙ sym (ap (λ (b : Bool). cond b xs (x ∷ without_tree tree xs)) at.0)

pub without_fail : (tree : Option Tree) (kept : List Cursor) → Fail (is_for tree) kept → without_tree tree kept ≡ kept
without_fail tree [] fail = refl
without_fail tree (x ∷ xs) fail = ap (λ (b : Bool). cond b xs (x ∷ without_tree tree xs)) fail.0 ∙ ap (λ ys. x ∷ ys) (without_fail tree xs fail.1)

pub moved_fail : (tree : Option Tree) (to : ℕ) (kept : List Cursor) → Fail (is_for tree) kept → with_moved tree to kept ≡ kept
moved_fail tree to [] fail = refl
moved_fail tree to (x ∷ xs) fail = ap (λ (b : Bool). cond b (record { tree = x.tree; from = to } ∷ xs) (x ∷ with_moved tree to xs)) fail.0 ∙ ap (λ ys. x ∷ ys) (moved_fail tree to xs fail.1)

pub moved-at : (tree : Option Tree) (to : ℕ) (kept : List Cursor) (i : ℕ) (c : Cursor) → IsAt (is_for tree) kept i c → slice_set kept i (record { tree = c.tree; from = to }) ≡ with_moved tree to kept
moved-at tree to [] i c at = absurd at
moved-at tree to (x ∷ xs) zero c at =
    ap (λ (d : Cursor). record { tree = d.tree; from = to } ∷ xs) (sym at.0) ∙ sym (ap (λ (b : Bool). cond b (record { tree = x.tree; from = to } ∷ xs) (x ∷ with_moved tree to xs)) at.1)
moved-at tree to (x ∷ xs) (suc i) c at =
    ap (λ ys. x ∷ ys) (moved-at tree to xs i c at.1) ∙ sym (ap (λ (b : Bool). cond b (record { tree = x.tree; from = to } ∷ xs) (x ∷ with_moved tree to xs)) at.0)

take_all : (n : ℕ) (cs : List Cursor) → length cs ≤ n → take n cs ≡ cs
take_all zero [] few = refl
take_all (suc n) [] few = refl
take_all zero (c ∷ cs) few = absurd (omega (arith, few))
take_all (suc n) (c ∷ cs) few = ap (λ ds. c ∷ ds) (take_all n cs (omega (arith, few)))

length-removed : (tree : Option Tree) (kept : List Cursor) (i : ℕ) (c : Cursor) → IsAt (is_for tree) kept i c → length (without_tree tree kept) + 1 ≡ length kept
length-removed tree [] i c at = absurd at
length-removed tree (x ∷ xs) zero c at = omega (arith, ap (λ (b : Bool). length (cond b xs (x ∷ without_tree tree xs))) at.1)
length-removed tree (x ∷ xs) (suc i) c at = omega (arith, ap (λ (b : Bool). length (cond b xs (x ∷ without_tree tree xs))) at.0, length-removed tree xs i c at.1)

-- a kept condition that comes to the front
pub kept-again : (tree : Option Tree) (kept : List Cursor) (i : ℕ) (c : Cursor) → length kept ≤ kept_limit → IsAt (is_for tree) kept i c → c ∷ remove kept i ≡ with_kept tree kept
kept-again tree kept i c few at =
    let here : record { tree = tree; from = begin_of kept tree } ≡ c = ap (λ (o : Option ℕ). record { tree = tree; from = unwrap_or o 1 }) (kept-at tree kept i c at) ∙ ap (λ (t : Option Tree). record { tree = t; from = c.from }) (sym (tree_at tree kept i c at)) in
    let front = record { tree = tree; from = begin_of kept tree } ∷ without_tree tree kept in
    ap (λ cs. c ∷ cs) (removed-at tree kept i c at)
    ∙ ap (λ (d : Cursor). d ∷ without_tree tree kept) (sym here)
    ∙ sym (take_all kept_limit front (omega (arith, length-removed tree kept i c at, few)))

-- a condition that was not kept comes in front of the others
pub kept-new : (tree : Option Tree) (kept : List Cursor) → is_kept kept tree ≡ false → take kept_limit (record { tree = tree; from = 1 } ∷ kept) ≡ with_kept tree kept
kept-new tree kept is =
    let fail = not_kept tree kept is in
    ap (λ (o : Option ℕ). take kept_limit (record { tree = tree; from = unwrap_or o 1 } ∷ kept)) (sym (kept_fail tree kept fail))
    ∙ ap (λ cs. take kept_limit (record { tree = tree; from = begin_of kept tree } ∷ cs)) (sym (without_fail tree kept fail))
  where
    none : (o : Option Cursor) → is_some (option_map (λ (d : Cursor). d.from) o) ≡ false → o ≡ None
    none None same = refl
    none (Some c) same = cc same

    not_kept : (tree : Option Tree) (kept : List Cursor) → is_kept kept tree ≡ false → Fail (is_for tree) kept
    not_kept tree kept is = fail-find (is_for tree) kept (none (find (is_for tree) kept) is)

-- where a search finds a condition, it comes to the front
pub kept-forward : (tree : Option Tree) (kept : List Cursor) (i : ℕ) (new : List Cursor) → length kept ≤ kept_limit → position (is_for tree) kept ≡ Some i
    → ((c : Cursor) → slice_get kept i ≡ Some c → new ≡ c ∷ remove kept i) → new ≡ with_kept tree kept
kept-forward tree kept i new few found brought =
    let c = get_or kept i (record { tree = None; from = 0 }) in
    let at = at-somewhere (is_for tree) kept i (record { tree = None; from = 0 }) found in
    brought c (slice-at (is_for tree) kept i c at) ∙ kept-again tree kept i c few at

-- where it finds none, it is not kept
pub unkept : (tree : Option Tree) (kept : List Cursor) → position (is_for tree) kept ≡ None → is_kept kept tree ≡ false
unkept tree kept none = ap is_some (kept_fail tree kept (fail-position (is_for tree) kept none))

-- where a look for a condition begins
pub begin-position : (tree : Option Tree) (kept : List Cursor) (i : ℕ) (c : Cursor) → position (is_for tree) kept ≡ Some i → c ≡ get_or kept i c → c.from ≡ begin_of kept tree
begin-position tree kept i c found is = sym (ap (λ (o : Option ℕ). unwrap_or o 1) (kept-at tree kept i c (at-position (is_for tree) kept i c found is)))

pub begin_none : (tree : Option Tree) (kept : List Cursor) → position (is_for tree) kept ≡ None → 1 ≡ begin_of kept tree
begin_none tree kept none = sym (ap (λ (o : Option ℕ). unwrap_or o 1) (kept_fail tree kept (fail-position (is_for tree) kept none)))

pub moved-position : (tree : Option Tree) (to : ℕ) (kept : List Cursor) (i : ℕ) (c : Cursor) → position (is_for tree) kept ≡ Some i → c ≡ get_or kept i c
    → slice_set kept i (record { tree = c.tree; from = to }) ≡ with_moved tree to kept
moved-position tree to kept i c found is = moved-at tree to kept i c (at-position (is_for tree) kept i c found is)

pub moved_none : (tree : Option Tree) (to : ℕ) (kept : List Cursor) → position (is_for tree) kept ≡ None → kept ≡ with_moved tree to kept
moved_none tree to kept none = sym (moved_fail tree to kept (fail-position (is_for tree) kept none))

has_cases : (tree : Option Tree) (kept : List Cursor) (o : Option ℕ) → position (is_for tree) kept ≡ o → is_some o ≡ is_kept kept tree
has_cases tree kept None is = sym (unkept tree kept is)
has_cases tree kept (Some i) is =
    let c = get_or kept i (record { tree = None; from = 0 }) in
    sym (ap is_some (kept-at tree kept i c (at-somewhere (is_for tree) kept i (record { tree = None; from = 0 }) is)))

-- whether a search finds a condition
pub has-position : (tree : Option Tree) (kept : List Cursor) → is_some (position (is_for tree) kept) ≡ is_kept kept tree
has-position tree kept = has_cases tree kept (position (is_for tree) kept) refl
