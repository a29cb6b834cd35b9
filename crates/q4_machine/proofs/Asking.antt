-- A look asks the entries of its list one after the other.
use Rattle.std.proofs.Common.{◌≡◌, ◌<◌, ◌≤◌, ◌+◌, ◌∷◌, ◌∙◌, List, ℕ, Option, Some, None, length, drop, set, get_or, sym, ap, subst, arith}
use Rattle.std.proofs.lemmas.List.{drop_more}
use Rattle.q4_table.specs.Cursors.{Cursor, begin_of, end_of_look, with_moved}
use Rattle.q4_table.specs.Oldest.{IsAsked, unowned_to}
use Rattle.q4_machine.specs.declared.looks.Listed.{Listed}
use Rattle.q4_machine.specs.Opening.{Opening}
use Rattle.q4_machine.specs.Machine.{table_at}
use Rattle.q4_machine.specs.Kept.{kept_at, moved_by, kept_or, kept_after}
use Rattle.q4_machine.specs.Pick.{pick_or, pick_from, asked_to, asked_from}
use Rattle.q4_machine.proofs.Picks.{listed_oldest}

-- the entry at a place of the list, and those behind it
pub rest_at : (list : List Listed) (i : ℕ) (l : Listed) → i < length list → l ≡ get_or list i l → drop i list ≡ l ∷ drop (i + 1) list
rest_at list i l inside is = drop_more list i l inside ∙ ap (λ x. x ∷ drop (i + 1) list) (sym is)

-- the rows that a look for this entry asks at most
abbrev pub asked_by : List Opening → Listed → List (List Cursor) → Option ℕ → ℕ
asked_by tables l kept found = length (unowned_to (table_at tables l.table).rows (begin_of (kept_at kept l.table) l.cond.tree) found)

-- what a look for this entry leaves
abbrev pub moved_to : List Opening → Listed → Option ℕ → List (List Cursor) → List (List Cursor)
moved_to tables l found kept = set kept l.table (with_moved l.cond.tree (end_of_look (table_at tables l.table) found) (kept_at kept l.table))

-- An entry was asked, and its table has no row for it.
pub record Passed (tables : List Opening) (place : ℕ) (list rest : List Listed) (l : Listed) (kept moved : List (List Cursor)) : Type 0 where
  pub pick : pick_from tables place list ≡ pick_from tables (place + 1) rest
  pub kept_is : kept_after tables list kept ≡ kept_after tables rest moved
  pub asked : asked_from tables list kept ≡ asked_by tables l kept None + asked_from tables rest moved

pub passed : (tables : List Opening) (place : ℕ) (list rest : List Listed) (l : Listed) (kept moved : List (List Cursor)) → list ≡ l ∷ rest → None ≡ listed_oldest tables l → moved ≡ moved_to tables l None kept
    → Passed tables place list rest l kept moved
passed tables place list rest l kept moved cut none is =
    let same : moved_by tables l kept ≡ moved = ap (λ o. moved_to tables l o kept) (sym none) ∙ sym is in
    record {
      pick = ap (pick_from tables place) cut ∙ ap (λ o. pick_or place l.table o (pick_from tables (place + 1) rest)) (sym none);
      kept_is = ap (λ ls. kept_after tables ls kept) cut ∙ ap (λ o. kept_or o (moved_by tables l kept) (kept_after tables rest (moved_by tables l kept))) (sym none) ∙ ap (kept_after tables rest) same;
      asked = ap (λ ls. asked_from tables ls kept) cut
          ∙ ap (λ o. asked_to (table_at tables l.table) (begin_of (kept_at kept l.table) l.cond.tree) o (asked_from tables rest (moved_by tables l kept))) (sym none)
          ∙ ap (λ k. asked_by tables l kept None + asked_from tables rest k) same;
    }

-- An entry was asked, and its table has a row for it.
pub record Stops (tables : List Opening) (place : ℕ) (list : List Listed) (l : Listed) (number : ℕ) (kept moved : List (List Cursor)) : Type 0 where
  pub pick : pick_from tables place list ≡ Some (record { place = place; table = l.table; number = number })
  pub kept_is : kept_after tables list kept ≡ moved
  pub asked : asked_from tables list kept ≡ asked_by tables l kept (Some number)

pub stops : (tables : List Opening) (place : ℕ) (list rest : List Listed) (l : Listed) (number : ℕ) (kept moved : List (List Cursor)) → list ≡ l ∷ rest → Some number ≡ listed_oldest tables l → moved ≡ moved_to tables l (Some number) kept
    → Stops tables place list l number kept moved
stops tables place list rest l number kept moved cut found is =
    let same : moved_by tables l kept ≡ moved = ap (λ o. moved_to tables l o kept) (sym found) ∙ sym is in
    record {
      pick = ap (pick_from tables place) cut ∙ ap (λ o. pick_or place l.table o (pick_from tables (place + 1) rest)) (sym found);
      kept_is = ap (λ ls. kept_after tables ls kept) cut ∙ ap (λ o. kept_or o (moved_by tables l kept) (kept_after tables rest (moved_by tables l kept))) (sym found) ∙ same;
      asked = ap (λ ls. asked_from tables ls kept) cut
          ∙ ap (λ o. asked_to (table_at tables l.table) (begin_of (kept_at kept l.table) l.cond.tree) o (asked_from tables rest (moved_by tables l kept))) (sym found);
    }
