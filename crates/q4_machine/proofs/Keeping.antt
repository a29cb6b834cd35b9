-- What keeping the conditions of a list and looking for them leave kept.
use Rattle.std.proofs.Common.{◌≡◌, ◌≢◌, ◌==◌, ◌<◌, ◌≤◌, ◌+◌, ◌++◌, ◌∷◌, ◌∙◌, ◌||◌, [], List, ℕ, Bool, true, false, cond, Option, Some, None, Result, Ok, Err, OnErr, All, find, is_some, length, take, drop, set, get_or, refl, sym, ap, subst, arith, inl, inr, get_or-set_same, get_or-set_other}
use Rattle.std.specs.Option.{option_map}
use Rattle.std.proofs.Math.ListN.{get_or-eq_default}
use Rattle.std.proofs.lemmas.Bool.{cases_eq, cases_lt, eqb-false, eq-eqb, ne_eqb}
use Rattle.std.proofs.lemmas.List.{length-set, take_more}
use Rattle.std.proofs.lemmas.List.Elements.{All-nil, All-cons, All-head, All-tail, All-weaker}
use Rattle.q4_value.specs.declared.NoMemory.{NoMemory}
use Rattle.q4_cond.specs.Tree.{Tree}
use Rattle.q4_table.specs.Cursors.{Cursor, is_for, is_kept, with_kept, with_each_kept, end_of_look, with_moved}
use Rattle.q4_table.specs.Oldest.{oldest_meeting}
use Rattle.q4_table.proofs.Recent.{kept-each}
use Rattle.q4_def.specs.declared.table_def.TableDef.{TableDef}
use Rattle.q4_machine.specs.declared.looks.Listed.{Listed}
use Rattle.q4_machine.specs.Definitions.{IsListed}
use Rattle.q4_machine.specs.Opening.{Opening}
use Rattle.q4_machine.specs.Machine.{table_at}
use Rattle.q4_machine.specs.Kept.{kept_at, keep_listed, keep_all, AreKept, KeepSame, moved_by, kept_or, kept_after}

-- ## A list of conditions is kept in order

-- one condition more
keep_push : (xs : List Listed) (l : Listed) (kept : List (List Cursor)) → keep_all (xs ++ l ∷ []) kept ≡ keep_listed l (keep_all xs kept)
keep_push [] l kept = refl
keep_push (x ∷ xs) l kept = keep_push xs l (keep_listed x kept)

pub keep_more : (list : List Listed) (i : ℕ) (l : Listed) (first kept : List (List Cursor)) → i < length list → l ≡ get_or list i l → kept ≡ keep_all (take i list) first → keep_listed l kept ≡ keep_all (take (i + 1) list) first
keep_more list i l first kept inside is so_far =
    ap (keep_listed l) so_far ∙ sym (keep_push (take i list) l first) ∙ ap (λ x. keep_all (take i list ++ x ∷ []) first) is ∙ ap (λ xs. keep_all xs first) (sym (take_more list i l inside))

-- what holds holds where memory was refused
pub where_refused : (P : Type 0) (result : Result (Unit {0}) NoMemory) → P → OnErr result P
where_refused P (Ok done) p = tt
where_refused P (Err f) p = p

-- the trees that are listed for the table at a place
trees_at : ℕ → List Listed → List (Option Tree)
trees_at place [] = []
trees_at place (l ∷ ls) = cond (l.table == place) (l.cond.tree ∷ trees_at place ls) (trees_at place ls)

trees_cases : (place : ℕ) (l : Listed) (ls : List Listed) (b : Bool) → length (trees_at place ls) ≤ length ls → length (cond b (l.cond.tree ∷ trees_at place ls) (trees_at place ls)) ≤ length (l ∷ ls)
trees_cases place l ls true few = omega (arith, few)
trees_cases place l ls false few = omega (arith, few)

trees_few : (place : ℕ) (list : List Listed) → length (trees_at place list) ≤ length list
unfolding trees_at
trees_few place [] = omega arith
trees_few place (l ∷ ls) = trees_cases place l ls (l.table == place) (trees_few place ls)

-- what the table at a place keeps of a list
kept_for : (place : ℕ) (list : List Listed) (kept : List (List Cursor)) → All (λ (l : Listed). l.table < length kept) list → kept_at (keep_all list kept) place ≡ with_each_kept (trees_at place list) (kept_at kept place)
unfolding trees_at
kept_for place [] kept inside = refl
kept_for place (l ∷ ls) kept inside =
    let new = with_kept l.cond.tree (kept_at kept l.table) in
    let here : l.table < length kept = All-head (λ (x : Listed). x.table < length kept) l ls inside in
    let rest = All-weaker (λ (x : Listed). x.table < length kept) (λ (x : Listed). x.table < length (keep_listed l kept)) (λ x lt. subst (λ n. x.table < n) (sym (length-set kept l.table new)) lt) ls (All-tail (λ (x : Listed). x.table < length kept) l ls inside) in
    kept_for place ls (keep_listed l kept) rest
    ∙ elim (cases_eq l.table place) as (λ _. with_each_kept (trees_at place ls) (kept_at (keep_listed l kept) place) ≡ with_each_kept (trees_at place (l ∷ ls)) (kept_at kept place)) [
      | inl same ↦
          ap (λ p. with_each_kept (trees_at place ls) (kept_at (keep_listed l kept) p)) (sym same)
          ∙ ap (with_each_kept (trees_at place ls)) (get_or-set_same kept l.table new [] here)
          ∙ ap (λ p. with_each_kept (trees_at place ls) (with_kept l.cond.tree (kept_at kept p))) same
          ∙ sym (ap (λ (b : Bool). with_each_kept (cond b (l.cond.tree ∷ trees_at place ls) (trees_at place ls)) (kept_at kept place)) (eq-eqb l.table place same))
      | inr apart ↦
          ap (with_each_kept (trees_at place ls)) (get_or-set_other kept l.table place new [] (λ is. apart (sym is)))
          ∙ sym (ap (λ (b : Bool). with_each_kept (cond b (l.cond.tree ∷ trees_at place ls) (trees_at place ls)) (kept_at kept place)) (ne_eqb l.table place apart))
    ]

-- what holds of the trees of a table holds of each entry that is listed for it
for_cases : (place : ℕ) (P : Option Tree → Type 0) (l : Listed) (ls : List Listed) (b : Bool) → (l.table == place) ≡ b → All P (cond b (l.cond.tree ∷ trees_at place ls) (trees_at place ls))
    → (All P (trees_at place ls) → All (λ (x : Listed). x.table ≡ place → P x.cond.tree) ls) → All (λ (x : Listed). x.table ≡ place → P x.cond.tree) (l ∷ ls)
for_cases place P l ls true test all later =
    All-cons (λ (x : Listed). x.table ≡ place → P x.cond.tree) l ls (λ _. All-head P l.cond.tree (trees_at place ls) all) (later (All-tail P l.cond.tree (trees_at place ls) all))
for_cases place P l ls false test all later =
    All-cons (λ (x : Listed). x.table ≡ place → P x.cond.tree) l ls (λ is. absurd (eqb-false l.table place test is)) (later all)

for_listed : (place : ℕ) (P : Option Tree → Type 0) (list : List Listed) → All P (trees_at place list) → All (λ (x : Listed). x.table ≡ place → P x.cond.tree) list
unfolding trees_at
for_listed place P [] all = All-nil (λ (x : Listed). x.table ≡ place → P x.cond.tree)
for_listed place P (l ∷ ls) all = for_cases place P l ls (l.table == place) refl all (for_listed place P ls)

-- Where at most 64 conditions are listed, each is kept in its table then.
pub all_kept : (list : List Listed) (kept : List (List Cursor)) → length list ≤ 64 → All (λ (l : Listed). l.table < length kept) list → AreKept (keep_all list kept) list
all_kept list kept few inside = λ k d lt.
    let l = get_or list k d in
    let trees = trees_at l.table list in
    let start = kept_at kept l.table in
    let size = trees_few l.table list in
    let each = kept-each trees start (omega (arith, size, few)) in
    let this = for_listed l.table (λ tree. is_kept (with_each_kept trees start) tree ≡ true) list each k d lt refl in
    ap (λ ks. is_kept ks l.cond.tree) (kept_for l.table list kept inside) ∙ this

-- what is listed has a list of cursors
pub listed_lists : (defs : List TableDef) (list : List Listed) (kept : List (List Cursor)) → length kept ≡ length defs → All (IsListed defs) list → All (λ (l : Listed). l.table < length kept) list
listed_lists defs list kept size listed = All-weaker (IsListed defs) (λ (l : Listed). l.table < length kept) (λ l is. subst (λ n. l.table < n) (sym size) is.inside) list listed

-- ## Looks leave what is kept

kept_cons : (tree : Option Tree) (c : Cursor) (cs : List Cursor) (b : Bool) → is_some (option_map (λ (d : Cursor). d.from) (cond b (Some c) (find (is_for tree) cs))) ≡ (b || is_kept cs tree)
kept_cons tree c cs true = refl
kept_cons tree c cs false = refl

moved_cases : (tree other : Option Tree) (to : ℕ) (c : Cursor) (cs : List Cursor) (b : Bool) → is_kept (with_moved tree to cs) other ≡ is_kept cs other
    → is_kept (cond b (record { tree = c.tree; from = to } ∷ cs) (c ∷ with_moved tree to cs)) other ≡ is_kept (c ∷ cs) other
moved_cases tree other to c cs true later = kept_cons other (record { tree = c.tree; from = to }) cs (is_for other c) ∙ sym (kept_cons other c cs (is_for other c))
moved_cases tree other to c cs false later = kept_cons other c (with_moved tree to cs) (is_for other c) ∙ ap (λ k. is_for other c || k) later ∙ sym (kept_cons other c cs (is_for other c))

moved_same : (tree other : Option Tree) (to : ℕ) (kept : List Cursor) → is_kept (with_moved tree to kept) other ≡ is_kept kept other
moved_same tree other to [] = refl
moved_same tree other to (c ∷ cs) = moved_cases tree other to c cs (is_for tree c) (moved_same tree other to cs)

-- one table's list is changed into one of the same conditions
set_same : (kept : List (List Cursor)) (t : ℕ) (new : List Cursor) → ((tree : Option Tree) → is_kept new tree ≡ is_kept (kept_at kept t) tree) → KeepSame kept (set kept t new)
set_same kept t new same = λ place tree. elim (cases_eq place t) as (λ _. is_kept (kept_at (set kept t new) place) tree ≡ is_kept (kept_at kept place) tree) [
  | inl here ↦ elim (cases_lt t (length kept)) as (λ _. is_kept (kept_at (set kept t new) place) tree ≡ is_kept (kept_at kept place) tree) [
    | inl inside ↦
        ap (λ p. is_kept (kept_at (set kept t new) p) tree) here ∙ ap (λ ks. is_kept ks tree) (get_or-set_same kept t new [] inside) ∙ same tree ∙ ap (λ p. is_kept (kept_at kept p) tree) (sym here)
    | inr past ↦
        let size = length-set kept t new in
        ap (λ p. is_kept (kept_at (set kept t new) p) tree) here
        ∙ ap (λ ks. is_kept ks tree) (get_or-eq_default (set kept t new) [] (omega (arith, size, past)) ∙ sym (get_or-eq_default kept [] past))
        ∙ ap (λ p. is_kept (kept_at kept p) tree) (sym here)
  ]
  | inr apart ↦ ap (λ ks. is_kept ks tree) (get_or-set_other kept t place new [] apart)
]

or_same : (o : Option ℕ) (kept moved later : List (List Cursor)) → KeepSame kept moved → KeepSame moved later → KeepSame kept (kept_or o moved later)
or_same (Some n) kept moved later here rest = here
or_same None kept moved later here rest = λ place tree. rest place tree ∙ here place tree

-- a look leaves the conditions that are kept
pub look_same : (tables : List Opening) (list : List Listed) (kept : List (List Cursor)) → KeepSame kept (kept_after tables list kept)
look_same tables [] kept = λ place tree. refl
look_same tables (l ∷ ls) kept =
    let table = table_at tables l.table in
    let found = oldest_meeting table.rows l.cond.tree in
    let moved = moved_by tables l kept in
    or_same found kept moved (kept_after tables ls moved) (set_same kept l.table (with_moved l.cond.tree (end_of_look table found) (kept_at kept l.table)) (λ tree. moved_same l.cond.tree tree (end_of_look table found) (kept_at kept l.table))) (look_same tables ls moved)

pub same_more : (first kept new : List (List Cursor)) → KeepSame first kept → KeepSame kept new → KeepSame first new
same_more first kept new before now = λ place tree. now place tree ∙ before place tree

-- a wait looks again
pub still_same : (first kept new : List (List Cursor)) (tables : List Opening) (list : List Listed) → KeepSame first kept → new ≡ kept_after tables list kept → KeepSame first new
still_same first kept new tables list before is = same_more first kept new before (subst (KeepSame kept) (sym is) (look_same tables list kept))

-- what is kept stays so
pub kept_still : (old new : List (List Cursor)) (list : List Listed) → KeepSame old new → AreKept old list → AreKept new list
kept_still old new list same are =
    All-weaker (λ (l : Listed). is_kept (kept_at old l.table) l.cond.tree ≡ true) (λ (l : Listed). is_kept (kept_at new l.table) l.cond.tree ≡ true) (λ l is. same l.table l.cond.tree ∙ is) list are
