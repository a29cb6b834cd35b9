-- What is picked is the oldest row that nobody owns and that meets the condition of the earliest entry that any meets.
use Rattle.std.proofs.Common.{◌≡◌, ◌+◌, ◌++◌, ◌∷◌, [], List, ℕ, Option, Some, None, All, length, refl, ap, subst, arith}
use Rattle.std.proofs.lemmas.List.Elements.{All-nil, All-cons, All-head, All-tail, All-weaker, All-get_or}
use Rattle.q4_table.specs.Oldest.{oldest_meeting, TakesOldest}
use Rattle.q4_machine.specs.declared.looks.Listed.{Listed}
use Rattle.q4_machine.specs.Opening.{Opening}
use Rattle.q4_machine.specs.Definitions.{definitions, IsListed}
use Rattle.q4_machine.specs.Machine.{no_table, table_at}
use Rattle.q4_machine.specs.Pick.{Picked, pick_or, pick_from}
use Rattle.q4_machine.specs.Valid.{AreValidTables}
use Rattle.q4_machine.specs.Looked.{NoneFree}
use Rattle.q4_machine.proofs.Defined.{listed_inside}
use Rattle.q4_table.proofs.Lookup.{some_of}
use Rattle.q4_machine.proofs.Steps.{IsValidOpening}
use Rattle.q4_table.proofs.Looks.{takes_oldest}
use Rattle.q4_table.specs.Valid.{IsValidTable}
use Rattle.q4_machine.proofs.Validity.{none_some}

abbrev pub listed_oldest : List Opening → Listed → Option ℕ
listed_oldest tables l = oldest_meeting (table_at tables l.table).rows l.cond.tree

-- what a look would take of the listed table
abbrev pub Takes : List Opening → Listed → Type 0
Takes tables l = TakesOldest (table_at tables l.table).rows l.cond.tree (listed_oldest tables l)

pub all_take : (tables : List Opening) (list : List Listed) → AreValidTables tables → All (IsListed (definitions tables)) list → All (Takes tables) list
all_take tables list valid listed =
    All-weaker (IsListed (definitions tables)) (Takes tables)
    (λ l is.
    let table = table_at tables l.table in
    let valid_one : IsValidTable table = All-get_or IsValidOpening tables l.table no_table (listed_inside tables l is) valid in
    takes_oldest l.cond.tree table.next table.rows valid_one.numbers) list listed

-- What was picked: its entry in the list, the entries before it without a free row, and its number.
pub record PickedAt (tables : List Opening) (place : ℕ) (list : List Listed) (p : Picked) : Type 0 where
  pub earlier : List Listed
  pub listed : Listed
  pub later : List Listed
  pub cut : list ≡ earlier ++ listed ∷ later
  pub table_is : p.table ≡ listed.table
  pub place_is : p.place ≡ length earlier + place
  pub none_earlier : All (NoneFree tables) earlier
  pub takes : TakesOldest (table_at tables listed.table).rows listed.cond.tree (Some p.number)

none_free : (tables : List Opening) (l : Listed) → Takes tables l → listed_oldest tables l ≡ None → NoneFree tables l
none_free tables l takes is = subst (TakesOldest (table_at tables l.table).rows l.cond.tree) is takes

picked_step : (tables : List Opening) (place : ℕ) (l : Listed) (ls : List Listed) (p : Picked) (o : Option ℕ) → listed_oldest tables l ≡ o → Takes tables l → pick_or place l.table o (pick_from tables (place + 1) ls) ≡ Some p
    → (pick_from tables (place + 1) ls ≡ Some p → PickedAt tables (place + 1) ls p) → PickedAt tables place (l ∷ ls) p
picked_step tables place l ls p (Some n) is takes here later =
    let same : record { place = place; table = l.table; number = n } ≡ p = some_of (record { place = place; table = l.table; number = n }) p here in
    subst (λ (q : Picked). PickedAt tables place (l ∷ ls) q) same
    (record { earlier = []; listed = l; later = ls; cut = refl; table_is = refl; place_is = omega arith; none_earlier = All-nil (NoneFree tables); takes = subst (TakesOldest (table_at tables l.table).rows l.cond.tree) is takes })
picked_step tables place l ls p None is takes here later =
    let rest = later here in
    record {
      earlier = l ∷ rest.earlier;
      listed = rest.listed;
      later = rest.later;
      cut = ap (λ xs. l ∷ xs) rest.cut;
      table_is = rest.table_is;
      place_is = omega (arith, rest.place_is);
      none_earlier = All-cons (NoneFree tables) l rest.earlier (none_free tables l takes is) rest.none_earlier;
      takes = rest.takes;
    }

pub picked_at : (tables : List Opening) (place : ℕ) (list : List Listed) (p : Picked) → All (Takes tables) list → pick_from tables place list ≡ Some p → PickedAt tables place list p
picked_at tables place [] p takes is = absurd (none_some p is)
picked_at tables place (l ∷ ls) p takes is =
    picked_step tables place l ls p (listed_oldest tables l) refl (All-head (Takes tables) l ls takes) is (picked_at tables (place + 1) ls p (All-tail (Takes tables) l ls takes))

none_picked_step : (tables : List Opening) (place : ℕ) (l : Listed) (ls : List Listed) (o : Option ℕ) → listed_oldest tables l ≡ o → Takes tables l → pick_or place l.table o (pick_from tables (place + 1) ls) ≡ None
    → (pick_from tables (place + 1) ls ≡ None → All (NoneFree tables) ls) → All (NoneFree tables) (l ∷ ls)
none_picked_step tables place l ls (Some n) is takes here later = absurd (some_none (record { place = place; table = l.table; number = n }) here) where
  some_none : (p : Picked) → Some p ≡ None → ⊥
  some_none p e = cc e
none_picked_step tables place l ls None is takes here later = All-cons (NoneFree tables) l ls (none_free tables l takes is) (later here)

pub none_picked : (tables : List Opening) (place : ℕ) (list : List Listed) → All (Takes tables) list → pick_from tables place list ≡ None → All (NoneFree tables) list
none_picked tables place [] takes is = All-nil (NoneFree tables)
none_picked tables place (l ∷ ls) takes is =
    none_picked_step tables place l ls (listed_oldest tables l) refl (All-head (Takes tables) l ls takes) is (none_picked tables (place + 1) ls (All-tail (Takes tables) l ls takes))
