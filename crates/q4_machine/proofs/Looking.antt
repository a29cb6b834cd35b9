-- A look takes what it picks, from a valid machine, and each step keeps a machine valid.
use Rattle.std.proofs.Common.{◌≡◌, ◌≢◌, ◌<◌, ◌++◌, ◌∷◌, ◌∙◌, List, ℕ, Option, Some, None, All, length, drop, get_or, refl, sym, ap, subst}
use Rattle.std.proofs.Math.Seq.{drop-append_seam}
use Rattle.std.specs.Prelude.{IsSome, option_and_then}
use Rattle.std.specs.Option.{IsSomeAnd}
use Rattle.std.proofs.lemmas.List.{get_or_default}
use Rattle.std.proofs.lemmas.List.Elements.{All-drop, All-head}
use Rattle.q4_value.specs.declared.row.Value.{Value}
use Rattle.q4_value.specs.Row.{Fits}
use Rattle.q4_cond.specs.Tree.{Tree}
use Rattle.q4_table.specs.declared.adding.Check.{Check}
use Rattle.q4_table.specs.declared.adding.Check.TheVariants as check
use Rattle.q4_table.specs.declared.rows.StoredRow.{StoredRow}
use Rattle.q4_table.specs.TableState.{TableState}
use Rattle.q4_table.specs.Rows.{with_owner}
use Rattle.q4_table.specs.Adding.{check_of}
use Rattle.q4_table.specs.Oldest.{IsFree, IsOldest}
use Rattle.q4_machine.specs.declared.looks.Listed.{Listed}
use Rattle.q4_machine.specs.declared.session.SessionMode.TheVariants.{NonOwner, Empty, Owner}
use Rattle.q4_machine.specs.Opening.{Opening}
use Rattle.q4_machine.specs.declared.entry.Call.{Call}
use Rattle.q4_machine.specs.declared.entry.Call.TheVariants.{Opened, Open, Insert, Look, End, Abort, RowId, Select, Close, Sync}
use Rattle.q4_machine.specs.Definitions.{definitions, IsRowFor, IsListed}
use Rattle.q4_machine.specs.Machine.{MachineState, no_table, opening_at, table_at, mode_of, owner_at}
use Rattle.q4_machine.specs.Pick.{Picked, pick, pick_from}
use Rattle.q4_machine.specs.Step.{step, MayStep, inserted, looked}
use Rattle.q4_machine.specs.Valid.{IsValid}
use Rattle.q4_machine.specs.Looked.{LookAnswers}
use Rattle.q4_machine.proofs.Defined.{columns_of, inside_tables, listed_inside}
use Rattle.q4_machine.proofs.Validity.{none_some, mode_given, owner_given}
use Rattle.q4_machine.proofs.Steps.{valid_quiet, valid_taken, valid_opened, valid_added, valid_ended, valid_aborted, valid_closed, owner_same, not_owner, not_empty}
use Rattle.q4_machine.proofs.Picks.{PickedAt, all_take, picked_at, none_picked}

-- What a look finds, all together.
pub record Finds (m : MachineState) (list : List Listed) (p : Picked) : Type 0 where
  pub at : PickedAt m.tables 1 list p
  pub inside : p.table < length m.tables
  pub oldest : IsOldest (table_at m.tables p.table).rows at.listed.cond.tree p.number

listed_at : (m : MachineState) (list earlier later : List Listed) (l : Listed) → All (IsListed (definitions m.tables)) list → list ≡ earlier ++ l ∷ later → IsListed (definitions m.tables) l
listed_at m list earlier later l listed cut =
    let P = IsListed (definitions m.tables) in
    let whole : All P (earlier ++ l ∷ later) = subst (All P) cut listed in
    let rest : All P (drop (length earlier) (earlier ++ l ∷ later)) = All-drop P (length earlier) (earlier ++ l ∷ later) whole in
    All-head P l later (subst (All P) (drop-append_seam earlier (l ∷ later)) rest)

pub finds : (m : MachineState) (list : List Listed) (p : Picked) → IsValid m → All (IsListed (definitions m.tables)) list → pick m list ≡ Some p → Finds m list p
finds m list p valid listed is =
    let at = picked_at m.tables 1 list p (all_take m.tables list valid.tables listed) is in
    let there = listed_at m list at.earlier at.later at.listed listed at.cut in
    record {
      at = at;
      inside = subst (λ t. t < length m.tables) (sym at.table_is) (listed_inside m.tables at.listed there);
      oldest = subst (λ t. IsOldest (table_at m.tables t).rows at.listed.cond.tree p.number) (sym at.table_is) at.takes;
    }

mode_there : (m : MachineState) (s : ℕ) → mode_of m s ≡ Some NonOwner → mode_of m s ≢ None
mode_there m s was none = none_some NonOwner (sym none ∙ was)

free_there : (tree : Option Tree) (o : Option StoredRow) → IsSomeAnd o (IsFree tree) → o ≢ None
free_there tree None free is = absurd free
free_there tree (Some r) free is = none_some r (sym is)

free_unowned : (tree : Option Tree) (o : Option StoredRow) → IsSomeAnd o (IsFree tree) → option_and_then (λ (r : StoredRow). r.owner) o ≡ None
free_unowned tree None free = absurd free
free_unowned tree (Some r) free = free.unowned

-- as a table wants it to give the row to a session
pub free_owned_by_none : (tree : Option Tree) (o : Option StoredRow) → IsSomeAnd o (IsFree tree) → IsSomeAnd o (λ r. r.owner ≡ None)
free_owned_by_none tree None free = absurd free
free_owned_by_none tree (Some r) free = free.unowned

pub valid_found : (m : MachineState) (s : ℕ) (list : List Listed) (p : Picked) → IsValid m → mode_of m s ≡ Some NonOwner → Finds m list p → IsValid (looked m s (Some p)).0
valid_found m s list p valid was found =
    valid_taken m s p.table p.number valid was found.inside (free_there found.at.listed.cond.tree _ found.oldest.free) (free_unowned found.at.listed.cond.tree _ found.oldest.free)

pub valid_looked : (m : MachineState) (s : ℕ) (list : List Listed) (o : Option Picked) → pick m list ≡ o → IsValid m → mode_of m s ≡ Some NonOwner → All (IsListed (definitions m.tables)) list → IsValid (looked m s o).0
valid_looked m s list None is valid was listed = valid_quiet m s NonOwner Empty valid was not_owner not_empty
valid_looked m s list (Some p) is valid was listed = valid_found m s list p valid was (finds m list p valid listed is)

pub valid_inserted : (m : MachineState) (t : ℕ) (row : List Value) (c : Check) → check_of (table_at m.tables t) row None ≡ c → IsValid m → IsRowFor (definitions m.tables) t row → IsValid (inserted m t row c).0
valid_inserted m t row check.New is valid for_it =
    valid_added m t row valid (inside_tables m.tables t for_it.inside) (subst (λ cs. Fits cs row) (columns_of m.tables t) for_it.fits) is
valid_inserted m t row (check.Seen mark) is valid for_it = valid
valid_inserted m t row check.Spent is valid for_it = valid
valid_inserted m t row check.Rows is valid for_it = valid
valid_inserted m t row (check.Bytes sum) is valid for_it = valid

-- Each step from a valid machine leads to a valid one.
pub valid_step : (m : MachineState) (session : ℕ) (call : Call) → IsValid m → MayStep m session call → IsValid (step m session call).0
valid_step m session (Opened tables) valid may = absurd may
valid_step m session Open valid may = valid_opened m session valid
valid_step m session (Insert place row) valid may = valid_inserted m place row (check_of (table_at m.tables place) row None) refl valid may.1
valid_step m session (Look list) valid may = valid_looked m session list (pick m list) refl valid may.0 may.1
valid_step m session End valid may = valid_ended m session (mode_of m session) refl valid
valid_step m session Abort valid may = valid_aborted m session (mode_of m session) refl valid
valid_step m session RowId valid may = valid
valid_step m session (Select place most) valid may = valid
valid_step m session Close valid may = valid_closed m session (mode_of m session) refl valid
valid_step m session Sync valid may = valid

-- What a look is answered, in the rules' words.
look_answers_from : (m : MachineState) (s : ℕ) (list : List Listed) (o : Option Picked) → pick m list ≡ o → IsValid m → mode_of m s ≡ Some NonOwner → All (IsListed (definitions m.tables)) list
    → LookAnswers m (looked m s o).0 s list (looked m s o).1
look_answers_from m s list None is valid was listed = record {
  none = none_picked m.tables 1 list (all_take m.tables list valid.tables listed) is;
  mode = mode_given s Empty m.sessions (mode_there m s was);
}
look_answers_from m s list (Some p) is valid was listed =
    let found = finds m list p valid listed is in
    let after = (looked m s (Some p)).0 in
    let rows = (table_at m.tables p.table).rows in
    let taken : TableState = record (table_at m.tables p.table) { rows = with_owner p.number (Some s) rows } in
    record {
      earlier = found.at.earlier;
      listed = found.at.listed;
      later = found.at.later;
      cut = found.at.cut;
      place_is = found.at.place_is;
      number = p.number;
      none_earlier = found.at.none_earlier;
      oldest = found.at.takes;
      owner = subst (λ t. owner_at after t p.number ≡ Some s) found.at.table_is (owner_same m p.table taken p.number found.inside ∙ owner_given p.number (Some s) rows (free_there found.at.listed.cond.tree _ found.oldest.free));
      mode = mode_given s (Owner p.table p.number) m.sessions (mode_there m s was) ∙ ap (λ t. Some (Owner t p.number)) found.at.table_is;
    }

pub look_answers : (m : MachineState) (s : ℕ) (list : List Listed) → IsValid m → MayStep m s (Look list) → LookAnswers m (step m s (Look list)).0 s list (step m s (Look list)).1
look_answers m s list valid may = look_answers_from m s list (pick m list) refl valid may.0 may.1

-- ## As the code finds it

owner_some : (o : Option ℕ) (s : ℕ) → o ≡ Some s → IsSome o
owner_some None s is = absurd (none_some s is)
owner_some (Some x) s is = refl

-- a row with an owner, as a table wants it to take the owner away, and to remove the row
pub owner_owned : (o : Option StoredRow) (s : ℕ) → option_and_then (λ (r : StoredRow). r.owner) o ≡ Some s → IsSomeAnd o (λ r. IsSome r.owner)
owner_owned None s is = absurd (none_some s is)
owner_owned (Some r) s is = owner_some r.owner s is

pub owner_there : (o : Option StoredRow) (s : ℕ) → option_and_then (λ (r : StoredRow). r.owner) o ≡ Some s → IsSome o
owner_there None s is = absurd (none_some s is)
owner_there (Some r) s is = refl

-- what the search of the list found, as a pick of the machine
pub found_pick : (m : MachineState) (list read : List Listed) (o : Option Picked) → read ≡ list → o ≡ pick_from m.tables 1 read → pick m list ≡ o
found_pick m list read o same is = sym (is ∙ ap (λ l. pick_from m.tables 1 l) same)
