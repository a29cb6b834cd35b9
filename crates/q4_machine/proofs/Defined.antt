-- The definitions of tables stay as they are.
use Rattle.std.proofs.Common.{◌≡◌, ◌<◌, List, ℕ, Option, Some, None, length, refl, ap, subst}
use Rattle.std.proofs.Math.ListN.{get_or-map}
use Rattle.std.proofs.Math.Seq.{map-set_same}
use Rattle.std.proofs.lemmas.List.{length-map}
use Rattle.q4_value.specs.declared.row.Value.{Value}
use Rattle.q4_table.specs.declared.adding.Check.{Check}
use Rattle.q4_table.specs.declared.adding.Check.TheVariants as check
use Rattle.q4_table.specs.TableState.{TableState}
use Rattle.q4_table.specs.Adding.{check_of}
use Rattle.q4_def.specs.declared.table_def.TableDef.{TableDef}
use Rattle.q4_machine.specs.declared.session.SessionMode.{SessionMode}
use Rattle.q4_machine.specs.declared.session.SessionMode.TheVariants.{NonOwner, Empty, Owner}
use Rattle.q4_machine.specs.declared.looks.Listed.{Listed}
use Rattle.q4_machine.specs.Opening.{Opening}
use Rattle.q4_machine.specs.declared.entry.Call.{Call}
use Rattle.q4_machine.specs.declared.entry.Call.TheVariants.{Opened, Open, Insert, Look, End, Abort, RowId, Select, Close, Sync}
use Rattle.q4_machine.specs.Definitions.{definition_of, definitions, columns_at, IsListed}
use Rattle.q4_machine.specs.Machine.{MachineState, no_table, opening_at, table_at, mode_of}
use Rattle.q4_machine.specs.Pick.{Picked, pick}
use Rattle.q4_machine.specs.Step.{step, MayStep, with_table, inserted, looked, ended, aborted, closed}

-- ## A table's columns, by its place

pub columns_of : (tables : List Opening) (place : ℕ) → columns_at (definitions tables) place ≡ (table_at tables place).columns
columns_of tables place = ap (λ (d : TableDef). d.columns) (get_or-map definition_of tables place no_table)

pub inside_tables : (tables : List Opening) (place : ℕ) → place < length (definitions tables) → place < length tables
inside_tables tables place inside = subst (λ n. place < n) (length-map tables definition_of) inside

pub listed_inside : (tables : List Opening) (l : Listed) → IsListed (definitions tables) l → l.table < length tables
listed_inside tables l listed = inside_tables tables l.table listed.inside

-- ## Steps

-- a table of the same columns in the place of one
pub defined_table : (m : MachineState) (t : ℕ) (table : TableState) → table.columns ≡ (table_at m.tables t).columns → definitions (with_table m t table).tables ≡ definitions m.tables
defined_table m t table same =
    map-set_same definition_of m.tables t (record (opening_at m.tables t) { table = table }) no_table (ap (λ c. record { name = (opening_at m.tables t).name; columns = c }) same)

inserted_defined : (m : MachineState) (t : ℕ) (row : List Value) (c : Check) → definitions (inserted m t row c).0.tables ≡ definitions m.tables
inserted_defined m t row check.New = defined_table m t _ refl
inserted_defined m t row (check.Seen mark) = refl
inserted_defined m t row check.Spent = refl
inserted_defined m t row check.Rows = refl
inserted_defined m t row (check.Bytes sum) = refl

looked_defined : (m : MachineState) (s : ℕ) (o : Option Picked) → definitions (looked m s o).0.tables ≡ definitions m.tables
looked_defined m s (Some p) = defined_table m p.table _ refl
looked_defined m s None = refl

ended_defined : (m : MachineState) (s : ℕ) (o : Option SessionMode) → definitions (ended m s o).0.tables ≡ definitions m.tables
ended_defined m s (Some NonOwner) = refl
ended_defined m s (Some Empty) = refl
ended_defined m s (Some (Owner t n)) = defined_table m t _ refl
ended_defined m s None = refl

aborted_defined : (m : MachineState) (s : ℕ) (o : Option SessionMode) → definitions (aborted m s o).0.tables ≡ definitions m.tables
aborted_defined m s (Some NonOwner) = refl
aborted_defined m s (Some Empty) = refl
aborted_defined m s (Some (Owner t n)) = defined_table m t _ refl
aborted_defined m s None = refl

closed_defined : (m : MachineState) (s : ℕ) (o : Option SessionMode) → definitions (closed m s o).0.tables ≡ definitions m.tables
closed_defined m s (Some NonOwner) = refl
closed_defined m s (Some Empty) = refl
closed_defined m s (Some (Owner t n)) = defined_table m t _ refl
closed_defined m s None = refl

-- no step changes the definitions
pub step_defined : (m : MachineState) (s : ℕ) (call : Call) → MayStep m s call → definitions (step m s call).0.tables ≡ definitions m.tables
step_defined m s (Opened tables) may = absurd may
step_defined m s Open may = refl
step_defined m s (Insert t row) may = inserted_defined m t row (check_of (table_at m.tables t) row None)
step_defined m s (Look list) may = looked_defined m s (pick m list)
step_defined m s End may = ended_defined m s (mode_of m s)
step_defined m s Abort may = aborted_defined m s (mode_of m s)
step_defined m s RowId may = refl
step_defined m s (Select t most) may = refl
step_defined m s Close may = closed_defined m s (mode_of m s)
step_defined m s Sync may = refl
