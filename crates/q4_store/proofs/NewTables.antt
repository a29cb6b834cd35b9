-- A new table, which is written onto side A where neither side is open.
use Rattle.std.proofs.Common.{◌≡◌, ℕ, ◌+◌, ◌<◌, ◌⊎◌, Bool, true, false, IsTrue, List, [], ◌∷◌, ◌++◌, length, refl, sym, ◌∙◌, ap, subst, inl, inr}
use Rattle.std.proofs.Math.Logic.{⊎_elim}
use Rattle.q4_value.specs.declared.column.Column.{Column}
use Rattle.q4_value.specs.Names.{AreColumns}
use Rattle.q4_table.specs.TableState.{TableState, new_table}
use Rattle.q4_record.specs.Side.{base_at, IsOpen, OwnSide}
use Rattle.q4_record.specs.Written.{IsWritten}
use Rattle.q4_disk.specs.declared.disk.Side.TheVariants.{A, B}
use Rattle.q4_disk.specs.Told.{Sides, Told}
use Rattle.q4_disk.specs.Images.{on, other, Within}
use Rattle.q4_disk.specs.Time.{LeavesOnly, OtherStays}
use Rattle.q4_disk.proofs.Moments.{weaker}
use Rattle.q4_store.specs.declared.fault.OpenFault.TheVariants as fault
use Rattle.q4_store.specs.declared.head.Choice.TheVariants as choice
use Rattle.q4_store.specs.Reading.{IsBehind, ReadsOwn, ReadsAs, ReadsAsGiven}
use Rattle.q4_store.specs.Parts.{IsShut, IsReady}
use Rattle.q4_store.specs.Store.{IsSettled}
use Rattle.q4_store.specs.Opening.{CountsOpen}
use Rattle.q4_store.specs.Looking.{IsStill, IsChoice, IsDraft, draft_length}
use Rattle.q4_store.specs.Finding.{LeavesOpened, RestsOpened, HasFound, HasFailed}
use Rattle.q4_store.proofs.Drafts.{new_is_written, draft_side, draft_end}
use Rattle.q4_store.proofs.Quiet.{outgrown_not, as_opened, made_reads}

-- what is known of side B stays, where side A is not open
ready_there : (known : Bool) (c d : Sides) → c.b ≡ d.b → (IsOpen d.a → ⊥) → IsReady known B d → IsReady known B c
ready_there true c d same closed shut = subst IsShut (sym same) shut
ready_there false c d same closed (inl few) = inl (subst (λ (l : List ℕ). length l < base_at) (sym same) few)
ready_there false c d same closed (inr outdone) = absurd (closed outdone.other_open)

module _ {D : Type 0} (told : D → Told) (old : D) (known other_known : Bool) (columns : List Column) (are : AreColumns columns) (still : IsTrue (told old).honest → IsStill (told old)) (chosen : IsTrue (told old).honest → IsChoice (told old).bytes (choice.Neither known other_known))
    (table : TableState) (table_is : table ≡ new_table columns) where
  pub new_to_write : IsWritten table 1 [] 0 []
  new_to_write = subst (λ t. IsWritten t 1 [] 0 []) (sym table_is) (new_is_written columns are)

  pub new_ready : IsTrue (told old).honest → Within (told old).images (IsReady known A)
  new_ready h c im = subst (IsReady known A) (sym (still h c im)) (chosen h).2

  pub new_behind : IsTrue (told old).honest → Within (told old).images (λ c. IsBehind 1 c.b)
  new_behind h c im is_open = absurd ((chosen h).1 (subst (λ (s : Sides). IsOpen s.b) (still h c im) is_open))

  pub new_moments : (new : D) → (IsTrue (told old).honest → (told old).images (told old).bytes)
      → (IsTrue (told old).honest → LeavesOnly (told old) (told new) (λ c. ReadsAs table.columns (told old).images c ⊎ ReadsOwn table.columns c table 1)) → LeavesOpened columns told old new
  new_moments new image run h =
      weaker (told old) (told new) _ _ (subst (λ (t : TableState). LeavesOnly (told old) (told new) (λ c. ReadsAs t.columns (told old).images c ⊎ ReadsOwn t.columns c t 1)) table_is (run h))
      (λ c either. as_opened columns (told old).images c (⊎_elim (λ like. like) (λ made. made_reads columns (told old).images (told old).bytes c (image h) (chosen h).0 (chosen h).1 made) either))

  pub new_given : (new : D) → (IsTrue (told old).honest → LeavesOnly (told old) (told new) (ReadsAsGiven table.columns table 1 (told old).images)) → IsTrue (told old).honest → LeavesOnly (told old) (told new) (ReadsAsGiven columns table 1 (told old).images)
  new_given new run h = subst (λ cs. LeavesOnly (told old) (told new) (ReadsAsGiven cs table 1 (told old).images)) (ap (λ (t : TableState). t.columns) table_is) (run h)

  new_rests : (new : D) → RestsOpened columns told old new
  new_rests new h some own = absurd (⊎_elim (chosen h).0 (chosen h).1 some)

  pub new_found : (new : D) (base header handed : List ℕ) → IsDraft table 1 base header → handed ≡ base → (told new).faults ≡ (told old).faults → LeavesOpened columns told old new
      → (IsTrue (told old).honest → LeavesOnly (told old) (told new) (ReadsAsGiven columns table 1 (told old).images))
      → (IsTrue (told old).honest → IsSettled (told new) A table 1 (draft_length table)) → (IsTrue (told old).honest → OtherStays A (told old) (told new)) → HasFound columns told old new table A 1 (21 + length handed) other_known
  new_found new base header handed draft same calm run given settled stays =
      let own = ap (λ (t : TableState). t.columns) table_is in
      subst (λ (n : ℕ). HasFound columns told old new table A 1 n other_known) (draft_end table 1 base header handed draft same) (record {
        calm = calm;
        any_moment = run;
        given = given;
        rests = new_rests new;
        sound = (1 ∷ (header ++ base), subst (λ cs. OwnSide cs (1 ∷ (header ++ base)) table 1 (draft_length table)) own (draft_side table 1 base header new_to_write draft));
        reads = λ h. inl (record {
          reads = inr (record { closed_a = (chosen h).0; closed_b = (chosen h).1; table_is = table_is; generation_is = refl });
          own = outgrown_not columns (told old).bytes (chosen h).0 (chosen h).1;
        });
        side_is = λ h. inr (inr ((chosen h).0, (chosen h).1, refl));
        settled = settled;
        ready = λ h c left.
            let from = (stays h).each c left in
            ready_there other_known c (told old).bytes (from.2 ∙ ap (λ (s : Sides). s.b) (still h from.0 from.1)) (chosen h).0 (chosen h).5;
        known_is = λ h. (chosen h).4;
      })

  pub new_failed : (new : D) → CountsOpen fault.Disk (told old).faults (told new).faults → LeavesOpened columns told old new → HasFailed columns told old new fault.Disk
  new_failed new counts run = record { counts = counts; refused = λ other. absurd (other refl); any_moment = run; rests = new_rests new; fails = λ h. tt }
