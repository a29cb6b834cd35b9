-- A side of a narrower schema, whose table is written onto the other side.
use Rattle.std.proofs.Common.{◌≡◌, ℕ, ◌+◌, ◌<◌, ◌⊎◌, Bool, true, false, IsTrue, List, [], ◌∷◌, ◌++◌, length, refl, sym, ◌∙◌, ap, subst, inl, inr, arith}
use Rattle.std.proofs.Math.Logic.{⊎_elim}
use Rattle.q4_value.specs.Names.{AreColumns}
use Rattle.q4_table.specs.TableState.{TableState}
use Rattle.q4_record.specs.Side.{gate_of, generation_limit, generation_of, HasMagic, IsOpen, IsNarrow, OwnSide}
use Rattle.q4_record.specs.Written.{IsWritten}
use Rattle.q4_record.proofs.Leading.{sound_side}
use Rattle.q4_record.proofs.WideSides.{narrow_limit}
use Rattle.q4_disk.specs.declared.disk.Side.{Side}
use Rattle.q4_disk.specs.declared.disk.Side.TheVariants.{A, B}
use Rattle.q4_disk.specs.Told.{Sides, Told}
use Rattle.q4_disk.specs.Images.{on, other, size, Within}
use Rattle.q4_disk.specs.Time.{LeavesOnly, OtherStays}
use Rattle.q4_disk.proofs.Moments.{weaker}
use Rattle.q4_store.specs.declared.fault.OpenFault.TheVariants as fault
use Rattle.q4_store.specs.declared.head.Choice.TheVariants as choice
use Rattle.q4_store.specs.Reading.{IsBehind, IsCurrent, IsOutgrown, Reads, ReadsOwn, ReadsAs, ReadsAsGiven}
use Rattle.q4_store.specs.Parts.{IsShut, IsReady}
use Rattle.q4_store.specs.Store.{IsSettled}
use Rattle.q4_store.specs.Opening.{CountsOpen}
use Rattle.q4_store.specs.Looking.{IsStill, IsChoice, IsLoaded, IsDraft, draft_length}
use Rattle.q4_store.specs.Finding.{LeavesOpened, RestsOpened, HasFound, HasFailed}
use Rattle.q4_store.specs.Device.{Rewrites, load_calls, write_calls}
use Rattle.q4_store.proofs.Commits.{settled_holds}
use Rattle.q4_store.proofs.CopyStands.{current_stays}
use Rattle.q4_store.proofs.Drafts.{are_columns, may_write, draft_side, draft_end}
use Rattle.q4_store.proofs.Finishing.{back_again, spare_then}
use Rattle.q4_store.proofs.Lifting.{Holds}
use Rattle.q4_store.proofs.Quiet.{as_opened}

-- an open gate is not closed
open_not_shut : (bytes : List ℕ) → IsOpen bytes → IsShut bytes → ⊥
open_not_shut bytes is_open shut = shut.closed (sym (ap gate_of shut.is) ∙ is_open.gate)

module _ (table : TableState) (generation end : ℕ) (narrow : Bool) (is : narrow ≡ true) (are : AreColumns table.columns) (sound : (bytes : List ℕ) × IsLoaded table.columns bytes table generation end narrow) where
  pub limit : generation < generation_limit
  limit = narrow_limit table.columns sound.0 table generation end sound.1.side (sound.1.narrow_is.0 is)

  pub to_write : IsWritten table (generation + 1) [] 0 []
  to_write =
      let s = sound_side table.columns sound.0 table generation end (are_columns table.columns are) sound.1.side in
      may_write table (generation + 1) are s.valid s.unowned (omega arith) (omega (arith, limit))

  module _ {D : Type 0} (told : D → Told) (old : D) (side : Side) (known : Bool) (still : IsTrue (told old).honest → IsStill (told old)) (chosen : IsTrue (told old).honest → IsChoice (told old).bytes (choice.Current side known)) (loaded : IsTrue (told old).honest → IsLoaded table.columns (on side (told old).bytes) table generation end narrow)
      (to : Side) (to_is : to ≡ other side) where
    back : (c : Sides) → on (other to) c ≡ on side c
    back c = ap (λ s. on (other s) c) to_is ∙ back_again side c

    told_is : IsTrue (told old).honest → generation ≡ generation_of (on side (told old).bytes)
    told_is h = (loaded h).side.stands.stands.generation_is

    outgrown : IsTrue (told old).honest → IsOutgrown table.columns (told old).bytes
    outgrown h = record { side = side; current = (chosen h).0; narrow = (loaded h).narrow_is.0 is; table = table; generation = generation; len = end; stands = (loaded h).side }

    pub rewritten_reads : IsTrue (told old).honest → Reads table.columns (told old).bytes table generation
    rewritten_reads h = inl (record { side = side; len = end; current = (chosen h).0; stands = (loaded h).side })

    -- the other side counts for nothing, and the one that counts is behind the greater generation
    pub to_ready : IsTrue (told old).honest → Within (told old).images (IsReady known to)
    to_ready h c im = subst (λ s. IsReady known s c) (sym to_is) (subst (IsReady known (other side)) (sym (still h c im)) (chosen h).3)

    pub to_behind : IsTrue (told old).honest → Within (told old).images (λ c. IsBehind (generation + 1) (on (other to) c))
    to_behind h c im =
        let bytes : on (other to) c ≡ on side (told old).bytes = back c ∙ ap (on side) (still h c im) in
        subst (IsBehind (generation + 1)) (sym bytes) (λ is_open. ((chosen h).1, omega (arith, told_is h)))

    pub rewritten_moments : (new : D) → (IsTrue (told old).honest → (told old).images (told old).bytes)
        → (IsTrue (told old).honest → LeavesOnly (told old) (told new) (λ c. ReadsAs table.columns (told old).images c ⊎ ReadsOwn table.columns c table (generation + 1))) → LeavesOpened table.columns told old new
    rewritten_moments new image run h = weaker (told old) (told new) _ _ (run h) (λ c either.
        ⊎_elim (λ like. as_opened table.columns (told old).images c like) (λ made. ((told old).bytes, image h, inr (record { outgrown = outgrown h; table = table; generation = generation; was = rewritten_reads h; now = made }))) either)

    pub rewritten_rests : (new : D) → RestsOpened table.columns told old new
    rewritten_rests new h some own = absurd (own (outgrown h))

    -- the old side, once the new one is open, counts for nothing
    old_ready : (new : D) (len : ℕ) → IsTrue (told old).honest → IsSettled (told new) to table (generation + 1) len → OtherStays to (told old) (told new) → Within (told new).images (IsReady false (other to))
    old_ready new len h settled stays c left =
        let from = stays.each c left in
        let bytes : on side c ≡ on side (told old).bytes = sym (back c) ∙ from.2 ∙ back from.0 ∙ ap (on side) (still h from.0 from.1) in
        let holds = settled_holds (told new) to table (generation + 1) len settled c left in
        subst (λ s. IsReady false (other s) c) (sym to_is)
        (spare_then side generation c (subst (λ s. Holds s (generation + 1) c) to_is holds) (subst HasMagic (sym bytes) (chosen h).1) (ap generation_of bytes ∙ sym (told_is h)))

    pub rewritten_found : (new : D) (base header handed : List ℕ) → IsDraft table (generation + 1) base header → handed ≡ base → (told new).faults ≡ (told old).faults → LeavesOpened table.columns told old new
        → (IsTrue (told old).honest → LeavesOnly (told old) (told new) (ReadsAsGiven table.columns table (generation + 1) (told old).images))
        → (IsTrue (told old).honest → IsSettled (told new) to table (generation + 1) (draft_length table)) → (IsTrue (told old).honest → OtherStays to (told old) (told new)) → HasFound table.columns told old new table to (generation + 1) (21 + length handed) false
    rewritten_found new base header handed draft same calm run given settled stays =
        subst (λ (n : ℕ). HasFound table.columns told old new table to (generation + 1) n false) (draft_end table (generation + 1) base header handed draft same) (record {
          calm = calm;
          any_moment = run;
          given = given;
          rests = rewritten_rests new;
          sound = (1 ∷ (header ++ base), draft_side table (generation + 1) base header to_write draft);
          reads = λ h. inr (outgrown h, (generation, rewritten_reads h, refl));
          side_is = λ h. inr (inl (
            subst (λ s. IsCurrent s (told old).bytes) (sym (sides_back h)) (chosen h).0,
            subst (λ s. IsNarrow table.columns (on s (told old).bytes)) (sym (sides_back h)) ((loaded h).narrow_is.0 is),
          ));
          settled = settled;
          ready = λ h. old_ready new (draft_length table) h (settled h) (stays h);
          known_is = λ h. (λ wrong. cc wrong, λ shut. absurd (open_not_shut (on side (told old).bytes) (chosen h).0.is_open (subst IsShut (back (told old).bytes) shut)));
        })
      where
        sides_back : IsTrue (told old).honest → other to ≡ side
        sides_back h = ap other to_is ∙ twice side
          where
            twice : (s : Side) → other (other s) ≡ s
            twice A = refl
            twice B = refl

    pub rewritten_calls : (n : ℕ) → (IsTrue (told old).honest → n ≡ size side (told old).bytes) → Rewrites table.columns (told old) (load_calls side n ++ write_calls (other side) known table (generation + 1))
    rewritten_calls n whole = record {
      side = side;
      length = n;
      known = known;
      table = table;
      generation = generation;
      are = refl;
      current = λ h. (chosen h).0;
      whole = whole;
      narrow = λ h. (loaded h).narrow_is.0 is;
      reads = rewritten_reads;
      known_is = λ h. (chosen h).2;
    }

    pub rewritten_failed : (new : D) → CountsOpen fault.Disk (told old).faults (told new).faults → LeavesOpened table.columns told old new → HasFailed table.columns told old new fault.Disk
    rewritten_failed new counts run = record { counts = counts; refused = λ other. absurd (other refl); any_moment = run; rests = rewritten_rests new; fails = λ h. tt }
