-- What opening finds on a disk of which a crash leaves only what is read.
use Rattle.std.proofs.Common.{◌≡◌, ◌≢◌, ◌⊎◌, ℕ, Bool, true, false, IsTrue, ◌↔◌, List, refl, sym, ◌∙◌, ap, subst, inl, inr}
use Rattle.std.proofs.Math.Logic.{⊎_elim}
use Rattle.q4_value.specs.declared.column.Column.{Column}
use Rattle.q4_value.specs.Names.{AreColumns}
use Rattle.q4_table.specs.TableState.{TableState}
use Rattle.q4_record.specs.Side.{HasMagic, IsOpen, IsNarrow, OwnSide}
use Rattle.q4_record.specs.declared.side.SideFault.TheVariants as side_fault
use Rattle.q4_record.specs.Faults.{SideFails}
use Rattle.q4_record.specs.Written.{IsSound}
use Rattle.q4_record.proofs.Leading.{sound_own}
use Rattle.q4_disk.specs.declared.disk.Side.{Side}
use Rattle.q4_disk.specs.Told.{Sides, Told}
use Rattle.q4_disk.specs.Images.{on, other}
use Rattle.q4_disk.specs.Time.{LeavesOnly}
use Rattle.q4_disk.proofs.Moments.{began, weaker, then_only}
use Rattle.q4_store.specs.declared.fault.OpenFault.{OpenFault}
use Rattle.q4_store.specs.declared.fault.OpenFault.TheVariants as fault
use Rattle.q4_store.specs.declared.head.Choice.TheVariants as choice
use Rattle.q4_store.specs.Reading.{IsBehind, IsCurrent, IsOutgrown, Opens, ReadsAsOpened, ReadsAsGiven}
use Rattle.q4_store.specs.Parts.{IsShut, IsReady}
use Rattle.q4_store.specs.Store.{IsSettled}
use Rattle.q4_store.specs.Opening.{CountsOpen, IsChosen, OpenFails}
use Rattle.q4_store.specs.Looking.{AddsNone, OnlyReads, HasOpen, IsStill, IsChoice, IsNoChoice, IsLoaded, LoadFails}
use Rattle.q4_store.specs.Finding.{LeavesOpened, RestsOpened, HasFound, HasFailed}
use Rattle.q4_store.proofs.Commits.{not_so}
use Rattle.q4_store.proofs.Lifting.{own_stays}
use Rattle.q4_store.proofs.Quiet.{as_itself, as_opened, opened_then, given_then}
use Rattle.q4_store.proofs.Drafts.{are_columns}

-- a side of these very columns stands for a valid table of them
pub own_sound : (columns : List Column) (bytes : List ℕ) (table : TableState) (generation end : ℕ) → AreColumns columns → OwnSide columns bytes table generation end → IsSound columns table
own_sound columns bytes table generation end are own = sound_own columns bytes table generation end (are_columns columns are) own

pub settled_found : (old new : Told) (side : Side) (columns : List Column) (table : TableState) (generation end : ℕ) → AreColumns columns → IsStill old → AddsNone old new → IsCurrent side old.bytes → OwnSide columns (on side old.bytes) table generation end
    → IsSettled new side table generation end
settled_found old new side columns table generation end are still none current stands =
    let same : table.columns ≡ columns = (own_sound columns (on side old.bytes) table generation end are stands).columns_are in
    let bytes = ap (on side) none.bytes in
    let behind : IsBehind generation (on (other side) old.bytes) = subst (λ (n : ℕ). IsBehind n (on (other side) old.bytes)) (sym stands.stands.generation_is) current.behind in
    record {
      stands = subst (λ (cs : List Column). OwnSide cs (on side new.bytes) table generation end) (sym same) (subst (λ (l : List ℕ). OwnSide columns l table generation end) (sym bytes) stands);
      only = λ c left. ap (on side) (still c (none.images c left)) ∙ sym bytes;
      behind = λ c left. subst (λ (s : Sides). IsBehind generation (on (other side) s)) (sym (still c (none.images c left))) behind;
    }

pub load_fails : (columns : List Column) (sides : Sides) (side : Side) (why : OpenFault) → IsCurrent side sides → HasMagic (on side sides) → LoadFails columns (on side sides) side why → OpenFails columns sides why
load_fails columns sides side fault.Disk current magic fails = tt
load_fails columns sides side (fault.Damaged at place) current magic fails =
    inr (record {
      current = subst (λ (s : Side). IsCurrent s sides) (sym fails.0) current;
      magic = subst (λ (s : Side). HasMagic (on s sides)) (sym fails.0) magic;
      fails = subst (λ (s : Side). SideFails columns (on s sides) (side_fault.Damaged place)) (sym fails.0) fails.1;
    })
load_fails columns sides side (fault.Schema column) current magic fails = (side, record { current = current; magic = magic; fails = fails })
load_fails columns sides side (fault.Large limit) current magic fails = (side, record { current = current; magic = magic; fails = fails })
load_fails columns sides side fault.Memory current magic fails = tt

-- one run that only reads after another
pub reads_on : (a b c : Told) → AddsNone a b → b.writes ≡ a.writes → OnlyReads b c → OnlyReads a c
reads_on a b c first none second = record {
  rests = record {
    bytes = second.rests.bytes ∙ first.bytes;
    images = λ s left. first.images s (second.rests.images s left);
    only = weaker a c (λ x. a.images x ⊎ b.images x) a.images (then_only a b c a.images b.images first.only second.rests.only) (λ x either. ⊎_elim (λ was. was) (first.images x) either);
  };
  writes = second.writes ∙ none;
}

-- a fault that no disk made
pub counts_none : (why : OpenFault) (n : ℕ) → why ≢ fault.Disk → CountsOpen why n n
counts_none fault.Disk n other = absurd (other refl)
counts_none (fault.Damaged side place) n other = refl
counts_none (fault.Schema column) n other = refl
counts_none (fault.Large limit) n other = refl
counts_none fault.Memory n other = refl

pub unclear_fails : (columns : List Column) (sides : Sides) (why : OpenFault) → IsNoChoice sides why → OpenFails columns sides why
unclear_fails columns sides fault.Disk unclear = absurd unclear
unclear_fails columns sides (fault.Damaged side place) unclear = inl unclear
unclear_fails columns sides (fault.Schema column) unclear = absurd unclear
unclear_fails columns sides (fault.Large limit) unclear = absurd unclear
unclear_fails columns sides fault.Memory unclear = absurd unclear

-- before any call
pub nothing_called : (old : Told) → (IsTrue old.honest → (c : Sides) → old.since old.moment c → old.images c) → IsTrue old.honest → AddsNone old old
nothing_called old only_now h = record { bytes = refl; images = λ c im. im; only = (began old old.images old.images h (only_now h) (λ c im. im) (λ c im. im)).only }

-- ## What is found behind calls that only read

module _ {D : Type 0} (columns : List Column) (told : D → Told) (a b c : D) (same : (told b).honest ≡ (told a).honest) (faults : (told b).faults ≡ (told a).faults) (none : IsTrue (told a).honest → AddsNone (told a) (told b)) (writes : (told b).writes ≡ (told a).writes) where
  moments_after : LeavesOpened columns told b c → LeavesOpened columns told a c
  moments_after run h = opened_then columns (told a) (told b) (told c) (none h).only (none h).images (run (same ∙ h))

  rests_after : RestsOpened columns told b c → RestsOpened columns told a c
  rests_after rests h some own =
      let first = none h in
      reads_on (told a) (told b) (told c) first writes (rests (same ∙ h) (subst HasOpen (sym first.bytes) some) (λ outgrown. own (subst (IsOutgrown columns) first.bytes outgrown)))

  refused_after : (why : OpenFault) → (why ≢ fault.Disk → IsTrue (told b).honest → OnlyReads (told b) (told c)) → why ≢ fault.Disk → IsTrue (told a).honest → OnlyReads (told a) (told c)
  refused_after why rests other h = reads_on (told a) (told b) (told c) (none h) writes (rests other (same ∙ h))

  pub found_after : (table : TableState) (side : Side) (generation end : ℕ) (known : Bool) → HasFound columns told b c table side generation end known → HasFound columns told a c table side generation end known
  found_after table side generation end known f = record {
    calm = f.calm ∙ faults;
    any_moment = moments_after f.any_moment;
    given = λ h. given_then columns (told a) (told b) (told c) table generation (none h).only (none h).images (f.given (same ∙ h));
    rests = rests_after f.rests;
    sound = f.sound;
    reads = λ h. subst (λ (s : Sides). Opens columns s table generation) (none h).bytes (f.reads (same ∙ h));
    side_is = λ h. subst (λ (s : Sides). IsChosen columns s side) (none h).bytes (f.side_is (same ∙ h));
    settled = λ h. f.settled (same ∙ h);
    ready = λ h. f.ready (same ∙ h);
    known_is = λ h. subst (λ (s : Sides). (known ≡ true) ↔ IsShut (on (other side) s)) (none h).bytes (f.known_is (same ∙ h));
  }

  pub failed_after : (why : OpenFault) → HasFailed columns told b c why → HasFailed columns told a c why
  failed_after why f = record {
    counts = subst (λ n. CountsOpen why n (told c).faults) faults f.counts;
    refused = refused_after why f.refused;
    any_moment = moments_after f.any_moment;
    rests = rests_after f.rests;
    fails = λ h. subst (λ (s : Sides). OpenFails columns s why) (none h).bytes (f.fails (same ∙ h));
  }

-- where it only reads
module _ {D : Type 0} (columns : List Column) (told : D → Told) (a b : D) (none : IsTrue (told a).honest → AddsNone (told a) (told b)) (writes : (told b).writes ≡ (told a).writes) where
  only_reads : RestsOpened columns told a b
  only_reads h some own = record { rests = none h; writes = writes }

  reads_itself : LeavesOpened columns told a b
  reads_itself h = let images = (told a).images in weaker (told a) (told b) images (ReadsAsOpened columns images) (none h).only (λ c im. as_opened columns images c (as_itself columns images c im))

  pub failed_reading : (why : OpenFault) → CountsOpen why (told a).faults (told b).faults → (IsTrue (told a).honest → OpenFails columns (told a).bytes why) → HasFailed columns told a b why
  failed_reading why counts fails = record { counts = counts; refused = λ other h. record { rests = none h; writes = writes }; any_moment = reads_itself; rests = only_reads; fails = fails }

  -- the side that counts, of these very columns
  pub found_current : (side : Side) (known : Bool) (table : TableState) (generation end : ℕ) (narrow : Bool) → AreColumns columns → narrow ≡ false → (told b).faults ≡ (told a).faults → (IsTrue (told a).honest → IsStill (told a)) → (IsTrue (told a).honest → IsChoice (told a).bytes (choice.Current side known))
      → ((bytes : List ℕ) × IsLoaded columns bytes table generation end narrow) → (IsTrue (told a).honest → IsLoaded columns (on side (told a).bytes) table generation end narrow) → HasFound columns told a b table side generation end known
  found_current side known table generation end narrow are is faults still chosen sound loaded =
      let own : IsTrue (told a).honest → IsNarrow columns (on side (told a).bytes) → ⊥ = λ h. not_so narrow (loaded h).narrow_is is in
      record {
        calm = faults;
        any_moment = reads_itself;
        given = λ h. let images = (told a).images in weaker (told a) (told b) images (ReadsAsGiven columns table generation images) (none h).only (λ c im. inl (as_itself columns images c im));
        rests = only_reads;
        sound = (sound.0, sound.1.own is);
        reads = λ h. inl (record {
          reads = inl (record { side = side; len = end; current = (chosen h).0; stands = (loaded h).side });
          own = own_stays columns side (told a).bytes (chosen h).0 (own h);
        });
        side_is = λ h. inl ((chosen h).0, own h);
        settled = λ h. settled_found (told a) (told b) side columns table generation end are (still h) (none h) (chosen h).0 ((loaded h).own is);
        ready = λ h c left. subst (IsReady known (other side)) (sym (still h c ((none h).images c left))) (chosen h).3;
        known_is = λ h. (chosen h).2;
      }

  pub failed_current : (side : Side) (known : Bool) (why : OpenFault) → CountsOpen why (told a).faults (told b).faults → (IsTrue (told a).honest → IsChoice (told a).bytes (choice.Current side known)) → (IsTrue (told a).honest → IsOpen (on side (told a).bytes) → LoadFails columns (on side (told a).bytes) side why) → HasFailed columns told a b why
  failed_current side known why counts chosen fails = failed_reading why counts (λ h. let is = chosen h in load_fails columns (told a).bytes side why is.0 is.1 (fails h is.0.is_open))
