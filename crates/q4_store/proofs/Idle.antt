-- A side that counts for nothing: what it reads as, and what each device call on it leaves.
use Rattle.std.proofs.Common.{◌≡◌, ◌⊎◌, codes, ℕ, suc, zero, ◌≤◌, min, Bool, true, false, List, [], ◌∷◌, length, take, drop, get_or, Result, Ok, IsTrue, refl, sym, ◌∙◌, ap, subst, inl, inr, arith}
use Rattle.std.specs.Int.{w64, from_be_bytes}
use Rattle.std.proofs.lemmas.List.{drop-drop}
use Rattle.q4_value.specs.declared.column.Column.{Column}
use Rattle.q4_table.specs.TableState.{TableState}
use Rattle.q4_record.specs.Side.{gate_of, magic_of, HasMagic, generation_of, told_at, IsOpen, IsNarrow, Side as IsSide}
use Rattle.q4_disk.specs.declared.disk.Side.{Side}
use Rattle.q4_disk.specs.declared.disk.Side.TheVariants.{A, B}
use Rattle.q4_disk.specs.Told.{Sides, Told}
use Rattle.q4_disk.specs.Images.{on, other, put, written, Torn, Cut, Sided, Within}
use Rattle.q4_disk.specs.Calls.{Wrote, DidCut, Synced}
use Rattle.q4_disk.specs.inner.Laws.{on_put}
use Rattle.q4_disk.proofs.Moments.{Along, began, wrote, did_cut, synced, synced_ok}
use Rattle.q4_store.specs.Reading.{IsCurrent, ReadsNew, Reads, IsOutgrown, Alike, ReadsAs}
use Rattle.q4_store.specs.Parts.{IsShut, IsIdle, IsSpare, IsReady}

-- an idle side is not the one that counts
idle_counts_not : (side : Side) (d : Sides) → IsIdle side d → IsCurrent side d → ⊥
idle_counts_not side d idle is =
    let outdone = idle is.is_open in
    let behind = is.behind outdone.other_open in
    omega (arith, outdone.lesser, behind.1)

-- the one that counts stays where an idle one changes
current_still : (side s : Side) (d c : Sides) → on (other side) c ≡ on (other side) d → IsIdle side d → IsIdle side c → IsCurrent s d → IsCurrent s c × (on s c ≡ on s d)
current_still A A d c same was is current = absurd (idle_counts_not A d was current)
current_still B B d c same was is current = absurd (idle_counts_not B d was current)
current_still A B d c same was is current = (record { is_open = subst IsOpen (sym same) current.is_open; behind = λ open_here. let outdone = is open_here in (outdone.magic, outdone.lesser) }, same)
current_still B A d c same was is current = (record { is_open = subst IsOpen (sym same) current.is_open; behind = λ open_here. let outdone = is open_here in (outdone.magic, outdone.lesser) }, same)

-- so does whether it is of a narrower schema
outgrown_still : (columns : List Column) (side : Side) (d c : Sides) → on (other side) c ≡ on (other side) d → IsIdle side d → IsIdle side c → IsOutgrown columns d → IsOutgrown columns c
outgrown_still columns side d c same was is outgrown =
    let still = current_still side outgrown.side d c same was is outgrown.current in
    record {
      side = outgrown.side;
      current = still.0;
      narrow = subst (IsNarrow columns) (sym still.1) outgrown.narrow;
      table = outgrown.table;
      generation = outgrown.generation;
      len = outgrown.len;
      stands = subst (λ (bytes : List ℕ). IsSide columns bytes outgrown.table outgrown.generation outgrown.len) (sym still.1) outgrown.stands;
    }

module _ (columns : List Column) (table : TableState) (generation : ℕ) where
  reads_on : (side s : Side) (d c : Sides) (len : ℕ) → on (other side) c ≡ on (other side) d → IsIdle side d → IsIdle side c → IsCurrent s d → IsSide columns (on s d) table generation len → Reads columns c table generation
  reads_on side s d c len same was is current stands =
      let still = current_still side s d c same was is current in
      inl (record { side = s; len = len; current = still.0; stands = subst (λ (bytes : List ℕ). IsSide columns bytes table generation len) (sym still.1) stands })

  still_new : (side : Side) (d c : Sides) → on (other side) c ≡ on (other side) d → IsIdle side c → ReadsNew columns d table generation → ReadsNew columns c table generation
  still_new A d c same is new = record {
    closed_a = λ open_here. new.closed_b (subst IsOpen same (is open_here).other_open);
    closed_b = λ open_there. new.closed_b (subst IsOpen same open_there);
    table_is = new.table_is;
    generation_is = new.generation_is;
  }
  still_new B d c same is new = record {
    closed_a = λ open_there. new.closed_a (subst IsOpen same open_there);
    closed_b = λ open_here. new.closed_a (subst IsOpen same (is open_here).other_open);
    table_is = new.table_is;
    generation_is = new.generation_is;
  }

  reads_still : (side : Side) (d c : Sides) → on (other side) c ≡ on (other side) d → IsIdle side d → IsIdle side c → Reads columns d table generation → Reads columns c table generation
  reads_still side d c same was is (inl reads) = reads_on side reads.side d c reads.len same was is reads.current reads.stands
  reads_still side d c same was is (inr new) = inr (still_new side d c same is new)

-- two sides that differ in an idle one read alike
pub idle_alike : (columns : List Column) (side : Side) (d c : Sides) → on (other side) c ≡ on (other side) d → IsIdle side d → IsIdle side c → Alike columns d c
idle_alike columns side d c same was is = record {
  forth = λ table generation. reads_still columns table generation side d c same was is;
  back = λ table generation. reads_still columns table generation side c d (sym same) is was;
  outgrown = (outgrown_still columns side d c same was is, outgrown_still columns side c d (sym same) is was);
}

pub shut_idle : (side : Side) (c : Sides) → IsShut (on side c) → IsIdle side c
shut_idle side c shut is_open = absurd (shut.closed (sym (ap gate_of shut.is) ∙ is_open.gate))

pub spare_idle : (side : Side) (c : Sides) → IsSpare side c → IsIdle side c
spare_idle side c (inl few) is_open = absurd (omega (arith, few, is_open.header))
spare_idle side c (inr outdone) is_open = outdone

pub ready_idle : (known : Bool) (side : Side) (c : Sides) → IsReady known side c → IsIdle side c
ready_idle true side c ready = shut_idle side c ready
ready_idle false side c ready = spare_idle side c ready

-- bytes with the same magic have one of the two alike
pub has_magic : (one two : List ℕ) → magic_of one ≡ magic_of two → HasMagic one → HasMagic two
has_magic one two same magic = subst (λ m. (m ≡ codes "Q4O1") ⊎ (m ≡ codes "Q4O2")) same magic

-- the generation stands behind the gate
pub generation_kept : (x y : List ℕ) → drop 1 x ≡ drop 1 y → generation_of x ≡ generation_of y
unfolding told_at
generation_kept x y same = ap (λ (l : List ℕ). from_be_bytes w64 (take 8 l)) (sym (drop-drop 4 1 x) ∙ ap (drop 4) same ∙ drop-drop 4 1 y)

-- the write of a first byte
pub torn_spare : (side : Side) (d c : Sides) → IsSpare side d → Sided side (Torn 0 1) d c → IsSpare side c
torn_spare side d c (inl few) torn = inl (omega (arith, few, torn.here.no_longer))
torn_spare side d c (inr outdone) torn = inr (record {
  other_open = subst IsOpen (sym torn.there) outdone.other_open;
  magic = has_magic (on side d) (on side c) (sym (ap (take 4) torn.here.after)) outdone.magic;
  lesser =
      let here = generation_kept (on side c) (on side d) torn.here.after in
      let there = ap generation_of torn.there in
      omega (arith, here, there, outdone.lesser);
})

-- which is read then
pub closed_shut : (side : Side) (old mid c : Sides) → mid ≡ put side (written (on side old) 0 (0 ∷ [])) old → on side c ≡ on side mid → IsShut (on side c)
closed_shut side old mid c wrote_it read = record { gate = 0; rest = drop 1 (on side old); closed = omega arith; is = read ∙ ap (on side) wrote_it ∙ on_put side (written (on side old) 0 (0 ∷ [])) old }

-- what keeps the first byte keeps the gate closed
pub shut_step : (d c : List ℕ) → take 1 c ≡ take 1 d → IsShut d → IsShut c
shut_step d [] same shut = let wrong : [] ≡ shut.gate ∷ [] = same ∙ ap (take 1) shut.is in absurd (cc wrong)
shut_step d (h ∷ t) same shut = record { gate = h; rest = t; closed = λ one. shut.closed (sym (ap (λ (l : List ℕ). get_or l 0 0) (same ∙ ap (take 1) shut.is)) ∙ one); is = refl }

one_of : (m : ℕ) (c : List ℕ) → take 1 (take (suc m) c) ≡ take 1 c
one_of m [] = refl
one_of m (h ∷ c) = refl

first_of : (n : ℕ) (c : List ℕ) → 1 ≤ n → take 1 (take n c) ≡ take 1 c
first_of zero c le = absurd (omega arith)
first_of (suc m) c le = one_of m c

-- so does a write behind it
pub torn_late : (side : Side) (at n : ℕ) → 1 ≤ at → (d c : Sides) → IsShut (on side d) → Sided side (Torn at n) d c → IsShut (on side c)
torn_late side at n late d c shut torn =
    let long : length (on side d) ≡ suc (length shut.rest) = ap length shut.is in
    shut_step (on side d) (on side c) (sym (first_of (min at (length (on side d))) (on side c) (omega (arith, late, long))) ∙ ap (take 1) torn.here.before ∙ first_of at (on side d) late) shut

pub cut_late : (side : Side) (d c : Sides) → IsShut (on side d) → Sided side (Cut 1) d c → IsShut (on side c)
cut_late side d c shut torn = shut_step (on side d) (on side c) torn.here.front shut

-- an image whose other side is that of an image of the start, where this side was idle; here it has Q
pub record Beside (side : Side) (images Q : Sides → Type 0) (c : Sides) : Type 0 where
  pub from : Sides
  pub image : images from
  pub same : on (other side) c ≡ on (other side) from
  pub was : IsIdle side from
  pub here : Q c

abbrev pub Shut : Side → Sides → Type 0
Shut side c = IsShut (on side c)

module _ (columns : List Column) (side : Side) (old : Told) where
  abbrev pub P : Sides → Type 0
  P = ReadsAs columns old.images

  pub beside_reads : (Q : Sides → Type 0) → ((c : Sides) → Q c → IsIdle side c) → (c : Sides) → Beside side old.images Q c → P c
  beside_reads Q idle c is = (is.from, is.image, idle_alike columns side is.from c is.same is.was (idle c is.here))

  pub idle_start : (Q : Sides → Type 0) → IsTrue old.honest → ((c : Sides) → old.since old.moment c → old.images c) → Within old.images Q → ((c : Sides) → Q c → IsIdle side c) → Along old old P (Beside side old.images Q)
  idle_start Q honest only_now each idle = began old P (Beside side old.images Q) honest only_now (λ c im. record { from = c; image = im; same = refl; was = idle c (each c im); here = each c im }) (beside_reads Q idle)

  pub idle_write : {T E : Type 0} {result : Result T E} (mid new : Told) (Q R : Sides → Type 0) (at : ℕ) (bytes : List ℕ) → Along old mid P (Beside side old.images Q) → new.honest ≡ mid.honest → (IsTrue mid.honest → Wrote side at bytes result mid new)
      → ((d c : Sides) → Q d → Sided side (Torn at (length bytes)) d c → R c) → ((c : Sides) → R c → IsIdle side c) → Along old new P (Beside side old.images R)
  idle_write mid new Q R at bytes so_far honest does leads idle = wrote old mid new P (Beside side old.images Q) (Beside side old.images R) side at bytes so_far honest does
      (λ d c is torn. record { from = is.from; image = is.image; same = torn.there ∙ is.same; was = is.was; here = leads d c is.here torn }) (beside_reads R idle)

  pub idle_cut : {T E : Type 0} {result : Result T E} (mid new : Told) (Q R : Sides → Type 0) (n : ℕ) → Along old mid P (Beside side old.images Q) → new.honest ≡ mid.honest → (IsTrue mid.honest → DidCut side n result mid new)
      → ((d c : Sides) → Q d → Sided side (Cut n) d c → R c) → ((c : Sides) → R c → IsIdle side c) → Along old new P (Beside side old.images R)
  idle_cut mid new Q R n so_far honest does leads idle = did_cut old mid new P (Beside side old.images Q) (Beside side old.images R) side n so_far honest does
      (λ d c is torn. record { from = is.from; image = is.image; same = torn.there ∙ is.same; was = is.was; here = leads d c is.here torn }) (beside_reads R idle)

  pub idle_sync : {T E : Type 0} {result : Result T E} (mid new : Told) (Q : Sides → Type 0) → Along old mid P (Beside side old.images Q) → new.honest ≡ mid.honest → (IsTrue mid.honest → Synced side result mid new)
      → ((c : Sides) → Q c → IsIdle side c) → Along old new P (Beside side old.images Q)
  idle_sync mid new Q so_far honest does idle = synced old mid new P (Beside side old.images Q) side so_far honest does (beside_reads Q idle)

  pub idle_synced : {T E : Type 0} {x : T} (mid new : Told) (Q R : Sides → Type 0) → Along old mid P (Beside side old.images Q) → new.honest ≡ mid.honest → (IsTrue mid.honest → Synced {T = T} {E = E} side (Ok x) mid new)
      → ((c : Sides) → Q c → on side c ≡ on side mid.bytes → R c) → ((c : Sides) → R c → IsIdle side c) → Along old new P (Beside side old.images R)
  idle_synced mid new Q R so_far honest does leads idle = synced_ok old mid new P (Beside side old.images Q) (Beside side old.images R) side so_far honest does
      (λ c is read. record { from = is.from; image = is.image; same = is.same; was = is.was; here = leads c is.here read }) (beside_reads R idle)
