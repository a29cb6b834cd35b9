-- A store while the other side is written on.
use Rattle.std.proofs.Common.{◌≡◌, ℕ, ◌<◌, Bool, true, false, List, [], ◌∷◌, None, Some, Option, replicate, refl, sym, ap, subst, ◌∙◌, append-nil, inl, inr, IsTrue, arith}
use Rattle.std.specs.Option.{ForSome}
use Rattle.q4_record.specs.Side.{base_at, gate_of, generation_limit, OwnSide}
use Rattle.q4_disk.specs.declared.disk.Side.{Side}
use Rattle.q4_disk.specs.declared.disk.Side.TheVariants.{A, B}
use Rattle.q4_disk.specs.Told.{Sides, Told}
use Rattle.q4_disk.specs.Images.{on, other, Within}
use Rattle.q4_disk.specs.Time.{LeavesOnly, OtherStays}
use Rattle.q4_disk.proofs.Moments.{weaker}
use Rattle.q4_store.specs.declared.copying.Progress.{Progress}
use Rattle.q4_store.specs.Reading.{IsBehind, ReadsAs}
use Rattle.q4_store.specs.Parts.{IsBlank, IsReady}
use Rattle.q4_store.specs.Content.{Content, table_of, table_with, IsPrefix}
use Rattle.std.specs.List.{sum_by}
use Rattle.q4_store.specs.Copied.{rows_from, row_cost}
use Rattle.q4_store.specs.Store.{Stored, StandsFor, CopyStands, IsSettled}
use Rattle.q4_store.proofs.Lifting.{Holds, side_holds}
use Rattle.q4_store.proofs.Quiet.{own_alike}
use Rattle.q4_store.proofs.Parting.{rise_from, all_from}
use Rattle.q4_store.proofs.CopyRecords.{copy_begun}

-- the current side stays where the other one is written on
pub current_stays : (side : Side) (old new : Told) → OtherStays (other side) old new → (c : Sides) → new.images c → (d : Sides) × old.images d × (on side c ≡ on side d)
current_stays A old new stays c left = stays.each c left
current_stays B old new stays c left = stays.each c left

-- a side that counts for nothing is behind the current one
pub ready_behind : (known : Bool) (side : Side) (generation : ℕ) (c : Sides) → Holds side generation c → IsReady known (other side) c → IsBehind generation (on (other side) c)
ready_behind true side generation c holds shut is_open = absurd (shut.closed (sym (ap gate_of shut.is) ∙ is_open.gate))
ready_behind false side generation c holds (inl few) is_open = absurd (omega (arith, few, is_open.header))
ready_behind false A generation c holds (inr outdone) is_open = let lesser = outdone.lesser in (outdone.magic, omega (arith, lesser, holds.1))
ready_behind false B generation c holds (inr outdone) is_open = let lesser = outdone.lesser in (outdone.magic, omega (arith, lesser, holds.1))

pub prefix_as : (content : Content) (generation : ℕ) (images : Sides → Type 0) → Within images (IsPrefix content generation) → (c : Sides) → ReadsAs content.committed.columns images c → IsPrefix content generation c
prefix_as content generation images each c like = let p = each like.0 like.1 in record { count = p.count; within = p.within; reads = own_alike content.committed.columns like.0 c (table_with content p.count) generation like.2 p.reads }

pub some_same : (one two : Progress) → Some one ≡ Some two → one ≡ two
some_same one two is = cc is

pub none_copied : (P : Progress → Type 0) (copy : Option Progress) → copy ≡ None → ForSome copy P
none_copied P copy none progress is = let wrong = sym none ∙ is in absurd (cc wrong)

module _ {D : Type 0} (told : D → Told) (store : Stored D) (content : Content) (s : StandsFor told store content) (whole : store.failed ≡ false) (new : D) (same : (told new).honest ≡ (told store.disk).honest) where
  abbrev pub old : Told
  old = told store.disk

  -- at each moment what is committed is read, and a prefix of what waits
  pub prefix_moments : IsTrue old.honest → LeavesOnly old (told new) (ReadsAs content.committed.columns old.images) → LeavesOnly old (told new) (IsPrefix content store.generation)
  prefix_moments h run = weaker old (told new) (ReadsAs content.committed.columns old.images) (IsPrefix content store.generation) run (prefix_as content store.generation old.images (s.images h))

  pub settled_beside : (known : Bool) → IsTrue old.honest → (told new).images (told new).bytes → OtherStays (other store.side) old (told new) → Within (told new).images (IsReady known (other store.side)) → IsSettled (told new) store.side content.committed store.generation store.end
  settled_beside known h read stays ready =
      let t = s.settled h whole in
      let each : (c : Sides) → (told new).images c → on store.side c ≡ on store.side old.bytes = λ c left. let from = current_stays store.side old (told new) stays c left in from.2 ∙ t.only from.0 from.1 in
      let stands : (c : Sides) → (told new).images c → OwnSide content.committed.columns (on store.side c) content.committed store.generation store.end = λ c left. subst (λ (l : List ℕ). OwnSide content.committed.columns l content.committed store.generation store.end) (sym (each c left)) t.stands in
      record {
        stands = stands (told new).bytes read;
        only = λ c left. each c left ∙ sym (each (told new).bytes read);
        behind = λ c left. ready_behind known store.side store.generation c (side_holds content.committed.columns store.side c content.committed store.generation store.end (stands c left)) (ready c left);
      }

  -- calls on the other side, after which each image reads as one that there was
  pub stands_beside : (known : Bool) (copy : Option Progress) (ends : List ℕ) → (IsTrue (told new).honest → (told new).images (told new).bytes) → (IsTrue old.honest → Within (told new).images (ReadsAs content.committed.columns old.images))
      → (IsTrue old.honest → OtherStays (other store.side) old (told new)) → (IsTrue old.honest → Within (told new).images (IsReady known (other store.side)))
      → ForSome copy (CopyStands told (record store { disk = new; known = known; copy = copy; ends = ends }) (table_of content)) → StandsFor told (record store { disk = new; known = known; copy = copy; ends = ends }) content
  stands_beside known copy ends read reads stays ready copied = record {
    columns = s.columns;
    own = s.own;
    valid = s.valid;
    unowned = s.unowned;
    stand = s.stand;
    records = s.records;
    rows = s.rows;
    images = λ honest c left. let h = sym same ∙ honest in prefix_as content store.generation old.images (s.images h) c (reads h c left);
    settled = λ honest still. let h = sym same ∙ honest in settled_beside known h (read honest) (stays h) (ready h);
    ready = λ honest. ready (sym same ∙ honest);
    long = s.long;
    copy = copied;
  }

  -- a copy that begins
  pub begun_stands : (known : Bool) (ends : List ℕ) → known ≡ true → ends ≡ [] → store.generation < generation_limit → (IsTrue old.honest → IsBlank (on (other store.side) (told new).bytes))
      → ForSome (Some (record { cursor = 1; at = base_at })) (CopyStands told (record store { disk = new; known = known; copy = Some (record { cursor = 1; at = base_at }); ends = ends }) (table_of content))
  begun_stands known ends known_is none limit blank progress is =
      let table = table_of content in
      let all : rows_from 1 table.rows ≡ table.rows = all_from 1 table.rows (rise_from 0 table.next 1 table.rows s.valid.numbers (omega arith)) in
      let size = ap (sum_by (row_cost table.columns)) all in
      subst (CopyStands told (record store { disk = new; known = known; copy = Some (record { cursor = 1; at = base_at }); ends = ends }) table) (some_same (record { cursor = 1; at = base_at }) progress is) (record {
        written = [];
        waiting = [];
        copied = copy_begun table s.valid;
        first = λ none. refl;
        ends = none;
        at = refl;
        fits = let long = s.long in omega (arith, long, size);
        shut = known_is;
        limit = limit;
        bytes = λ honest. let b = blank (sym same ∙ honest) in record { gate = b.gate; closed = b.closed; is = b.is ∙ ap (λ (l : List ℕ). b.gate ∷ l) (sym (append-nil (replicate 20 0))) };
      })
