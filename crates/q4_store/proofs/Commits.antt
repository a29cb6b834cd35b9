-- What a commit makes of a store.
use Rattle.std.proofs.Common.{◌≡◌, ◌≢◌, ℕ, ◌+◌, ◌*◌, ◌≤◌, ◌<◌, inl, inr, length-append, Bool, true, false, List, [], ◌∷◌, ◌++◌, None, Some, length, ◌↔◌, IsTrue, refl, sym, ◌∙◌, ap, subst, arith, append_assoc}
use Rattle.q4_table.specs.TableState.{TableState}
use Rattle.q4_value.specs.Names.{AreColumns}
use Rattle.q4_value.specs.Spelling.{row_bytes}
use Rattle.q4_record.specs.declared.head.Head.{Head}
use Rattle.q4_record.specs.declared.head.Head.TheVariants.{Insert, End, Mark, Next}
use Rattle.q4_record.specs.Record.{Record, head_bytes, records_bytes}
use Rattle.q4_record.specs.Replay.{at_batches}
use Rattle.q4_record.specs.Side.{side_limit, base_at, generation_of, OwnSide}
use Rattle.q4_disk.specs.declared.disk.Side.{Side}
use Rattle.q4_disk.specs.declared.disk.Side.TheVariants.{A, B}
use Rattle.q4_disk.specs.Told.{Sides, Told}
use Rattle.q4_disk.specs.Images.{on, other, size, Within}
use Rattle.q4_disk.specs.Time.{LeavesOnly, OtherStays}
use Rattle.q4_disk.proofs.Moments.{weaker, left_now}
use Rattle.q4_record.specs.Side.{HasMagic}
use Rattle.q4_store.specs.Parts.{IsShut, IsSpare, IsReady}
use Rattle.q4_store.specs.Commit.{sealed, EndsBehind, IsOpenBehind, MayHaveBatch, grown}
use Rattle.q4_store.specs.Copied.{HasCopied}
use Rattle.q4_store.specs.Content.{Content, changed, table_of, all_committed, IsPrefix, IsAllOrNone}
use Rattle.q4_store.specs.Store.{Stored, StandsFor, IsSettled, IsHeld, pending_length, length_of}
use Rattle.std.specs.Int.{w32, to_be_bytes}
use Rattle.q4_store.proofs.Lifting.{Holds, side_holds, reads_current, front, p, ends, may_read, may_be, may_hold, settled_then, columns_stay}

-- a record has bytes
pub some_bytes : (head : Head) (more : List ℕ) → head_bytes head ++ more ≢ []
some_bytes (Insert number None) more = λ none. absurd (cc none)
some_bytes (Insert number (Some origin)) more = λ none. absurd (cc none)
some_bytes (End number) more = λ none. absurd (cc none)
some_bytes (Mark source number) more = λ none. absurd (cc none)
some_bytes (Next number) more = λ none. absurd (cc none)

pub no_change : (changes : List Record) → records_bytes changes ≡ [] → changes ≡ []
no_change [] none = refl
no_change (r ∷ rs) none = absurd (some_bytes r.head (row_bytes r.columns r.row ++ records_bytes rs) (sym (append_assoc (head_bytes r.head) (row_bytes r.columns r.row) (records_bytes rs)) ∙ none))

-- where no bytes wait all is committed
pub nothing_waits : (content : Content) → records_bytes content.pending ≡ [] → content ≡ all_committed content
nothing_waits content none =
    let e = no_change content.pending none in
    let same : changed content.committed content.pending ≡ content.committed = ap (changed content.committed) e in
    (λ i. record { committed = content.committed; pending = e i }) ∙ ap (λ (t : TableState). let c : Content = record { committed = t; pending = [] } in c) (sym same)

pub some_wait : (records : List ℕ) → records ≢ [] → pending_length records ≡ 5 + length records
some_wait [] some = absurd (some refl)
some_wait (b ∷ bs) some = refl

-- ## The other side

spare_stays : (side : Side) (generation : ℕ) (c d : Sides) → on (other side) c ≡ on (other side) d → Holds side generation c → Holds side generation d → IsSpare (other side) d → IsSpare (other side) c
spare_stays side generation c d same now was (inl short) = inl (subst (λ (l : List ℕ). length l < base_at) (sym same) short)
spare_stays A generation c d same now was (inr outdone) = inr (record {
  other_open = now.0;
  magic = subst HasMagic (sym same) outdone.magic;
  lesser = let here = ap generation_of same in let before = outdone.lesser in omega (arith, here, before, now.1, was.1);
})
spare_stays B generation c d same now was (inr outdone) = inr (record {
  other_open = now.0;
  magic = subst HasMagic (sym same) outdone.magic;
  lesser = let here = ap generation_of same in let before = outdone.lesser in omega (arith, here, before, now.1, was.1);
})

ready_there : (known : Bool) (side : Side) (generation : ℕ) (c d : Sides) → on (other side) c ≡ on (other side) d → Holds side generation c → Holds side generation d → IsReady known (other side) d → IsReady known (other side) c
ready_there true side generation c d same now was shut = subst IsShut (sym same) shut
ready_there false side generation c d same now was spare = spare_stays side generation c d same now was spare

-- what is known of the other side, and what it counts for, stays while the current side is open with its generation
pub ready_stays : (known : Bool) (side : Side) (generation : ℕ) (old new : Told) → OtherStays side old new → Within old.images (Holds side generation) → Within new.images (Holds side generation)
    → Within old.images (IsReady known (other side)) → Within new.images (IsReady known (other side))
ready_stays known side generation old new stays was now ready c left =
    let from = stays.each c left in
    ready_there known side generation c from.0 from.2 (now c left) (was from.0 from.1) (ready from.0 from.1)

-- in each image of a settled store the current side is open
pub settled_holds : (told : Told) (side : Side) (table : TableState) (generation end : ℕ) → IsSettled told side table generation end → Within told.images (Holds side generation)
settled_holds told side table generation end s c left =
    side_holds table.columns side c table generation end (subst (λ (l : List ℕ). OwnSide table.columns l table generation end) (sym (s.only c left)) s.stands)

-- a settled store has what it stands for in each image
pub settled_reads : (told : Told) (side : Side) (table : TableState) (generation end : ℕ) → IsSettled told side table generation end → (c : Sides) → told.images c → IsPrefix (record { committed = table; pending = [] }) generation c
settled_reads told side table generation end s c left = record {
  count = 0;
  within = omega arith;
  reads = reads_current table.columns side c table generation end (subst (λ (l : List ℕ). OwnSide table.columns l table generation end) (sym (s.only c left)) s.stands) (s.behind c left);
}

-- after a commit that failed
pub stands_open : {D : Type 0} (told : D → Told) (store : Stored D) (content : Content) (new : D) → StandsFor told store content → (told new).honest ≡ (told store.disk).honest
    → (IsTrue (told new).honest → (t : ℕ) (c : Sides) → t ≤ (told new).moment → (told new).images c → (told new).since t c) → (IsTrue (told store.disk).honest → LeavesOnly (told store.disk) (told new) (λ c. IsPrefix content store.generation c × Holds store.side store.generation c))
    → (IsTrue (told store.disk).honest → OtherStays store.side (told store.disk) (told new)) → store.failed ≡ false → (IsTrue (told store.disk).honest → on (other store.side) (told new).bytes ≡ on (other store.side) (told store.disk).bytes) → StandsFor told (record store { disk = new; failed = true }) content
stands_open told store content new s same counts run stays whole there = record {
  columns = s.columns;
  own = s.own;
  valid = s.valid;
  unowned = s.unowned;
  stand = s.stand;
  records = s.records;
  rows = s.rows;
  images = λ honest c left. (left_now (told store.disk) (told new) (λ d. IsPrefix content store.generation d × Holds store.side store.generation d) (counts honest) (run (sym same ∙ honest)) c left).0;
  settled = λ honest broken. absurd (cc broken);
  ready = λ honest.
      let h = sym same ∙ honest in
      ready_stays store.known store.side store.generation (told store.disk) (told new) (stays h) (settled_holds (told store.disk) store.side content.committed store.generation store.end (s.settled h whole))
      (λ c left. (left_now (told store.disk) (told new) (λ d. IsPrefix content store.generation d × Holds store.side store.generation d) (counts honest) (run h) c left).1) (s.ready h);
  long = s.long;
  copy = λ progress is. let c = s.copy progress is in record {
    written = c.written;
    waiting = c.waiting;
    copied = c.copied;
    first = c.first;
    ends = c.ends;
    at = c.at;
    fits = c.fits;
    shut = c.shut;
    limit = c.limit;
    bytes = λ honest. let h = sym same ∙ honest in subst (HasCopied (table_of content).columns c.written) (sym (there h)) (c.bytes h);
  };
}

-- after a commit that succeeded
pub stands_done : {D : Type 0} (told : D → Told) (store : Stored D) (content : Content) (new : D) (end : ℕ) (records : List ℕ) → StandsFor told store content → (told new).honest ≡ (told store.disk).honest
    → (IsTrue (told store.disk).honest → IsSettled (told new) store.side (table_of content) store.generation end) → (IsTrue (told store.disk).honest → OtherStays store.side (told store.disk) (told new)) → store.failed ≡ false → records ≡ [] → end ≡ length_of store → (IsTrue (told store.disk).honest → on (other store.side) (told new).bytes ≡ on (other store.side) (told store.disk).bytes)
    → StandsFor told (record store { disk = new; end = end; records = records; reserved = 0; failed = false }) (all_committed content)
stands_done told store content new end records s same settled stays whole none end_is there = record {
  columns = subst AreColumns (sym (columns_stay (at_batches content.committed) content.pending)) s.columns;
  own = s.own ∙ sym (columns_stay (at_batches content.committed) content.pending);
  valid = s.valid;
  unowned = s.unowned;
  stand = tt;
  records = none;
  rows = s.rows;
  images = λ honest c left. settled_reads (told new) store.side (table_of content) store.generation end (settled (sym same ∙ honest)) c left;
  settled = λ honest still. settled (sym same ∙ honest);
  ready = λ honest.
      let h = sym same ∙ honest in
      ready_stays store.known store.side store.generation (told store.disk) (told new) (stays h) (settled_holds (told store.disk) store.side content.committed store.generation store.end (s.settled h whole))
      (settled_holds (told new) store.side (table_of content) store.generation end (settled h)) (s.ready h);
  long = let none_waits = ap pending_length none in omega (arith, s.long, end_is, none_waits);
  copy = λ progress is. let c = s.copy progress is in record {
    written = c.written;
    waiting = c.waiting;
    copied = c.copied;
    first = c.first;
    ends = c.ends;
    at = c.at;
    fits = let none_waits = ap pending_length none in omega (arith, c.fits, end_is, none_waits);
    shut = c.shut;
    limit = c.limit;
    bytes = λ honest. let h = sym same ∙ honest in subst (HasCopied (table_of content).columns c.written) (sym (there h)) (c.bytes h);
  };
}

pub not_so : {A : Type 0} (b : Bool) → (IsTrue b ↔ A) → b ≡ false → A → ⊥
not_so b iff is a = let holds = iff.1 a in cc (holds, is)

module _ {D : Type 0} (told : D → Told) (store : Stored D) (content : Content) (s : StandsFor told store content) (some : store.records ≢ []) (room : length_of store + 32 * store.rows ≤ side_limit) (whole : store.failed ≡ false) (honest : IsTrue (told store.disk).honest) where
  abbrev pub old : Told
  old = told store.disk

  abbrev pub settled : IsSettled old store.side content.committed store.generation store.end
  settled = s.settled honest whole

  pub fits : store.end + (5 + length (records_bytes content.pending)) + 32 * length (table_of content).rows ≤ side_limit
  fits = omega (arith, room, some_wait store.records some, ap length s.records, s.rows)

  abbrev pub the_front : List ℕ
  the_front = front old store.side content store.generation store.end settled s.stand fits

  abbrev pub batch : List ℕ
  batch = sealed (records_bytes content.pending)

  pub ends_behind : EndsBehind old store.side the_front
  ends_behind = ends old store.side content store.generation store.end settled s.stand fits

  pub end_is : store.end ≡ length the_front + 1
  end_is = (p old store.side content store.generation store.end settled s.stand fits).end

  pub leaves : (new : Told) (bytes : List ℕ) → bytes ≡ sealed store.records → LeavesOnly old new (MayHaveBatch old.images store.side the_front bytes (grown old store.side store.end bytes)) → LeavesOnly old new (λ c. IsPrefix content store.generation c × Holds store.side store.generation c)
  leaves new bytes is written = let run = subst (λ (l : List ℕ). LeavesOnly old new (MayHaveBatch old.images store.side the_front l (grown old store.side store.end l))) (is ∙ ap sealed s.records) written in weaker old new _ (λ c. IsPrefix content store.generation c × Holds store.side store.generation c) run (λ c m. (may_read old store.side content store.generation store.end settled s.stand fits c m, may_hold old store.side content store.generation store.end settled s.stand fits c m))

  pub leaves_all : (new : Told) (bytes : List ℕ) → bytes ≡ sealed store.records → LeavesOnly old new (MayHaveBatch old.images store.side the_front bytes (grown old store.side store.end bytes)) → LeavesOnly old new (IsAllOrNone content store.generation)
  leaves_all new bytes is written = let run = subst (λ (l : List ℕ). LeavesOnly old new (MayHaveBatch old.images store.side the_front l (grown old store.side store.end l))) (is ∙ ap sealed s.records) written in weaker old new _ (IsAllOrNone content store.generation) run (λ c m. may_be old store.side content store.generation store.end settled s.stand fits c m)

  pub settled_new : (new : Told) (bytes : List ℕ) (more : ℕ) → bytes ≡ sealed store.records → more ≡ pending_length store.records → IsOpenBehind the_front bytes (grown old store.side store.end bytes) (on store.side new.bytes)
      → Within new.images (λ c. on store.side c ≡ on store.side new.bytes) → OtherStays store.side old new → IsSettled new store.side (table_of content) store.generation (store.end + more)
  settled_new new bytes more is more_is is_open only stays =
      let open_is = subst (λ (l : List ℕ). IsOpenBehind the_front l (grown old store.side store.end l) (on store.side new.bytes)) (is ∙ ap sealed s.records) is_open in
      let added : more ≡ 5 + length (records_bytes content.pending) = more_is ∙ some_wait store.records some ∙ ap (λ (l : List ℕ). 5 + length l) s.records in
      subst (λ (n : ℕ). IsSettled new store.side (table_of content) store.generation (store.end + n)) (sym added) (settled_then old store.side content store.generation store.end settled s.stand fits new open_is only stays)

-- there is as much room as before, and memory
pub held_then : {D : Type 0} (told : D → Told) (store : Stored D) (new : D) (bytes records : List ℕ) (more memory later copied : ℕ) → IsHeld told store memory copied → store.records ≢ [] → (told new).honest ≡ (told store.disk).honest
    → bytes ≡ sealed store.records → more ≡ pending_length store.records → records ≡ [] → memory ≤ later → (IsTrue (told store.disk).honest → store.end + length bytes ≤ size store.side (told new).bytes)
    → IsHeld told (record store { disk = new; end = store.end + more; records = records; reserved = 0; failed = false }) later copied
held_then told store new bytes records more memory later copied held some same is more_is none memory_is long =
    let none_waits = ap pending_length none in
    let size_is : length bytes ≡ 5 + length store.records = omega (arith, ap length is, length-append (to_be_bytes w32 (length store.records)) (store.records ++ 0 ∷ []), length-append store.records (0 ∷ [])) in
    record {
      kept = record {
        gate = omega (arith, held.kept.gate);
        within = λ honest whole. let fits = long (sym same ∙ honest) in omega (arith, fits, size_is, more_is, some_wait store.records some);
        room = omega (arith, held.kept.room, more_is, none_waits);
        reserve = λ wanted. absurd (omega (arith, wanted));
      };
      batch = omega (arith, held.batch, memory_is);
      copy = held.copy;
      reserve_batch = λ wanted. absurd (omega (arith, wanted));
      reserve_copy = λ wanted. absurd (omega (arith, wanted));
    }
