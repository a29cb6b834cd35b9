-- What the images of a commit read as.
use Rattle.std.proofs.Common.{◌≡◌, ℕ, ◌+◌, ◌*◌, ◌≤◌, ◌⊎◌, List, [], ◌∷◌, ◌++◌, length, refl, sym, ◌∙◌, ap, subst, inl, inr, arith, append_assoc, length-append}
use Rattle.std.specs.Int.{w32, to_be_bytes}
use Rattle.std.proofs.lemmas.List.{take_all}
use Rattle.q4_value.specs.declared.column.Column.{Column}
use Rattle.q4_table.specs.TableState.{TableState}
use Rattle.q4_record.specs.declared.head.Head.{Head}
use Rattle.q4_record.specs.declared.head.Head.TheVariants.{Insert, End, Mark, Next}
use Rattle.q4_record.specs.Record.{Record, records_bytes}
use Rattle.q4_record.specs.Replay.{ReplayState, table_after, replayed, replays, at_batches, AllStand}
use Rattle.q4_record.specs.Side.{side_limit, batch_bytes, generation_of, IsOpen, IsNarrow, HasRoom, OwnSide}
use Rattle.q4_record.proofs.WideSides.{own_is_side, own_not_narrow}
use Rattle.q4_disk.specs.declared.disk.Side.{Side}
use Rattle.q4_disk.specs.declared.disk.Side.TheVariants.{A, B}
use Rattle.q4_disk.specs.Told.{Sides, Told}
use Rattle.q4_disk.specs.Images.{on, other, Within}
use Rattle.q4_disk.specs.Time.{OtherStays}
use Rattle.q4_store.specs.Reading.{IsBehind, IsCurrent, IsOutgrown, ReadsOwn}
use Rattle.q4_store.specs.Commit.{sealed, EndsBehind, IsClosedBehind, IsOpenBehind, MayHaveBatch, grown}
use Rattle.q4_store.specs.Content.{Content, table_of, IsPrefix, IsAllOrNone}
use Rattle.q4_store.specs.Store.{IsSettled}
use Rattle.q4_store.proofs.Fronts.{Parted, parted, side_of, more_front}

-- records leave the columns
columns_after : (table : TableState) (head : Head) (row : _) → (table_after table head row).columns ≡ table.columns
columns_after table (Insert number origin) row = refl
columns_after table (End number) row = refl
columns_after table (Mark source number) row = refl
columns_after table (Next number) row = refl

pub columns_stay : (replay : ReplayState) (rs : List Record) → (replays replay rs).table.columns ≡ replay.table.columns
columns_stay replay [] = refl
columns_stay replay (r ∷ rs) = columns_stay (replayed replay r) rs ∙ columns_after replay.table r.head r.row

-- one side counts at most
pub current_same : (s t : Side) (c : Sides) → IsCurrent s c → IsCurrent t c → s ≡ t
current_same A A c is also = refl
current_same B B c is also = refl
current_same A B c is also = let up = is.behind also.is_open in let down = also.behind is.is_open in absurd (omega (arith, up.1, down.1))
current_same B A c is also = let up = is.behind also.is_open in let down = also.behind is.is_open in absurd (omega (arith, up.1, down.1))

-- where it is of these very columns opening rewrites nothing
pub own_stays : (columns : List Column) (side : Side) (c : Sides) → IsCurrent side c → (IsNarrow columns (on side c) → ⊥) → IsOutgrown columns c → ⊥
own_stays columns side c current own outgrown =
    own (subst (λ (s : Side). IsNarrow columns (on s c)) (current_same outgrown.side side c outgrown.current current) outgrown.narrow)

-- a side that stands for the table, with the other one behind it, is what two sides read as
pub reads_current : (columns : List Column) (side : Side) (c : Sides) (table : TableState) (generation len : ℕ) → OwnSide columns (on side c) table generation len → IsBehind generation (on (other side) c) → ReadsOwn columns c table generation
reads_current columns side c table generation len stands behind =
    let current : IsCurrent side c = record { is_open = stands.stands.reaches.begins.is_open; behind = subst (λ (n : ℕ). IsBehind n (on (other side) c)) stands.stands.generation_is behind } in
    record {
      reads = inl (record { side = side; len = len; current = current; stands = own_is_side columns (on side c) table generation len stands });
      own = own_stays columns side c current (own_not_narrow columns (on side c) table generation len stands);
    }

-- the side is open, and has this generation
abbrev pub Holds : Side → ℕ → Sides → Type 0
Holds side generation c = IsOpen (on side c) × (generation_of (on side c) ≡ generation)

pub side_holds : (columns : List Column) (side : Side) (c : Sides) (table : TableState) (generation len : ℕ) → OwnSide columns (on side c) table generation len → Holds side generation c
side_holds columns side c table generation len stands = (stands.stands.reaches.begins.is_open, sym stands.stands.generation_is)

-- a batch, as it is written, behind an open gate
batch_is : (front records tail : List ℕ) → front ++ 1 ∷ (sealed records ++ tail) ≡ (front ++ (1 ∷ to_be_bytes w32 (length records) ++ records)) ++ 0 ∷ tail
batch_is front records tail =
    let len = to_be_bytes w32 (length records) in
    let inner : sealed records ++ tail ≡ (len ++ records) ++ 0 ∷ tail = append_assoc len (records ++ 0 ∷ []) tail ∙ ap (λ (l : List ℕ). len ++ l) (append_assoc records (0 ∷ []) tail) ∙ sym (append_assoc len records (0 ∷ tail)) in
    ap (λ (l : List ℕ). front ++ 1 ∷ l) inner ∙ sym (append_assoc front (1 ∷ len ++ records) (0 ∷ tail))

module _ (told : Told) (side : Side) (content : Content) (generation end : ℕ) (s : IsSettled told side content.committed generation end) (all : AllStand (at_batches content.committed) content.pending)
    (room : end + (5 + length (records_bytes content.pending)) + 32 * length (table_of content).rows ≤ side_limit) where
  abbrev pub columns : List Column
  columns = content.committed.columns

  abbrev pub records : List ℕ
  records = records_bytes content.pending

  abbrev pub p : Parted columns (on side told.bytes) content.committed generation end
  p = parted columns (on side told.bytes) content.committed generation end s.stands

  abbrev pub front : List ℕ
  front = p.front

  pub ends : EndsBehind told side front
  ends = record { gate = p.gate; tail = p.tail; closed = p.closed; is = p.is; only = s.only }

  few : grown told side end (sealed records) ≤ side_limit
  few = omega (arith, room, s.stands.stands.reaches.begins.few, length-append (to_be_bytes w32 (length records)) (records ++ 0 ∷ []), length-append records (0 ∷ []))

  batch_length : length (batch_bytes content.pending) ≡ 5 + length records
  batch_length = omega (arith, length-append (1 ∷ to_be_bytes w32 (length records)) records)

  stands_closed : (bytes : List ℕ) → IsClosedBehind front (grown told side end (sealed records)) bytes → OwnSide columns bytes content.committed generation end
  stands_closed bytes b =
      let size : length (front ++ b.gate ∷ b.tail) ≤ side_limit = omega (arith, few, b.few, ap length b.is) in
      let room_for : HasRoom content.committed (length front + 1) = subst (HasRoom content.committed) p.end s.stands.room in
      let stands = side_of columns front content.committed generation b.gate b.tail p.is_front b.closed size room_for in
      subst (λ (l : List ℕ). OwnSide columns l content.committed generation end) (sym b.is) (subst (λ (n : ℕ). OwnSide columns (front ++ b.gate ∷ b.tail) content.committed generation n) (sym p.end) stands)

  stands_open : (bytes : List ℕ) → IsOpenBehind front (sealed records) (grown told side end (sealed records)) bytes → OwnSide columns bytes (table_of content) generation (end + (5 + length records))
  stands_open bytes b =
      let more = front ++ batch_bytes content.pending in
      let is : bytes ≡ more ++ 0 ∷ b.tail = b.is ∙ batch_is front records b.tail in
      let size : length (more ++ 0 ∷ b.tail) ≤ side_limit = omega (arith, few, b.few, ap length is) in
      let more_length : length more ≡ length front + (5 + length records) = omega (arith, batch_length, length-append front (batch_bytes content.pending)) in
      let end_is : end + (5 + length records) ≡ length more + 1 = omega (arith, p.end, more_length) in
      let room_for : HasRoom (table_of content) (length more + 1) = omega (arith, room, end_is) in
      let stands = side_of columns more (table_of content) generation 0 b.tail (more_front columns front content.committed generation content.pending p.is_front all) (omega arith) size room_for in
      subst (λ (l : List ℕ). OwnSide columns l (table_of content) generation (end + (5 + length records))) (sym is) (subst (λ (n : ℕ). OwnSide columns (more ++ 0 ∷ b.tail) (table_of content) generation n) (sym end_is) stands)

  pub may_read : (c : Sides) → MayHaveBatch told.images side front (sealed records) (grown told side end (sealed records)) c → IsPrefix content generation c
  may_read c m = reads_by m.here
    where
      behind : IsBehind generation (on (other side) c)
      behind = subst (IsBehind generation) (sym m.same) (s.behind m.from m.image)

      reads_by : IsClosedBehind front (grown told side end (sealed records)) (on side c) ⊎ IsOpenBehind front (sealed records) (grown told side end (sealed records)) (on side c) → IsPrefix content generation c
      reads_by (inl closed) = record { count = 0; within = omega arith; reads = reads_current columns side c content.committed generation end (stands_closed (on side c) closed) behind }
      reads_by (inr is_open) = record {
        count = length content.pending;
        within = omega arith;
        reads = subst (λ (rs : List Record). ReadsOwn columns c (replays (at_batches content.committed) rs).table generation) (sym (take_all (length content.pending) content.pending (omega arith)))
            (reads_current columns side c (table_of content) generation (end + (5 + length records)) (stands_open (on side c) is_open) behind);
      }

  -- all that waits, or nothing of it
  pub may_be : (c : Sides) → MayHaveBatch told.images side front (sealed records) (grown told side end (sealed records)) c → IsAllOrNone content generation c
  may_be c m = be m.here
    where
      behind : IsBehind generation (on (other side) c)
      behind = subst (IsBehind generation) (sym m.same) (s.behind m.from m.image)

      be : IsClosedBehind front (grown told side end (sealed records)) (on side c) ⊎ IsOpenBehind front (sealed records) (grown told side end (sealed records)) (on side c) → IsAllOrNone content generation c
      be (inl closed) = inl (reads_current columns side c content.committed generation end (stands_closed (on side c) closed) behind)
      be (inr is_open) = inr (reads_current columns side c (table_of content) generation (end + (5 + length records)) (stands_open (on side c) is_open) behind)

  -- the side stays open, with its generation
  pub may_hold : (c : Sides) → MayHaveBatch told.images side front (sealed records) (grown told side end (sealed records)) c → Holds side generation c
  may_hold c m = held m.here
    where
      held : IsClosedBehind front (grown told side end (sealed records)) (on side c) ⊎ IsOpenBehind front (sealed records) (grown told side end (sealed records)) (on side c) → Holds side generation c
      held (inl closed) = side_holds columns side c content.committed generation end (stands_closed (on side c) closed)
      held (inr is_open) = side_holds columns side c (table_of content) generation (end + (5 + length records)) (stands_open (on side c) is_open)

  -- after a commit
  pub settled_then : (new : Told) → IsOpenBehind front (sealed records) (grown told side end (sealed records)) (on side new.bytes) → Within new.images (λ c. on side c ≡ on side new.bytes) → OtherStays side told new
      → IsSettled new side (table_of content) generation (end + (5 + length records))
  settled_then new is_open only stays = record {
    stands = subst (λ (cs : List Column). OwnSide cs (on side new.bytes) (table_of content) generation (end + (5 + length records))) (sym (columns_stay (at_batches content.committed) content.pending)) (stands_open (on side new.bytes) is_open);
    only = only;
    behind = λ c left. let from = stays.each c left in subst (IsBehind generation) (sym from.2) (s.behind from.0 from.1);
  }
