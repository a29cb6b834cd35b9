-- Bytes are one side at most, or fail in one way.
use Rattle.std.proofs.Common.{◌≡◌, ◌≢◌, ℕ, ◌+◌, ◌^◌, ◌<◌, ◌≤◌, ◌⊎◌, Bool, List, [], ◌∷◌, ◌++◌, Result, Ok, Err, length, get_or, drop, inl, inr, refl, sym, ap, subst, ◌∙◌, append_assoc, arith}
use Rattle.std.specs.Prelude.{IfOk, IfErr}
use Rattle.std.specs.Int.{w32, to_be_bytes}
use Rattle.std.proofs.lemmas.List.{length-append, length-drop}
use Rattle.std.proofs.lemmas.Nat.{from_be_bytes-to_be_bytes_4}
use Rattle.q4_value.specs.declared.column.Column.{Column}
use Rattle.q4_value.specs.Reading.{told_length}
use Rattle.q4_value.specs.Row.{AreWider}
use Rattle.q4_value.proofs.Rows.{append_same}
use Rattle.q4_table.specs.Cursors.{TableView}
use Rattle.q4_table.specs.TableState.{TableState}
use Rattle.q4_record.specs.declared.side.SideFault.{SideFault}
use Rattle.q4_record.specs.declared.side.SideFault.TheVariants as fault
use Rattle.q4_record.specs.Record.{Record, records_bytes}
use Rattle.q4_record.specs.Replay.{ReplayState, replays, at_batches, AllStand}
use Rattle.q4_record.specs.Reading.{SectionFails}
use Rattle.q4_record.specs.Schema.{IsSchema, SchemaFails}
use Rattle.q4_record.specs.Side.{side_limit, generation_limit, base_at, base_length_of, base_of, format_of, IsOpen, Begins, batch_bytes, batches_bytes, BatchesStand, after_batches, Reaches, place_behind, IsWhole, HasRoom, OwnSide, Side}
use Rattle.q4_record.specs.Faults.{HeaderFails, EndsInBatch, BatchRecordsFail, BatchFails, BatchesFail, OwnFails, PartsFail, IsSpent, OpenFails, SideFails}
use Rattle.q4_record.proofs.WideRows.{same_length}
use Rattle.q4_record.proofs.Once.{section_once, section_stands, section_fails_once}
use Rattle.q4_record.proofs.OneBase.{schema_not, schema_fails_once, base_once, base_stands, base_fails_once}
use Rattle.q4_record.proofs.WideSides.{HasOwn, reached_schema, failed_schema, whole_schema, own_schema, owns_once}

-- ---- batches

-- the records of a batch, and what is behind it
parts_once : (one other : List ℕ) (x y : List ℕ) → length one < 2 ^ 32 → length other < 2 ^ 32 → to_be_bytes w32 (length one) ++ one ++ x ≡ to_be_bytes w32 (length other) ++ other ++ y → (one ≡ other) × (x ≡ y)
parts_once one other x y one_fits other_fits e =
    let apart = append_same (to_be_bytes w32 (length one)) (to_be_bytes w32 (length other)) (one ++ x) (other ++ y) refl e in
    append_same one other x y (same_length (length one) (length other) one_fits other_fits apart.0) apart.1

-- a further batch stands at the front of the rest
pub record BatchAhead (replay : ReplayState) (rest : List ℕ) : Type 0 where
  pub batch : List Record
  pub after : List ℕ
  pub stand : AllStand replay batch
  pub rest_is : rest ≡ batch_bytes batch ++ after
  pub more : 1 ≤ length after
  pub few : length (records_bytes batch) < 2 ^ 32

few_records : (b : List Record) (bs : List (List Record)) (x : List ℕ) → length (batches_bytes (b ∷ bs) ++ x) ≤ side_limit → length (records_bytes b) < 2 ^ 32
few_records b bs x le =
    omega (arith, le, length-append (batch_bytes b ++ batches_bytes bs) x, length-append (batch_bytes b) (batches_bytes bs))

behind_few : (b : List Record) (bs : List (List Record)) (x : List ℕ) → length (batches_bytes (b ∷ bs) ++ x) ≤ side_limit → length (batches_bytes bs ++ x) ≤ side_limit
behind_few b bs x le =
    omega (arith, le, length-append (batch_bytes b ++ batches_bytes bs) x, length-append (batch_bytes b) (batches_bytes bs), length-append (batches_bytes bs) x)

some_behind : (bs : List (List Record)) (x : List ℕ) → 1 ≤ length x → 1 ≤ length (batches_bytes bs ++ x)
some_behind bs x le = omega (arith, le, length-append (batches_bytes bs) x)

ahead_of : (replay : ReplayState) (b : List Record) (bs : List (List Record)) (x rest : List ℕ) → AllStand replay b → length (batches_bytes (b ∷ bs) ++ x) ≤ side_limit → 1 ≤ length x → rest ≡ batches_bytes (b ∷ bs) ++ x → BatchAhead replay rest
ahead_of replay b bs x rest all few left e = record {
  batch = b;
  after = batches_bytes bs ++ x;
  stand = all;
  rest_is = e ∙ append_assoc (batch_bytes b) (batches_bytes bs) x;
  more = some_behind bs x left;
  few = few_records b bs x few;
}

-- of two lists of batches that stand at the front one goes on behind the other, or they are the same
batches_compare : (replay : ReplayState) (bs cs : List (List Record)) (x y : List ℕ) → BatchesStand replay bs → BatchesStand replay cs → 1 ≤ length x → 1 ≤ length y → length (batches_bytes bs ++ x) ≤ side_limit → batches_bytes bs ++ x ≡ batches_bytes cs ++ y
    → ((bs ≡ cs) × (x ≡ y)) ⊎ BatchAhead (after_batches replay bs) x ⊎ BatchAhead (after_batches replay cs) y
batches_compare replay [] [] x y a d left also few e = inl (refl, e)
batches_compare replay [] (c ∷ cs) x y a d left also few e = inr (inl (ahead_of replay c cs y x d.0 (subst (λ bs. length bs ≤ side_limit) e few) also e))
batches_compare replay (b ∷ bs) [] x y a d left also few e = inr (inr (ahead_of replay b bs x y a.0 few left (sym e)))
batches_compare replay (b ∷ bs) (c ∷ cs) x y a d left also few e =
    let one = parts_once (records_bytes b) (records_bytes c) (batches_bytes bs ++ x) (batches_bytes cs ++ y) (few_records b bs x few) (few_records c cs y (subst (λ bs. length bs ≤ side_limit) e few))
    (ap (drop 1) (sym (append_assoc (batch_bytes b) (batches_bytes bs) x) ∙ e ∙ append_assoc (batch_bytes c) (batches_bytes cs) y)) in
    let same = section_once replay b c a.0 d.0 one.0 in
    elim (batches_compare (replays replay b) bs cs x y a.1 (subst (λ q. BatchesStand (replays replay q) cs) (sym same) d.1) left also (behind_few b bs x few) one.1) [
      | inl equal ↦ inl ((λ i. same i ∷ equal.0 i), equal.1)
      | inr (inl ahead) ↦ inr (inl ahead)
      | inr (inr ahead) ↦ inr (inr (subst (λ q. BatchAhead (after_batches (replays replay q) cs) y) same ahead))
    ]

-- where a batch stands there is no closing gate, and no batch fails
closed_not : (replay : ReplayState) (closing : ℕ) (ignored : List ℕ) → closing ≢ 1 → BatchAhead replay (closing ∷ ignored) → ⊥
closed_not replay closing ignored closed a = closed (ap (λ bs. get_or bs 0 0) a.rest_is)

ends_not : (records after more : List ℕ) → length records < 2 ^ 32 → 1 ≤ length after → more ≡ to_be_bytes w32 (length records) ++ records ++ after → EndsInBatch more → ⊥
ends_not records after more few left e ends =
    let told : told_length more ≡ length records = ap told_length e ∙ from_be_bytes-to_be_bytes_4 (length records) few in
    let len = ap length e in
    let parts = length-append records after in
    elim ends [
      | inl short ↦ omega (arith, short, len, parts)
      | inr short ↦ omega (arith, short, len, parts, told, left)
    ]

section_few : (section : List ℕ) → length section ≤ side_limit → length section < 2 ^ 32
section_few section le = omega (arith, le)

batch_stands : (replay : ReplayState) (more : List ℕ) (at : ℕ) (why : SideFault) → BatchAhead replay (1 ∷ more) → BatchFails replay more at why → ⊥
batch_stands replay more at why a (inl ends) = ends_not (records_bytes a.batch) a.after more a.few a.more (ap (drop 1) a.rest_is) ends.1
batch_stands replay more at why a (inr f) =
    let same = parts_once f.section (records_bytes a.batch) f.after a.after (section_few f.section f.few) a.few (sym f.bytes_are ∙ ap (drop 1) a.rest_is) in
    section_stands replay f.section (at + 5) a.batch why a.stand same.0 f.fails

records_and_end : (replay : ReplayState) (more : List ℕ) (at : ℕ) (why : SideFault) → EndsInBatch more → BatchRecordsFail replay more at why → ⊥
records_and_end replay more at why ends f = ends_not f.section f.after more (section_few f.section f.few) (some f.after f.more) f.bytes_are ends
  where
    some : (after : List ℕ) → after ≢ [] → 1 ≤ length after
    some [] more = absurd (more refl)
    some (b ∷ bs) more = omega arith

batch_fails_once : (replay : ReplayState) (more : List ℕ) (at : ℕ) (why way : SideFault) → BatchFails replay more at why → BatchFails replay more at way → why ≡ way
batch_fails_once replay more at why way (inl f) (inl g) = f.0 ∙ sym g.0
batch_fails_once replay more at why way (inl f) (inr g) = absurd (records_and_end replay more at way f.1 g)
batch_fails_once replay more at why way (inr f) (inl g) = absurd (records_and_end replay more at why g.1 f)
batch_fails_once replay more at why way (inr f) (inr g) =
    let same = parts_once g.section f.section g.after f.after (section_few g.section g.few) (section_few f.section f.few) (sym g.bytes_are ∙ f.bytes_are) in
    section_fails_once replay f.section (at + 5) why way f.fails (subst (λ bs. SectionFails replay bs (at + 5) way) same.0 g.fails)

-- ---- the header, and batches behind a base

header_begins : (bytes : List ℕ) (why : SideFault) → Begins bytes → HeaderFails bytes why → ⊥
header_begins bytes fault.Closed b f = f
header_begins bytes (fault.Damaged n) b f = f.2 b.header
header_begins bytes (fault.Schema n) b f = f
header_begins bytes (fault.Large n) b (inl f) = let few = b.few in omega (arith, f.1, few)
header_begins bytes (fault.Large n) b (inr f) = let limit = b.generation in omega (arith, f.3, limit)
header_begins bytes fault.Memory b f = f

large_header_once : (bytes : List ℕ) (m n : ℕ) → HeaderFails bytes (fault.Large m) → HeaderFails bytes (fault.Large n) → m ≡ n
large_header_once bytes m n (inl f) (inl g) = f.0 ∙ sym g.0
large_header_once bytes m n (inl f) (inr g) = absurd (omega (arith, f.1, g.1))
large_header_once bytes m n (inr f) (inl g) = absurd (omega (arith, f.1, g.1))
large_header_once bytes m n (inr f) (inr g) = f.0 ∙ sym g.0

damaged_large : (bytes : List ℕ) (m n : ℕ) → HeaderFails bytes (fault.Damaged m) → HeaderFails bytes (fault.Large n) → ⊥
damaged_large bytes m n f (inl g) = omega (arith, f.1, g.1)
damaged_large bytes m n f (inr g) = f.2 g.2

header_fails_once : (bytes : List ℕ) (why way : SideFault) → HeaderFails bytes why → HeaderFails bytes way → why ≡ way
header_fails_once bytes fault.Closed way f g = absurd f
header_fails_once bytes (fault.Damaged m) fault.Closed f g = absurd g
header_fails_once bytes (fault.Damaged m) (fault.Damaged n) f g = ap fault.Damaged (f.0 ∙ sym g.0)
header_fails_once bytes (fault.Damaged m) (fault.Schema n) f g = absurd g
header_fails_once bytes (fault.Damaged m) (fault.Large n) f g = absurd (damaged_large bytes m n f g)
header_fails_once bytes (fault.Damaged m) fault.Memory f g = absurd g
header_fails_once bytes (fault.Schema m) way f g = absurd f
header_fails_once bytes (fault.Large m) fault.Closed f g = absurd g
header_fails_once bytes (fault.Large m) (fault.Damaged n) f g = absurd (damaged_large bytes n m g f)
header_fails_once bytes (fault.Large m) (fault.Schema n) f g = absurd g
header_fails_once bytes (fault.Large m) (fault.Large n) f g = ap fault.Large (large_header_once bytes m n f g)
header_fails_once bytes (fault.Large m) fault.Memory f g = absurd g
header_fails_once bytes fault.Memory way f g = absurd f

-- one point that the reading of a side reaches
record SamePoint (bs cs : List (List Record)) (replay other : ReplayState) (x y : List ℕ) : Type 0 where
  batches : bs ≡ cs
  replays_are : replay ≡ other
  rests : x ≡ y

few_behind : (columns : List Column) (bytes : List ℕ) (bs : List (List Record)) (replay : ReplayState) (x : List ℕ) → (r : Reaches columns bytes bs replay x) → length (batches_bytes bs ++ x) ≤ side_limit
few_behind columns bytes bs replay x r =
    let few = r.begins.few in
    omega (arith, few, ap length r.behind, length-drop (base_at + base_length_of bytes) bytes)

point_compare : (columns : List Column) (bytes : List ℕ) (bs cs : List (List Record)) (replay other : ReplayState) (x y : List ℕ) → Reaches columns bytes bs replay x → Reaches columns bytes cs other y → 1 ≤ length x → 1 ≤ length y
    → SamePoint bs cs replay other x y ⊎ BatchAhead replay x ⊎ BatchAhead other y
point_compare columns bytes bs cs replay other x y r q left also =
    let tables = base_once (format_of bytes) columns (base_of bytes) r.base_table q.base_table r.base q.base in
    let stand = subst (λ (t : TableState). BatchesStand (at_batches t) cs) (sym tables) q.stand in
    let other_is : other ≡ after_batches (at_batches r.base_table) cs = q.replay_is ∙ ap (λ (t : TableState). after_batches (at_batches t) cs) (sym tables) in
    elim (batches_compare (at_batches r.base_table) bs cs x y r.stand stand left also (few_behind columns bytes bs replay x r) (sym r.behind ∙ q.behind)) [
      | inl same ↦ inl (record { batches = same.0; replays_are = r.replay_is ∙ ap (after_batches (at_batches r.base_table)) same.0 ∙ sym other_is; rests = same.1 })
      | inr (inl ahead) ↦ inr (inl (subst (λ q. BatchAhead q x) (sym r.replay_is) ahead))
      | inr (inr ahead) ↦ inr (inr (subst (λ q. BatchAhead q y) (sym other_is) ahead))
    ]

some_left : (b : ℕ) (bs : List ℕ) → 1 ≤ length (b ∷ bs)
some_left b bs = omega arith

pub whole_once : (columns : List Column) (bytes : List ℕ) (one other : TableState) (g h m n : ℕ) → IsWhole columns bytes one g m → IsWhole columns bytes other h n → (one ≡ other) × (g ≡ h) × (m ≡ n)
whole_once columns bytes one other g h m n w v =
    elim (point_compare columns bytes w.batches v.batches w.replay v.replay (w.closing ∷ w.ignored) (v.closing ∷ v.ignored) w.reaches v.reaches (some_left w.closing w.ignored) (some_left v.closing v.ignored)) [
      | inl same ↦ (w.table_is ∙ ap (λ (q : ReplayState). q.table) same.replays_are ∙ sym v.table_is, w.generation_is ∙ sym v.generation_is, w.len_is ∙ ap (λ bs. place_behind bytes bs + 1) same.batches ∙ sym v.len_is)
      | inr (inl ahead) ↦ absurd (closed_not w.replay w.closing w.ignored w.closed ahead)
      | inr (inr ahead) ↦ absurd (closed_not v.replay v.closing v.ignored v.closed ahead)
    ]

first_same : (a b : ℕ) (xs ys : List ℕ) → a ∷ xs ≡ b ∷ ys → (a ≡ b) × (xs ≡ ys)
first_same a b xs ys e = (ap (λ bs. get_or bs 0 0) e, ap (drop 1) e)

whole_not_fails : (columns : List Column) (bytes : List ℕ) (table : TableState) (g n : ℕ) (why : SideFault) → IsWhole columns bytes table g n → BatchesFail columns bytes why → ⊥
whole_not_fails columns bytes table g n why w f =
    elim (point_compare columns bytes w.batches f.batches w.replay f.replay (w.closing ∷ w.ignored) (1 ∷ f.more) w.reaches f.reaches (some_left w.closing w.ignored) (some_left 1 f.more)) [
      | inl same ↦ w.closed (first_same w.closing 1 w.ignored f.more same.rests).0
      | inr (inl ahead) ↦ closed_not w.replay w.closing w.ignored w.closed ahead
      | inr (inr ahead) ↦ batch_stands f.replay f.more (place_behind bytes f.batches) why ahead f.fails
    ]

same_batch : (columns : List Column) (bytes : List ℕ) (bs cs : List (List Record)) (replay other : ReplayState) (x y : List ℕ) (why way : SideFault) → SamePoint bs cs replay other (1 ∷ x) (1 ∷ y) → BatchFails replay x (place_behind bytes bs) why → BatchFails other y (place_behind bytes cs) way → why ≡ way
same_batch columns bytes bs cs replay other x y why way s f g =
    batch_fails_once replay x (place_behind bytes bs) why way f
    (subst (λ ds. BatchFails replay x (place_behind bytes ds) way) (sym s.batches)
    (subst (λ q. BatchFails q x (place_behind bytes cs) way) (sym s.replays_are)
    (subst (λ ws. BatchFails other ws (place_behind bytes cs) way) (sym (first_same 1 1 x y s.rests).1) g)))

batches_fail_once : (columns : List Column) (bytes : List ℕ) (why way : SideFault) → BatchesFail columns bytes why → BatchesFail columns bytes way → why ≡ way
batches_fail_once columns bytes why way f g =
    elim (point_compare columns bytes f.batches g.batches f.replay g.replay (1 ∷ f.more) (1 ∷ g.more) f.reaches g.reaches (some_left 1 f.more) (some_left 1 g.more)) [
      | inl same ↦ same_batch columns bytes f.batches g.batches f.replay g.replay f.more g.more why way same f.fails g.fails
      | inr (inl ahead) ↦ absurd (batch_stands f.replay f.more (place_behind bytes f.batches) why ahead f.fails)
      | inr (inr ahead) ↦ absurd (batch_stands g.replay g.more (place_behind bytes g.batches) way ahead g.fails)
    ]

-- ---- what is behind the schema

-- a side that stands for a table does not fail behind its schema
own_stands : (own : List Column) (bytes : List ℕ) (table : TableState) (g n : ℕ) (why : SideFault) → OwnSide own bytes table g n → OwnFails own bytes why → ⊥
own_stands own bytes table g n why s (inl base) =
    let reaches = s.stands.reaches in
    base_stands (format_of bytes) own (base_of bytes) reaches.base_table why reaches.base base.1
own_stands own bytes table g n why s (inr (inl batches)) = whole_not_fails own bytes table g n why s.stands batches
own_stands own bytes table g n why s (inr (inr room)) =
    let same = whole_once own bytes table room.table g room.generation n room.len s.stands room.stands in
    room.lacks (subst (λ (t : TableState). HasRoom t room.len) same.0 (subst (HasRoom table) same.2 s.room))

own_fails_once : (own : List Column) (bytes : List ℕ) (why way : SideFault) → OwnFails own bytes why → OwnFails own bytes way → why ≡ way
own_fails_once own bytes why way (inl f) (inl g) = base_fails_once (format_of bytes) own (base_of bytes) why way f.1 g.1
own_fails_once own bytes why way (inl f) (inr (inl g)) = absurd (base_stands (format_of bytes) own (base_of bytes) g.reaches.base_table why g.reaches.base f.1)
own_fails_once own bytes why way (inl f) (inr (inr g)) = absurd (base_stands (format_of bytes) own (base_of bytes) g.stands.reaches.base_table why g.stands.reaches.base f.1)
own_fails_once own bytes why way (inr (inl f)) (inl g) = absurd (base_stands (format_of bytes) own (base_of bytes) f.reaches.base_table way f.reaches.base g.1)
own_fails_once own bytes why way (inr (inl f)) (inr (inl g)) = batches_fail_once own bytes why way f g
own_fails_once own bytes why way (inr (inl f)) (inr (inr g)) = absurd (whole_not_fails own bytes g.table g.generation g.len why g.stands f)
own_fails_once own bytes why way (inr (inr f)) (inl g) = absurd (base_stands (format_of bytes) own (base_of bytes) f.stands.reaches.base_table way f.stands.reaches.base g.1)
own_fails_once own bytes why way (inr (inr f)) (inr (inl g)) = absurd (whole_not_fails own bytes f.table f.generation f.len way f.stands g)
own_fails_once own bytes why way (inr (inr f)) (inr (inr g)) = f.why_is ∙ sym g.why_is

-- ---- the side

-- a side of its own columns has one table, one generation and one length
pub own_once : (columns : List Column) (bytes : List ℕ) (one other : TableState) (g h m n : ℕ) → OwnSide columns bytes one g m → OwnSide columns bytes other h n → (one ≡ other) × (g ≡ h) × (m ≡ n)
own_once columns bytes one other g h m n s t = whole_once columns bytes one other g h m n s.stands t.stands

-- a side has one table, one generation and one length
pub side_once : (columns : List Column) (bytes : List ℕ) (one other : TableState) (g h m n : ℕ) → Side columns bytes one g m → Side columns bytes other h n → (one ≡ other) × (g ≡ h) × (m ≡ n)
side_once columns bytes one other g h m n s t =
    let owns = owns_once s.own t.own bytes (own_schema s.own bytes s.own_table g m s.stands) (own_schema t.own bytes t.own_table h n t.stands) in
    let once = own_once s.own bytes s.own_table t.own_table g h m n s.stands (subst (λ cs. OwnSide cs bytes t.own_table h n) (sym owns) t.stands) in
    (s.table_is ∙ ap (λ (u : TableState). record u { columns = columns }) once.0 ∙ sym t.table_is, once.1, once.2)

parts_begin : (columns : List Column) (bytes : List ℕ) (why : SideFault) → (f : PartsFail columns bytes why) → HasOwn f.own bytes
parts_begin columns bytes why f = elim f.fails [
  | inl base ↦ failed_schema f.own bytes why base
  | inr (inl batches) ↦ reached_schema f.own bytes batches.batches batches.replay (1 ∷ batches.more) batches.reaches
  | inr (inr room) ↦ whole_schema f.own bytes room.table room.generation room.len room.stands
]

spent_begin : (columns : List Column) (bytes : List ℕ) (why : SideFault) → (f : IsSpent columns bytes why) → HasOwn f.own bytes
spent_begin columns bytes why f = own_schema f.own bytes f.own_table generation_limit f.len f.stands

-- Why an open side stands for no table, but for its header.
abbrev BehindFails : List Column → List ℕ → SideFault → Type 0
BehindFails columns bytes why = (Begins bytes × SchemaFails (format_of bytes) columns (base_of bytes) base_at why) ⊎ PartsFail columns bytes why ⊎ IsSpent columns bytes why

behind_begins : (columns : List Column) (bytes : List ℕ) (why : SideFault) → BehindFails columns bytes why → Begins bytes
behind_begins columns bytes why (inl schema) = schema.0
behind_begins columns bytes why (inr (inl parts)) = (parts_begin columns bytes why parts).begins
behind_begins columns bytes why (inr (inr spent)) = (spent_begin columns bytes why spent).begins

-- where the schema of the columns or of narrower ones stands it does not fail
stood : (columns own : List Column) (bytes : List ℕ) (why : SideFault) → IsSchema columns → AreWider columns own → HasOwn own bytes → Begins bytes × SchemaFails (format_of bytes) columns (base_of bytes) base_at why → ⊥
stood columns own bytes why is w has f = schema_not (format_of bytes) columns own (base_of bytes) has.records base_at why is w has.may has.base_is f.1

-- a part that fails is one of a side that is read no further
parts_not : (columns : List Column) (bytes : List ℕ) (own : List Column) (table : TableState) (g n : ℕ) (why : SideFault) → OwnSide own bytes table g n → PartsFail columns bytes why → ⊥
parts_not columns bytes own table g n why s f =
    let owns = owns_once f.own own bytes (parts_begin columns bytes why f) (own_schema own bytes table g n s) in
    own_stands own bytes table g n why s (subst (λ cs. OwnFails cs bytes why) owns f.fails)

parts_fail_once : (columns : List Column) (bytes : List ℕ) (why way : SideFault) → PartsFail columns bytes why → PartsFail columns bytes way → why ≡ way
parts_fail_once columns bytes why way f g =
    let owns = owns_once g.own f.own bytes (parts_begin columns bytes way g) (parts_begin columns bytes why f) in
    own_fails_once f.own bytes why way f.fails (subst (λ cs. OwnFails cs bytes way) owns g.fails)

behind_fails_once : (columns : List Column) (bytes : List ℕ) (why way : SideFault) → IsSchema columns → BehindFails columns bytes why → BehindFails columns bytes way → why ≡ way
behind_fails_once columns bytes why way is (inl f) (inl g) = schema_fails_once (format_of bytes) columns (base_of bytes) base_at why way f.1 g.1
behind_fails_once columns bytes why way is (inl f) (inr (inl g)) = absurd (stood columns g.own bytes why is g.wider (parts_begin columns bytes way g) f)
behind_fails_once columns bytes why way is (inl f) (inr (inr g)) = absurd (stood columns g.own bytes why is g.wider (spent_begin columns bytes way g) f)
behind_fails_once columns bytes why way is (inr (inl f)) (inl g) = absurd (stood columns f.own bytes way is f.wider (parts_begin columns bytes why f) g)
behind_fails_once columns bytes why way is (inr (inl f)) (inr (inl g)) = parts_fail_once columns bytes why way f g
behind_fails_once columns bytes why way is (inr (inl f)) (inr (inr g)) = absurd (parts_not columns bytes g.own g.own_table generation_limit g.len why g.stands f)
behind_fails_once columns bytes why way is (inr (inr f)) (inl g) = absurd (stood columns f.own bytes way is f.wider (spent_begin columns bytes why f) g)
behind_fails_once columns bytes why way is (inr (inr f)) (inr (inl g)) = absurd (parts_not columns bytes f.own f.own_table generation_limit f.len way f.stands g)
behind_fails_once columns bytes why way is (inr (inr f)) (inr (inr g)) = f.why_is ∙ sym g.why_is

-- bytes fail in one way
open_fails_once : (columns : List Column) (bytes : List ℕ) (why way : SideFault) → IsSchema columns → OpenFails columns bytes why → OpenFails columns bytes way → why ≡ way
open_fails_once columns bytes why way is (inl f) (inl g) = header_fails_once bytes why way f g
open_fails_once columns bytes why way is (inl f) (inr g) = absurd (header_begins bytes why (behind_begins columns bytes way g) f)
open_fails_once columns bytes why way is (inr f) (inl g) = absurd (header_begins bytes way (behind_begins columns bytes why f) g)
open_fails_once columns bytes why way is (inr f) (inr g) = behind_fails_once columns bytes why way is f g

-- a narrower side of the greatest generation is none
spent_not : (columns : List Column) (bytes : List ℕ) (table : TableState) (g n : ℕ) (why : SideFault) → Side columns bytes table g n → IsSpent columns bytes why → ⊥
spent_not columns bytes table g n why s f =
    let owns = owns_once s.own f.own bytes (own_schema s.own bytes s.own_table g n s.stands) (spent_begin columns bytes why f) in
    let once = own_once f.own bytes s.own_table f.own_table g generation_limit n f.len (subst (λ cs. OwnSide cs bytes s.own_table g n) owns s.stands) f.stands in
    let below : g < generation_limit = s.greater (λ same. f.other (sym owns ∙ same)) in
    omega (arith, below, once.1)

-- bytes that are a side do not fail
side_not_fails : (columns : List Column) (bytes : List ℕ) (table : TableState) (g n : ℕ) (why : SideFault) → IsSchema columns → Side columns bytes table g n → OpenFails columns bytes why → ⊥
side_not_fails columns bytes table g n why is s (inl header) = header_begins bytes why (own_schema s.own bytes s.own_table g n s.stands).begins header
side_not_fails columns bytes table g n why is s (inr (inl schema)) = stood columns s.own bytes why is s.wider (own_schema s.own bytes s.own_table g n s.stands) schema
side_not_fails columns bytes table g n why is s (inr (inr (inl parts))) = parts_not columns bytes s.own s.own_table g n why s.stands parts
side_not_fails columns bytes table g n why is s (inr (inr (inr spent))) = spent_not columns bytes table g n why s spent

open_of_side : (columns : List Column) (bytes : List ℕ) (table : TableState) (g n : ℕ) → Side columns bytes table g n → IsOpen bytes
open_of_side columns bytes table g n s = (own_schema s.own bytes s.own_table g n s.stands).begins.is_open

-- what every fault but want of memory says
pub apart : (columns : List Column) (bytes : List ℕ) (table : TableState) (g n : ℕ) (why : SideFault) → IsSchema columns → Side columns bytes table g n → SideFails columns bytes why → why ≡ fault.Memory
apart columns bytes table g n fault.Closed is s f = absurd (f (open_of_side columns bytes table g n s))
apart columns bytes table g n (fault.Damaged k) is s f = absurd (side_not_fails columns bytes table g n (fault.Damaged k) is s f.1)
apart columns bytes table g n (fault.Schema k) is s f = absurd (side_not_fails columns bytes table g n (fault.Schema k) is s f.1)
apart columns bytes table g n (fault.Large k) is s f = absurd (side_not_fails columns bytes table g n (fault.Large k) is s f.1)
apart columns bytes table g n fault.Memory is s f = refl

opens : (columns : List Column) (bytes : List ℕ) (why : SideFault) → SideFails columns bytes why → (why ≡ fault.Closed) ⊎ (why ≡ fault.Memory) ⊎ (IsOpen bytes × OpenFails columns bytes why)
opens columns bytes fault.Closed f = inl refl
opens columns bytes (fault.Damaged n) f = inr (inr f)
opens columns bytes (fault.Schema n) f = inr (inr f)
opens columns bytes (fault.Large n) f = inr (inr f)
opens columns bytes fault.Memory f = inr (inl refl)

closed_fails : (columns : List Column) (bytes : List ℕ) (why : SideFault) → why ≡ fault.Closed → SideFails columns bytes why → IsOpen bytes → ⊥
closed_fails columns bytes why e f = subst (SideFails columns bytes) e f

-- bytes fail in one way, unless memory is wanted
pub fails_once : (columns : List Column) (bytes : List ℕ) (why way : SideFault) → IsSchema columns → SideFails columns bytes why → SideFails columns bytes way → (why ≡ way) ⊎ (why ≡ fault.Memory) ⊎ (way ≡ fault.Memory)
fails_once columns bytes why way is f g = elim (opens columns bytes why f) [
  | inl closed ↦ elim (opens columns bytes way g) [
    | inl also ↦ inl (closed ∙ sym also)
    | inr (inl memory) ↦ inr (inr memory)
    | inr (inr open_way) ↦ absurd (closed_fails columns bytes why closed f open_way.0)
  ]
  | inr (inl memory) ↦ inr (inl memory)
  | inr (inr open_why) ↦ elim (opens columns bytes way g) [
    | inl also ↦ absurd (closed_fails columns bytes way also g open_why.0)
    | inr (inl memory) ↦ inr (inr memory)
    | inr (inr open_way) ↦ inl (open_fails_once columns bytes why way is open_why.1 open_way.1)
  ]
]

-- what was read is what the bytes stand for
pub read_again : (columns : List Column) (bytes : List ℕ) (r : Result (TableView × ℕ × ℕ × Bool) SideFault) → IsSchema columns → IfOk r (λ found. Side columns bytes found.0.state found.1 found.2) → IfOk r (λ found. found.0.kept ≡ []) → IfErr r (SideFails columns bytes)
    → (table : TableState) (g n : ℕ) → Side columns bytes table g n → ((narrow : Bool) × (r ≡ Ok (record { state = table; kept = [] }, g, n, narrow))) ⊎ (r ≡ Err fault.Memory)
read_again columns bytes (Ok found) is read kept fails table g n s =
    let once = side_once columns bytes found.0.state table found.1 g found.2 n read s in
    let same : found ≡ (record { state = table; kept = [] }, g, n, found.3) = λ i. (record { state = once.0 i; kept = kept i }, once.1 i, once.2 i, found.3) in
    inl (found.3, ap Ok same)
read_again columns bytes (Err why) is read kept fails table g n s = inr (ap Err (apart columns bytes table g n why is s fails))

pub told_again : (columns : List Column) (bytes : List ℕ) (r : Result (TableView × ℕ × ℕ × Bool) SideFault) → IsSchema columns → IfOk r (λ found. Side columns bytes found.0.state found.1 found.2) → IfErr r (SideFails columns bytes)
    → (why : SideFault) → SideFails columns bytes why → (r ≡ Err why) ⊎ (r ≡ Err fault.Memory) ⊎ (why ≡ fault.Memory)
told_again columns bytes (Ok found) is read fails why f = inr (inr (apart columns bytes found.0.state found.1 found.2 why is read f))
told_again columns bytes (Err way) is read fails why f = elim (fails_once columns bytes way why is fails f) [
  | inl same ↦ inl (ap Err same)
  | inr (inl memory) ↦ inr (inl (ap Err memory))
  | inr (inr memory) ↦ inr (inr memory)
]
