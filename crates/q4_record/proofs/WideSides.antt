-- A side's own columns, and those that are wider.
use Rattle.std.proofs.Common.{◌≡◌, ℕ, ◌<◌, List, [], ◌∷◌, ◌++◌, inl, inr, refl, sym, ap, subst, ◌∙◌}
use Rattle.std.specs.List.{All}
use Rattle.q4_value.specs.declared.column.Column.{Column}
use Rattle.q4_value.specs.declared.row.Value.{Value}
use Rattle.q4_value.proofs.Wider.{wider-refl, same_or_not}
use Rattle.q4_table.specs.TableState.{TableState}
use Rattle.q4_record.specs.declared.head.Head.{Head}
use Rattle.q4_record.specs.declared.head.Head.TheVariants.{Insert, End, Mark, Next}
use Rattle.q4_record.specs.declared.side.SideFault.{SideFault}
use Rattle.q4_record.specs.Record.{Record, records_bytes}
use Rattle.q4_record.specs.Replay.{ReplayState, table_after, replayed, replays, at_base, at_batches}
use Rattle.q4_record.specs.Schema.{MayHave, schema_bytes}
use Rattle.q4_record.specs.Side.{generation_limit, base_of, format_of, Begins, after_batches, Reaches, IsWhole, OwnSide, Side, IsNarrow}
use Rattle.q4_record.specs.Faults.{BaseFails}
use Rattle.q4_record.proofs.Schemas.{schema_once}

-- The base begins with the schema of these columns, which the format has.
pub record HasOwn (own : List Column) (bytes : List ℕ) : Type 0 where
  pub begins : Begins bytes
  pub may : All (MayHave (format_of bytes)) own
  pub records : List ℕ
  pub base_is : base_of bytes ≡ schema_bytes own ++ records

pub reached_schema : (own : List Column) (bytes : List ℕ) (batches : List (List Record)) (replay : ReplayState) (rest : List ℕ) → Reaches own bytes batches replay rest → HasOwn own bytes
reached_schema own bytes batches replay rest r = record { begins = r.begins; may = r.base.may; records = records_bytes r.base.records; base_is = r.base.base_is }

pub failed_schema : (own : List Column) (bytes : List ℕ) (why : SideFault) → Begins bytes × BaseFails (format_of bytes) own (base_of bytes) why → HasOwn own bytes
failed_schema own bytes why (b, inl f) = record { begins = b; may = f.may; records = f.section; base_is = f.base_is }
failed_schema own bytes why (b, inr f) = record { begins = b; may = f.may; records = records_bytes f.records; base_is = f.base_is }

pub whole_schema : (own : List Column) (bytes : List ℕ) (table : TableState) (generation len : ℕ) → IsWhole own bytes table generation len → HasOwn own bytes
whole_schema own bytes table generation len w = reached_schema own bytes w.batches w.replay (w.closing ∷ w.ignored) w.reaches

pub own_schema : (own : List Column) (bytes : List ℕ) (table : TableState) (generation len : ℕ) → OwnSide own bytes table generation len → HasOwn own bytes
own_schema own bytes table generation len s = whole_schema own bytes table generation len s.stands

-- a side has one list of columns of its own
pub owns_once : (one other : List Column) (bytes : List ℕ) → HasOwn one bytes → HasOwn other bytes → one ≡ other
owns_once one other bytes p q = (schema_once one other p.records q.records (sym p.base_is ∙ q.base_is)).0

narrow_once : (columns own : List Column) (bytes : List ℕ) → HasOwn own bytes → (narrow : IsNarrow columns bytes) → own ≡ narrow.own
narrow_once columns own bytes p narrow = (schema_once own narrow.own p.records narrow.rest (sym p.base_is ∙ narrow.base_is)).0

-- ---- the columns of the table that is read

columns_after : (table : TableState) (head : Head) (row : List Value) → (table_after table head row).columns ≡ table.columns
columns_after table (Insert number origin) row = refl
columns_after table (End number) row = refl
columns_after table (Mark source number) row = refl
columns_after table (Next number) row = refl

columns_stay : (replay : ReplayState) (rs : List Record) → (replays replay rs).table.columns ≡ replay.table.columns
columns_stay replay [] = refl
columns_stay replay (r ∷ rs) = columns_stay (replayed replay r) rs ∙ columns_after replay.table r.head r.row

batches_leave : (replay : ReplayState) (bs : List (List Record)) → (after_batches replay bs).table.columns ≡ replay.table.columns
batches_leave replay [] = refl
batches_leave replay (b ∷ bs) = batches_leave (replays replay b) bs ∙ columns_stay replay b

-- they are the side's own
pub whole_columns : (own : List Column) (bytes : List ℕ) (table : TableState) (generation len : ℕ) → IsWhole own bytes table generation len → table.columns ≡ own
whole_columns own bytes table generation len w =
    let reaches = w.reaches in
    let base = reaches.base in
    let base_columns : reaches.base_table.columns ≡ own = sym (ap (λ (q : ReplayState). q.table.columns) base.replay_is) ∙ columns_stay (at_base own) base.records in
    ap (λ (t : TableState). t.columns) w.table_is ∙ ap (λ (q : ReplayState). q.table.columns) reaches.replay_is ∙ batches_leave (at_batches reaches.base_table) w.batches ∙ base_columns

-- ---- narrower sides

-- a side whose schema is of the columns is a side of these
pub own_is_side : (columns : List Column) (bytes : List ℕ) (table : TableState) (generation len : ℕ) → OwnSide columns bytes table generation len → Side columns bytes table generation len
own_is_side columns bytes table generation len s =
    let same = whole_columns columns bytes table generation len s.stands in
    record { own = columns; own_table = table; wider = wider-refl columns; stands = s; table_is = λ i. record table { columns = same i }; greater = λ other. absurd (other refl) }

-- and its schema is no narrower one
pub own_not_narrow : (columns : List Column) (bytes : List ℕ) (table : TableState) (generation len : ℕ) → OwnSide columns bytes table generation len → IsNarrow columns bytes → ⊥
own_not_narrow columns bytes table generation len s narrow = narrow.other (sym (narrow_once columns columns bytes (own_schema columns bytes table generation len s) narrow))

-- a side with columns of its own
same_own : (columns : List Column) (bytes : List ℕ) (table : TableState) (generation len : ℕ) → (s : Side columns bytes table generation len) → s.own ≡ columns → OwnSide columns bytes table generation len
same_own columns bytes table generation len s same =
    let here : OwnSide columns bytes s.own_table generation len = subst (λ cs. OwnSide cs bytes s.own_table generation len) same s.stands in
    let columns_are = whole_columns columns bytes s.own_table generation len here.stands in
    let equal : s.own_table ≡ table = (λ i. record s.own_table { columns = columns_are i }) ∙ sym s.table_is in
    subst (λ (t : TableState). OwnSide columns bytes t generation len) equal here

-- a side whose schema is not narrower is one whose schema is of the columns
pub side_is_own : (columns : List Column) (bytes : List ℕ) (table : TableState) (generation len : ℕ) → Side columns bytes table generation len → (IsNarrow columns bytes → ⊥) → OwnSide columns bytes table generation len
side_is_own columns bytes table generation len s not_narrow = elim (same_or_not columns s.own s.wider) [
  | inl same ↦ same_own columns bytes table generation len s same
  | inr other ↦ absurd (not_narrow (let p = own_schema s.own bytes s.own_table generation len s.stands in record { own = s.own; rest = p.records; base_is = p.base_is; wider = s.wider; other = other }))
]

-- where it is narrower there is a greater generation
pub narrow_limit : (columns : List Column) (bytes : List ℕ) (table : TableState) (generation len : ℕ) → Side columns bytes table generation len → IsNarrow columns bytes → generation < generation_limit
narrow_limit columns bytes table generation len s narrow =
    let owns = narrow_once columns s.own bytes (own_schema s.own bytes s.own_table generation len s.stands) narrow in
    s.greater (λ same. narrow.other (sym owns ∙ same))
