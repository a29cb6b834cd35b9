-- Bytes stand for one list of records at most, or fail in one way.
use Rattle.std.proofs.Common.{◌≡◌, ℕ, ◌+◌, ◌⊎◌, List, [], ◌∷◌, ◌++◌, Option, None, Some, length, inl, inr, refl, sym, ap, subst, ◌∙◌, append_assoc}
use Rattle.std.proofs.lemmas.List.{append-nil}
use Rattle.q4_value.specs.declared.column.Column.{Column}
use Rattle.q4_value.specs.Spelling.{row_bytes}
use Rattle.q4_record.specs.declared.head.Head.{Head}
use Rattle.q4_record.specs.declared.head.Head.TheVariants.{Insert, End, Mark, Next}
use Rattle.q4_record.specs.declared.side.SideFault.{SideFault}
use Rattle.q4_record.specs.declared.side.SideFault.TheVariants as fault
use Rattle.q4_record.specs.Wide.{IsWideRow}
use Rattle.q4_record.specs.Record.{Record, head_bytes, record_bytes, records_bytes, row_columns, IsRecord}
use Rattle.q4_record.specs.Replay.{ReplayState, replayed, replays, passed_limit, Stands, AllStand}
use Rattle.q4_record.specs.Reading.{Comes, BreaksOff, Passes, RecordFails, SectionFails}
use Rattle.q4_record.proofs.WideRows.{rows_once}
use Rattle.q4_record.proofs.Cuts.{cut_not_whole}
use Rattle.q4_record.proofs.Heads.{head_once}

-- no two records stand at the front of the same bytes
pub record_once : (columns : List Column) (r s : Record) (x y : List ℕ) → IsRecord columns r → IsRecord columns s → record_bytes r ++ x ≡ record_bytes s ++ y → (r ≡ s) × (x ≡ y)
record_once columns r s x y is also e =
    let heads = head_once r.head s.head (row_bytes r.columns r.row ++ x) (row_bytes s.columns s.row ++ y) is.head also.head (sym (append_assoc (head_bytes r.head) (row_bytes r.columns r.row) x) ∙ e ∙ append_assoc (head_bytes s.head) (row_bytes s.columns s.row) y) in
    let own = row_columns columns r.head in
    let other : s.columns ≡ own = also.columns_are ∙ ap (row_columns columns) (sym heads.0) in
    let rows = rows_once own r.row s.row x y is.row (subst (λ h. IsWideRow (row_columns columns h) s.row) (sym heads.0) also.row)
    (ap (λ cs. row_bytes cs r.row ++ x) (sym is.columns_are) ∙ heads.1 ∙ ap (λ cs. row_bytes cs s.row ++ y) other) in
    let columns_same : r.columns ≡ s.columns = is.columns_are ∙ sym other in
    ((λ i. record { head = heads.0 i; columns = columns_same i; row = rows.0 i }), rows.1)

-- a record that breaks off is none that stands
breaks_not : (old : ReplayState) (bytes : List ℕ) (r : Record) (rest : List ℕ) → BreaksOff old bytes → IsRecord old.table.columns r → bytes ≡ record_bytes r ++ rest → ⊥
breaks_not old bytes r rest b is e =
    let columns = old.table.columns in
    let heads = head_once b.head r.head b.row (row_bytes r.columns r.row ++ rest) b.is is.head (sym b.bytes_are ∙ e ∙ append_assoc (head_bytes r.head) (row_bytes r.columns r.row) rest) in
    let own : r.columns ≡ row_columns columns b.head = is.columns_are ∙ ap (row_columns columns) (sym heads.0) in
    cut_not_whole (row_columns columns b.head) b.row r.row rest b.cut (subst (λ h. IsWideRow (row_columns columns h) r.row) (sym heads.0) is.row) (heads.1 ∙ ap (λ cs. row_bytes cs r.row ++ rest) own)

passed_once : (old : ReplayState) (r s : Record) (one other : Option ℕ) → r ≡ s → passed_limit (replayed old r).table r.row ≡ one → passed_limit (replayed old s).table s.row ≡ other → one ≡ other
passed_once old r s one other same e f = sym e ∙ ap (λ (q : Record). passed_limit (replayed old q).table q.row) same ∙ f

comes_once : (old : ReplayState) (bytes : List ℕ) (r s : Record) (rest more : List ℕ) → Comes old bytes r rest → Comes old bytes s more → r ≡ s
comes_once old bytes r s rest more c d = (record_once old.table.columns r s rest more c.is d.is (sym c.bytes_are ∙ d.bytes_are)).0

-- where a record stands none fails
pub stands_not_fails : (old : ReplayState) (bytes : List ℕ) (at : ℕ) (r : Record) (rest : List ℕ) (why : SideFault) → Stands old r → bytes ≡ record_bytes r ++ rest → RecordFails old bytes at why → ⊥
stands_not_fails old bytes at r rest fault.Closed s e fails = fails
stands_not_fails old bytes at r rest (fault.Damaged place) s e fails = fails.1 r rest (record { bytes_are = e; is = s.is; may = s.may })
stands_not_fails old bytes at r rest (fault.Schema n) s e fails = fails
stands_not_fails old bytes at r rest (fault.Large n) s e (inl p) =
    let none = passed_once old r p.r None (Some n) (comes_once old bytes r p.r rest p.rest (record { bytes_are = e; is = s.is; may = s.may }) p.comes) s.within p.passed in
    absurd cc
stands_not_fails old bytes at r rest (fault.Large n) s e (inr b) = breaks_not old bytes r rest b.1 s.is e
stands_not_fails old bytes at r rest fault.Memory s e fails = fails

large_once : (old : ReplayState) (bytes : List ℕ) (m n : ℕ) → Passes old bytes m ⊎ ((m ≡ 4) × BreaksOff old bytes) → Passes old bytes n ⊎ ((n ≡ 4) × BreaksOff old bytes) → m ≡ n
large_once old bytes m n (inl p) (inl q) =
    let same = passed_once old p.r q.r (Some m) (Some n) (comes_once old bytes p.r q.r p.rest q.rest p.comes q.comes) p.passed q.passed in cc
large_once old bytes m n (inl p) (inr b) = absurd (breaks_not old bytes p.r p.rest b.1 p.comes.is p.comes.bytes_are)
large_once old bytes m n (inr b) (inl q) = absurd (breaks_not old bytes q.r q.rest b.1 q.comes.is q.comes.bytes_are)
large_once old bytes m n (inr a) (inr b) = a.0 ∙ sym b.0

damaged_not_large : (old : ReplayState) (bytes : List ℕ) (n : ℕ) → ((r : Record) (rest : List ℕ) → Comes old bytes r rest → ⊥) → (BreaksOff old bytes → ⊥) → Passes old bytes n ⊎ ((n ≡ 4) × BreaksOff old bytes) → ⊥
damaged_not_large old bytes n none whole (inl p) = none p.r p.rest p.comes
damaged_not_large old bytes n none whole (inr b) = whole b.1

-- a record fails in one way
pub record_fails_once : (old : ReplayState) (bytes : List ℕ) (at : ℕ) (why way : SideFault) → RecordFails old bytes at why → RecordFails old bytes at way → why ≡ way
record_fails_once old bytes at fault.Closed way f g = absurd f
record_fails_once old bytes at (fault.Damaged m) fault.Closed f g = absurd g
record_fails_once old bytes at (fault.Damaged m) (fault.Damaged n) f g = ap fault.Damaged (f.0 ∙ sym g.0)
record_fails_once old bytes at (fault.Damaged m) (fault.Schema n) f g = absurd g
record_fails_once old bytes at (fault.Damaged m) (fault.Large n) f g = absurd (damaged_not_large old bytes n f.1 f.2 g)
record_fails_once old bytes at (fault.Damaged m) fault.Memory f g = absurd g
record_fails_once old bytes at (fault.Schema m) way f g = absurd f
record_fails_once old bytes at (fault.Large m) fault.Closed f g = absurd g
record_fails_once old bytes at (fault.Large m) (fault.Damaged n) f g = absurd (damaged_not_large old bytes m g.1 g.2 f)
record_fails_once old bytes at (fault.Large m) (fault.Schema n) f g = absurd g
record_fails_once old bytes at (fault.Large m) (fault.Large n) f g = ap fault.Large (large_once old bytes m n f g)
record_fails_once old bytes at (fault.Large m) fault.Memory f g = absurd g
record_fails_once old bytes at fault.Memory way f g = absurd f

-- a further record stands at the front of the rest
pub record Ahead (replay : ReplayState) (rest : List ℕ) : Type 0 where
  pub r : Record
  pub after : List ℕ
  pub stands : Stands replay r
  pub rest_is : rest ≡ record_bytes r ++ after

-- of two lists of records that stand at the front one goes on behind the other, or they are the same
pub compare : (old : ReplayState) (rs ss : List Record) (x y : List ℕ) → AllStand old rs → AllStand old ss → records_bytes rs ++ x ≡ records_bytes ss ++ y → ((rs ≡ ss) × (x ≡ y)) ⊎ Ahead (replays old rs) x ⊎ Ahead (replays old ss) y
compare old [] [] x y a b e = inl (refl, e)
compare old [] (s ∷ ss) x y a b e = inr (inl (record { r = s; after = records_bytes ss ++ y; stands = b.0; rest_is = e ∙ append_assoc (record_bytes s) (records_bytes ss) y }))
compare old (r ∷ rs) [] x y a b e = inr (inr (record { r = r; after = records_bytes rs ++ x; stands = a.0; rest_is = sym e ∙ append_assoc (record_bytes r) (records_bytes rs) x }))
compare old (r ∷ rs) (s ∷ ss) x y a b e =
    let one = record_once old.table.columns r s (records_bytes rs ++ x) (records_bytes ss ++ y) a.0.is b.0.is (sym (append_assoc (record_bytes r) (records_bytes rs) x) ∙ e ∙ append_assoc (record_bytes s) (records_bytes ss) y) in
    elim (compare (replayed old r) rs ss x y a.1 (subst (λ q. AllStand (replayed old q) ss) (sym one.0) b.1) one.1) [
      | inl same ↦ inl ((λ i. one.0 i ∷ same.0 i), same.1)
      | inr (inl ahead) ↦ inr (inl ahead)
      | inr (inr ahead) ↦ inr (inr (subst (λ q. Ahead (replays (replayed old q) ss) y) one.0 ahead))
    ]

some_record : (r : Record) (after : List ℕ) → [] ≡ record_bytes r ++ after → ⊥
some_record r after e = some_head r.head (row_bytes r.columns r.row ++ after) (e ∙ append_assoc (head_bytes r.head) (row_bytes r.columns r.row) after)
  where
    some_head : (head : Head) (more : List ℕ) → [] ≡ head_bytes head ++ more → ⊥
    some_head (Insert n None) more e = absurd cc
    some_head (Insert n (Some o)) more e = absurd cc
    some_head (End n) more e = absurd cc
    some_head (Mark s n) more e = absurd cc
    some_head (Next n) more e = absurd cc

none_ahead : (replay : ReplayState) → Ahead replay [] → ⊥
none_ahead replay a = some_record a.r a.after a.rest_is

-- the same bytes are one list of records that stand
pub section_once : (old : ReplayState) (rs ss : List Record) → AllStand old rs → AllStand old ss → records_bytes rs ≡ records_bytes ss → rs ≡ ss
section_once old rs ss a b e = elim (compare old rs ss [] [] a b (append-nil (records_bytes rs) ∙ e ∙ sym (append-nil (records_bytes ss)))) [
  | inl same ↦ same.0
  | inr (inl ahead) ↦ absurd (none_ahead (replays old rs) ahead)
  | inr (inr ahead) ↦ absurd (none_ahead (replays old ss) ahead)
]

-- where all records stand none fails
pub section_stands : (old : ReplayState) (bytes : List ℕ) (at : ℕ) (rs : List Record) (why : SideFault) → AllStand old rs → bytes ≡ records_bytes rs → SectionFails old bytes at why → ⊥
section_stands old bytes at rs why a e f = elim (compare old rs f.front [] f.rest a f.stand (append-nil (records_bytes rs) ∙ sym e ∙ f.bytes_are)) [
  | inl same ↦ f.more (sym same.1)
  | inr (inl ahead) ↦ none_ahead (replays old rs) ahead
  | inr (inr ahead) ↦ stands_not_fails (replays old f.front) f.rest (at + length (records_bytes f.front)) ahead.r ahead.after why ahead.stands ahead.rest_is f.fails
]

same_fault : (old : ReplayState) (at : ℕ) (front other : List Record) (rest more : List ℕ) (why way : SideFault) → front ≡ other → rest ≡ more → RecordFails (replays old front) rest (at + length (records_bytes front)) why
    → RecordFails (replays old other) more (at + length (records_bytes other)) way → why ≡ way
same_fault old at front other rest more why way fronts rests f g =
    record_fails_once (replays old front) rest (at + length (records_bytes front)) why way f
    (subst (λ bs. RecordFails (replays old front) bs (at + length (records_bytes front)) way) (sym rests) (subst (λ rs. RecordFails (replays old rs) more (at + length (records_bytes rs)) way) (sym fronts) g))

-- a base or batch fails in one way
pub section_fails_once : (old : ReplayState) (bytes : List ℕ) (at : ℕ) (why way : SideFault) → SectionFails old bytes at why → SectionFails old bytes at way → why ≡ way
section_fails_once old bytes at why way f g = elim (compare old f.front g.front f.rest g.rest f.stand g.stand (sym f.bytes_are ∙ g.bytes_are)) [
  | inl same ↦ same_fault old at f.front g.front f.rest g.rest why way same.0 same.1 f.fails g.fails
  | inr (inl ahead) ↦ absurd (stands_not_fails (replays old f.front) f.rest (at + length (records_bytes f.front)) ahead.r ahead.after why ahead.stands ahead.rest_is f.fails)
  | inr (inr ahead) ↦ absurd (stands_not_fails (replays old g.front) g.rest (at + length (records_bytes g.front)) ahead.r ahead.after way ahead.stands ahead.rest_is g.fails)
]
