-- A base has one schema and one table at most, or fails in one way.
use Rattle.std.proofs.Common.{◌≡◌, ℕ, suc, ◌+◌, ◌<◌, List, [], ◌∷◌, ◌++◌, length, inl, inr, refl, sym, ap, subst, ◌∙◌, arith}
use Rattle.std.specs.List.{All}
use Rattle.std.proofs.lemmas.List.{append_cancel_left}
use Rattle.q4_value.specs.declared.column.Column.{Column}
use Rattle.q4_value.specs.Row.{IsWider, AreWider}
use Rattle.q4_value.proofs.Wider.{length-wider, wider_apart, names-narrower}
use Rattle.q4_table.specs.TableState.{TableState}
use Rattle.q4_record.specs.declared.header.Format.{Format}
use Rattle.q4_record.specs.declared.side.SideFault.{SideFault}
use Rattle.q4_record.specs.declared.side.SideFault.TheVariants as fault
use Rattle.q4_record.specs.Record.{Record, records_bytes}
use Rattle.q4_record.specs.Replay.{ReplayState, replays, at_base, AllStand}
use Rattle.q4_record.specs.Reading.{SectionFails}
use Rattle.q4_record.specs.Schema.{schema_bytes, MayHave, IsSchema, DifferFirst, DifferAt, SchemaFails}
use Rattle.q4_record.specs.Side.{base_at, IsBase}
use Rattle.q4_record.specs.Faults.{RecordsFail, BaseFails}
use Rattle.q4_record.proofs.Schemas.{schema_once}
use Rattle.q4_record.proofs.Once.{section_once, section_stands, section_fails_once}

-- ---- the schema

-- columns that are wider differ at no column
wider_first : (rest other : List Column) → AreWider rest other → DifferFirst rest other → ⊥
wider_first [] [] w d = d
wider_first [] (e ∷ es) w d = w
wider_first (c ∷ cs) [] w d = w
wider_first (c ∷ cs) (e ∷ es) w d = d w.0

differ_not : (columns others : List Column) (n : ℕ) → DifferAt columns others n → AreWider columns others → ⊥
differ_not columns others n d w =
    let at : AreWider (d.front ++ d.rest) (d.other_front ++ d.other_rest) = subst (λ cs. AreWider cs (d.other_front ++ d.other_rest)) d.columns_are (subst (AreWider columns) d.others_are w) in
    wider_first d.rest d.other_rest (wider_apart d.front d.other_front d.rest d.other_rest (length-wider d.front d.other_front d.agree) at).1 d.differ

-- a column that differs first is none of a front whose columns are wider
differ_heads : (c e : Column) (rest other xs ys : List Column) → rest ≡ c ∷ xs → other ≡ e ∷ ys → IsWider c e → DifferFirst rest other → ⊥
differ_heads c e rest other xs ys r o w d =
    let at : DifferFirst (c ∷ xs) (e ∷ ys) = subst (λ cs. DifferFirst cs (e ∷ ys)) r (subst (DifferFirst rest) o d) in
    at w

differ_length : (front other also also_other rest other_rest more other_more : List Column) → front ++ rest ≡ also ++ more → other ++ other_rest ≡ also_other ++ other_more → AreWider front other → AreWider also also_other → DifferFirst rest other_rest → DifferFirst more other_more
    → length front ≡ length also
differ_length [] [] [] [] rest other_rest more other_more e f w v d g = refl
differ_length [] [] [] (b ∷ bs) rest other_rest more other_more e f w v d g = absurd v
differ_length [] [] (a ∷ as_well) [] rest other_rest more other_more e f w v d g = absurd v
differ_length [] [] (a ∷ as_well) (b ∷ bs) rest other_rest more other_more e f w v d g = absurd (differ_heads a b rest other_rest (as_well ++ more) (bs ++ other_more) e f v.0 d)
differ_length [] (o ∷ os) also also_other rest other_rest more other_more e f w v d g = absurd w
differ_length (s ∷ ss) [] also also_other rest other_rest more other_more e f w v d g = absurd w
differ_length (s ∷ ss) (o ∷ os) [] [] rest other_rest more other_more e f w v d g = absurd (differ_heads s o more other_more (ss ++ rest) (os ++ other_rest) (sym e) (sym f) w.0 g)
differ_length (s ∷ ss) (o ∷ os) [] (b ∷ bs) rest other_rest more other_more e f w v d g = absurd v
differ_length (s ∷ ss) (o ∷ os) (a ∷ as_well) [] rest other_rest more other_more e f w v d g = absurd v
differ_length (s ∷ ss) (o ∷ os) (a ∷ as_well) (b ∷ bs) rest other_rest more other_more e f w v d g =
    let tails : ss ++ rest ≡ as_well ++ more = cc in
    let other_tails : os ++ other_rest ≡ bs ++ other_more = cc in
    ap suc (differ_length ss os as_well bs rest other_rest more other_more tails other_tails w.1 v.1 d g)

differ_once : (columns others : List Column) (m n : ℕ) → DifferAt columns others m → DifferAt columns others n → m ≡ n
differ_once columns others m n d g =
    let len = differ_length d.front d.other_front g.front g.other_front d.rest d.other_rest g.rest g.other_rest (sym d.columns_are ∙ g.columns_are) (sym d.others_are ∙ g.others_are) d.agree g.agree d.differ g.differ in
    d.number_is ∙ ap (λ k. k + 1) len ∙ sym g.number_is

-- narrower columns can be spelled where the wide ones can
schema-narrower : (columns own : List Column) → AreWider columns own → IsSchema columns → IsSchema own
schema-narrower columns own w is = record {
  few = omega (arith, is.few, length-wider columns own w);
  names = names-narrower (λ name. length name < 256) columns own w is.names;
}

-- where the schema of the columns or of narrower ones stands it does not fail
pub schema_not : (format : Format) (columns own : List Column) (base section : List ℕ) (at : ℕ) (why : SideFault) → IsSchema columns → AreWider columns own → All (MayHave format) own → base ≡ schema_bytes own ++ section → SchemaFails format columns base at why → ⊥
schema_not format columns own base section at fault.Closed is w may e f = f
schema_not format columns own base section at (fault.Damaged n) is w may e f = f.1 own section (record { is = schema-narrower columns own w is; may = may }) e
schema_not format columns own base section at (fault.Schema n) is w may e f =
    let same = (schema_once own f.others section f.rest (sym e ∙ f.base_is)).0 in
    differ_not columns f.others n f.differ (subst (AreWider columns) same w)
schema_not format columns own base section at (fault.Large n) is w may e f = f
schema_not format columns own base section at fault.Memory is w may e f = f

pub schema_fails_once : (format : Format) (columns : List Column) (base : List ℕ) (at : ℕ) (why way : SideFault) → SchemaFails format columns base at why → SchemaFails format columns base at way → why ≡ way
schema_fails_once format columns base at fault.Closed way f g = absurd f
schema_fails_once format columns base at (fault.Damaged m) fault.Closed f g = absurd g
schema_fails_once format columns base at (fault.Damaged m) (fault.Damaged n) f g = ap fault.Damaged (f.0 ∙ sym g.0)
schema_fails_once format columns base at (fault.Damaged m) (fault.Schema n) f g = absurd (f.1 g.others g.rest g.is g.base_is)
schema_fails_once format columns base at (fault.Damaged m) (fault.Large n) f g = absurd g
schema_fails_once format columns base at (fault.Damaged m) fault.Memory f g = absurd g
schema_fails_once format columns base at (fault.Schema m) fault.Closed f g = absurd g
schema_fails_once format columns base at (fault.Schema m) (fault.Damaged n) f g = absurd (g.1 f.others f.rest f.is f.base_is)
schema_fails_once format columns base at (fault.Schema m) (fault.Schema n) f g =
    let same = (schema_once g.others f.others g.rest f.rest (sym g.base_is ∙ f.base_is)).0 in
    ap fault.Schema (differ_once columns f.others m n f.differ (subst (λ cs. DifferAt columns cs n) same g.differ))
schema_fails_once format columns base at (fault.Schema m) (fault.Large n) f g = absurd g
schema_fails_once format columns base at (fault.Schema m) fault.Memory f g = absurd g
schema_fails_once format columns base at (fault.Large m) way f g = absurd f
schema_fails_once format columns base at fault.Memory way f g = absurd f

-- ---- the records

sections_same : (columns : List Column) (base x y : List ℕ) → base ≡ schema_bytes columns ++ x → base ≡ schema_bytes columns ++ y → x ≡ y
sections_same columns base x y e f = append_cancel_left (schema_bytes columns) x y (sym e ∙ f)

records_not : (format : Format) (columns : List Column) (base : List ℕ) (records : List Record) (why : SideFault) → AllStand (at_base columns) records → base ≡ schema_bytes columns ++ records_bytes records → RecordsFail format columns base why → ⊥
records_not format columns base records why a e f =
    section_stands (at_base columns) f.section (base_at + length (schema_bytes columns)) records why a (sections_same columns base f.section (records_bytes records) f.base_is e) f.fails

base_records : (columns : List Column) (base : List ℕ) (rs ss : List Record) → AllStand (at_base columns) rs → AllStand (at_base columns) ss → base ≡ schema_bytes columns ++ records_bytes rs → base ≡ schema_bytes columns ++ records_bytes ss → rs ≡ ss
base_records columns base rs ss a b e f = section_once (at_base columns) rs ss a b (sections_same columns base (records_bytes rs) (records_bytes ss) e f)

pub base_once : (format : Format) (columns : List Column) (base : List ℕ) (one other : TableState) → IsBase format columns base one → IsBase format columns base other → one ≡ other
base_once format columns base one other b d =
    let same = base_records columns base b.records d.records b.stand d.stand b.base_is d.base_is in
    ap (λ (replay : ReplayState). replay.table) (sym b.replay_is ∙ ap (replays (at_base columns)) same ∙ d.replay_is)

-- where the base stands it does not fail
pub base_stands : (format : Format) (columns : List Column) (base : List ℕ) (table : TableState) (why : SideFault) → IsBase format columns base table → BaseFails format columns base why → ⊥
base_stands format columns base table why b (inl records) = records_not format columns base b.records why b.stand b.base_is records
base_stands format columns base table why b (inr u) =
    let same = base_records columns base b.records u.records b.stand u.stand b.base_is u.base_is in
    u.unfinished (ap (λ (replay : ReplayState). replay.stage) (ap (replays (at_base columns)) (sym same) ∙ b.replay_is))

pub base_fails_once : (format : Format) (columns : List Column) (base : List ℕ) (why way : SideFault) → BaseFails format columns base why → BaseFails format columns base way → why ≡ way
base_fails_once format columns base why way (inl f) (inl g) =
    section_fails_once (at_base columns) f.section (base_at + length (schema_bytes columns)) why way f.fails
    (subst (λ bs. SectionFails (at_base columns) bs (base_at + length (schema_bytes columns)) way) (sections_same columns base g.section f.section g.base_is f.base_is) g.fails)
base_fails_once format columns base why way (inl f) (inr g) = absurd (records_not format columns base g.records why g.stand g.base_is f)
base_fails_once format columns base why way (inr f) (inl g) = absurd (records_not format columns base f.records way f.stand f.base_is g)
base_fails_once format columns base why way (inr f) (inr g) = f.why_is ∙ sym g.why_is
