-- A side, from its parts.
use Rattle.std.proofs.Common.{◌≡◌, ◌≢◌, ℕ, ◌+◌, ◌<◌, ◌⊎◌, List, Option, length, drop, inl, inr, refl, sym, ap, subst, ◌∙◌, arith}
use Rattle.std.proofs.lemmas.List.{length-take-le, length-drop}
use Rattle.q4_value.specs.declared.column.Column.{Column}
use Rattle.q4_value.specs.Row.{AreWider}
use Rattle.q4_table.specs.TableState.{TableState}
use Rattle.q4_record.specs.declared.header.Format.{Format}
use Rattle.q4_record.specs.declared.side.SideFault.{SideFault}
use Rattle.q4_record.specs.declared.side.SideFault.TheVariants as fault
use Rattle.q4_record.specs.Side.{batches_bytes, base_at, base_length_of, base_of, behind_base, generation_limit, generation_of, format_of, Begins, IsBase, IsWhole, HasRoom, OwnSide, Side, IsNarrow}
use Rattle.q4_record.specs.Schema.{SchemaFails}
use Rattle.q4_record.specs.Faults.{BaseFails, BatchFails, BatchesFail, LacksRoom, OpenFails, SideFails}
use Rattle.q4_record.specs.SideParts.{HeaderFailed, BaseRead, BaseFailed, BatchesRead, NextFails, BatchesFailed}
use Rattle.q4_record.proofs.WideSides.{own_schema}

-- the base is as long as is told
pub base_length : (bytes : List ℕ) → Begins bytes → length (base_of bytes) ≡ base_length_of bytes
base_length bytes b =
    let within = b.header.within in
    length-take-le (base_length_of bytes) (drop base_at bytes) (omega (arith, within, length-drop base_at bytes))

whole : (columns : List Column) (bytes base behind : List ℕ) (table new : TableState) (at generation len : ℕ) → Begins bytes → base ≡ base_of bytes → behind ≡ behind_base bytes → generation ≡ generation_of bytes → IsBase (format_of bytes) columns base table → at ≡ base_at + length base
    → BatchesRead table behind at new len → IsWhole columns bytes new generation len
whole columns bytes base behind table new at generation len b base_is behind_is generation_is is at_is r = record {
  batches = r.batches;
  replay = r.replay;
  closing = r.closing;
  ignored = r.ignored;
  reaches = record {
    begins = b;
    base_table = table;
    base = subst (λ bs. IsBase (format_of bytes) columns bs table) base_is is;
    behind = sym behind_is ∙ r.bytes_are;
    stand = r.leads.stand;
    replay_is = r.leads.replay_is;
  };
  closed = r.closed;
  table_is = r.new_is;
  generation_is = generation_is;
  len_is = omega (arith, r.len_is, at_is, ap length base_is, base_length bytes b);
}

-- the base leads to the table in the format that the magic tells
own_base : (columns : List Column) (bytes base : List ℕ) (format : Format) (table : TableState) (wider : Option (List Column)) → format ≡ format_of bytes → (b : BaseRead format columns base table wider) → IsBase (format_of bytes) b.own base table
own_base columns bytes base format table wider e b = subst (λ f. IsBase f b.own base table) e b.is

pub own_read : (columns : List Column) (bytes base behind : List ℕ) (format : Format) (table new : TableState) (wider : Option (List Column)) (at generation len : ℕ) → Begins bytes → base ≡ base_of bytes → behind ≡ behind_base bytes → generation ≡ generation_of bytes → format ≡ format_of bytes
    → (b : BaseRead format columns base table wider) → at ≡ base_at + length base → BatchesRead table behind at new len → HasRoom new len → OwnSide b.own bytes new generation len
own_read columns bytes base behind format table new wider at generation len begins base_is behind_is generation_is format_is b at_is r room =
    record { stands = whole b.own bytes base behind table new at generation len begins base_is behind_is generation_is (own_base columns bytes base format table wider format_is b) at_is r; room = room }

pub lacks_room : (columns : List Column) (bytes base behind : List ℕ) (format : Format) (table new : TableState) (wider : Option (List Column)) (at generation len : ℕ) → Begins bytes → base ≡ base_of bytes → behind ≡ behind_base bytes → generation ≡ generation_of bytes → format ≡ format_of bytes
    → BaseRead format columns base table wider → at ≡ base_at + length base → BatchesRead table behind at new len → (HasRoom new len → ⊥) → SideFails columns bytes (fault.Large 8)
lacks_room columns bytes base behind format table new wider at generation len begins base_is behind_is generation_is format_is b at_is r lacks =
    let stands = whole b.own bytes base behind table new at generation len begins base_is behind_is generation_is (own_base columns bytes base format table wider format_is b) at_is r in
    let room : LacksRoom b.own bytes (fault.Large 8) = record { table = new; generation = generation; len = len; stands = stands; lacks = lacks; why_is = refl } in
    (begins.is_open, inr (inr (inl (record { own = b.own; wider = b.agree; fails = inr (inr room) }))))

-- ---- narrower sides

-- where no wider columns are kept the side's own are those given
pub is_own : (columns own : List Column) (bytes : List ℕ) (table : TableState) (generation len : ℕ) → own ≡ columns → OwnSide own bytes table generation len → OwnSide columns bytes table generation len
is_own columns own bytes table generation len same s = subst (λ cs. OwnSide cs bytes table generation len) same s

pub is_narrow : (columns own : List Column) (bytes : List ℕ) (table : TableState) (generation len : ℕ) → AreWider columns own → own ≢ columns → OwnSide own bytes table generation len → IsNarrow columns bytes
is_narrow columns own bytes table generation len w other s =
    let p = own_schema own bytes table generation len s in
    record { own = own; rest = p.records; base_is = p.base_is; wider = w; other = other }

pub narrow_read : (columns own : List Column) (bytes : List ℕ) (table : TableState) (generation len : ℕ) → AreWider columns own → generation < generation_limit → OwnSide own bytes table generation len → Side columns bytes (record table { columns = columns }) generation len
narrow_read columns own bytes table generation len w below s = record { own = own; own_table = table; wider = w; stands = s; table_is = refl; greater = λ other. below }

-- its generation is the greatest
pub spent : (columns own : List Column) (bytes : List ℕ) (table : TableState) (generation len : ℕ) → AreWider columns own → own ≢ columns → generation ≡ generation_limit → OwnSide own bytes table generation len → SideFails columns bytes (fault.Large 7)
spent columns own bytes table generation len w other greatest s =
    let p = own_schema own bytes table generation len s in (
      p.begins.is_open,
      inr (inr (inr (record {
        own = own;
        own_table = table;
        len = len;
        wider = w;
        other = other;
        stands = subst (λ n. OwnSide own bytes table n len) greatest s;
        why_is = refl;
      }))),
    )

-- ---- faults

pub header_failed : (columns : List Column) (bytes : List ℕ) (why : SideFault) → HeaderFailed bytes why → SideFails columns bytes why
header_failed columns bytes fault.Closed fails = fails
header_failed columns bytes (fault.Damaged n) fails = (fails.0, inl fails.1)
header_failed columns bytes (fault.Schema n) fails = (fails.0, inl fails.1)
header_failed columns bytes (fault.Large n) fails = (fails.0, inl fails.1)
header_failed columns bytes fault.Memory fails = tt

-- what fails at the base's schema, or behind it
base_fails_side : (columns : List Column) (bytes base : List ℕ) (why : SideFault) → Begins bytes → base ≡ base_of bytes → SchemaFails (format_of bytes) columns base base_at why ⊎ ((own : List Column) × AreWider columns own × BaseFails (format_of bytes) own base why) → OpenFails columns bytes why
base_fails_side columns bytes base why b e (inl f) = inr (inl (b, subst (λ bs. SchemaFails (format_of bytes) columns bs base_at why) e f))
base_fails_side columns bytes base why b e (inr f) = inr (inr (inl (record { own = f.0; wider = f.1; fails = inl (b, subst (λ bs. BaseFails (format_of bytes) f.0 bs why) e f.2) })))

base_open : (format : Format) (columns : List Column) (base : List ℕ) → BaseFailed format columns base fault.Closed → ⊥
base_open format columns base (inl schema) = schema
base_open format columns base (inr f) = elim f.2 [
  | inl records ↦ records.fails.fails
  | inr unfinished ↦ (let e = unfinished.why_is in absurd cc)
]

pub base_failed_side : (columns : List Column) (bytes base : List ℕ) (format : Format) → Begins bytes → base ≡ base_of bytes → format ≡ format_of bytes → (why : SideFault) → BaseFailed format columns base why → SideFails columns bytes why
base_failed_side columns bytes base format b e format_is why fails = go why (subst (λ f. BaseFailed f columns base why) format_is fails)
  where
    go : (why : SideFault) → BaseFailed (format_of bytes) columns base why → SideFails columns bytes why
    go fault.Closed f = absurd (base_open (format_of bytes) columns base f)
    go (fault.Damaged n) f = (b.is_open, base_fails_side columns bytes base (fault.Damaged n) b e f)
    go (fault.Schema n) f = (b.is_open, base_fails_side columns bytes base (fault.Schema n) b e f)
    go (fault.Large n) f = (b.is_open, base_fails_side columns bytes base (fault.Large n) b e f)
    go fault.Memory f = tt

next_fails_side : (columns : List Column) (bytes base behind : List ℕ) (table : TableState) (at : ℕ) (why : SideFault) → Begins bytes → base ≡ base_of bytes → behind ≡ behind_base bytes → IsBase (format_of bytes) columns base table → at ≡ base_at + length base
    → NextFails table behind at why → BatchesFail columns bytes why
next_fails_side columns bytes base behind table at why b base_is behind_is is at_is f = record {
  batches = f.batches;
  replay = f.replay;
  more = f.more;
  reaches = record {
    begins = b;
    base_table = table;
    base = subst (λ bs. IsBase (format_of bytes) columns bs table) base_is is;
    behind = sym behind_is ∙ f.bytes_are;
    stand = f.leads.stand;
    replay_is = f.leads.replay_is;
  };
  fails = subst (λ n. BatchFails f.replay f.more n why) (ap (λ n. n + length (batches_bytes f.batches)) (at_is ∙ ap (λ n. base_at + n) (ap length base_is ∙ base_length bytes b))) f.fails;
}

batch_open : (columns : List Column) (table : TableState) (behind : List ℕ) (at : ℕ) → NextFails table behind at fault.Closed → ⊥
batch_open columns table behind at f = elim f.fails [
  | inl ends ↦ (let e = ends.0 in absurd cc)
  | inr records ↦ records.fails.fails
]

batches_fail_side : (columns own : List Column) (bytes : List ℕ) (why : SideFault) → AreWider columns own → BatchesFail own bytes why → OpenFails columns bytes why
batches_fail_side columns own bytes why w f = inr (inr (inl (record { own = own; wider = w; fails = inr (inl f) })))

pub batches_failed_side : (columns : List Column) (bytes base behind : List ℕ) (format : Format) (table : TableState) (wider : Option (List Column)) (at : ℕ) → Begins bytes → base ≡ base_of bytes → behind ≡ behind_base bytes → format ≡ format_of bytes → BaseRead format columns base table wider → at ≡ base_at + length base
    → (why : SideFault) → BatchesFailed table behind at why → SideFails columns bytes why
batches_failed_side columns bytes base behind format table wider at begins base_is behind_is format_is b at_is why fails = go why fails
  where
    behind_fails : (why : SideFault) → NextFails table behind at why → OpenFails columns bytes why
    behind_fails why f = batches_fail_side columns b.own bytes why b.agree (next_fails_side b.own bytes base behind table at why begins base_is behind_is (own_base columns bytes base format table wider format_is b) at_is f)

    go : (why : SideFault) → BatchesFailed table behind at why → SideFails columns bytes why
    go fault.Closed f = absurd (batch_open b.own table behind at f)
    go (fault.Damaged n) f = (begins.is_open, behind_fails (fault.Damaged n) f)
    go (fault.Schema n) f = (begins.is_open, behind_fails (fault.Schema n) f)
    go (fault.Large n) f = (begins.is_open, behind_fails (fault.Large n) f)
    go fault.Memory f = tt
