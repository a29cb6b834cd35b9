-- The base, from its schema to its next record.
use Rattle.std.proofs.Common.{◌≡◌, ◌≢◌, ℕ, ◌+◌, ◌-◌, List, ◌++◌, Option, length, inl, inr, refl, sym, ap, subst, ◌∙◌, arith}
use Rattle.std.specs.List.{All}
use Rattle.std.proofs.lemmas.List.{length-append}
use Rattle.q4_value.specs.declared.column.Column.{Column}
use Rattle.q4_value.specs.Row.{AreWider}
use Rattle.q4_table.specs.TableState.{TableState, new_table}
use Rattle.q4_record.specs.declared.header.Format.{Format}
use Rattle.q4_record.specs.declared.replay.Stage.TheVariants as stage
use Rattle.q4_record.specs.declared.side.SideFault.{SideFault}
use Rattle.q4_record.specs.declared.side.SideFault.TheVariants as fault
use Rattle.q4_record.specs.Replay.{ReplayState, replays, at_base, AllStand}
use Rattle.q4_record.specs.Reading.{SectionFails}
use Rattle.q4_record.specs.Schema.{schema_bytes, MayHave}
use Rattle.q4_record.specs.Side.{base_at}
use Rattle.q4_record.specs.Faults.{BaseFails}
use Rattle.q4_record.specs.Parts.{SectionStood, SectionFailed}
use Rattle.q4_record.specs.SideParts.{GivenWider, SchemaFailed, BaseRead, BaseFailed}

records_fail : (format : Format) (columns : List Column) (base section : List ℕ) (table : TableState) (at : ℕ) (why : SideFault) → All (MayHave format) columns → base ≡ schema_bytes columns ++ section → table ≡ new_table columns → at ≡ base_at + (length base - length section)
    → SectionFails (record { stage = stage.Rows; table = table }) section at why → BaseFails format columns base why
records_fail format columns base section table at why may e is at_is fails =
    let here : at ≡ base_at + length (schema_bytes columns) = omega (arith, at_is, ap length e, length-append (schema_bytes columns) section) in
    inl (record { may = may; section = section; base_is = e; fails = subst (λ n. SectionFails (at_base columns) section n why) here (subst (λ (t : TableState). SectionFails (record { stage = stage.Rows; table = t }) section at why) is fails) })

-- a record of the base does not stand
pub base_failed : (format : Format) (columns own : List Column) (base section : List ℕ) (table : TableState) (at : ℕ) → AreWider columns own → All (MayHave format) own → base ≡ schema_bytes own ++ section → table ≡ new_table own → at ≡ base_at + (length base - length section) → (why : SideFault)
    → SectionFailed (record { stage = stage.Rows; table = table }) section at why → BaseFailed format columns base why
base_failed format columns own base section table at w may e is at_is fault.Closed fails = absurd fails.fails
base_failed format columns own base section table at w may e is at_is (fault.Damaged n) fails = inr (own, w, records_fail format own base section table at (fault.Damaged n) may e is at_is fails)
base_failed format columns own base section table at w may e is at_is (fault.Schema n) fails = inr (own, w, records_fail format own base section table at (fault.Schema n) may e is at_is fails)
base_failed format columns own base section table at w may e is at_is (fault.Large n) fails = inr (own, w, records_fail format own base section table at (fault.Large n) may e is at_is fails)
base_failed format columns own base section table at w may e is at_is fault.Memory fails = tt

-- the schema does not stand
pub schema_failed : (format : Format) (columns : List Column) (base : List ℕ) (why : SideFault) → SchemaFailed format columns base base_at why → BaseFailed format columns base why
schema_failed format columns base fault.Closed fails = absurd fails
schema_failed format columns base (fault.Damaged n) fails = inl fails
schema_failed format columns base (fault.Schema n) fails = inl fails
schema_failed format columns base (fault.Large n) fails = absurd fails
schema_failed format columns base fault.Memory fails = tt

-- the records do, and the last is no next record
pub unfinished : (format : Format) (columns own : List Column) (base section : List ℕ) (table : TableState) (new : ReplayState) → AreWider columns own → All (MayHave format) own → base ≡ schema_bytes own ++ section → table ≡ new_table own
    → SectionStood (record { stage = stage.Rows; table = table }) section new → new.stage ≢ stage.Whole → BaseFailed format columns base (fault.Damaged (base_at + length base))
unfinished format columns own base section table new w may e is s other =
    let starts : ReplayState = record { stage = stage.Rows; table = table } in
    let from : starts ≡ at_base own = ap (λ (t : TableState). record { stage = stage.Rows; table = t }) is in
    inr (
      own,
      w,
      inr (record {
        may = may;
        records = s.records;
        base_is = e ∙ ap (λ bs. schema_bytes own ++ bs) s.bytes_are;
        stand = subst (λ q. AllStand q s.records) from s.stand;
        unfinished = λ whole. other (ap (λ (q : ReplayState). q.stage) (s.new_is ∙ ap (λ q. replays q s.records) from) ∙ whole);
        why_is = refl;
      }),
    )

-- all of it stands
pub base_read : (format : Format) (columns own : List Column) (base section : List ℕ) (table : TableState) (new : ReplayState) (wider : Option (List Column)) → AreWider columns own → GivenWider columns own wider → All (MayHave format) own → base ≡ schema_bytes own ++ section → table ≡ new_table own
    → SectionStood (record { stage = stage.Rows; table = table }) section new → new.stage ≡ stage.Whole → BaseRead format columns base new.table wider
base_read format columns own base section table new wider w given may e is s whole =
    let starts : ReplayState = record { stage = stage.Rows; table = table } in
    let from : starts ≡ at_base own = ap (λ (t : TableState). record { stage = stage.Rows; table = t }) is in
    let new_is : new ≡ replays (at_base own) s.records = s.new_is ∙ ap (λ q. replays q s.records) from in
    record {
      own = own;
      agree = w;
      given = given;
      is = record {
        may = may;
        records = s.records;
        base_is = e ∙ ap (λ bs. schema_bytes own ++ bs) s.bytes_are;
        stand = subst (λ q. AllStand q s.records) from s.stand;
        replay_is = sym new_is ∙ (λ i. record { stage = whole i; table = new.table });
      };
    }
