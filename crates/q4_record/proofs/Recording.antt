-- A record at the front of bytes: that it stands, or why none does.
use Rattle.std.proofs.Common.{◌≡◌, ℕ, ◌<◌, ◌≤◌, ◌⊎◌, List, [], ◌++◌, length, inl, inr, refl, sym, ap, subst, ◌∙◌, append_assoc}
use Rattle.std.proofs.lemmas.List.Elements.{All-nil}
use Rattle.q4_value.specs.declared.row.Value.{Value}
use Rattle.q4_value.specs.Spelling.{row_bytes}
use Rattle.q4_table.specs.TableState.{TableState}
use Rattle.q4_table.specs.Rows.{without_row}
use Rattle.q4_table.specs.Adding.{number_limit}
use Rattle.q4_record.specs.declared.head.Head.{Head}
use Rattle.q4_record.specs.declared.head.Head.TheVariants.{Insert, End, Mark, Next}
use Rattle.q4_record.specs.declared.side.SideFault.{SideFault}
use Rattle.q4_record.specs.declared.side.SideFault.TheVariants as fault
use Rattle.q4_record.specs.Wide.{IsWideValue, IsWideRow, CutLong}
use Rattle.q4_record.specs.Record.{Record, head_bytes, record_bytes, row_columns, IsHead}
use Rattle.q4_record.specs.Replay.{ReplayState, MayCome, table_after, replayed, Stands}
use Rattle.q4_record.specs.Reading.{Comes, BreaksOff, Passes}
use Rattle.q4_record.specs.Parts.{IsReady, RowStands, RowPasses, NoRow, RowFails, RecordStood, RecordFailed}
use Rattle.q4_record.proofs.Heads.{head_once}
use Rattle.q4_record.proofs.Limits.{next_passed, ended_within, table_within}

pub end_stands : (old : ReplayState) (number : ℕ) (bytes : List ℕ) (new : TableState) → IsReady old → new ≡ record old.table { rows = without_row number old.table.rows } → RowStands old (End number) bytes (record { stage = old.stage; table = new }) bytes
end_stands old number bytes new ready e = record {
  row = [];
  bytes_are = refl;
  is = record { taken = tt; values = All-nil IsWideValue };
  within = ended_within old.table number ready.within;
  new_is = ap (λ (t : TableState). record { stage = old.stage; table = t }) e;
}

-- a next record whose number is too great
pub next_passes : (old : ReplayState) (number : ℕ) (bytes : List ℕ) (at : ℕ) → IsReady old → number_limit < number → RowFails old (Next number) bytes at (fault.Large 3)
next_passes old number bytes at ready lt = inl (record {
  row = [];
  rest = bytes;
  bytes_are = refl;
  is = record { taken = tt; values = All-nil IsWideValue };
  passed = next_passed old.table number ready.within lt;
})

pub record_stood : (old : ReplayState) (head : Head) (bytes after : List ℕ) (new : ReplayState) (rest : List ℕ) → IsHead head → bytes ≡ head_bytes head ++ after → MayCome old.stage old.table head → RowStands old head after new rest → RecordStood old bytes new rest
record_stood old head bytes after new rest is e may s = record {
  r = record { head = head; columns = row_columns old.table.columns head; row = s.row };
  bytes_are = e ∙ ap (λ bs. head_bytes head ++ bs) s.bytes_are ∙ sym (append_assoc (head_bytes head) (row_bytes (row_columns old.table.columns head) s.row) rest);
  stands = record { is = record { head = is; columns_are = refl; row = s.is }; may = may; within = s.within };
  new_is = s.new_is;
}

-- what is behind a head that is at the front
behind_head : (head : Head) (bytes after : List ℕ) (r : Record) (rest : List ℕ) → IsHead head → bytes ≡ head_bytes head ++ after → IsHead r.head → bytes ≡ record_bytes r ++ rest → (head ≡ r.head) × (after ≡ row_bytes r.columns r.row ++ rest)
behind_head head bytes after r rest is e r_is r_e =
    head_once head r.head after (row_bytes r.columns r.row ++ rest) is r_is (sym e ∙ r_e ∙ append_assoc (head_bytes r.head) (row_bytes r.columns r.row) rest)

-- where no head is at the front no record comes
pub no_head : (old : ReplayState) (bytes : List ℕ) → ((head : Head) (rest : List ℕ) → IsHead head → bytes ≡ head_bytes head ++ rest → ⊥) → ((r : Record) (rest : List ℕ) → Comes old bytes r rest → ⊥) × (BreaksOff old bytes → ⊥)
no_head old bytes none = (
  λ r rest comes. none r.head (row_bytes r.columns r.row ++ rest) comes.is.head (comes.bytes_are ∙ append_assoc (head_bytes r.head) (row_bytes r.columns r.row) rest),
  λ b. none b.head b.row b.is b.bytes_are,
)

-- where the head at the front may not come no record comes
pub not_now : (old : ReplayState) (head : Head) (bytes after : List ℕ) → IsHead head → bytes ≡ head_bytes head ++ after → (MayCome old.stage old.table head → ⊥) → ((r : Record) (rest : List ℕ) → Comes old bytes r rest → ⊥) × (BreaksOff old bytes → ⊥)
not_now old head bytes after is e not_may = (
  λ r rest comes. not_may (subst (MayCome old.stage old.table) (sym (behind_head head bytes after r rest is e comes.is.head comes.bytes_are).0) comes.may),
  λ b. not_may (subst (MayCome old.stage old.table) (sym (head_once head b.head after b.row is b.is (sym e ∙ b.bytes_are)).0) b.may),
)

no_record : (old : ReplayState) (head : Head) (bytes after : List ℕ) → IsHead head → bytes ≡ head_bytes head ++ after → NoRow old head after → ((r : Record) (rest : List ℕ) → Comes old bytes r rest → ⊥) × (BreaksOff old bytes → ⊥)
no_record old head bytes after is e none = (
  λ r rest comes.
      let same = behind_head head bytes after r rest is e comes.is.head comes.bytes_are in
      let columns : r.columns ≡ row_columns old.table.columns head = comes.is.columns_are ∙ ap (row_columns old.table.columns) (sym same.0) in
      none.none r.row rest (subst (λ h. IsWideRow (row_columns old.table.columns h) r.row) (sym same.0) comes.is.row) (same.1 ∙ ap (λ cs. row_bytes cs r.row ++ rest) columns),
  λ b.
      let same = head_once head b.head after b.row is b.is (sym e ∙ b.bytes_are) in
      none.not_long (subst (λ h. CutLong (row_columns old.table.columns h) after) (sym same.0) (subst (CutLong (row_columns old.table.columns b.head)) (sym same.1) b.cut)),
)

passing : (old : ReplayState) (head : Head) (bytes after : List ℕ) (limit : ℕ) → IsHead head → bytes ≡ head_bytes head ++ after → MayCome old.stage old.table head
    → RowPasses old head after limit ⊎ ((limit ≡ 4) × CutLong (row_columns old.table.columns head) after) → Passes old bytes limit ⊎ ((limit ≡ 4) × BreaksOff old bytes)
passing old head bytes after limit is e may (inl p) = inl (record {
  r = record { head = head; columns = row_columns old.table.columns head; row = p.row };
  rest = p.rest;
  comes = record {
    bytes_are = e ∙ ap (λ bs. head_bytes head ++ bs) p.bytes_are ∙ sym (append_assoc (head_bytes head) (row_bytes (row_columns old.table.columns head) p.row) p.rest);
    is = record { head = is; columns_are = refl; row = p.is };
    may = may;
  };
  passed = p.passed;
})
passing old head bytes after limit is e may (inr cut) = inr (cut.0, record { head = head; row = after; bytes_are = e; is = is; may = may; cut = cut.1 })

pub record_failed : (old : ReplayState) (head : Head) (bytes after : List ℕ) (at : ℕ) → IsHead head → bytes ≡ head_bytes head ++ after → MayCome old.stage old.table head → (why : SideFault) → RowFails old head after at why → RecordFailed old bytes at why
record_failed old head bytes after at is e may fault.Closed fails = fails
record_failed old head bytes after at is e may (fault.Damaged place) fails =
    let none = no_record old head bytes after is e fails.1 in
    (fails.0, none.0, none.1)
record_failed old head bytes after at is e may (fault.Schema column) fails = fails
record_failed old head bytes after at is e may (fault.Large limit) fails = passing old head bytes after limit is e may fails
record_failed old head bytes after at is e may fault.Memory fails = tt

same_columns : (table : TableState) (head : Head) (row : List Value) → (table_after table head row).columns ≡ table.columns
same_columns table (Insert number origin) row = refl
same_columns table (End number) row = refl
same_columns table (Mark source number) row = refl
same_columns table (Next number) row = refl

ready_next : (old : ReplayState) (r : Record) → Stands old r → IsReady old → IsReady (replayed old r)
ready_next old r s ready = record {
  few = subst (λ cs. length cs ≤ 32) (sym (same_columns old.table r.head r.row)) ready.few;
  within = table_within (replayed old r).table r.row s.within;
}

pub ready_after : (old : ReplayState) (bytes : List ℕ) (new : ReplayState) (rest : List ℕ) → RecordStood old bytes new rest → IsReady old → IsReady new
ready_after old bytes new rest s ready = subst IsReady (sym s.new_is) (ready_next old s.r s.stands ready)
