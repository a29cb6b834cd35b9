-- The records of a base or a batch, one after the other.
use Rattle.std.proofs.Common.{◌≡◌, ◌≢◌, ℕ, ◌+◌, ◌-◌, List, [], ◌∷◌, ◌++◌, length, refl, sym, ap, subst, ◌∙◌, append_assoc, arith}
use Rattle.std.proofs.lemmas.List.{append-nil, length-append, nil_from_length, flat_map_more}
use Rattle.std.proofs.lemmas.List.Sums.{fold_push}
use Rattle.q4_record.specs.declared.side.SideFault.{SideFault}
use Rattle.q4_record.specs.declared.side.SideFault.TheVariants as fault
use Rattle.q4_record.specs.Record.{Record, record_bytes, records_bytes}
use Rattle.q4_record.specs.Replay.{ReplayState, replayed, replays, Stands, AllStand}
use Rattle.q4_record.specs.Reading.{RecordFails, SectionFails}
use Rattle.q4_record.specs.Parts.{RecordStood, RecordFailed, SectionStood, SectionFailed}

-- the records so far stand and were replayed, and this is left
pub record ReadSoFar (old : ReplayState) (bytes : List ℕ) (now : ReplayState) (rest : List ℕ) : Type 0 where
  pub records : List Record
  pub bytes_are : bytes ≡ records_bytes records ++ rest
  pub stand : AllStand old records
  pub now_is : now ≡ replays old records

pub none_read : (old : ReplayState) (bytes : List ℕ) → ReadSoFar old bytes old bytes
none_read old bytes = record { records = []; bytes_are = refl; stand = tt; now_is = refl }

stand_push : (old : ReplayState) (rs : List Record) (r : Record) → AllStand old rs → Stands (replays old rs) r → AllStand old (rs ++ r ∷ [])
stand_push old [] r all one = (one, tt)
stand_push old (q ∷ qs) r all one = (all.0, stand_push (replayed old q) qs r all.1 one)

pub one_more_read : (old : ReplayState) (bytes : List ℕ) (now : ReplayState) (rest : List ℕ) (new : ReplayState) (after : List ℕ) → ReadSoFar old bytes now rest → RecordStood now rest new after → ReadSoFar old bytes new after
one_more_read old bytes now rest new after so s = record {
  records = so.records ++ s.r ∷ [];
  bytes_are = so.bytes_are ∙ ap (λ bs. records_bytes so.records ++ bs) s.bytes_are ∙ sym (append_assoc (records_bytes so.records) (record_bytes s.r) after)
      ∙ ap (λ bs. bs ++ after) (flat_map_more record_bytes [] so.records s.r);
  stand = stand_push old so.records s.r so.stand (subst (λ replay. Stands replay s.r) so.now_is s.stands);
  now_is = s.new_is ∙ ap (λ replay. replayed replay s.r) so.now_is ∙ sym (fold_push replayed old so.records s.r);
}

pub all_read : (old : ReplayState) (bytes : List ℕ) (now : ReplayState) (rest : List ℕ) → ReadSoFar old bytes now rest → length rest ≡ 0 → SectionStood old bytes now
all_read old bytes now rest so empty = record {
  records = so.records;
  bytes_are = so.bytes_are ∙ ap (λ bs. records_bytes so.records ++ bs) (nil_from_length rest empty) ∙ append-nil (records_bytes so.records);
  stand = so.stand;
  new_is = so.now_is;
}

section_fails : (old : ReplayState) (bytes : List ℕ) (now : ReplayState) (rest : List ℕ) (at place : ℕ) (why : SideFault) → (so : ReadSoFar old bytes now rest) → rest ≢ [] → place ≡ at + (length bytes - length rest) → RecordFails now rest place why → SectionFails old bytes at why
section_fails old bytes now rest at place why so more place_is fails =
    let here : place ≡ at + length (records_bytes so.records) = omega (arith, place_is, ap length so.bytes_are, length-append (records_bytes so.records) rest) in
    record {
      front = so.records;
      rest = rest;
      bytes_are = so.bytes_are;
      stand = so.stand;
      more = more;
      fails = subst (λ n. RecordFails (replays old so.records) rest n why) here (subst (λ replay. RecordFails replay rest place why) so.now_is fails);
    }

pub section_failed : (old : ReplayState) (bytes : List ℕ) (now : ReplayState) (rest : List ℕ) (at place : ℕ) → ReadSoFar old bytes now rest → rest ≢ [] → place ≡ at + (length bytes - length rest) → (why : SideFault) → RecordFailed now rest place why → SectionFailed old bytes at why
section_failed old bytes now rest at place so more place_is fault.Closed fails = absurd fails
section_failed old bytes now rest at place so more place_is (fault.Damaged p) fails = section_fails old bytes now rest at place (fault.Damaged p) so more place_is fails
section_failed old bytes now rest at place so more place_is (fault.Schema column) fails = absurd fails
section_failed old bytes now rest at place so more place_is (fault.Large limit) fails = section_fails old bytes now rest at place (fault.Large limit) so more place_is fails
section_failed old bytes now rest at place so more place_is fault.Memory fails = tt
