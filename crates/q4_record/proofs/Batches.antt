-- Batches, one after the other.
use Rattle.std.proofs.Common.{◌≡◌, ◌≢◌, ℕ, ◌+◌, ◌-◌, ◌<◌, ◌≤◌, ◌⊎◌, List, [], ◌∷◌, ◌++◌, length, inl, inr, refl, sym, ap, subst, ◌∙◌, append_assoc, arith}
use Rattle.std.specs.Int.{w32, to_be_bytes}
use Rattle.std.proofs.lemmas.List.{length-append, flat_map_more}
use Rattle.std.proofs.lemmas.List.Sums.{fold_push}
use Rattle.q4_value.specs.Reading.{told_length}
use Rattle.q4_table.specs.TableState.{TableState}
use Rattle.q4_record.specs.declared.side.SideFault.{SideFault}
use Rattle.q4_record.specs.declared.side.SideFault.TheVariants as fault
use Rattle.q4_record.specs.Record.{Record}
use Rattle.q4_record.specs.Replay.{ReplayState, replays, at_batches, AllStand}
use Rattle.q4_record.specs.Reading.{SectionFails}
use Rattle.q4_record.specs.Side.{side_limit, batch_bytes, batches_bytes, BatchesStand, after_batches}
use Rattle.q4_record.specs.Faults.{BatchFails}
use Rattle.q4_record.specs.Parts.{SectionStood, SectionFailed}
use Rattle.q4_record.specs.SideParts.{LeadsTo, BatchesRead, NextFails, BatchesFailed}

-- the batches so far stand and were replayed, and this is left
pub record BatchesSoFar (table : TableState) (bytes : List ℕ) (now : ReplayState) (rest : List ℕ) : Type 0 where
  pub batches : List (List Record)
  pub bytes_are : bytes ≡ batches_bytes batches ++ rest
  pub leads : LeadsTo table batches now

pub no_batches : (table : TableState) (bytes : List ℕ) → BatchesSoFar table bytes (at_batches table) bytes
no_batches table bytes = record { batches = []; bytes_are = refl; leads = record { stand = tt; replay_is = refl } }

batches_push : (replay : ReplayState) (bs : List (List Record)) (b : List Record) → BatchesStand replay bs → AllStand (after_batches replay bs) b → BatchesStand replay (bs ++ b ∷ [])
batches_push replay [] b all one = (one, tt)
batches_push replay (a ∷ others) b all one = (all.0, batches_push (replays replay a) others b all.1 one)

pub one_more_batch : (table : TableState) (bytes : List ℕ) (now : ReplayState) (more section after : List ℕ) (new : ReplayState) → BatchesSoFar table bytes now (1 ∷ more) → more ≡ to_be_bytes w32 (length section) ++ section ++ after
    → SectionStood now section new → BatchesSoFar table bytes new after
one_more_batch table bytes now more section after new so e s =
    let batch : 1 ∷ more ≡ batch_bytes s.records ++ after = ap (λ bs. 1 ∷ bs) e ∙ ap (λ bs. 1 ∷ to_be_bytes w32 (length bs) ++ bs ++ after) s.bytes_are in
    record {
      batches = so.batches ++ s.records ∷ [];
      bytes_are = so.bytes_are ∙ ap (λ bs. batches_bytes so.batches ++ bs) batch ∙ sym (append_assoc (batches_bytes so.batches) (batch_bytes s.records) after) ∙ ap (λ bs. bs ++ after) (flat_map_more batch_bytes [] so.batches s.records);
      leads = record {
        stand = batches_push (at_batches table) so.batches s.records so.leads.stand (subst (λ replay. AllStand replay s.records) so.leads.replay_is s.stand);
        replay_is = s.new_is ∙ ap (λ replay. replays replay s.records) so.leads.replay_is ∙ sym (fold_push replays (at_batches table) so.batches s.records);
      };
    }

place_of : (table : TableState) (bytes : List ℕ) (now : ReplayState) (rest : List ℕ) (at place : ℕ) → (so : BatchesSoFar table bytes now rest) → place ≡ at + (length bytes - length rest) → place ≡ at + length (batches_bytes so.batches)
place_of table bytes now rest at place so e = omega (arith, e, ap length so.bytes_are, length-append (batches_bytes so.batches) rest)

next_fails : (table : TableState) (bytes : List ℕ) (now : ReplayState) (more : List ℕ) (at place : ℕ) (why : SideFault) → BatchesSoFar table bytes now (1 ∷ more) → place ≡ at + (length bytes - length (1 ∷ more)) → BatchFails now more place why → NextFails table bytes at why
next_fails table bytes now more at place why so e fails = record {
  batches = so.batches;
  replay = now;
  more = more;
  bytes_are = so.bytes_are;
  leads = so.leads;
  fails = subst (λ n. BatchFails now more n why) (place_of table bytes now (1 ∷ more) at place so e) fails;
}

-- a batch ends too early
pub batch_ends : (table : TableState) (bytes : List ℕ) (now : ReplayState) (more : List ℕ) (at place : ℕ) → BatchesSoFar table bytes now (1 ∷ more) → place ≡ at + (length bytes - length (1 ∷ more)) → (length more < 4) ⊎ (length more < 4 + told_length more + 1)
    → NextFails table bytes at (fault.Damaged place)
batch_ends table bytes now more at place so e ends = next_fails table bytes now more at place (fault.Damaged place) so e (inl (refl, ends))

section_small : (table : TableState) (bytes : List ℕ) (now : ReplayState) (more section after : List ℕ) → BatchesSoFar table bytes now (1 ∷ more) → more ≡ to_be_bytes w32 (length section) ++ section ++ after → length bytes ≤ side_limit → length section ≤ side_limit
section_small table bytes now more section after so e few =
    omega (arith, ap length so.bytes_are, length-append (batches_bytes so.batches) (1 ∷ more), ap length e, length-append (to_be_bytes w32 (length section) ++ section) after, length-append (to_be_bytes w32 (length section)) section)

some_after : (after : List ℕ) → 1 ≤ length after → after ≢ []
some_after after lt none = omega (arith, ap length none)

records_fail : (table : TableState) (bytes : List ℕ) (now : ReplayState) (more section after : List ℕ) (at place : ℕ) (why : SideFault) → BatchesSoFar table bytes now (1 ∷ more) → place ≡ at + (length bytes - length (1 ∷ more))
    → more ≡ to_be_bytes w32 (length section) ++ section ++ after → 1 ≤ length after → length bytes ≤ side_limit → SectionFails now section (place + 5) why → NextFails table bytes at why
records_fail table bytes now more section after at place why so p e left few fails = next_fails table bytes now more at place why so p (inr (record {
  section = section;
  after = after;
  bytes_are = e;
  few = section_small table bytes now more section after so e few;
  more = some_after after left;
  fails = fails;
}))

-- a batch's record does not stand
pub batch_failed : (table : TableState) (bytes : List ℕ) (now : ReplayState) (more section after : List ℕ) (at place : ℕ) → BatchesSoFar table bytes now (1 ∷ more) → place ≡ at + (length bytes - length (1 ∷ more))
    → more ≡ to_be_bytes w32 (length section) ++ section ++ after → 1 ≤ length after → length bytes ≤ side_limit → (why : SideFault) → SectionFailed now section (place + 5) why → BatchesFailed table bytes at why
batch_failed table bytes now more section after at place so p e left few fault.Closed fails = records_fail table bytes now more section after at place fault.Closed so p e left few fails
batch_failed table bytes now more section after at place so p e left few (fault.Damaged n) fails = records_fail table bytes now more section after at place (fault.Damaged n) so p e left few fails
batch_failed table bytes now more section after at place so p e left few (fault.Schema n) fails = records_fail table bytes now more section after at place (fault.Schema n) so p e left few fails
batch_failed table bytes now more section after at place so p e left few (fault.Large n) fails = records_fail table bytes now more section after at place (fault.Large n) so p e left few fails
batch_failed table bytes now more section after at place so p e left few fault.Memory fails = tt

-- nothing but the closing gate and what follows it is left
pub batches_end : (table : TableState) (bytes : List ℕ) (now : ReplayState) (rest : List ℕ) (at : ℕ) → BatchesSoFar table bytes now rest → 1 ≤ length rest → ((more : List ℕ) → rest ≡ 1 ∷ more → ⊥)
    → BatchesRead table bytes at now.table (at + (length bytes - length rest) + 1)
batches_end table bytes now [] at so left closed = absurd (omega arith)
batches_end table bytes now (b ∷ rest) at so left closed = record {
  batches = so.batches;
  replay = now;
  closing = b;
  ignored = rest;
  bytes_are = so.bytes_are;
  leads = so.leads;
  closed = λ same. closed rest (ap (λ n. n ∷ rest) same);
  new_is = refl;
  len_is = ap (λ n. n + 1) (place_of table bytes now (b ∷ rest) at (at + (length bytes - length (b ∷ rest))) so refl);
}
