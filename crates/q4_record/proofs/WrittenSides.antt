-- What is written of a table is a side that stands for it.
use Rattle.std.proofs.Common.{◌≡◌, ◌≢◌, ℕ, ◌+◌, ◌^◌, ◌<◌, ◌≤◌, List, ◌∷◌, ◌++◌, length, take, drop, [], inr, refl, sym, ap, subst, ◌∙◌, arith}
use Rattle.std.specs.List.{All}
use Rattle.std.proofs.lemmas.List.{take_at, drop_at, drop-drop, length-append}
use Rattle.std.proofs.lemmas.List.Elements.{All-nil, All-cons}
use Rattle.std.proofs.lemmas.Nat.{from_be_bytes-to_be_bytes_8}
use Rattle.q4_value.specs.declared.column.Column.{Column}
use Rattle.q4_table.specs.TableState.{TableState}
use Rattle.q4_record.specs.declared.header.Format.TheVariants.{Second}
use Rattle.q4_record.specs.Record.{Record}
use Rattle.q4_record.specs.Schema.{MayHave}
use Rattle.q4_record.specs.Replay.{at_batches}
use Rattle.q4_record.specs.Side.{side_limit, generation_limit, base_at, told_at, generation_of, base_length_of, base_of, behind_base, batches_bytes, BatchesStand, after_batches, HasRoom, IsBase, OwnSide}
use Rattle.q4_record.specs.Written.{side_bytes, base_bytes, base_records, written, written_table, written_length, IsWritten}
use Rattle.q4_record.proofs.WrittenBases.{base_written}

-- the second format has all columns
pub all_may : (columns : List Column) → All (MayHave Second) columns
all_may [] = All-nil (MayHave Second)
all_may (c ∷ cs) = All-cons (MayHave Second) c cs tt (all_may cs)

generation_told : (generation : ℕ) (base behind : List ℕ) → generation < 2 ^ 64 → generation_of (side_bytes generation base behind) ≡ generation
unfolding told_at
generation_told generation base behind fits = from_be_bytes-to_be_bytes_8 generation fits

length_told : (generation : ℕ) (base behind : List ℕ) → length base < 2 ^ 64 → base_length_of (side_bytes generation base behind) ≡ length base
unfolding told_at
length_told generation base behind fits = from_be_bytes-to_be_bytes_8 (length base) fits

base_told : (generation : ℕ) (base behind : List ℕ) → length base < 2 ^ 64 → base_of (side_bytes generation base behind) ≡ base
base_told generation base behind fits = ap (λ n. take n (base ++ behind)) (length_told generation base behind fits) ∙ take_at base behind (length base) refl

behind_told : (generation : ℕ) (base behind : List ℕ) → length base < 2 ^ 64 → behind_base (side_bytes generation base behind) ≡ behind
behind_told generation base behind fits =
    ap (λ n. drop (base_at + n) (side_bytes generation base behind)) (length_told generation base behind fits) ∙ sym (drop-drop (length base) base_at (side_bytes generation base behind)) ∙ drop_at base behind (length base) refl

side_length : (generation : ℕ) (base behind : List ℕ) → length (side_bytes generation base behind) ≡ base_at + length base + length behind
side_length generation base behind = omega (arith, length-append base behind)

-- whatever base leads to the table, with batches behind it
pub base_side : (columns : List Column) (base : List ℕ) (table : TableState) (generation : ℕ) (batches : List (List Record)) (closing : ℕ) (ignored : List ℕ) → IsBase Second columns base table → 1 ≤ generation → generation ≤ generation_limit → BatchesStand (at_batches table) batches → closing ≢ 1
    → length (side_bytes generation base (batches_bytes batches ++ closing ∷ ignored)) ≤ side_limit → HasRoom (written_table table batches) (base_at + length base + length (batches_bytes batches) + 1)
    → OwnSide columns (side_bytes generation base (batches_bytes batches ++ closing ∷ ignored)) (written_table table batches) generation (base_at + length base + length (batches_bytes batches) + 1)
base_side columns base table generation batches closing ignored leads positive limit stand closed few room =
    let behind = batches_bytes batches ++ closing ∷ ignored in
    let long = side_length generation base behind in
    let rest = length-append (batches_bytes batches) (closing ∷ ignored) in
    let fits : length base < 2 ^ 64 = omega (arith, few, long) in
    let generation_fits : generation < 2 ^ 64 = omega (arith, limit) in
    let told = generation_told generation base behind generation_fits in
    let len = length_told generation base behind fits in
    record {
      stands = record {
        batches = batches;
        replay = after_batches (at_batches table) batches;
        closing = closing;
        ignored = ignored;
        reaches = record {
          begins = record {
            is_open = record { header = omega (arith, long); gate = refl };
            few = few;
            header = record { magic = inr refl; positive = subst (λ n. 1 ≤ n) (sym told) positive; within = omega (arith, len, long, rest) };
            generation = subst (λ n. n ≤ generation_limit) (sym told) limit;
          };
          base_table = table;
          base = record { may = leads.may; records = leads.records; base_is = base_told generation base behind fits ∙ leads.base_is; stand = leads.stand; replay_is = leads.replay_is };
          behind = behind_told generation base behind fits;
          stand = stand;
          replay_is = refl;
        };
        closed = closed;
        table_is = refl;
        generation_is = sym told;
        len_is = ap (λ n. base_at + n + length (batches_bytes batches) + 1) (sym len);
      };
      room = room;
    }

pub written_side : (table : TableState) (generation : ℕ) (batches : List (List Record)) (closing : ℕ) (ignored : List ℕ) → IsWritten table generation batches closing ignored
    → OwnSide table.columns (written table generation batches closing ignored) (written_table table batches) generation (written_length table batches)
written_side table generation batches closing ignored w =
    let stands = base_written table w.valid w.unowned in
    base_side table.columns (base_bytes table) table generation batches closing ignored (record { may = all_may table.columns; records = base_records table; base_is = refl; stand = stands.stand; replay_is = stands.replay_is }) w.positive w.limit w.stand w.closed w.few w.room
