-- A side up to its closing gate: what stays of it whatever comes behind, and what a batch makes of it.
use Rattle.std.proofs.Common.{◌≡◌, ◌≢◌, ◌⊎◌, ℕ, ◌+◌, ◌≤◌, List, [], ◌∷◌, ◌++◌, length, take, drop, codes, refl, sym, ◌∙◌, ap, subst, arith, append_assoc, length-append}
use Rattle.std.specs.Int.{w64, from_be_bytes}
use Rattle.std.proofs.lemmas.List.{take-append-le, drop-append-le, take-append-drop, drop_at, length-take, length-drop, flat_map_more}
use Rattle.std.proofs.lemmas.List.Sums.{fold_push}
use Rattle.q4_value.specs.declared.column.Column.{Column}
use Rattle.q4_table.specs.TableState.{TableState}
use Rattle.q4_record.specs.declared.head.Head.{Head}
use Rattle.q4_record.specs.declared.head.Head.TheVariants.{Insert, End, Mark, Next}
use Rattle.q4_record.specs.declared.replay.Stage.TheVariants as stage
use Rattle.q4_record.specs.Record.{Record}
use Rattle.q4_record.specs.Replay.{ReplayState, replayed, replays, at_batches, MayCome, stage_after, AllStand, Stands}
use Rattle.q4_store.proofs.Idle.{has_magic}
use Rattle.q4_record.specs.Side.{side_limit, generation_limit, base_at, gate_of, magic_of, HasMagic, format_of, told_at, generation_of, base_length_of, base_of, behind_base, batch_bytes, batches_bytes, BatchesStand, after_batches, IsBase, HasRoom, OwnSide}

-- all parts of a side up to its closing gate
pub record IsFront (columns : List Column) (front : List ℕ) (table : TableState) (generation : ℕ) : Type 0 where
  pub long : base_at + base_length_of front ≤ length front
  pub gate : gate_of front ≡ 1
  pub magic : HasMagic front
  pub positive : 1 ≤ generation_of front
  pub limit : generation_of front ≤ generation_limit
  pub generation_is : generation ≡ generation_of front
  pub base_table : TableState
  pub base : IsBase (format_of front) columns (base_of front) base_table
  pub batches : List (List Record)
  pub behind : behind_base front ≡ batches_bytes batches
  pub stand : BatchesStand (at_batches base_table) batches
  pub leads : after_batches (at_batches base_table) batches ≡ at_batches table

-- what is told in front does not depend on what comes behind
pub told_front : (place : ℕ) (front more : List ℕ) → place + 8 ≤ length front → told_at place (front ++ more) ≡ told_at place front
unfolding told_at
told_front place front more within =
    let drops : drop place (front ++ more) ≡ drop place front ++ more = drop-append-le place front more (omega (arith, within)) in
    let long : 8 ≤ length (drop place front) = omega (arith, within, length-drop place front) in
    ap (λ (l : List ℕ). from_be_bytes w64 (take 8 l)) drops ∙ ap (from_be_bytes w64) (take-append-le 8 (drop place front) more long)

pub gate_front : (front more : List ℕ) → 1 ≤ length front → gate_of (front ++ more) ≡ gate_of front
gate_front [] more long = absurd (omega arith)
gate_front (b ∷ bs) more long = refl

pub magic_front : (front more : List ℕ) → 5 ≤ length front → magic_of (front ++ more) ≡ magic_of front
magic_front front more long =
    let l : 4 ≤ length (drop 1 front) = omega (arith, long, length-drop 1 front) in
    ap (take 4) (drop-append-le 1 front more (omega (arith, long))) ∙ take-append-le 4 (drop 1 front) more l

-- so is the format that the magic tells
format_front : (front more : List ℕ) → 5 ≤ length front → format_of (front ++ more) ≡ format_of front
format_front [] more long = absurd (omega (arith, long))
format_front (a ∷ []) more long = absurd (omega (arith, long))
format_front (a ∷ b ∷ []) more long = absurd (omega (arith, long))
format_front (a ∷ b ∷ c ∷ []) more long = absurd (omega (arith, long))
format_front (a ∷ b ∷ c ∷ d ∷ []) more long = absurd (omega (arith, long))
format_front (a ∷ b ∷ c ∷ d ∷ e ∷ rest) more long = refl

base_front : (front more : List ℕ) → base_at + base_length_of front ≤ length front → base_of (front ++ more) ≡ base_of front
base_front front more within =
    let told : base_length_of (front ++ more) ≡ base_length_of front = told_front 13 front more (omega (arith, within)) in
    let l : base_length_of front ≤ length (drop base_at front) = omega (arith, within, length-drop base_at front) in
    ap (λ (n : ℕ). take n (drop base_at (front ++ more))) told ∙ ap (take (base_length_of front)) (drop-append-le base_at front more (omega (arith, within))) ∙ take-append-le (base_length_of front) (drop base_at front) more l

behind_front : (front more : List ℕ) → base_at + base_length_of front ≤ length front → behind_base (front ++ more) ≡ behind_base front ++ more
behind_front front more within =
    ap (λ (n : ℕ). drop (base_at + n) (front ++ more)) (told_front 13 front more (omega (arith, within))) ∙ drop-append-le (base_at + base_length_of front) front more within

behind_length : (columns : List Column) (front : List ℕ) (table : TableState) (generation : ℕ) → (f : IsFront columns front table generation) → length front ≡ base_at + base_length_of front + length (batches_bytes f.batches)
behind_length columns front table generation f = omega (arith, ap length f.behind, length-drop (base_at + base_length_of front) front, f.long)

-- with a closed gate behind it, and any bytes, it is a side
pub side_of : (columns : List Column) (front : List ℕ) (table : TableState) (generation gate : ℕ) (tail : List ℕ) → IsFront columns front table generation → gate ≢ 1 → length (front ++ gate ∷ tail) ≤ side_limit → HasRoom table (length front + 1)
    → OwnSide columns (front ++ gate ∷ tail) table generation (length front + 1)
side_of columns front table generation gate tail f closed few room =
    let more = gate ∷ tail in
    let within = f.long in
    let size : length (front ++ gate ∷ tail) ≡ length front + (1 + length tail) = omega (arith, length-append front (gate ∷ tail)) in
    let generation_same : generation_of (front ++ more) ≡ generation_of front = told_front 5 front more (omega (arith, within)) in
    let length_same : base_length_of (front ++ more) ≡ base_length_of front = told_front 13 front more (omega (arith, within)) in
    let whole = behind_length columns front table generation f in
    record {
      stands = record {
        batches = f.batches;
        replay = at_batches table;
        closing = gate;
        ignored = tail;
        reaches = record {
          begins = record {
            is_open = record { header = omega (arith, within, size); gate = gate_front front more (omega (arith, within)) ∙ f.gate };
            few = few;
            header = record { magic = has_magic front (front ++ more) (sym (magic_front front more (omega (arith, within)))) f.magic; positive = subst (λ (n : ℕ). 1 ≤ n) (sym generation_same) f.positive; within = omega (arith, within, size, length_same) };
            generation = subst (λ (n : ℕ). n ≤ generation_limit) (sym generation_same) f.limit;
          };
          base_table = f.base_table;
          base = subst (λ (bytes : List ℕ). IsBase (format_of (front ++ more)) columns bytes f.base_table) (sym (base_front front more within)) (subst (λ format. IsBase format columns (base_of front) f.base_table) (sym (format_front front more (omega (arith, within)))) f.base);
          behind = behind_front front more within ∙ ap (λ (l : List ℕ). l ++ more) f.behind;
          stand = f.stand;
          replay_is = sym f.leads;
        };
        closed = closed;
        table_is = refl;
        generation_is = f.generation_is ∙ sym generation_same;
        len_is = omega (arith, whole, length_same);
      };
      room = room;
    }

-- an insert or an end leaves the stage of batches
stays : (table : TableState) (head : Head) → MayCome stage.Batch table head → stage_after stage.Batch head ≡ stage.Batch
stays table (Insert number origin) may = refl
stays table (End number) may = refl
stays table (Mark source number) may = absurd may
stays table (Next number) may = absurd may

stays_here : (replay : ReplayState) (r : Record) → replay.stage ≡ stage.Batch → Stands replay r → (replayed replay r).stage ≡ stage.Batch
stays_here replay r is stands = ap (λ s. stage_after s r.head) is ∙ stays replay.table r.head (subst (λ s. MayCome s replay.table r.head) is stands.may)

records_stay : (replay : ReplayState) (rs : List Record) → replay.stage ≡ stage.Batch → AllStand replay rs → (replays replay rs).stage ≡ stage.Batch
records_stay replay [] is all = is
records_stay replay (r ∷ rs) is all = records_stay (replayed replay r) rs (stays_here replay r is all.0) all.1

batches_stay : (replay : ReplayState) (bs : List (List Record)) → replay.stage ≡ stage.Batch → BatchesStand replay bs → (after_batches replay bs).stage ≡ stage.Batch
batches_stay replay [] is all = is
batches_stay replay (b ∷ bs) is all = batches_stay (replays replay b) bs (records_stay replay b is all.0) all.1

at_stage : (replay : ReplayState) → replay.stage ≡ stage.Batch → replay ≡ at_batches replay.table
at_stage replay is = λ i. record { stage = is i; table = replay.table }

-- records that stand behind a table lead to the batches behind the next
pub replays_lead : (table : TableState) (rs : List Record) → AllStand (at_batches table) rs → replays (at_batches table) rs ≡ at_batches (replays (at_batches table) rs).table
replays_lead table rs all = at_stage (replays (at_batches table) rs) (records_stay (at_batches table) rs refl all)

batches_push : (replay : ReplayState) (bs : List (List Record)) (b : List Record) → BatchesStand replay bs → AllStand (after_batches replay bs) b → BatchesStand replay (bs ++ b ∷ [])
batches_push replay [] b all one = (one, tt)
batches_push replay (a ∷ others) b all one = (all.0, batches_push (replays replay a) others b all.1 one)

-- a batch behind it makes it the front of the table that the batch leads to
pub more_front : (columns : List Column) (front : List ℕ) (table : TableState) (generation : ℕ) (rs : List Record) → IsFront columns front table generation → AllStand (at_batches table) rs
    → IsFront columns (front ++ batch_bytes rs) (replays (at_batches table) rs).table generation
more_front columns front table generation rs f all =
    let more = batch_bytes rs in
    let within = f.long in
    let size : length (front ++ more) ≡ length front + length more = length-append front more in
    let generation_same : generation_of (front ++ more) ≡ generation_of front = told_front 5 front more (omega (arith, within)) in
    let length_same : base_length_of (front ++ more) ≡ base_length_of front = told_front 13 front more (omega (arith, within)) in
    record {
      long = omega (arith, within, size, length_same);
      gate = gate_front front more (omega (arith, within)) ∙ f.gate;
      magic = has_magic front (front ++ more) (sym (magic_front front more (omega (arith, within)))) f.magic;
      positive = subst (λ (n : ℕ). 1 ≤ n) (sym generation_same) f.positive;
      limit = subst (λ (n : ℕ). n ≤ generation_limit) (sym generation_same) f.limit;
      generation_is = f.generation_is ∙ sym generation_same;
      base_table = f.base_table;
      base = subst (λ (bytes : List ℕ). IsBase (format_of (front ++ more)) columns bytes f.base_table) (sym (base_front front more within)) (subst (λ format. IsBase format columns (base_of front) f.base_table) (sym (format_front front more (omega (arith, within)))) f.base);
      batches = f.batches ++ rs ∷ [];
      behind = behind_front front more within ∙ ap (λ (l : List ℕ). l ++ more) f.behind ∙ flat_map_more batch_bytes [] f.batches rs;
      stand = batches_push (at_batches f.base_table) f.batches rs f.stand (subst (λ replay. AllStand replay rs) (sym f.leads) all);
      leads = fold_push replays (at_batches f.base_table) f.batches rs ∙ ap (λ replay. replays replay rs) f.leads ∙ replays_lead table rs all;
    }

-- the parts of a side
pub record Parted (columns : List Column) (bytes : List ℕ) (table : TableState) (generation len : ℕ) : Type 0 where
  pub front : List ℕ
  pub gate : ℕ
  pub tail : List ℕ
  pub is : bytes ≡ front ++ gate ∷ tail
  pub closed : gate ≢ 1
  pub end : len ≡ length front + 1
  pub is_front : IsFront columns front table generation

pub parted : (columns : List Column) (bytes : List ℕ) (table : TableState) (generation len : ℕ) → OwnSide columns bytes table generation len → Parted columns bytes table generation len
parted columns bytes table generation len side =
    let w = side.stands in
    let r = w.reaches in
    let n = base_at + base_length_of bytes in
    let head = take n bytes in
    let front = head ++ batches_bytes w.batches in
    let more = w.closing ∷ w.ignored in
    let header = r.begins.header in
    let head_length : length head ≡ n = omega (arith, length-take n bytes, header.within) in
    let size : length front ≡ n + length (batches_bytes w.batches) = omega (arith, head_length, length-append head (batches_bytes w.batches)) in
    let is : bytes ≡ front ++ more = sym (take-append-drop n bytes) ∙ ap (λ (l : List ℕ). head ++ l) r.behind ∙ sym (append_assoc head (batches_bytes w.batches) more) in
    let generation_same : generation_of bytes ≡ generation_of front = ap generation_of is ∙ told_front 5 front more (omega (arith, size)) in
    let length_same : base_length_of bytes ≡ base_length_of front = ap base_length_of is ∙ told_front 13 front more (omega (arith, size)) in
    let long : base_at + base_length_of front ≤ length front = omega (arith, size, length_same) in
    record {
      front = front;
      gate = w.closing;
      tail = w.ignored;
      is = is;
      closed = w.closed;
      end = omega (arith, size, w.len_is);
      is_front = record {
        long = long;
        gate = sym (gate_front front more (omega (arith, size))) ∙ sym (ap gate_of is) ∙ r.begins.is_open.gate;
        magic = has_magic bytes front (ap magic_of is ∙ magic_front front more (omega (arith, size))) header.magic;
        positive = subst (λ (k : ℕ). 1 ≤ k) generation_same header.positive;
        limit = subst (λ (k : ℕ). k ≤ generation_limit) generation_same r.begins.generation;
        generation_is = w.generation_is ∙ generation_same;
        base_table = r.base_table;
        base = subst (λ (l : List ℕ). IsBase (format_of front) columns l r.base_table) (ap base_of is ∙ base_front front more long) (subst (λ format. IsBase format columns (base_of bytes) r.base_table) (ap format_of is ∙ format_front front more (omega (arith, size))) r.base);
        batches = w.batches;
        behind = ap (λ (k : ℕ). drop (base_at + k) front) (sym length_same) ∙ drop_at head (batches_bytes w.batches) n head_length;
        stand = r.stand;
        leads = at_stage (after_batches (at_batches r.base_table) w.batches) (batches_stay (at_batches r.base_table) w.batches refl r.stand) ∙ ap at_batches (ap (λ (replay : ReplayState). replay.table) (sym r.replay_is) ∙ sym w.table_is);
      };
    }
