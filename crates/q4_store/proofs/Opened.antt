-- A store that was opened.
use Rattle.std.proofs.Common.{◌≡◌, ℕ, ◌*◌, ◌^◌, ◌≤◌, List, [], ◌∷◌, length, IsTrue, None, sym, ◌∙◌, ap, subst, arith, length-append}
use Rattle.q4_value.specs.declared.column.Column.{Column}
use Rattle.q4_value.specs.Names.{AreColumns}
use Rattle.q4_table.specs.TableState.{TableState}
use Rattle.q4_record.specs.Side.{OwnSide}
use Rattle.q4_disk.specs.Told.{Told}
use Rattle.q4_disk.specs.Images.{on, other, Within}
use Rattle.q4_store.specs.Parts.{IsReady}
use Rattle.q4_store.specs.Store.{Stored, StandsFor, IsSettled, IsHeld, pending_length}
use Rattle.q4_store.proofs.Fronts.{parted}
use Rattle.q4_store.proofs.Finding.{own_sound}
use Rattle.q4_store.proofs.Commits.{settled_reads}
use Rattle.q4_store.proofs.Weights.{side_long}

-- a side is at least as long as up to its closing gate
pub end_within : (columns : List Column) (bytes : List ℕ) (table : TableState) (generation end : ℕ) → OwnSide columns bytes table generation end → (1 ≤ end) × (end ≤ length bytes)
end_within columns bytes table generation end side =
    let p = parted columns bytes table generation end side in
    let size = ap length p.is in
    (omega (arith, p.end), omega (arith, p.end, size, length-append p.front (p.gate ∷ p.tail)))

-- its generation is at least 1, and within its limit
pub generation_within : (columns : List Column) (bytes : List ℕ) (table : TableState) (generation end : ℕ) → OwnSide columns bytes table generation end → (1 ≤ generation) × (generation ≤ 2 ^ 62)
generation_within columns bytes table generation end side =
    let whole = side.stands in
    let begins = whole.reaches.begins in
    (subst (λ (n : ℕ). 1 ≤ n) (sym whole.generation_is) begins.header.positive, subst (λ (n : ℕ). n ≤ 2 ^ 62) (sym whole.generation_is) begins.generation)

module _ {D : Type 0} (told : D → Told) (store : Stored D) (columns : List Column) (bytes : List ℕ) (table : TableState) (side : OwnSide columns bytes table store.generation store.end)
    (settled : IsTrue (told store.disk).honest → IsSettled (told store.disk) store.side table store.generation store.end) (none : store.records ≡ []) (rows : store.rows ≡ length table.rows) where
  pub opened_held : (memory copied : ℕ) → store.reserved ≡ 0 → store.ends ≡ [] → 9 * store.rows ≤ memory → 9 * store.rows ≤ copied → IsHeld told store memory copied
  opened_held memory copied reserve no_ends batch copy = record {
    kept = record {
      gate = (end_within columns bytes table store.generation store.end side).0;
      within = λ honest whole. (end_within table.columns (on store.side (told store.disk).bytes) table store.generation store.end (settled honest).stands).1;
      room = let length_is = ap pending_length none in omega (arith, side.room, rows, length_is);
      reserve = λ some. absurd (omega (arith, some, reserve));
    };
    batch = batch;
    copy = let empty = ap (λ (l : List ℕ). length l) no_ends in omega (arith, copy, empty);
    reserve_batch = λ some. absurd (omega (arith, some, reserve));
    reserve_copy = λ some. absurd (omega (arith, some, reserve));
  }

  pub opened_stands : AreColumns columns → store.columns ≡ columns → store.copy ≡ None → (IsTrue (told store.disk).honest → Within (told store.disk).images (IsReady store.known (other store.side))) → StandsFor told store (record { committed = table; pending = [] })
  opened_stands are own no_copy ready =
      let sound = own_sound columns bytes table store.generation store.end are side in
      record {
        columns = subst AreColumns (sym sound.columns_are) are;
        own = own ∙ sym sound.columns_are;
        valid = sound.valid;
        unowned = sound.unowned;
        stand = tt;
        records = none;
        rows = rows;
        images = λ honest c left. settled_reads (told store.disk) store.side table store.generation store.end (settled honest) c left;
        settled = λ honest whole. settled honest;
        ready = ready;
        long = let length_is = ap pending_length none in omega (arith, side_long columns bytes table store.generation store.end side, length_is);
        copy = λ progress is. let wrong = sym no_copy ∙ is in absurd (cc wrong);
      }
