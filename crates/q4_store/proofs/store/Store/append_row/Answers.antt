use Rattle.std.proofs.Common.{◌≡◌, ◌≤◌, ◌<◌, ◌+◌, ◌++◌, List, ℕ, ◌∙◌, ap, length, sym, subst, arith, rules}
use Rattle.q4_value.specs.declared.column.Column.{Column}
use Rattle.q4_record.specs.Record.{record_bytes}
use Rattle.q4_record.specs.Replay.{at_batches}
use Rattle.q4_store.specs.Store.{Stored, StandsFor, IsLongerBy, pending_length}
use Rattle.q4_store.specs.Content.{Content, row_added, table_of}
use Rattle.q4_store.proofs.Appending.{row_appended}
use Rattle.q4_store.proofs.Lengths.{batch_size_more, change_length, pending_more, store_longer}
use Rattle.q4_store.proofs.Lifting.{columns_stay}
use Rattle.q4_store.proofs.Commits.{some_bytes}
use Rattle.q4_value.specs.Spelling.{row_bytes}
use Rattle.q4_store.proofs.Excess.{row_added_longer}
use Rattle.q4_store.proofs.store.Store.append_row.Given as given
use Rattle.q4_store.proofs.store.Store.append_row.Goals as goal
use Rattle.q4_store.proofs.store.Store.append_row.Goals.{After-put_row}

module _ (g : given.Over) where
  -- the row is spelled by the columns that the store has
  own : (c : goal.After-put_row g) → c.as_slice.result.now ≡ c.args.self.now.columns
  own c = c.as_slice.ensures ∙ ap (λ (store : Stored g.row.D.Denot). store.columns) c.self.view_is

  records : (c : goal.After-put_row g) → c.put_row.new.self.records ≡ c.self.inside.batch.records ++ record_bytes (row_added c.args.self.now.columns c.args.number c.args.row.now c.args.origin)
  records c = c.put_row.ensures.records ∙ ap (λ cs. c.self.inside.batch.records ++ record_bytes (row_added cs c.args.number c.args.row.now c.args.origin)) (own c)

-- a store's columns are those of its table
of_table : {D : Type 0} (store : Stored D) (content : Content) → store.columns ≡ content.committed.columns → (table_of content).columns ≡ store.columns
of_table store content own_is = columns_stay (at_batches content.committed) content.pending ∙ sym own_is

pub returns-clause-stands : goal.returns-clause-stands
returns-clause-stands g c content s t =
    row_appended g.D.Disk.told _ content c.args.self.now.columns (of_table c.args.self.now content s.own) c.args.number c.args.row.now c.args.origin c.put_row.new.self.records 0 (subst (λ store. StandsFor g.D.Disk.told store content) (sym c.self.view_is) s) t (records g (goal.at.returns-clause-stands g c).After-put_row)

pub returns-clause-longer : goal.returns-clause-longer
returns-clause-longer g c content s =
    store_longer g.D.Disk.told _ _ content (row_added c.args.self.now.columns c.args.number c.args.row.now c.args.origin) c.put_row.new.self.records c.self.view_is s (records g (goal.at.returns-clause-longer g c).After-put_row)

pub returns-clause-copy : goal.returns-clause-copy
returns-clause-copy g c content extra s t longer =
    row_added_longer g.D.Disk.told _ content c.args.self.now.columns c.args.number c.args.row.now c.args.origin c.put_row.new.self.records (c.self.inside.rows + 1) 0 extra (subst (λ store. StandsFor g.D.Disk.told store content) (sym c.self.view_is) s) t
    (subst (λ (store : Stored g.row.D.Denot). IsLongerBy store (table_of content) extra) (sym c.self.view_is) longer)

pub put_row-requires-clause-room : goal.put_row-requires-clause-room
put_row-requires-clause-room g c =
    let same = ap (λ (cs : List Column). length (record_bytes (row_added cs c.args.number c.args.row.now c.args.origin))) (c.as_slice.ensures ∙ ap (λ (store : Stored g.row.D.Denot). store.columns) c.self.view_is) in
    let fits : length (record_bytes (row_added c.as_slice.result.now c.args.number c.args.row.now c.args.origin)) ≤ c.args.self.now.reserved = omega (arith, same, c.requires.reserved, change_length (row_added c.args.self.now.columns c.args.number c.args.row.now c.args.origin)) in
    search rules

pub put_row-requires-clause-few : goal.put_row-requires-clause-few
put_row-requires-clause-few g c =
    let same = ap (λ (cs : List Column). length (record_bytes (row_added cs c.args.number c.args.row.now c.args.origin))) (c.as_slice.ensures ∙ ap (λ (store : Stored g.row.D.Denot). store.columns) c.self.view_is) in
    let fits : length (record_bytes (row_added c.as_slice.result.now c.args.number c.args.row.now c.args.origin)) ≤ c.args.self.now.reserved = omega (arith, same, c.requires.reserved, change_length (row_added c.args.self.now.columns c.args.number c.args.row.now c.args.origin)) in
    search rules

pub invariant_of-self : goal.invariant_of-self
invariant_of-self g c =
    let a = (goal.at.invariant_of-self g c).After-put_row in
    let bytes = record_bytes (row_added c.args.self.now.columns c.args.number c.args.row.now c.args.origin) in
    let spelled = ap (λ (cs : List Column). length (record_bytes (row_added cs c.args.number c.args.row.now c.args.origin))) (own g a) in
    let size = change_length (row_added c.args.self.now.columns c.args.number c.args.row.now c.args.origin) in
    let asked = c.requires.reserved in
    let same = ap (λ (store : Stored g.row.D.Denot). store.reserved) c.self.view_is in
    let some : 0 < c.self.inside.reserved = omega (arith, asked, same) in
    let fits : length bytes ≤ c.self.inside.reserved = omega (arith, asked, same, size) in
    let held = c.self.invariant in
    let room = held.kept.reserve some in
    let batch = held.reserve_batch some in
    let copy = held.reserve_copy some in
    let more = ap pending_length (records g a) ∙ pending_more c.self.inside.batch.records bytes (some_bytes (row_added c.args.self.now.columns c.args.number c.args.row.now c.args.origin).head (row_bytes c.args.self.now.columns c.args.row.now)) in
    record {
      kept = record {
        gate = held.kept.gate;
        within = held.kept.within;
        room = omega (arith, room, more, fits, batch_size_more c.self.inside.batch.records (length bytes), batch_size_more c.self.inside.batch.records c.self.inside.reserved);
        reserve = λ wanted. absurd (omega (arith, wanted));
      };
      batch = omega (arith, batch, fits, spelled, c.put_row.ensures.room);
      copy = omega (arith, copy);
      reserve_batch = λ wanted. absurd (omega (arith, wanted));
      reserve_copy = λ wanted. absurd (omega (arith, wanted));
    }
