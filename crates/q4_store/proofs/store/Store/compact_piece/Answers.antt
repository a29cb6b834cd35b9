use Rattle.std.proofs.Common.{◌≡◌, ◌+◌, ◌++◌, List, ℕ, [], IsTrue, true, false, Some, None, length, map, refl, sym, ◌∙◌, ap, subst, arith}
use Rattle.std.specs.Prelude.{◌==◌, ◌↔◌}
use Rattle.q4_store.specs.declared.copying.Progress.{Progress}
use Rattle.q4_value.specs.declared.column.Column.{Column}
use Rattle.q4_table.specs.TableState.{TableState}
use Rattle.q4_table.specs.Owners.{without_owners}
use Rattle.q4_record.specs.Side.{base_at}
use Rattle.q4_record.specs.Written.{row_record}
use Rattle.q4_disk.specs.Images.{on, other, size, Within}
use Rattle.q4_disk.specs.Time.{LeavesOnly, OtherStays}
use Rattle.q4_store.specs.Parts.{IsShut}
use Rattle.q4_store.specs.Reading.{ReadsAs}
use Rattle.q4_store.specs.Content.{Content, IsPrefix, table_of}
use Rattle.q4_store.specs.Copied.{piece_bytes, taken, cursor_after, rows_from}
use Rattle.q4_store.specs.Store.{Stored, StandsFor, IsLongerBy}
use Rattle.q4_store.specs.Device.{DeviceCall, AllMade, BrokeOff, extend_calls}
use Rattle.q4_store.specs.CopyCalls.{piece_calls}
use Rattle.q4_store.proofs.Excess.{piece_longer}
use Rattle.q4_store.proofs.CopyStands.{none_copied}
use Rattle.q4_store.proofs.Owners.{schema_here, piece_unowned, cursor_unowned}
use Rattle.q4_store.proofs.Pieces.{copy_place, copy_late, piece_small, piece_carried, piece, extended_stands, extended_moments}
use Rattle.q4_store.proofs.store.Store.compact_piece.Given as given
use Rattle.q4_store.proofs.store.Store.compact_piece.Goals as goal
use Rattle.q4_store.proofs.store.Store.compact_piece.Goals.{After-extend_by, In-Ok-extend_by}

pub gather-gathered-requires-clause-schema : goal.gather-gathered-requires-clause-schema
gather-gathered-requires-clause-schema g c = schema_here g.D.Disk.told c.args.self.now c.requires.content.0 c.args.table.now.state c.requires.content.1 c.requires.content.2

pub extend_by-requires-clause-behind : goal.extend_by-requires-clause-behind
extend_by-requires-clause-behind g c = copy_late g.D.Disk.told _ c.requires.content.0 (subst (λ store. StandsFor g.D.Disk.told store c.requires.content.0) (sym c.self.view_is) c.requires.content.1) c.in-Some.progress c.in-Some.is

pub extend_by-requires-clause-place : goal.extend_by-requires-clause-place
extend_by-requires-clause-place g c h =
    copy_place g.D.Disk.told _ c.requires.content.0 (subst (λ store. StandsFor g.D.Disk.told store c.requires.content.0) (sym c.self.view_is) c.requires.content.1) c.in-Some.progress c.in-Some.is h
    ∙ ap (λ side. size side (g.D.Disk.told c.self.inside.disk).bytes) (sym c.other_of.ensures)

module _ (g : given.Over) where
  -- the store by its fields
  abbrev view : (c : goal.After-extend_by g) → Stored g.row.D.Denot
  view c = record {
    disk = c.self.inside.disk;
    columns = c.self.inside.columns;
    side = c.self.inside.side;
    end = c.self.inside.end;
    generation = c.self.inside.generation;
    records = c.self.inside.batch.records;
    rows = c.self.inside.rows;
    reserved = c.self.inside.reserved;
    known = c.self.inside.known;
    failed = c.self.inside.failed;
    copy = c.self.inside.copy;
    ends = c.self.inside.ends.items;
  }

  here : (c : goal.After-extend_by g) (content : Content) → StandsFor g.D.Disk.told c.args.self.now content → StandsFor g.D.Disk.told (view c) content
  here c content s = subst (λ store. StandsFor g.D.Disk.told store content) (sym c.self.view_is) s

  whole : (c : goal.After-extend_by g) → c.self.inside.failed ≡ false
  whole c = ap (λ (store : Stored g.row.D.Denot). store.failed) c.self.view_is ∙ c.requires.whole

  run : (c : goal.After-extend_by g) (columns : List Column) → IsTrue (g.D.Disk.told c.self.inside.disk).honest → Within (g.D.Disk.told c.self.inside.disk).images (λ d. IsShut (on (other c.self.inside.side) d)) → LeavesOnly (g.D.Disk.told c.self.inside.disk) (g.D.Disk.told c.extend_by.new.disk) (ReadsAs columns (g.D.Disk.told c.self.inside.disk).images)
  run c columns h shut = c.extend_by.ensures.any_moment columns h (subst (λ side. Within (g.D.Disk.told c.self.inside.disk).images (λ d. IsShut (on side d))) (sym c.other_of.ensures) shut)

  shut_then : (c : goal.After-extend_by g) → IsTrue (g.D.Disk.told c.self.inside.disk).honest → Within (g.D.Disk.told c.self.inside.disk).images (λ d. IsShut (on (other c.self.inside.side) d)) → Within (g.D.Disk.told c.extend_by.new.disk).images (λ d. IsShut (on (other c.self.inside.side) d))
  shut_then c = subst (λ side. IsTrue (g.D.Disk.told c.self.inside.disk).honest → Within (g.D.Disk.told c.self.inside.disk).images (λ d. IsShut (on side d)) → Within (g.D.Disk.told c.extend_by.new.disk).images (λ d. IsShut (on side d))) c.other_of.ensures c.extend_by.ensures.shut

  stays : (c : goal.After-extend_by g) → IsTrue (g.D.Disk.told c.self.inside.disk).honest → OtherStays (other c.self.inside.side) (g.D.Disk.told c.self.inside.disk) (g.D.Disk.told c.extend_by.new.disk)
  stays c = subst (λ side. IsTrue (g.D.Disk.told c.self.inside.disk).honest → OtherStays side (g.D.Disk.told c.self.inside.disk) (g.D.Disk.told c.extend_by.new.disk)) c.other_of.ensures c.extend_by.ensures.other

  moments : (c : goal.After-extend_by g) (content : Content) → StandsFor g.D.Disk.told c.args.self.now content → IsTrue (g.D.Disk.told c.args.self.now.disk).honest → LeavesOnly (g.D.Disk.told c.args.self.now.disk) (g.D.Disk.told c.extend_by.new.disk) (IsPrefix content c.args.self.now.generation)
  moments c content s =
      subst (λ (store : Stored g.row.D.Denot). IsTrue (g.D.Disk.told store.disk).honest → LeavesOnly (g.D.Disk.told store.disk) (g.D.Disk.told c.extend_by.new.disk) (IsPrefix content store.generation)) c.self.view_is
      (λ h. extended_moments g.D.Disk.told _ content (here c content s) c.in-Some.progress c.in-Some.is c.extend_by.new.disk (whole c) c.extend_by.ensures.honest h (run c))

  -- what was gathered, by the content
  gathered : (c : goal.After-extend_by g) (content : Content) (s : StandsFor g.D.Disk.told c.args.self.now content) → table_of content ≡ without_owners c.args.table.now.state → c.as_slice-more.result.now ≡ piece g.D.Disk.told _ content (here c content s) c.in-Some.progress c.in-Some.is c.args.most
  gathered c content s same =
      c.as_slice-more.ensures ∙ c.in-Ok.ensures.bytes
      ∙ (λ i. piece_bytes (c.in-Some.progress.at == base_at) c.args.table.now.state.columns (c.deref.ensures.value i) (sym (piece_unowned c.args.most c.in-Some.progress.cursor c.args.table.now.state) i))
      ∙ (λ i. piece_bytes (c.in-Some.progress.at == base_at) (sym same i).columns c.self.inside.ends.items (map (row_record (sym same i).columns) (taken c.args.most c.in-Some.progress.cursor (sym same i))))

pub returns-in_default-extend_by-clause-any_moment : goal.returns-in_default-extend_by-clause-any_moment
returns-in_default-extend_by-clause-any_moment g c = moments g (goal.at.returns-in_default-extend_by-clause-any_moment g c).After-extend_by

pub returns-in_default-extend_by-clause-stands : goal.returns-in_default-extend_by-clause-stands
returns-in_default-extend_by-clause-stands g c content s same =
    let a = (goal.at.returns-in_default-extend_by-clause-stands g c).After-extend_by in
    extended_stands g.D.Disk.told _ content (here g a content s) c.in-Some.progress c.in-Some.is c.extend_by.new.disk None c.truncate.new.self.items (whole g a) c.extend_by.ensures.honest (g.met.D.Disk.counts_now c.extend_by.new.disk) (g.met.D.Disk.reads_image c.extend_by.new.disk)
    (run g a) (shut_then g a) (stays g a) (none_copied _ None refl)

pub overflow_add-self : goal.overflow_add-self
overflow_add-self g c =
    let a = (goal.at.overflow_add-self g c).After-extend_by in
    let content = c.requires.content.0 in
    let few = piece_small g.D.Disk.told _ content (here g a content c.requires.content.1) c.in-Some.progress c.in-Some.is c.args.most (let room = c.self.invariant.kept.room in omega (arith, room)) in
    omega (arith, few, ap length (gathered g a content c.requires.content.1 c.requires.content.2))

pub returns-clause-any_moment : goal.returns-clause-any_moment
returns-clause-any_moment g c = moments g (goal.at.returns-clause-any_moment g c).After-extend_by

pub returns-clause-stands : goal.returns-clause-stands
returns-clause-stands g c content s same =
    let a = (goal.at.returns-clause-stands g c).After-extend_by in
    let told = g.D.Disk.told in
    extended_stands told _ content (here g a content s) c.in-Some.progress c.in-Some.is c.extend_by.new.disk (Some (record { cursor = c.in-Ok.piece.cursor; at = c.in-Some.progress.at + length c.as_slice-more.result.now })) c.truncate.new.self.items (whole g a) c.extend_by.ensures.honest
    (g.met.D.Disk.counts_now c.extend_by.new.disk) (g.met.D.Disk.reads_image c.extend_by.new.disk) (run g a) (shut_then g a) (stays g a)
    (piece_carried told _ content (here g a content s) c.in-Some.progress c.in-Some.is c.args.most c.extend_by.new.disk c.truncate.new.self.items c.as_slice-more.result.now c.in-Ok.piece.cursor c.extend_by.ensures.honest c.truncate.ensures.items
    (c.in-Ok.ensures.cursor ∙ sym (cursor_unowned c.args.most c.in-Some.progress.cursor c.args.table.now.state) ∙ ap (λ (t : TableState). cursor_after c.in-Some.progress.cursor (taken c.args.most c.in-Some.progress.cursor t)) (sym same)) (gathered g a content s same)
    (subst (λ side. IsTrue (told c.self.inside.disk).honest → on side (told c.extend_by.new.disk).bytes ≡ on side (told c.self.inside.disk).bytes ++ c.as_slice-more.result.now) c.other_of.ensures c.in-Ok-extend_by.ensures.bytes))

same_some : {one two : Progress} → Some one ≡ Some two → one ≡ two
same_some is = cc is

not_some : (P : Type 0) (progress : Progress) → None ≡ Some progress → P
not_some P progress wrong = absurd (cc wrong)

pub returns-clause-done : goal.returns-clause-done
returns-clause-done g c progress is =
    let table = c.args.table.now.state in
    let here : c.in-Some.progress ≡ progress = same_some (sym c.in-Some.is ∙ (ap (λ (store : Stored g.row.D.Denot). store.copy) c.self.view_is ∙ is)) in
    let cursor_is = c.in-Ok.ensures.cursor ∙ ap (λ (p : Progress). cursor_after p.cursor (taken c.args.most p.cursor table)) here in
    subst (λ n. (c.none_left.result ≡ true) ↔ (rows_from n table.rows ≡ [])) cursor_is c.none_left.ensures

pub returns-clause-length : goal.returns-clause-length
returns-clause-length g c content extra s same longer =
    let a = (goal.at.returns-clause-length g c).After-extend_by in
    piece_longer g.D.Disk.told _ content (here g a content s) c.in-Some.progress c.in-Some.is c.args.most (record (view g a) { disk = c.extend_by.new.disk; copy = Some (record { cursor = c.in-Ok.piece.cursor; at = c.in-Some.progress.at + length c.as_slice-more.result.now }); ends = c.truncate.new.self.items }) c.in-Ok.piece.cursor extra c.as_slice-more.result.now
    (c.in-Ok.ensures.cursor ∙ sym (cursor_unowned c.args.most c.in-Some.progress.cursor c.args.table.now.state) ∙ ap (λ (t : TableState). cursor_after c.in-Some.progress.cursor (taken c.args.most c.in-Some.progress.cursor t)) (sym same))
    (gathered g a content s same) refl c.truncate.ensures.items (subst (λ (store : Stored g.row.D.Denot). IsLongerBy store (table_of content) extra) (sym c.self.view_is) longer)

pub returns-in_default-gathered-clause-length : goal.returns-in_default-gathered-clause-length
returns-in_default-gathered-clause-length g c content extra s same longer progress wrong = not_some _ progress wrong

pub returns-in_default-extend_by-clause-length : goal.returns-in_default-extend_by-clause-length
returns-in_default-extend_by-clause-length g c content extra s same longer progress wrong = not_some _ progress wrong

module _ (g : given.Over) where
  -- the bytes of a piece, by the store as it was given
  piece_here : (c : goal.After-extend_by g) (progress : Progress) → c.args.self.now.copy ≡ Some progress
      → extend_calls c.other_of.result c.in-Some.progress.at c.as_slice-more.result.now ≡ piece_calls c.args.self.now progress c.args.most c.args.table.now.state
  piece_here c progress is =
      let same : c.in-Some.progress ≡ progress = same_some (sym c.in-Some.is ∙ (ap (λ (store : Stored g.row.D.Denot). store.copy) c.self.view_is ∙ is)) in
      let bytes = c.as_slice-more.ensures ∙ c.in-Ok.ensures.bytes ∙ ap (λ (ends : List ℕ). piece_bytes (c.in-Some.progress.at == base_at) c.args.table.now.state.columns ends (map (row_record c.args.table.now.state.columns) (taken c.args.most c.in-Some.progress.cursor c.args.table.now.state))) c.deref.ensures.value in
      (λ i. extend_calls (c.other_of.ensures i) c.in-Some.progress.at (bytes i))
      ∙ (λ i. piece_calls (c.self.view_is i) (same i) c.args.most c.args.table.now.state)

pub returns-clause-device : goal.returns-clause-device
returns-clause-device g c progress is =
    subst (λ (store : Stored g.row.D.Denot). AllMade g.D.Disk.told (piece_calls c.args.self.now progress c.args.most c.args.table.now.state) store.disk c.extend_by.new.disk) c.self.view_is
    (subst (λ (calls : List DeviceCall). AllMade g.D.Disk.told calls c.self.inside.disk c.extend_by.new.disk) (piece_here g (goal.at.returns-clause-device g c).After-extend_by progress is) c.in-Ok-extend_by.ensures.device)

pub returns-in_default-extend_by-clause-device_err : goal.returns-in_default-extend_by-clause-device_err
returns-in_default-extend_by-clause-device_err g c progress is =
    subst (λ (store : Stored g.row.D.Denot). BrokeOff g.D.Disk.told (piece_calls c.args.self.now progress c.args.most c.args.table.now.state) store.disk c.extend_by.new.disk) c.self.view_is
    (subst (λ (calls : List DeviceCall). BrokeOff g.D.Disk.told calls c.self.inside.disk c.extend_by.new.disk) (piece_here g (goal.at.returns-in_default-extend_by-clause-device_err g c).After-extend_by progress is) c.in_default-extend_by.ensures.device)
