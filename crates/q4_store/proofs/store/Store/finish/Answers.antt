use Rattle.std.proofs.Common.{◌≡◌, ◌+◌, ◌≤◌, ◌*◌, ◌⊎◌, List, ℕ, IsTrue, false, Some, None, length, refl, sym, ◌∙◌, ap, subst, arith}
use Rattle.q4_value.specs.declared.column.Column.{Column}
use Rattle.q4_record.specs.Side.{side_limit, OwnSide}
use Rattle.q4_disk.specs.Images.{on, other, size, Within}
use Rattle.q4_disk.specs.Time.{LeavesOnly, OtherStays}
use Rattle.q4_disk.specs.declared.disk.Side.{Side}
use Rattle.q4_disk.proofs.Moments.{left_now, other_then}
use Rattle.q4_store.specs.Parts.{IsShut, IsFilled, opened}
use Rattle.q4_store.specs.Reading.{ReadsOwn, ReadsAs}
use Rattle.q4_store.specs.Content.{Content, IsPrefix, IsPrefixOrNew, table_of, all_committed}
use Rattle.q4_store.specs.Store.{Stored, StandsFor, IsRest, IsUnsure, IsSettled, length_of, pending_length}
use Rattle.q4_store.specs.Device.{DeviceCall, AllMade, BrokeOff, fill_calls, switch_calls}
use Rattle.q4_store.proofs.Runs.{made_then}
use Rattle.q4_store.proofs.Opened.{end_within}
use Rattle.q4_store.proofs.CopyStands.{none_copied}
use Rattle.q4_store.proofs.Pieces.{copy_place, copy_late, copy_shut, extended_stands, extended_moments}
use Rattle.q4_store.proofs.Finishing.{FillSays, end_few, the_filled, fill_moments, finish_moments, settled_finished, stands_finished, columns_are}
use Rattle.q4_store.proofs.store.Store.finish.Given as given
use Rattle.q4_store.proofs.store.Store.finish.Goals as goal
use Rattle.q4_store.proofs.store.Store.finish.Goals.{After-truncate, After-fill, In-Ok, After-switch, In-Ok-switch}

module _ (g : given.Over) where
  -- the store by its fields
  abbrev view : (c : goal.After-truncate g) → Stored g.row.D.Denot
  view c = record {
    disk = c.self.inside.disk;
    columns = c.self.inside.columns;
    side = c.self.inside.side;
    end = c.self.inside.end;
    generation = c.self.inside.generation;
    records = c.self.inside.batch.records;
    rows = c.self.inside.rows;
    reserved = c.self.inside.reserved;
    known = c.self.inside.known;
    failed = c.self.inside.failed;
    copy = c.self.inside.copy;
    ends = c.self.inside.ends.items;
  }

  here : (c : goal.After-truncate g) (content : Content) → StandsFor g.D.Disk.told c.args.self.now content → StandsFor g.D.Disk.told (view c) content
  here c content s = subst (λ store. StandsFor g.D.Disk.told store content) (sym c.self.view_is) s

  rest_here : (c : goal.After-truncate g) (content : Content) → IsRest c.args.self.now c.args.progress content c.args.last.now c.args.header.now → IsRest (view c) c.args.progress content c.args.last.now c.args.header.now
  rest_here c content r = subst (λ store. IsRest store c.args.progress content c.args.last.now c.args.header.now) (sym c.self.view_is) r

  copying : (c : goal.After-truncate g) → c.self.inside.copy ≡ Some c.args.progress
  copying c = ap (λ (store : Stored g.row.D.Denot). store.copy) c.self.view_is ∙ c.requires.copying

  whole : (c : goal.After-truncate g) → c.self.inside.failed ≡ false
  whole c = ap (λ (store : Stored g.row.D.Denot). store.failed) c.self.view_is ∙ c.requires.whole

  shut : (c : goal.After-truncate g) (content : Content) → StandsFor g.D.Disk.told c.args.self.now content → IsTrue (g.D.Disk.told c.self.inside.disk).honest → Within (g.D.Disk.told c.self.inside.disk).images (λ d. IsShut (on (other c.self.inside.side) d))
  shut c content s h = copy_shut g.D.Disk.told _ content (here c content s) c.args.progress (copying c) h

  room : (c : goal.After-truncate g) → length_of (view c) + 32 * c.self.inside.rows ≤ side_limit
  room c = c.self.invariant.kept.room

  -- what fill says, of the other side
  fill_run : (c : goal.After-fill g) (columns : List Column) → IsTrue (g.D.Disk.told c.self.inside.disk).honest → Within (g.D.Disk.told c.self.inside.disk).images (λ d. IsShut (on (other c.self.inside.side) d)) → LeavesOnly (g.D.Disk.told c.self.inside.disk) (g.D.Disk.told c.fill.new.disk) (ReadsAs columns (g.D.Disk.told c.self.inside.disk).images)
  fill_run c columns h closed = c.fill.ensures.any_moment columns h (subst (λ side. Within (g.D.Disk.told c.self.inside.disk).images (λ d. IsShut (on side d))) (sym c.other_of-side.ensures) closed)

  fill_shut : (c : goal.After-fill g) → IsTrue (g.D.Disk.told c.self.inside.disk).honest → Within (g.D.Disk.told c.self.inside.disk).images (λ d. IsShut (on (other c.self.inside.side) d)) → Within (g.D.Disk.told c.fill.new.disk).images (λ d. IsShut (on (other c.self.inside.side) d))
  fill_shut c = subst (λ side. IsTrue (g.D.Disk.told c.self.inside.disk).honest → Within (g.D.Disk.told c.self.inside.disk).images (λ d. IsShut (on side d)) → Within (g.D.Disk.told c.fill.new.disk).images (λ d. IsShut (on side d))) c.other_of-side.ensures c.fill.ensures.shut

  fill_other : (c : goal.After-fill g) → IsTrue (g.D.Disk.told c.self.inside.disk).honest → OtherStays (other c.self.inside.side) (g.D.Disk.told c.self.inside.disk) (g.D.Disk.told c.fill.new.disk)
  fill_other c = subst (λ side. IsTrue (g.D.Disk.told c.self.inside.disk).honest → OtherStays side (g.D.Disk.told c.self.inside.disk) (g.D.Disk.told c.fill.new.disk)) c.other_of-side.ensures c.fill.ensures.other

  filled : (c : goal.In-Ok g) (content : Content) → StandsFor g.D.Disk.told c.args.self.now content → IsRest c.args.self.now c.args.progress content c.args.last.now c.args.header.now → IsTrue (g.D.Disk.told c.self.inside.disk).honest
      → IsFilled (g.D.Disk.told c.fill.new.disk) (other c.self.inside.side) (table_of content).columns (table_of content) (c.self.inside.generation + 1) (c.args.progress.at + length c.args.last.now)
  filled c content s r h =
      let a = (goal.at.In-Ok g c).After-truncate in
      the_filled g.D.Disk.told _ content (here a content s) c.args.progress (copying a) (room a) (whole a) c.args.last.now c.args.header.now (rest_here a content r) (g.D.Disk.told c.fill.new.disk)
      (subst (λ side. FillSays (g.D.Disk.told c.self.inside.disk) (g.D.Disk.told c.fill.new.disk) side c.args.progress.at c.args.last.now c.args.header.now) c.other_of-side.ensures c.in-Ok.ensures.filled) h

  switch_run : (c : goal.After-switch g) (content : Content) → StandsFor g.D.Disk.told c.args.self.now content → IsRest c.args.self.now c.args.progress content c.args.last.now c.args.header.now → IsTrue (g.D.Disk.told c.self.inside.disk).honest
      → LeavesOnly (g.D.Disk.told c.self.inside.disk) (g.D.Disk.told c.switch.new.disk) (IsPrefixOrNew content c.self.inside.generation)
  switch_run c content s r h =
      let a = (goal.at.After-switch g c).After-truncate in
      let told = g.D.Disk.told in
      let columns = columns_are told _ content (here a content s) c.args.progress (copying a) (room a) (whole a) c.args.last.now c.args.header.now (rest_here a content r) in
      let f = filled (goal.at.After-switch g c).In-Ok content s r h in
      let f_here = subst (λ side. IsFilled (told c.fill.new.disk) side (table_of content).columns (table_of content) (c.self.inside.generation + 1) (c.args.progress.at + length c.args.last.now)) (sym c.other_of-side.ensures) f in
      let h1 = c.fill.ensures.honest ∙ h in
      let second = c.switch.ensures.any_moment (table_of content).columns (table_of content) (c.self.inside.generation + 1) (c.args.progress.at + length c.args.last.now) h1 f_here in
      finish_moments told _ content (here a content s) c.args.progress (copying a) (room a) (whole a) c.args.last.now c.args.header.now (rest_here a content r) (told c.fill.new.disk) (told c.switch.new.disk) h h1 (g.met.D.Disk.counts_now c.fill.new.disk)
      (fill_run (goal.at.After-switch g c).After-fill content.committed.columns h (shut a content s h))
      (subst (λ cs. LeavesOnly (told c.fill.new.disk) (told c.switch.new.disk) (λ d. ReadsAs cs (told c.fill.new.disk).images d ⊎ ReadsOwn cs d (table_of content) (c.self.inside.generation + 1))) columns second)

  -- the same, of the store as it was given
  moments_of : (c : goal.After-truncate g) (content : Content) (new : g.row.D.Denot) → (IsTrue (g.D.Disk.told c.self.inside.disk).honest → LeavesOnly (g.D.Disk.told c.self.inside.disk) (g.D.Disk.told new) (IsPrefixOrNew content c.self.inside.generation))
      → IsTrue (g.D.Disk.told c.args.self.now.disk).honest → LeavesOnly (g.D.Disk.told c.args.self.now.disk) (g.D.Disk.told new) (IsPrefixOrNew content c.args.self.now.generation)
  moments_of c content new run = subst (λ (store : Stored g.row.D.Denot). IsTrue (g.D.Disk.told store.disk).honest → LeavesOnly (g.D.Disk.told store.disk) (g.D.Disk.told new) (IsPrefixOrNew content store.generation)) c.self.view_is run

  few : (c : goal.After-truncate g) → c.args.progress.at + length c.args.last.now ≤ length_of (view c)
  few c = let content = c.requires.content.0 in end_few g.D.Disk.told _ content (here c content c.requires.content.1) c.args.progress (copying c) (room c) (whole c) c.args.last.now c.args.header.now (rest_here c content c.requires.content.2)

pub fill-requires-clause-behind : goal.fill-requires-clause-behind
fill-requires-clause-behind g c = let a = (goal.at.fill-requires-clause-behind g c).After-truncate in copy_late g.D.Disk.told _ c.requires.content.0 (here g a c.requires.content.0 c.requires.content.1) c.args.progress (copying g a)

pub fill-requires-clause-place : goal.fill-requires-clause-place
fill-requires-clause-place g c h =
    let a = (goal.at.fill-requires-clause-place g c).After-truncate in
    let place = copy_place g.D.Disk.told _ c.requires.content.0 (here g a c.requires.content.0 c.requires.content.1) c.args.progress (copying g a) h in
    let same = ap (λ side. size side (g.D.Disk.told c.self.inside.disk).bytes) c.other_of-side.ensures in
    omega (arith, place, same)

pub returns-in_default-clause-any_moment : goal.returns-in_default-clause-any_moment
returns-in_default-clause-any_moment g c content s r =
    let a = (goal.at.returns-in_default-clause-any_moment g c).After-truncate in
    moments_of g a content c.fill.new.disk (λ h. fill_moments g.D.Disk.told _ content (here g a content s) c.args.progress (copying g a) (room g a) (whole g a) c.args.last.now c.args.header.now (rest_here g a content r) (g.D.Disk.told c.fill.new.disk) h
    (fill_run g (goal.at.returns-in_default-clause-any_moment g c).After-fill content.committed.columns h (shut g a content s h)))

pub returns-in_default-clause-before_the_gate : goal.returns-in_default-clause-before_the_gate
returns-in_default-clause-before_the_gate g c is content s h =
    let a = (goal.at.returns-in_default-clause-before_the_gate g c).After-truncate in
    let b = (goal.at.returns-in_default-clause-before_the_gate g c).After-fill in
    subst (λ (store : Stored g.row.D.Denot). IsTrue (g.D.Disk.told store.disk).honest → LeavesOnly (g.D.Disk.told store.disk) (g.D.Disk.told c.fill.new.disk) (IsPrefix content store.generation)) c.self.view_is
    (λ honest. extended_moments g.D.Disk.told _ content (here g a content s) c.args.progress (copying g a) c.fill.new.disk (whole g a) c.fill.ensures.honest honest (fill_run g b)) h

pub returns-in_default-clause-goes_on : goal.returns-in_default-clause-goes_on
returns-in_default-clause-goes_on g c is content s r =
    let a = (goal.at.returns-in_default-clause-goes_on g c).After-truncate in
    let b = (goal.at.returns-in_default-clause-goes_on g c).After-fill in
    extended_stands g.D.Disk.told _ content (here g a content s) c.args.progress (copying g a) c.fill.new.disk None c.truncate.new.self.items (whole g a) c.fill.ensures.honest (g.met.D.Disk.counts_now c.fill.new.disk) (g.met.D.Disk.reads_image c.fill.new.disk)
    (fill_run g b) (fill_shut g b) (fill_other g b) (none_copied _ None refl)

pub returns-in_default-switch-clause-any_moment : goal.returns-in_default-switch-clause-any_moment
returns-in_default-switch-clause-any_moment g c content s r =
    moments_of g (goal.at.returns-in_default-switch-clause-any_moment g c).After-truncate content c.switch.new.disk (switch_run g (goal.at.returns-in_default-switch-clause-any_moment g c).After-switch content s r)

pub returns-clause-any_moment : goal.returns-clause-any_moment
returns-clause-any_moment g c content s r = moments_of g (goal.at.returns-clause-any_moment g c).After-truncate content c.switch.new.disk (switch_run g (goal.at.returns-clause-any_moment g c).After-switch content s r)

pub overflow_add-self : goal.overflow_add-self
overflow_add-self g c =
    let a = (goal.at.overflow_add-self g c).After-truncate in
    let short = few g a in
    let most = room g a in
    omega (arith, short, most)

pub overflow_add-self-2 : goal.overflow_add-self-2
overflow_add-self-2 g c =
    let a = (goal.at.overflow_add-self-2 g c).After-truncate in
    let limit = ((here g a c.requires.content.0 c.requires.content.1).copy c.args.progress (copying g a)).limit in
    omega (arith, limit)

pub returns-clause-length : goal.returns-clause-length
returns-clause-length g c =
    let a = (goal.at.returns-clause-length g c).After-truncate in
    let short = few g a in
    let none = ap pending_length c.clear.ensures.records in
    subst (λ (store : Stored g.row.D.Denot). c.args.progress.at + length c.args.last.now + pending_length c.clear.new.self.records ≤ length_of store) c.self.view_is (omega (arith, short, none))

module _ (g : given.Over) where
  settled_here : (c : goal.In-Ok-switch g) (content : Content) → StandsFor g.D.Disk.told c.args.self.now content → IsRest c.args.self.now c.args.progress content c.args.last.now c.args.header.now → IsTrue (g.D.Disk.told c.self.inside.disk).honest
      → IsSettled (g.D.Disk.told c.switch.new.disk) (other c.self.inside.side) (table_of content) (c.self.inside.generation + 1) (c.args.progress.at + length c.args.last.now)
  settled_here c content s r h =
      let a = (goal.at.In-Ok-switch g c).After-truncate in
      let told = g.D.Disk.told in
      let h1 = c.fill.ensures.honest ∙ h in
      settled_finished told _ content (here g a content s) c.args.progress (copying g a) (room g a) (whole g a) c.args.last.now c.args.header.now (rest_here g a content r) (told c.fill.new.disk) (told c.switch.new.disk) (filled g (goal.at.In-Ok-switch g c).In-Ok content s r h)
      (subst (λ side. on side (told c.switch.new.disk).bytes ≡ opened (on side (told c.fill.new.disk).bytes)) c.other_of-side.ensures (c.in-Ok-switch.ensures.bytes h1))
      (subst (λ side. Within (told c.switch.new.disk).images (λ d. on side d ≡ on side (told c.switch.new.disk).bytes)) c.other_of-side.ensures (c.in-Ok-switch.ensures.only h1))
      (subst (λ side. OtherStays side (told c.fill.new.disk) (told c.switch.new.disk)) c.other_of-side.ensures (c.switch.ensures.other h1))

pub returns-clause-stands : goal.returns-clause-stands
returns-clause-stands g c content s r =
    let a = (goal.at.returns-clause-stands g c).After-truncate in
    let told = g.D.Disk.told in
    subst (λ side. StandsFor told (record { disk = c.switch.new.disk; columns = c.self.inside.columns; side = side; end = c.args.progress.at + length c.args.last.now; generation = c.self.inside.generation + 1; records = c.clear.new.self.records; rows = c.self.inside.rows; reserved = 0; known = false; failed = false; copy = None; ends = c.truncate.new.self.items }) (all_committed content)) (sym c.other_of-side.ensures)
    (stands_finished told _ content (here g a content s) c.args.progress (copying g a) (room g a) (whole g a) c.args.last.now c.args.header.now (rest_here g a content r) c.switch.new.disk c.clear.new.self.records c.truncate.new.self.items (c.switch.ensures.honest ∙ c.fill.ensures.honest) c.clear.ensures.records
    (settled_here g (goal.at.returns-clause-stands g c).In-Ok-switch content s r)
    (λ h. other_then (fill_other g (goal.at.returns-clause-stands g c).After-fill h) (subst (λ side. OtherStays side (told c.fill.new.disk) (told c.switch.new.disk)) c.other_of-side.ensures (c.switch.ensures.other (c.fill.ensures.honest ∙ h)))))

pub returns-in_default-switch-clause-unsure : goal.returns-in_default-switch-clause-unsure
returns-in_default-switch-clause-unsure g c is content s r h =
    let a = (goal.at.returns-in_default-switch-clause-unsure g c).After-truncate in
    let told = g.D.Disk.told in
    let end = c.args.progress.at + length c.args.last.now in
    let inside_honest = subst (λ (store : Stored g.row.D.Denot). IsTrue (told store.disk).honest) (sym c.self.view_is) h in
    let then_honest = c.switch.ensures.honest ∙ c.fill.ensures.honest ∙ inside_honest in
    let f = filled g (goal.at.returns-in_default-switch-clause-unsure g c).In-Ok content s r inside_honest in
    let f_here = subst (λ side. IsFilled (told c.fill.new.disk) side (table_of content).columns (table_of content) (c.self.inside.generation + 1) end) (sym c.other_of-side.ensures) f in
    let all = subst (λ side. Within (told c.switch.new.disk).images (λ d. OwnSide (table_of content).columns (opened (on side d)) (table_of content) (c.self.inside.generation + 1) end)) c.other_of-side.ensures (c.switch.ensures.whole (table_of content).columns (table_of content) (c.self.inside.generation + 1) end (c.fill.ensures.honest ∙ inside_honest) f_here) in
    let columns = columns_are told _ content (here g a content s) c.args.progress (copying g a) (room g a) (whole g a) c.args.last.now c.args.header.now (rest_here g a content r) in
    let whole_there = subst (λ cs. Within (told c.switch.new.disk).images (λ d. OwnSide cs (opened (on (other c.self.inside.side) d)) (table_of content) (c.self.inside.generation + 1) end)) columns all in
    let run = switch_run g (goal.at.returns-in_default-switch-clause-unsure g c).After-switch content s r inside_honest in
    subst (λ (store : Stored g.row.D.Denot). Within (told c.switch.new.disk).images (IsUnsure content store.generation (other store.side) end)) c.self.view_is
    (λ d left. record {
      reads = left_now (told c.self.inside.disk) (told c.switch.new.disk) (IsPrefixOrNew content c.self.inside.generation) (g.met.D.Disk.counts_now c.switch.new.disk then_honest) run d left;
      whole = whole_there d left;
    })

module _ (g : given.Over) where
  -- its calls, by the store as it was given
  calls_made : (c : goal.After-truncate g) (calls : Side → List DeviceCall) (old new : g.row.D.Denot) → AllMade g.D.Disk.told (calls c.other_of-side.result) old new → AllMade g.D.Disk.told (calls (other c.args.self.now.side)) old new
  calls_made c calls old new made = subst (λ side. AllMade g.D.Disk.told (calls side) old new) (c.other_of-side.ensures ∙ ap (λ (store : Stored g.row.D.Denot). other store.side) c.self.view_is) made

  calls_broke : (c : goal.After-truncate g) (calls : Side → List DeviceCall) (old new : g.row.D.Denot) → BrokeOff g.D.Disk.told (calls c.other_of-side.result) old new → BrokeOff g.D.Disk.told (calls (other c.args.self.now.side)) old new
  calls_broke c calls old new broke = subst (λ side. BrokeOff g.D.Disk.told (calls side) old new) (c.other_of-side.ensures ∙ ap (λ (store : Stored g.row.D.Denot). other store.side) c.self.view_is) broke

  same_disk : (c : goal.After-truncate g) → c.self.inside.disk ≡ c.args.self.now.disk
  same_disk c = ap (λ (store : Stored g.row.D.Denot). store.disk) c.self.view_is

pub returns-in_default-clause-device_err : goal.returns-in_default-clause-device_err
returns-in_default-clause-device_err g c =
    let a = (goal.at.returns-in_default-clause-device_err g c).After-truncate in
    subst (λ (old : g.row.D.Denot). BrokeOff g.D.Disk.told (fill_calls (other c.args.self.now.side) c.args.progress.at c.args.last.now c.args.header.now) old c.fill.new.disk) (same_disk g a)
    (calls_broke g a (λ side. fill_calls side c.args.progress.at c.args.last.now c.args.header.now) c.self.inside.disk c.fill.new.disk c.in_default.ensures.device)

pub returns-in_default-switch-clause-device_err : goal.returns-in_default-switch-clause-device_err
returns-in_default-switch-clause-device_err g c =
    let a = (goal.at.returns-in_default-switch-clause-device_err g c).After-truncate in (
      c.fill.new.disk,
      subst (λ (old : g.row.D.Denot). AllMade g.D.Disk.told (fill_calls (other c.args.self.now.side) c.args.progress.at c.args.last.now c.args.header.now) old c.fill.new.disk) (same_disk g a)
          (calls_made g a (λ side. fill_calls side c.args.progress.at c.args.last.now c.args.header.now) c.self.inside.disk c.fill.new.disk c.in-Ok.ensures.device),
      calls_broke g a switch_calls c.fill.new.disk c.switch.new.disk c.in_default-switch.ensures.device,
    )

pub returns-clause-device : goal.returns-clause-device
returns-clause-device g c =
    let a = (goal.at.returns-clause-device g c).After-truncate in
    let fill = fill_calls (other c.args.self.now.side) c.args.progress.at c.args.last.now c.args.header.now in
    made_then g.D.Disk.told fill (switch_calls (other c.args.self.now.side)) c.args.self.now.disk c.fill.new.disk c.switch.new.disk
    (subst (λ (old : g.row.D.Denot). AllMade g.D.Disk.told fill old c.fill.new.disk) (same_disk g a)
    (calls_made g a (λ side. fill_calls side c.args.progress.at c.args.last.now c.args.header.now) c.self.inside.disk c.fill.new.disk c.in-Ok.ensures.device))
    (calls_made g a switch_calls c.fill.new.disk c.switch.new.disk c.in-Ok-switch.ensures.device)

pub invariant_of-self-2 : goal.invariant_of-self-2
invariant_of-self-2 g c =
    let a = (goal.at.invariant_of-self-2 g c).After-truncate in
    let told = g.D.Disk.told in
    let content = c.requires.content.0 in
    let s = c.requires.content.1 in
    let r = c.requires.content.2 in
    let late = copy_late told _ content (here g a content s) c.args.progress (copying g a) in
    let short = few g a in
    let most = room g a in
    let no_records = ap pending_length c.clear.ensures.records in
    let no_ends = ap (λ (l : List ℕ). length l) c.truncate.ensures.items in
    record {
      kept = record {
        gate = omega (arith, late);
        within = λ honest still.
            let h = sym (c.switch.ensures.honest ∙ c.fill.ensures.honest) ∙ honest in
            let settled = settled_here g (goal.at.invariant_of-self-2 g c).In-Ok-switch content s r h in
            let long = (end_within (table_of content).columns (on (other c.self.inside.side) (told c.switch.new.disk).bytes) (table_of content) (c.self.inside.generation + 1) (c.args.progress.at + length c.args.last.now) settled.stands).1 in
            let same = ap (λ side. size side (told c.switch.new.disk).bytes) c.other_of-side.ensures in
            omega (arith, long, same);
        room = omega (arith, short, most, no_records);
        reserve = λ some. absurd (omega (arith, some));
      };
      batch = omega (arith, c.self.invariant.batch, c.clear.ensures.room);
      copy = omega (arith, c.self.invariant.copy, c.truncate.ensures.capacity, no_ends);
      reserve_batch = λ some. absurd (omega (arith, some));
      reserve_copy = λ some. absurd (omega (arith, some));
    }
