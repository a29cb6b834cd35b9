use Rattle.std.proofs.Common.{◌++◌, ◌⊎◌, List, [], ◌∷◌, ℕ, length, IsTrue, inl, sym, ◌∙◌, ap, subst}
use Rattle.q4_table.specs.TableState.{TableState}
use Rattle.q4_record.specs.Side.{OwnSide}
use Rattle.q4_record.specs.Written.{IsWritten}
use Rattle.q4_disk.specs.declared.disk.Side.{Side}
use Rattle.q4_disk.specs.Told.{Sides, Told}
use Rattle.q4_disk.specs.Images.{on, other, Within}
use Rattle.q4_disk.specs.Time.{LeavesOnly, OtherStays}
use Rattle.q4_disk.proofs.Moments.{weaker, other_then}
use Rattle.q4_store.specs.Reading.{ReadsAs, ReadsOwn, IsBehind}
use Rattle.q4_store.specs.Parts.{IsFilled}
use Rattle.q4_store.specs.Looking.{IsDraft, draft_length}
use Rattle.q4_store.specs.Device.{DeviceCall, AllMade, BrokeOff, prepare_calls, switch_calls, write_calls}
use Rattle.q4_store.proofs.Quiet.{reads_then, reads_or_then, now_reads}
use Rattle.q4_store.proofs.Drafts.{draft_stands, draft_calls, table_fill}
use Rattle.q4_store.proofs.Runs.{broke, made_then, broke_first, broke_then}
use Rattle.q4_store.proofs.creating.write_draft.Given as given
use Rattle.q4_store.proofs.creating.write_draft.Goals as goal
use Rattle.q4_store.proofs.creating.write_draft.Goals.{After-fill, In_ok-fill, After-switch}

-- the other side stays behind
still_behind : (side : Side) (generation : ℕ) (old new : Told) → OtherStays side old new → Within old.images (λ x. IsBehind generation (on (other side) x)) → Within new.images (λ x. IsBehind generation (on (other side) x))
still_behind side generation old new stays behind x left = let from = stays.each x left in subst (IsBehind generation) (sym from.2) (behind from.0 from.1)

-- what is asked of a table
record Asked (told : Told) (side : Side) (table : TableState) (generation : ℕ) (base header : List ℕ) : Type 0 where
  is : IsWritten table generation [] 0 []
  draft : IsDraft table generation base header
  honest : IsTrue told.honest
  behind : Within told.images (λ c. IsBehind generation (on (other side) c))

module _ (g : given.Over) (table : TableState) (generation : ℕ) where
  after_fill : (c : goal.After-fill g) → IsTrue (g.D.Disk.told c.args.disk.now).honest → LeavesOnly (g.D.Disk.told c.args.disk.now) (g.D.Disk.told c.fill.new.disk) (ReadsAs table.columns (g.D.Disk.told c.args.disk.now).images)
  after_fill c h =
      let is = c.prepare.ensures.honest ∙ h in
      reads_then table.columns _ _ _ (c.prepare.ensures.any_moment table.columns h) (c.prepare.ensures.reads table.columns h) (c.fill.ensures.any_moment table.columns is (c.in_ok-prepare.ensures.shut h))

  filled : (c : goal.In_ok-fill g) → Asked (g.D.Disk.told c.args.disk.now) c.args.side table generation c.args.draft.now.base c.args.draft.now.header → IsFilled (g.D.Disk.told c.fill.new.disk) c.args.side table.columns table generation (draft_length table)
  filled c a =
      let stands = draft_stands table generation (on c.args.side (g.D.Disk.told c.prepare.new.disk).bytes) c.args.draft.now.base c.as_slice.result.now c.args.draft.now.header a.is a.draft (c.in_ok-prepare.ensures.blank a.honest) c.as_slice.ensures in
      c.in_ok-fill.ensures.filled table.columns table generation (draft_length table) (c.prepare.ensures.honest ∙ a.honest) (c.in_ok-prepare.ensures.shut a.honest) stands
      (still_behind c.args.side generation (g.D.Disk.told c.args.disk.now) (g.D.Disk.told c.prepare.new.disk) (c.prepare.ensures.other a.honest) a.behind)

  after_switch : (c : goal.After-switch g) → Asked (g.D.Disk.told c.args.disk.now) c.args.side table generation c.args.draft.now.base c.args.draft.now.header
      → LeavesOnly (g.D.Disk.told c.args.disk.now) (g.D.Disk.told c.switch.new.disk) (λ x. ReadsAs table.columns (g.D.Disk.told c.args.disk.now).images x ⊎ ReadsOwn table.columns x table generation)
  after_switch c a =
      let is = c.fill.ensures.honest ∙ (c.prepare.ensures.honest ∙ a.honest) in
      let before = after_fill (goal.at.After-switch g c).After-fill a.honest in
      reads_or_then table.columns _ _ _ table generation before (now_reads _ _ _ (g.met.D.Disk.counts_now c.fill.new.disk) is before)
      (c.switch.ensures.any_moment table.columns table generation (draft_length table) is (filled (goal.at.After-switch g c).In_ok-fill a))

pub returns-in_err-prepare-clause-any_moment : goal.returns-in_err-prepare-clause-any_moment
returns-in_err-prepare-clause-any_moment g c table generation is draft h behind =
    let images = (g.D.Disk.told c.args.disk.now).images in
    weaker _ _ (ReadsAs table.columns images) (λ x. ReadsAs table.columns images x ⊎ ReadsOwn table.columns x table generation) (c.prepare.ensures.any_moment table.columns h) (λ x was. inl was)

pub returns-in_err-fill-clause-any_moment : goal.returns-in_err-fill-clause-any_moment
returns-in_err-fill-clause-any_moment g c table generation is draft h behind =
    let images = (g.D.Disk.told c.args.disk.now).images in
    weaker _ _ (ReadsAs table.columns images) (λ x. ReadsAs table.columns images x ⊎ ReadsOwn table.columns x table generation) (after_fill g table generation (goal.at.returns-in_err-fill-clause-any_moment g c).After-fill h) (λ x was. inl was)

pub returns-in_err-switch-clause-any_moment : goal.returns-in_err-switch-clause-any_moment
returns-in_err-switch-clause-any_moment g c table generation is draft h behind =
    after_switch g table generation (goal.at.returns-in_err-switch-clause-any_moment g c).After-switch (record { is = is; draft = draft; honest = h; behind = behind })

pub returns-clause-any_moment : goal.returns-clause-any_moment
returns-clause-any_moment g c table generation is draft h behind =
    after_switch g table generation (goal.at.returns-clause-any_moment g c).After-switch (record { is = is; draft = draft; honest = h; behind = behind })

pub returns-clause-done : goal.returns-clause-done
returns-clause-done g c table generation is draft h behind =
    let is1 = c.prepare.ensures.honest ∙ h in
    let is2 = c.fill.ensures.honest ∙ is1 in
    let f = filled g table generation (goal.at.returns-clause-done g c).In_ok-fill (record { is = is; draft = draft; honest = h; behind = behind }) in
    record {
      stands = subst (λ (l : List ℕ). OwnSide table.columns l table generation (draft_length table)) (sym (c.in_ok-switch.ensures.bytes is2)) f.stands;
      only = c.in_ok-switch.ensures.only is2;
      behind = still_behind c.args.side generation (g.D.Disk.told c.args.disk.now) (g.D.Disk.told c.switch.new.disk) (other_then (other_then (c.prepare.ensures.other h) (c.fill.ensures.other is1)) (c.switch.ensures.other is2)) behind;
    }

pub returns-in_err-fill-clause-other : goal.returns-in_err-fill-clause-other
returns-in_err-fill-clause-other g c h = other_then (c.prepare.ensures.other h) (c.fill.ensures.other (c.prepare.ensures.honest ∙ h))

pub returns-in_err-switch-clause-other : goal.returns-in_err-switch-clause-other
returns-in_err-switch-clause-other g c h =
    let is = c.prepare.ensures.honest ∙ h in
    other_then (other_then (c.prepare.ensures.other h) (c.fill.ensures.other is)) (c.switch.ensures.other (c.fill.ensures.honest ∙ is))

pub returns-clause-other : goal.returns-clause-other
returns-clause-other g c h =
    let is = c.prepare.ensures.honest ∙ h in
    other_then (other_then (c.prepare.ensures.other h) (c.fill.ensures.other is)) (c.switch.ensures.other (c.fill.ensures.honest ∙ is))

module _ (g : given.Over) (table : TableState) (generation : ℕ) where
  fill_made : (c : goal.In_ok-fill g) → IsDraft table generation c.args.draft.now.base c.args.draft.now.header → AllMade g.D.Disk.told (table_fill c.args.side table generation) c.prepare.new.disk c.fill.new.disk
  fill_made c draft =
      subst (λ (calls : List DeviceCall). AllMade g.D.Disk.told calls c.prepare.new.disk c.fill.new.disk) (draft_calls c.args.side table generation c.args.draft.now.base c.as_slice.result.now c.args.draft.now.header draft c.as_slice.ensures) c.in_ok-fill.ensures.device

pub returns-in_err-prepare-clause-device : goal.returns-in_err-prepare-clause-device
returns-in_err-prepare-clause-device g c table generation draft =
    broke g.D.Disk.told (write_calls c.args.side c.args.known table generation) c.from_residual.result _ _ c.from_residual.ensures.0
    (broke_first g.D.Disk.told (prepare_calls c.args.side c.args.known) (table_fill c.args.side table generation ++ switch_calls c.args.side) _ _ c.in_err-prepare.ensures.device)

pub returns-in_err-fill-clause-device : goal.returns-in_err-fill-clause-device
returns-in_err-fill-clause-device g c table generation draft =
    let off = subst (λ (calls : List DeviceCall). BrokeOff g.D.Disk.told calls c.prepare.new.disk c.fill.new.disk) (draft_calls c.args.side table generation c.args.draft.now.base c.as_slice.result.now c.args.draft.now.header draft c.as_slice.ensures) c.in_err-fill.ensures.device in
    broke g.D.Disk.told (write_calls c.args.side c.args.known table generation) c.from_residual-in_err-fill.result _ _ c.from_residual-in_err-fill.ensures.0
    (broke_then g.D.Disk.told (prepare_calls c.args.side c.args.known) (table_fill c.args.side table generation ++ switch_calls c.args.side) _ _ _ c.in_ok-prepare.ensures.device (broke_first g.D.Disk.told (table_fill c.args.side table generation) (switch_calls c.args.side) _ _ off))

pub returns-in_err-switch-clause-device : goal.returns-in_err-switch-clause-device
returns-in_err-switch-clause-device g c table generation draft =
    broke g.D.Disk.told (write_calls c.args.side c.args.known table generation) c.from_residual-in_err-switch.result _ _ c.from_residual-in_err-switch.ensures.0
    (broke_then g.D.Disk.told (prepare_calls c.args.side c.args.known) (table_fill c.args.side table generation ++ switch_calls c.args.side) _ _ _ c.in_ok-prepare.ensures.device
    (broke_then g.D.Disk.told (table_fill c.args.side table generation) (switch_calls c.args.side) _ _ _ (fill_made g table generation (goal.at.returns-in_err-switch-clause-device g c).In_ok-fill draft) c.in_err-switch.ensures.device))

pub returns-clause-device : goal.returns-clause-device
returns-clause-device g c table generation draft =
    made_then g.D.Disk.told (prepare_calls c.args.side c.args.known) (table_fill c.args.side table generation ++ switch_calls c.args.side) _ _ _ c.in_ok-prepare.ensures.device
    (made_then g.D.Disk.told (table_fill c.args.side table generation) (switch_calls c.args.side) _ _ _ (fill_made g table generation (goal.at.returns-clause-device g c).In_ok-fill draft) c.in_ok-switch.ensures.device)
