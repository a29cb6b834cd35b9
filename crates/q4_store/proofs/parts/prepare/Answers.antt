use Rattle.std.proofs.Common.{List, IsTrue, Bool, true, false, ◌∙◌}
use Rattle.q4_disk.specs.declared.disk.Side.{Side}
use Rattle.q4_disk.specs.Told.{Told}
use Rattle.q4_value.specs.declared.column.Column.{Column}
use Rattle.q4_disk.specs.Images.{on, Within}
use Rattle.q4_disk.specs.Time.{LeavesOnly}
use Rattle.q4_disk.proofs.Moments.{other_then}
use Rattle.q4_store.specs.Reading.{ReadsAs}
use Rattle.q4_store.specs.Parts.{IsShut, IsSpare, IsReady}
use Rattle.q4_store.specs.Device.{BrokeOff, close_calls, blank_calls, prepare_calls}
use Rattle.q4_store.proofs.Quiet.{reads_then, now_reads}
use Rattle.q4_store.proofs.Runs.{broke, made_then, broke_first, broke_then}
use Rattle.q4_store.proofs.parts.prepare.Given as given
use Rattle.q4_store.proofs.parts.prepare.Goals as goal
use Rattle.q4_store.proofs.parts.prepare.Goals.{After-close, In_ok-close, After-blank}

module _ (g : given.Over) where
  shut_first : (c : goal.In_ok-close g) → IsTrue (g.D.Disk.told c.args.disk.now).honest → Within (g.D.Disk.told c.close.new.disk).images (λ x. IsShut (on c.args.side x))
  shut_first c h = c.in_ok-close.ensures.shut h (c.requires h)

module _ (g : given.Over) (columns : List Column) where
  after_close : (c : goal.After-close g) → IsTrue (g.D.Disk.told c.args.disk.now).honest → LeavesOnly (g.D.Disk.told c.args.disk.now) (g.D.Disk.told c.close.new.disk) (ReadsAs columns (g.D.Disk.told c.args.disk.now).images)
  after_close c h = c.close.ensures.any_moment columns h (c.requires h)

  after_blank : (c : goal.After-blank g) → IsTrue (g.D.Disk.told c.args.disk.now).honest → LeavesOnly (g.D.Disk.told c.args.disk.now) (g.D.Disk.told c.blank.new.disk) (ReadsAs columns (g.D.Disk.told c.args.disk.now).images)
  after_blank c h =
      let is = c.close.ensures.honest ∙ h in
      let before = after_close (goal.at.After-blank g c).After-close h in
      reads_then columns _ _ _ before (now_reads _ _ _ (g.met.D.Disk.counts_now c.close.new.disk) is before) (c.blank.ensures.any_moment columns is (shut_first g (goal.at.After-blank g c).In_ok-close h))

pub returns-in_err-close-clause-any_moment : goal.returns-in_err-close-clause-any_moment
returns-in_err-close-clause-any_moment g c columns h = after_close g columns (goal.at.returns-in_err-close-clause-any_moment g c).After-close h

pub returns-in_err-close-clause-reads : goal.returns-in_err-close-clause-reads
returns-in_err-close-clause-reads g c columns h =
    now_reads _ _ _ (g.met.D.Disk.counts_now c.close.new.disk) (c.close.ensures.honest ∙ h) (after_close g columns (goal.at.returns-in_err-close-clause-reads g c).After-close h)

pub returns-in_err-blank-clause-any_moment : goal.returns-in_err-blank-clause-any_moment
returns-in_err-blank-clause-any_moment g c columns h = after_blank g columns (goal.at.returns-in_err-blank-clause-any_moment g c).After-blank h

pub returns-in_err-blank-clause-reads : goal.returns-in_err-blank-clause-reads
returns-in_err-blank-clause-reads g c columns h =
    now_reads _ _ _ (g.met.D.Disk.counts_now c.blank.new.disk) (c.blank.ensures.honest ∙ (c.close.ensures.honest ∙ h)) (after_blank g columns (goal.at.returns-in_err-blank-clause-reads g c).After-blank h)

pub returns-clause-any_moment : goal.returns-clause-any_moment
returns-clause-any_moment g c columns h = after_blank g columns (goal.at.returns-clause-any_moment g c).After-blank h

pub returns-clause-reads : goal.returns-clause-reads
returns-clause-reads g c columns h =
    now_reads _ _ _ (g.met.D.Disk.counts_now c.blank.new.disk) (c.blank.ensures.honest ∙ (c.close.ensures.honest ∙ h)) (after_blank g columns (goal.at.returns-clause-reads g c).After-blank h)

pub returns-clause-shut : goal.returns-clause-shut
returns-clause-shut g c h = c.blank.ensures.shut (c.close.ensures.honest ∙ h) (shut_first g (goal.at.returns-clause-shut g c).In_ok-close h)

pub returns-clause-blank : goal.returns-clause-blank
returns-clause-blank g c h =
    let is = c.close.ensures.honest ∙ h in
    c.in_ok-blank.ensures.bytes is (shut_first g (goal.at.returns-clause-blank g c).In_ok-close h _ (g.met.D.Disk.reads_image c.close.new.disk is))

pub returns-in_err-blank-clause-other : goal.returns-in_err-blank-clause-other
returns-in_err-blank-clause-other g c h = other_then (c.close.ensures.other h) (c.blank.ensures.other (c.close.ensures.honest ∙ h))

pub returns-clause-other : goal.returns-clause-other
returns-clause-other g c h = other_then (c.close.ensures.other h) (c.blank.ensures.other (c.close.ensures.honest ∙ h))

pub returns-in_err-close-clause-device : goal.returns-in_err-close-clause-device
returns-in_err-close-clause-device g c =
    broke g.D.Disk.told (prepare_calls c.args.side c.args.known.now) c.from_residual.result _ _ c.from_residual.ensures.0
    (broke_first g.D.Disk.told (close_calls c.args.side c.args.known.now) (blank_calls c.args.side) _ _ c.in_err-close.ensures.device)

pub returns-in_err-blank-clause-device : goal.returns-in_err-blank-clause-device
returns-in_err-blank-clause-device g c =
    broke g.D.Disk.told (prepare_calls c.args.side c.args.known.now) c.from_residual-in_err-blank.result _ _ c.from_residual-in_err-blank.ensures.0
    (broke_then g.D.Disk.told (close_calls c.args.side c.args.known.now) (blank_calls c.args.side) _ _ _ c.in_ok-close.ensures.device c.in_err-blank.ensures.device)

pub returns-clause-device : goal.returns-clause-device
returns-clause-device g c = made_then g.D.Disk.told (close_calls c.args.side c.args.known.now) (blank_calls c.args.side) _ _ _ c.in_ok-close.ensures.device c.in_ok-blank.ensures.device

-- where closing the gate failed, it was not known to be closed
ready_after : {D : Type 0} (told : D → Told) (side : Side) (known : Bool) (old new : D) → BrokeOff told (close_calls side known) old new → Within (told new).images (IsSpare side) → Within (told new).images (IsReady known side)
ready_after told side true old new broke spare = absurd broke
ready_after told side false old new broke spare = spare

unknown_after : {D : Type 0} (told : D → Told) (side : Side) (known : Bool) (old new : D) → BrokeOff told (close_calls side known) old new → BrokeOff told (close_calls side false) old new
unknown_after told side true old new broke = absurd broke
unknown_after told side false old new broke = broke

pub returns-in_err-close-clause-ready : goal.returns-in_err-close-clause-ready
returns-in_err-close-clause-ready g c h = ready_after g.D.Disk.told c.args.side c.args.known.now _ _ c.in_err-close.ensures.device (c.in_err-close.ensures.spare h (c.requires h))

pub returns-in_err-close-clause-unknown : goal.returns-in_err-close-clause-unknown
returns-in_err-close-clause-unknown g c = λ unknown. unknown_after g.D.Disk.told c.args.side c.args.known.now _ _ c.in_err-close.ensures.device

pub returns-in_err-blank-clause-ready : goal.returns-in_err-blank-clause-ready
returns-in_err-blank-clause-ready g c h = c.blank.ensures.shut (c.close.ensures.honest ∙ h) (shut_first g (goal.at.returns-in_err-blank-clause-ready g c).In_ok-close h)

pub returns-clause-ready : goal.returns-clause-ready
returns-clause-ready g c h = c.blank.ensures.shut (c.close.ensures.honest ∙ h) (shut_first g (goal.at.returns-clause-ready g c).In_ok-close h)
