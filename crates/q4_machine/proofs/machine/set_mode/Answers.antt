use Rattle.std.proofs.Common.{arith, get_or}
use Rattle.std.proofs.lemmas.List.{get_or_default}
use Rattle.std.proofs.lemmas.List.Edits.{map_over_more}
use Rattle.q4_machine.specs.declared.session.OpenSession.{OpenSession}
use Rattle.q4_machine.specs.declared.session.SessionMode.TheVariants.{NonOwner}
use Rattle.q4_machine.specs.Machine.{in_mode}
use Rattle.q4_machine.proofs.machine.set_mode.Goals as goal

pub loop-entry-preserved : goal.loop-entry-preserved
loop-entry-preserved c =
    let none : OpenSession = record { session = 0; mode = NonOwner } in
    let old = get_or c.loop-entry.entry-items c.loop-entry.entry-index none in
    rw c.set_if_session.ensures (map_over_more (in_mode c.args.session c.args.mode) _ c.loop-entry.entry-items c.loop-entry.entry-index old (omega arith) c.loop-entry.invariant (get_or_default c.loop-entry.entry-items c.loop-entry.entry-index none old (omega arith)))
