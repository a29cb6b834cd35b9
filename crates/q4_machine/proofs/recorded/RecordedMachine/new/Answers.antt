use Rattle.std.proofs.Common.{◌∙◌, [], ap}
use Rattle.q4_machine.specs.Kept.{MachineView}
use Rattle.q4_machine.proofs.Opened.{tables_valid, tables_unowned, tables_few, sound_new, defined_new}
use Rattle.q4_machine.proofs.recorded.RecordedMachine.new.Goals as goal

pub new-requires-clause-few : goal.new-requires-clause-few
new-requires-clause-few c = rw c.in_ok-of_definitions.ensures (tables_few c.args.defs.now c.len-count.ensures.well_formed)

pub new-requires-clause-valid : goal.new-requires-clause-valid
new-requires-clause-valid c = rw c.in_ok-of_definitions.ensures (tables_valid c.args.defs.now c.len-count.ensures.well_formed)

pub new-requires-clause-unowned : goal.new-requires-clause-unowned
new-requires-clause-unowned c = rw c.in_ok-of_definitions.ensures (tables_unowned c.args.defs.now)

pub invariant_of-result : goal.invariant_of-result
invariant_of-result c =
    rw (c.in-Ok-push.ensures.items, c.new-history.ensures.items, c.in_ok-of_definitions-2.ensures) (record { reached = ap (λ (m : MachineView). m.state) c.in-Ok.ensures.made ∙ ap (λ ts. record { tables = ts; sessions = []; next_session = 1 }) c.in_ok-of_definitions.ensures; sound = sound_new c.args.defs.now c.len-count.ensures.well_formed })

pub returns-in-Ok-push-clause-sound : goal.returns-in-Ok-push-clause-sound
returns-in-Ok-push-clause-sound c = rw (c.in-Ok-push.ensures.items, c.new-history.ensures.items, c.in_ok-of_definitions-2.ensures) (sound_new c.args.defs.now c.len-count.ensures.well_formed)

pub returns-in-Ok-push-clause-defined : goal.returns-in-Ok-push-clause-defined
returns-in-Ok-push-clause-defined c = rw (c.in-Ok-push.ensures.items, c.new-history.ensures.items, c.in_ok-of_definitions-2.ensures) (defined_new c.args.defs.now)
