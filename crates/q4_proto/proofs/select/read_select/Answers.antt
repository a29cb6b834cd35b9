use Rattle.q4_proto.proofs.Selecting.{Asks, bad_escape, no_table, spells_select}
use Rattle.q4_proto.proofs.select.read_select.Goals as goal

pub returns-then-not-is_escaped : goal.returns-then-not-is_escaped
returns-then-not-is_escaped c =
    let asks : Asks c.args.args.now c.in-Some.name.now c.in-Some-number_up_to.most = record { digits = c.in-Some.digits.now; args_are = c.in-Some.ensures.two; number = c.in-Some-number_up_to.ensures.found.0; few = c.in-Some-number_up_to.ensures.found.1 } in
    bad_escape c.args.defs.now c.args.args.now c.in-Some.name.now c.in-Some-number_up_to.most asks (λ spelled. c.if-not-is_escaped.ensures.bad spelled.0 spelled.1)

pub returns-in-Some-find : goal.returns-in-Some-find
returns-in-Some-find c =
    let asks : Asks c.args.args.now c.in-Some.name.now c.in-Some-number_up_to.most = record { digits = c.in-Some.digits.now; args_are = c.in-Some.ensures.two; number = c.in-Some-number_up_to.ensures.found.0; few = c.in-Some-number_up_to.ensures.found.1 } in
    spells_select c.args.defs.now c.args.args.now c.in-Some.name.now c.in-Some-find.place c.in-Some-number_up_to.most c.find.ensures.well_formed asks c.in-Some-find.ensures.found

pub returns-in-None : goal.returns-in-None
returns-in-None c =
    let asks : Asks c.args.args.now c.in-Some.name.now c.in-Some-number_up_to.most = record { digits = c.in-Some.digits.now; args_are = c.in-Some.ensures.two; number = c.in-Some-number_up_to.ensures.found.0; few = c.in-Some-number_up_to.ensures.found.1 } in
    no_table c.args.defs.now c.args.args.now c.in-Some.name.now c.in-Some-number_up_to.most c.find.ensures.well_formed asks c.if-not-is_escaped.ensures.spelled c.in-None.ensures.none
