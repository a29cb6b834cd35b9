use Rattle.std.proofs.Common.{ap, ◌∙◌}
use Rattle.std.proofs.lemmas.List.{take_rest}
use Rattle.q4_cond.specs.Tokens.{front_of, names_of}
use Rattle.q4_cond.specs.Machine.{state_of}
use Rattle.q4_cond.proofs.Scanning.{scanned_token, scanned_at, scanned_deep}
use Rattle.q4_cond.proofs.scan.Scan.advance.Goals as goal

pub returns-in-Taken-clause-scanned : goal.returns-in-Taken-clause-scanned
returns-in-Taken-clause-scanned c =
    scanned_token c.args.columns.now c.args.text.now c.args.place _ _ _ _ _ _ _ c.in_ok-front.front _ c.requires.within c.requires.no_space (c.in_ok-front.ensures.front ∙ ap (front_of (names_of c.args.columns.now)) (take_rest c.args.text.now c.args.place)) c.in_ok-front.ensures.at_least_one (ap (λ r. state_of r.wants r.frames r.nodes.items) c.note.ensures.reader) c.in-Taken.is c.in_ok-take.ensures c.in_ok-note.ensures.atoms c.in_ok-note.ensures.unknown c.requires.scanned

pub returns-in-Refused-clause-fault : goal.returns-in-Refused-clause-fault
returns-in-Refused-clause-fault c =
    scanned_at c.args.columns.now c.args.text.now c.args.place _ _ _ _ _ c.in_ok-front.front _ c.requires.short c.requires.within c.requires.no_space (c.in_ok-front.ensures.front ∙ ap (front_of (names_of c.args.columns.now)) (take_rest c.args.text.now c.args.place)) c.in_ok-front.ensures.at_least_one (ap (λ r. state_of r.wants r.frames r.nodes.items) c.note.ensures.reader) c.in-Refused.is c.in_ok-take.ensures c.requires.scanned

pub returns-in-TooDeep-clause-fault : goal.returns-in-TooDeep-clause-fault
returns-in-TooDeep-clause-fault c =
    scanned_deep c.args.columns.now c.args.text.now c.args.place _ _ _ _ _ c.in_ok-front.front _ c.requires.short c.requires.within c.requires.no_space (c.in_ok-front.ensures.front ∙ ap (front_of (names_of c.args.columns.now)) (take_rest c.args.text.now c.args.place)) c.in_ok-front.ensures.at_least_one (ap (λ r. state_of r.wants r.frames r.nodes.items) c.note.ensures.reader) c.in-TooDeep.is c.in_ok-take.ensures c.requires.scanned
