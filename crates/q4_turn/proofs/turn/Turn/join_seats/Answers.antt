use Rattle.std.proofs.Common.{subst, sym, length, ◌≤◌, rules, ap, ◌∙◌}
use Rattle.std.proofs.lemmas.List.{nil_from_length}
use Rattle.q4_turn.specs.Lists.{StartsWith}
use Rattle.q4_turn.specs.Views.{compared}
use Rattle.q4_turn.proofs.Basics.{begins_both}
use Rattle.q4_turn.proofs.Splitting.{compares}
use Rattle.q4_turn.proofs.Joining.{joins}
use Rattle.q4_turn.proofs.turn.Turn.join_seats.Goals as goal

pub join_seat-requires : goal.join_seat-requires
join_seat-requires g c =
    let a = c.requires.first in
    let b = c.requires.second in
    (a.turn, b.turn, nil_from_length _ b.slots, search rules, joins g.V.Kept.stands g.V.Kept.mark _ _ _ _ _ a.live a.ticket a.holding a.in_hand b.live b.ticket b.holding b.in_hand a.closing)

pub load-requires : goal.load-requires
load-requires g c =
    let j = c.join_seat.ensures in
    let a = c.requires.first in
    (j.0 ∙ a.turn, search rules, compares g.V.Kept.stands g.V.Kept.mark _ _ _ _ (ap (λ m. m.0.live) j.2 ∙ a.live))

pub returns-clause-seen : goal.returns-clause-seen
returns-clause-seen g c =
    let v = c.args.first.me.0 in
    let w = c.args.second.me.0 in
    let l = c.load.ensures in
    let now = ap (λ m. m.0) c.join_seat.ensures.2 in
    let tells = subst (λ x. length x.unmerged ≤ length x.seen → StartsWith x.seen x.unmerged) now l.2.3 in
    let both = begins_both v.seen w.seen tells in
    let seen = ap (λ x. x.seen) (l.2.0 ∙ ap (λ x. compared x) now) in
    (subst (λ x. StartsWith x v.seen) (sym seen) both.0, subst (λ x. StartsWith x w.seen) (sym seen) both.1)
