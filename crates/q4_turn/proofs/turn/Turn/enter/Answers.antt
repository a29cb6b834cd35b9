use Rattle.std.proofs.Common.{rules, ap, sym, subst, ◌∙◌, Some}
use Rattle.q4_turn.specs.Steps.{IsExact}
use Rattle.q4_turn.proofs.Basics.{the_first, slot_had}
use Rattle.q4_turn.proofs.Holding.{measures, all_entered}
use Rattle.q4_turn.proofs.turn.Turn.enter.Goals as goal

pub load-count-requires : goal.load-count-requires
load-count-requires g c =
    let w = c.draw_ticket-ticket.ensures.ticket in
    let t = c.wait_for.ensures.takes in
    (c.wait_for.ensures.turn, search rules, measures g.V.Kept.stands g.V.Kept.mark _ _ _ _ (ap (λ v. v.live) t.3 ∙ w.live) (ap (λ v. v.holding) t.3))

pub exchange-requires : goal.exchange-requires
exchange-requires g c =
    let t = c.wait_for.ensures.takes in
    let l = c.load-count.ensures in
    let has = l.2.1 ∙ t.2 in
    (l.0 ∙ c.wait_for.ensures.turn, (Some t.0, the_first _ _ has))

pub returns-clause-entered : goal.returns-clause-entered
returns-clause-entered g c =
    let t = c.wait_for.ensures.takes in
    let l = c.load-count.ensures in
    let here = slot_had _ _ _ _ t.0 c.in-Some.value c.exchange.ensures.2 (l.2.1 ∙ t.2) c.in-Some.is in
    let same = ap (λ m. m.0) c.exchange.ensures.3 ∙ l.2.0 in
    all_entered g.V.Kept.stands g.V.Kept.mark c.args.self.now.table.shared.key _ _ _ _ _ _ t.0 here c.draw_ticket-ticket.ensures.view (same ∙ t.3) t.4 t.5 t.6 (subst (IsExact g.V.Kept.mark) (sym same) t.7)
