use Rattle.std.proofs.Common.{◌∙◌, ℕ, Some, sym, ap, subst}
use Rattle.q4_play.specs.Labels.{with_seat}
use Rattle.q4_play.specs.Seated.{IsSeated}
use Rattle.q4_play.proofs.Placing.{refused_seat, opened_seat, chosen_seat}
use Rattle.q4_play.proofs.turns.take_seat.Goals as goal
use Rattle.q4_play.proofs.turns.take_seat.Goals.{in-Some, in-None+in_ok-session-in-None}

pub returns-in_err-session-in-None-clause-seated : goal.returns-in_err-session-in-None-clause-seated
returns-in_err-session-in-None-clause-seated g c =
    refused_seat _ _ _ _ _ _ _ c.in_err-session-in-None.field-0.0 c.args.seating.now c.stand_up.ensures.same.0 c.stand_up.ensures.same.1 c.open.ensures.same.0
    c.in_err-session-in-None.ensures.entry c.open.ensures.in_order.legal c.requires.seated

pub returns-clause-seated : goal.returns-clause-seated
returns-clause-seated g c = elim c.match-session.branch [
  | in-Some w ↦
      let set = c.set.ensures ∙ ap (λ (s : ℕ). with_seat c.args.seating.now c.args.label (Some s)) w.session-is in
      subst (λ d. IsSeated (g.K.Desk.seen d) (g.K.Desk.caller d) c.set.new.self) (sym w.desk-is)
      (chosen_seat _ _ _ _ w.in-Some.session c.args.label c.args.seating.now c.set.new.self w.choose.ensures.same.0 w.choose.ensures.same.1 w.in-Some.ensures c.requires.is_label set c.requires.seated)
  | in-None+in_ok-session-in-None w ↦
      let set = c.set.ensures ∙ ap (λ (s : ℕ). with_seat c.args.seating.now c.args.label (Some s)) w.session-is in
      subst (λ d. IsSeated (g.K.Desk.seen d) (g.K.Desk.caller d) c.set.new.self) (sym w.desk-is)
      (opened_seat _ _ _ _ _ _ _ w.in_ok-session-in-None.session c.args.label c.args.seating.now c.set.new.self w.stand_up.ensures.same.0 w.stand_up.ensures.same.1 w.open.ensures.same.0
      w.in_ok-session-in-None.ensures.entry w.open.ensures.in_order.legal (w.open.ensures.in_order.is_open w.in_ok-session-in-None.session w.in_ok-session-in-None.ensures.current) c.requires.is_label set c.requires.seated)
]
