use Rattle.std.proofs.Common.{◌+◌, ◌∙◌, [], ℕ, refl, sym, subst, arith, append-nil}
use Rattle.q4_machine.specs.Parts.{Grows}
use Rattle.q4_play.specs.Seated.{IsSeated}
use Rattle.q4_play.specs.Turns.{Closes}
use Rattle.q4_play.proofs.Placing.{AreLeft}
use Rattle.q4_play.proofs.Closing.{seat_at, closed_next, left_next}
use Rattle.q4_play.proofs.plays.close_all.Goals as goal

pub loop-place-init : goal.loop-place-init
loop-place-init g c = record {
  in_order = c.requires.in_order;
  caller = refl;
  limit = refl;
  defined = refl;
  left = λ place k later is. c.requires.seated.are_open place k is;
  closed = ([], sym (append-nil (g.K.Desk.seen c.args.desk.now)), refl);
}

pub loop-place-preserved : goal.loop-place-preserved
loop-place-preserved g c =
    let inv = c.loop-place.invariant in
    let seat = c.session.ensures ∙ seat_at c.args.seating.now c.loop-place.place in
    let closes = c.close_seat.ensures.closes in
    record {
      in_order = c.close_seat.ensures.in_order;
      caller = c.close_seat.ensures.same.0 ∙ inv.caller;
      limit = c.close_seat.ensures.same.1 ∙ inv.limit;
      defined = c.close_seat.ensures.defined ∙ inv.defined;
      left = subst (λ (caller : ℕ). AreLeft (g.K.Desk.seen c.close_seat.new.desk) caller c.args.seating.now (c.loop-place.place + 1)) (sym c.close_seat.ensures.same.0)
          (left_next _ _ (g.K.Desk.seen c.args.desk.now) (g.K.Desk.caller c.loop-place.desk) c.loop-place.place c.args.seating.now c.session.result seat closes c.close_seat.ensures.in_order.legal
          (subst (λ (caller : ℕ). IsSeated (g.K.Desk.seen c.args.desk.now) caller c.args.seating.now) (sym inv.caller) c.requires.seated) inv.left);
      closed = closed_next _ _ _ (g.K.Desk.caller c.args.desk.now) c.loop-place.place c.args.seating.now c.session.result (omega (arith, c.requires.seated.size, c.loop-place-test.true)) seat inv.closed
          (subst (λ (caller : ℕ). Grows (g.K.Desk.seen c.loop-place.desk) (g.K.Desk.seen c.close_seat.new.desk) (λ closing. Closes caller c.session.result closing)) inv.caller closes);
    }
