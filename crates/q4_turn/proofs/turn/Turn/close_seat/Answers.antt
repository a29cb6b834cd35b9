use Rattle.std.proofs.Common.{rules, ap, sym, ◌∙◌, Some, None, ◌≡◌}
use Rattle.q4_turn.proofs.Joining.{closes, ending, leaves, all_ended, same_some}
use Rattle.q4_turn.proofs.turn.Turn.close_seat.Goals as goal

pub load-requires : goal.load-requires
load-requires g c =
    let a = c.requires.free in
    (a.turn, search rules, closes g.V.Kept.stands g.V.Kept.mark _ _ _ _ a.live c.requires.parts)

pub split_seat-left-requires : goal.split_seat-left-requires
split_seat-left-requires g c =
    let l = c.load.ensures in
    let a = c.requires.free in
    (l.0 ∙ a.turn, search rules, leaves g.V.Kept.stands g.V.Kept.mark _ _ _ (ap (λ v. v.live) l.2.1 ∙ a.live))

pub unreachable-requires : goal.unreachable-requires
unreachable-requires g c =
    let l = c.load.ensures in
    let a = c.requires.free in
    let e = c.split_seat-left.ensures in
    let now = ap (λ m. m.0) e.2 ∙ l.2.1 in
    let t = c.take-value.ensures.value in
    let fin = ending g.V.Kept.stands g.V.Kept.mark _ _ _ _ _ (ap (λ v. v.live) now ∙ a.live) (ap (λ v. v.closing) now) (ap (λ v. v.holding) now ∙ a.holding) c.close_with-closed.ensures.values.2 in
    let same = same_some _ _ _ t fin.1 in
    let none = c.in-None.is in
    let both : None ≡ Some fin.0 = sym none ∙ same in
    cc

pub returns : goal.returns
returns g c =
    let l = c.load.ensures in
    let a = c.requires.free in
    let e = c.split_seat-left.ensures in
    let now = ap (λ m. m.0) e.2 ∙ l.2.1 in
    let t = c.take-value.ensures.value in
    let fin = ending g.V.Kept.stands g.V.Kept.mark _ _ _ _ _ (ap (λ v. v.live) now ∙ a.live) (ap (λ v. v.closing) now) (ap (λ v. v.holding) now ∙ a.holding) c.close_with-closed.ensures.values.2 in
    let same = same_some _ _ _ t fin.1 in
    let it = c.in-Some.is in
    let value : Some c.in-Some.value ≡ Some fin.0 = sym it ∙ same in
    let is : c.in-Some.value ≡ fin.0 = cc in
    all_ended g.V.Kept.stands g.V.Kept.mark c.args.self.table.shared.key _ _ _ _ _ fin.0 is l.2.1 (ap (λ m. m.0) e.2) (ap (λ m. m.0) e.4) l.2.2 l.2.3 fin.2
