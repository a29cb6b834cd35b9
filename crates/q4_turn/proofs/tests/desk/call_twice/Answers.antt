use Rattle.std.proofs.Common.{rules, ◌++◌, ◌∷◌, [], refl, sym, subst, append_assoc, arith}
use Rattle.q4_turn.proofs.tests.desk.call_twice.Goals as goal

pub leave_two-requires : goal.leave_two-requires
leave_two-requires g c κs within =
    let e = c.enter-held.ensures in
    let stands = g.V.Kept.stands in
    let seen = c.enter-held.new.pass.seat.me.0.seen in
    let number = c.enter-held.new.pass.seat.me.0.number in
    let one = g.V.Office.entry number c.args.x c.act-first.result in
    let two = g.V.Office.entry number c.args.x c.act-second.result in
    let first = c.act-first.ensures seen number (subst (λ v. stands v seen) (sym c.value.ensures.value) e.entered.for_seen) in
    let second = c.act-second.ensures (seen ++ one ∷ []) number (subst (λ v. stands v (seen ++ one ∷ [])) (sym c.value-then-count.ensures.value) first) in (
      within.0,
      (
        within.1,
        (
          e.turn,
          (
            record {
              count = refl;
              few = search rules;
              mine = (g.met.V.Office.marked _ _ _, (g.met.V.Office.marked _ _ _, tt));
              for_more = subst (λ es. stands c.act-second.new.self es) (append_assoc seen (one ∷ []) (two ∷ [])) second;
            },
            let n = c.if-count.true in let a = c.count.ensures in let b = e.count in omega arith,
          ),
        ),
      ),
    )
