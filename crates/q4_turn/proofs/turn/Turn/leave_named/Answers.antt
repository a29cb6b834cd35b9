use Rattle.std.proofs.Common.{rules, ap, sym, ◌∙◌, subst, ◌∷◌, Some, None}
use Rattle.atomic_table.specs.Table.{rest}
use Rattle.q4_turn.proofs.Basics.{the_first}
use Rattle.q4_turn.proofs.Holding.{ends}
use Rattle.q4_turn.proofs.Adding.{counts}
use Rattle.q4_turn.proofs.turn.Turn.leave_named.Goals as goal

pub fetch_add-requires : goal.fetch_add-requires
fetch_add-requires g c =
    let t = c.requires.turn in
    let e = c.requires.adds in
    (t.turn, search rules, counts g.V.Kept.stands g.V.Kept.mark _ _ _ _ _ _ t.live t.holding e.count e.mine c.requires.room)

pub exchange-requires : goal.exchange-requires
exchange-requires g c =
    let t = c.requires.turn in
    let f = c.fetch_add.ensures in
    (f.0 ∙ t.turn, (None, the_first _ _ (f.2.1 ∙ t.slots)))

pub fetch_add-served-requires : goal.fetch_add-served-requires
fetch_add-served-requires g c =
    let t = c.requires.turn in
    let f = c.fetch_add.ensures in
    let put = c.exchange.ensures.3 in
    let bare = ap (λ r. rest r) (f.2.1 ∙ t.slots) in
    let view = ap (λ m. m.0) put ∙ f.2.0 in (
      c.exchange.ensures.0 ∙ (f.0 ∙ t.turn),
      search rules,
      ends g.V.Kept.stands g.V.Kept.mark _ _ _ _ c.args.held.value (ap (λ v. v.live) view ∙ t.live) (ap (λ v. v.holding) view ∙ t.holding)
          (ap (λ m. m.1) put ∙ ap (λ r. (0, Some c.args.held.value) ∷ r) bare) (subst (g.V.Kept.stands c.args.held.value) (sym (ap (λ v. v.seen) view)) c.requires.adds.for_more),
    )
