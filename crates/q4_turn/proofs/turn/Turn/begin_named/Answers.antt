use Rattle.std.proofs.Common.{rules, ap, ◌∙◌, ◌∷◌, Some, None, true}
use Rattle.atomic_table.specs.Table.{rest}
use Rattle.q4_turn.proofs.Basics.{the_first}
use Rattle.q4_turn.proofs.Founding.{opens, begins}
use Rattle.q4_turn.proofs.turn.Turn.begin_named.Goals as goal

pub load-requires : goal.load-requires
load-requires g c =
    let p = c.requires.pass in
    (p.0, search rules, opens g.V.Kept.stands g.V.Kept.mark _ _ _ _ (ap (λ m. m.0) p.1) (ap (λ m. m.1) p.1))

pub exchange-requires : goal.exchange-requires
exchange-requires g c =
    let p = c.requires.pass in
    let l = c.load.ensures in
    (l.0 ∙ p.0, (None, the_first _ _ l.2.1))

pub fetch_add-requires : goal.fetch_add-requires
fetch_add-requires g c =
    let p = c.requires.pass in
    let v = c.requires.value in
    let l = c.load.ensures in
    let put = c.exchange.ensures.3 in
    let bare = ap (λ r. rest r) l.2.1 in (
      c.exchange.ensures.0 ∙ (l.0 ∙ p.0),
      search rules,
      begins g.V.Kept.stands g.V.Kept.mark _ _ _ _ c.args.value g.N.NamedEntries.entries (ap (λ m. m.0) put ∙ (l.2.0 ∙ ap (λ m. record m.0 { holding = true }) p.1))
          (ap (λ m. m.1) put ∙ ap (λ r. (0, Some c.args.value) ∷ r) bare) v.2 c.requires.parts v.0 v.1,
    )
