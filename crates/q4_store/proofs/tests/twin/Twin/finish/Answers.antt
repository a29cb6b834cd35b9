use Rattle.std.proofs.Common.{◌≡◌, false, None, Some, Option, IsSome, rules, refl, ap, ◌∙◌}
use Rattle.std.specs.Option.{ForSome}
use Rattle.q4_store.specs.declared.copying.Progress.{Progress}
use Rattle.q4_store.specs.Content.{all_committed}
use Rattle.q4_store.specs.Store.{Stored}
use Rattle.q4_store.proofs.tests.twin.Twin.finish.Goals as goal

-- What holds for each progress of a copy holds where there is one.
under_way : (P : Type 0) (copy : Option Progress) (Q : Progress → Type 0) → IsSome copy → ForSome copy Q → ((p : Progress) → Q p → P) → P
under_way P (Some p) Q some each then = then p (each p refl)
under_way P None Q some each then = absurd (cc some)

pub invariant_of-self : goal.invariant_of-self
invariant_of-self g c whole =
    let some : IsSome c.self.inside.store.copy = search rules in
    let old = c.self.invariant (search rules) in
    let content = old.1.0 in
    let same = c.nobody_owns.ensures content old.1.1 old.1.2 in (
      under_way _ c.self.inside.store.copy _ some c.in-Ok.ensures.finished (λ p is. ap (λ (s : Stored g.row.D.Denot). s.failed) is ∙ old.0),
      (all_committed content, c.in-Ok.ensures.stands content old.1.1 same, old.1.2),
    )
