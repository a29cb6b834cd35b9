use Rattle.std.proofs.Common.{Bool, true, false, not, IsTrue, ◌↔◌, subst, sym}
use Rattle.q4_store.specs.Store.{StandsFor}
use Rattle.q4_store.proofs.Lengths.{store_waits}
use Rattle.q4_store.proofs.store.Store.pending.Goals as goal

not_empty : {A B : Type 0} (b : Bool) → IsTrue b ↔ A → A ↔ B → IsTrue (not b) ↔ (B → ⊥)
not_empty true empty same = (λ is. absurd (cc is), λ some. absurd (some (same.0 (empty.0 cc))))
not_empty false empty same = (λ is is_empty. let was = empty.1 (same.1 is_empty) in cc was, λ some. cc)

pub returns-clause-content : goal.returns-clause-content
returns-clause-content g c content s =
    let waits = store_waits g.D.Disk.told _ content (subst (λ store. StandsFor g.D.Disk.told store content) (sym c.self.view_is) s) in
    not_empty c.is_empty.result c.is_empty.ensures waits
