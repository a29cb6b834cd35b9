use Rattle.std.proofs.Common.{◌∙◌, None, sym, subst, arith}
use Rattle.std.proofs.lemmas.List.{length-map}
use Rattle.q4_table.specs.Cursors.{TableView, lowered_to}
use Rattle.q4_table.specs.Rows.{IsOwned}
use Rattle.q4_table.proofs.Passing.{passed-released, positive_there, owned_there}
use Rattle.q4_table.proofs.Validity.{valid-owned, bytes-owned}
use Rattle.q4_table.proofs.table.Table.release.Goals as goal

pub invariant_of-self : goal.invariant_of-self
invariant_of-self c =
    let valid = c.self.invariant.valid in
    let positive = positive_there _ c.args.number valid.table (owned_there c.self.inside.rows c.args.number (subst (λ (t : TableView). IsOwned t.state.rows c.args.number) (sym c.self.view_is) c.requires)) in
    rw (c.set_owner.ensures, c.lower.ensures) (record {
      valid = record {
        table = valid-owned _ c.args.number None valid.table;
        few = omega (arith, length-map c.self.inside.cursors (lowered_to c.args.number), valid.few);
        passed = passed-released _ c.args.number c.self.inside.cursors positive valid.passed;
      };
      sum = c.self.invariant.sum ∙ sym (bytes-owned c.args.number None c.self.inside.rows);
    })
