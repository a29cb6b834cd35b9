use Rattle.std.proofs.Common.{◌≤◌, sym, subst}
use Rattle.q4_table.specs.Cursors.{TableView}
use Rattle.q4_table.proofs.Passing.{passed-next}
use Rattle.q4_table.proofs.Validity.{valid-next}
use Rattle.q4_table.proofs.table.Table.set_next.Goals as goal

pub invariant_of-self : goal.invariant_of-self
invariant_of-self c =
    let rises = subst (λ (t : TableView). t.state.next ≤ c.args.number) (sym c.self.view_is) c.requires.rises in
    record {
      valid = record {
        table = valid-next _ c.args.number c.self.invariant.valid.table rises c.requires.limit;
        few = c.self.invariant.valid.few;
        passed = passed-next _ c.args.number c.self.inside.cursors rises c.self.invariant.valid.passed;
      };
      sum = c.self.invariant.sum;
    }
