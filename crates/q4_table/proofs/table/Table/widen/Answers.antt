use Rattle.std.proofs.Common.{sym, subst}
use Rattle.q4_value.specs.Row.{AreWider}
use Rattle.q4_table.specs.Cursors.{TableView}
use Rattle.q4_table.proofs.Passing.{passed-wider}
use Rattle.q4_table.proofs.Validity.{valid-wider}
use Rattle.q4_table.proofs.table.Table.widen.Goals as goal

pub invariant_of-self : goal.invariant_of-self
invariant_of-self c =
    let wider = subst (λ (t : TableView). AreWider c.args.columns t.state.columns) (sym c.self.view_is) c.requires in
    record {
      valid = record {
        table = valid-wider _ c.args.columns c.self.invariant.valid.table wider;
        few = c.self.invariant.valid.few;
        passed = passed-wider _ c.args.columns c.self.inside.cursors c.self.invariant.valid.passed;
      };
      sum = c.self.invariant.sum;
    }
