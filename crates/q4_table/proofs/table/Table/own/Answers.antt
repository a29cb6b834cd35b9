use Rattle.std.proofs.Common.{◌∙◌, Some, sym}
use Rattle.q4_table.proofs.Passing.{passed-owned}
use Rattle.q4_table.proofs.Validity.{valid-owned, bytes-owned}
use Rattle.q4_table.proofs.table.Table.own.Goals as goal

pub invariant_of-self : goal.invariant_of-self
invariant_of-self c =
    let valid = c.self.invariant.valid in
    rw c.set_owner.ensures (record {
      valid = record {
        table = valid-owned _ c.args.number (Some c.args.session) valid.table;
        few = valid.few;
        passed = passed-owned _ c.args.number c.args.session c.self.inside.cursors valid.passed;
      };
      sum = c.self.invariant.sum ∙ sym (bytes-owned c.args.number (Some c.args.session) c.self.inside.rows);
    })
