use Rattle.std.proofs.Common.{◌≡◌, ◌≤◌, ◌∙◌, ℕ, sym, ap, subst}
use Rattle.q4_table.specs.Cursors.{begin_of, kept_limit}
use Rattle.q4_table.specs.Oldest.{oldest_meeting}
use Rattle.q4_table.specs.Rows.{rows_from}
use Rattle.q4_table.specs.TableState.{TableState}
use Rattle.q4_table.proofs.Passing.{oldest-from, begin_passed, end_passed, passed-moved, length-moved}
use Rattle.q4_table.proofs.table.Table.oldest.Goals as goal

pub returns-clause-oldest : goal.returns-clause-oldest
returns-clause-oldest g c =
    let valid = c.self.invariant.valid in
    let passed = begin_passed _ c.args.cond.now.tree c.self.inside.cursors valid.table valid.passed in
    rw (c.oldest-found.ensures.oldest, c.begin_of-from.ensures, ← c.self.view_is) (oldest-from c.self.inside.rows (begin_of c.self.inside.cursors c.args.cond.now.tree) c.args.cond.now.tree passed.none_before)

pub returns-clause-asked : goal.returns-clause-asked
returns-clause-asked g c = rw (← c.self.view_is, ← c.begin_of-from.ensures) c.oldest-found.ensures.asked

pub invariant_of-self : goal.invariant_of-self
invariant_of-self g c =
    let valid = c.self.invariant.valid in
    let tree = c.args.cond.now.tree in
    let table : TableState = record { columns = c.self.inside.columns; next = c.self.inside.next; rows = c.self.inside.rows; marks = c.self.inside.marks } in
    let passed = begin_passed table tree c.self.inside.cursors valid.table valid.passed in
    let found : c.oldest-found.result ≡ oldest_meeting c.self.inside.rows tree =
    c.oldest-found.ensures.oldest ∙ (ap (λ (n : ℕ). oldest_meeting (rows_from n c.self.inside.rows) tree) c.begin_of-from.ensures ∙ oldest-from c.self.inside.rows (begin_of c.self.inside.cursors tree) tree passed.none_before) in
    rw (c.move_to.ensures, c.unwrap_or.ensures, found) (record {
      valid = record {
        table = valid.table;
        few = subst (λ (n : ℕ). n ≤ kept_limit) (sym (length-moved tree _ c.self.inside.cursors)) valid.few;
        passed = passed-moved table tree _ c.self.inside.cursors (end_passed table tree valid.table) valid.passed;
      };
      sum = c.self.invariant.sum;
    })
