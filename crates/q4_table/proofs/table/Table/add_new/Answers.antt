use Rattle.std.proofs.Common.{◌≡◌, ◌∙◌, None, refl, sym, ap, subst, arith}
use Rattle.std.proofs.lemmas.List.Sums.{sum_by_push}
use Rattle.q4_value.specs.Row.{Fits}
use Rattle.q4_table.specs.declared.adding.Check.TheVariants as check
use Rattle.q4_table.specs.declared.rows.StoredRow.{StoredRow}
use Rattle.q4_table.specs.Adding.{room_for, with_origin}
use Rattle.q4_table.specs.Cursors.{TableView}
use Rattle.q4_table.proofs.Changes.{pushed-there, pushed-gone}
use Rattle.q4_table.proofs.Lookup.{some_of}
use Rattle.q4_table.proofs.Marking.{on_err, on_ok}
use Rattle.q4_table.proofs.Passing.{passed-added}
use Rattle.q4_table.proofs.Validity.{size, valid-added}
use Rattle.q4_table.proofs.table.Table.add_new.Goals as goal

pub remove-requires : goal.remove-requires
remove-requires c =
    let stored : StoredRow = record { number = c.self.inside.next; row = c.args.row; owner = None } in
    rw (c.in_default.ensures.pushed, pushed-there 0 c.self.inside.next c.self.inside.rows stored c.self.invariant.valid.table.numbers refl) refl

pub invariant_of-self-then-is_err : goal.invariant_of-self-then-is_err
invariant_of-self-then-is_err c =
    let stored : StoredRow = record { number = c.self.inside.next; row = c.args.row; owner = None } in
    let marks : c.note.new.self ≡ c.self.inside.marks = on_err c.note.result (sym c.is_err.ensures.value ∙ c.if-is_err.true) c.note.ensures.kept in
    rw (c.remove.ensures.rest, c.in_default.ensures.pushed, pushed-gone 0 c.self.inside.next c.self.inside.rows stored c.self.invariant.valid.table.numbers refl, marks) c.self.invariant

pub returns-then-is_err-clause-given_back : goal.returns-then-is_err-clause-given_back
returns-then-is_err-clause-given_back c =
    let stored : StoredRow = record { number = c.self.inside.next; row = c.args.row; owner = None } in
    let there = pushed-there 0 c.self.inside.next c.self.inside.rows stored c.self.invariant.valid.table.numbers refl in
    let removed = rw c.in_default.ensures.pushed at c.remove.ensures.removed in
    ap (λ (r : StoredRow). r.row) (sym (some_of stored c.remove.result (sym there ∙ removed)))

pub returns-then-is_err-clause-kept : goal.returns-then-is_err-clause-kept
returns-then-is_err-clause-kept c =
    let stored : StoredRow = record { number = c.self.inside.next; row = c.args.row; owner = None } in
    let marks : c.note.new.self ≡ c.self.inside.marks = on_err c.note.result (sym c.is_err.ensures.value ∙ c.if-is_err.true) c.note.ensures.kept in
    rw (c.remove.ensures.rest, c.in_default.ensures.pushed, pushed-gone 0 c.self.inside.next c.self.inside.rows stored c.self.invariant.valid.table.numbers refl, marks) c.self.view_is

pub invariant_of-self-2 : goal.invariant_of-self-2
invariant_of-self-2 c =
    let stored : StoredRow = record { number = c.self.inside.next; row = c.args.row; owner = None } in
    let marks : c.note.new.self ≡ with_origin c.args.origin c.self.inside.marks = on_ok c.note.result (sym c.is_err.ensures.value ∙ c.if-is_err.false) c.note.ensures.noted in
    let fits = subst (λ (t : TableView). Fits t.state.columns c.args.row) (sym c.self.view_is) c.requires.row in
    let room = subst (λ (t : TableView). room_for t.state c.args.row ≡ check.New) (sym c.self.view_is) c.requires.room in
    rw (c.in_default.ensures.pushed, marks) (record {
      valid = record {
        table = valid-added _ c.args.row c.args.origin c.self.invariant.valid.table fits c.requires.origin room;
        few = c.self.invariant.valid.few;
        passed = passed-added _ c.args.row c.args.origin c.self.inside.cursors c.self.invariant.valid.passed;
      };
      sum = omega (arith, sum_by_push size c.self.inside.rows stored, c.self.invariant.sum, c.row_size-size.ensures);
    })
