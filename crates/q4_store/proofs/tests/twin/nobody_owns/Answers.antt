use Rattle.std.proofs.Common.{◌≡◌, None, All, sym, ◌∙◌, ap, subst}
use Rattle.q4_table.specs.declared.rows.StoredRow.{StoredRow}
use Rattle.q4_table.specs.TableState.{TableState}
use Rattle.q4_record.proofs.WrittenBases.{plain_same}
use Rattle.q4_store.proofs.tests.twin.nobody_owns.Goals as goal

pub returns : goal.returns
returns g c content s is =
    let unowned : All (λ (r : StoredRow). r.owner ≡ None) c.args._table.now.state.rows = subst (λ (t : TableState). All (λ (r : StoredRow). r.owner ≡ None) t.rows) is s.unowned in
    is ∙ sym (ap (λ rows. record c.args._table.now.state { rows = rows }) (plain_same c.args._table.now.state.rows unowned))
