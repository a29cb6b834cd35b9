use Rattle.std.proofs.Common.{◌==◌, not, refl, ap, List}
use Rattle.q4_table.specs.declared.rows.StoredRow.{StoredRow}
use Rattle.q4_table.proofs.Unowned.{rows-filtered, rows-owned, values-unowned, least-unowned, valid-unowned}
use Rattle.q4_table.proofs.laws.owners_make_no_difference.Goals as goal

pub returns-clause-removed : goal.returns-clause-removed
returns-clause-removed c table number = ap (λ (rs : List StoredRow). record { columns = table.columns; next = table.next; rows = rs; marks = table.marks }) (rows-filtered (λ r. not (r.number == number)) (λ r. refl) table.rows)

pub returns-clause-owned : goal.returns-clause-owned
returns-clause-owned c table number owner = ap (λ (rs : List StoredRow). record { columns = table.columns; next = table.next; rows = rs; marks = table.marks }) (rows-owned number owner table.rows)

pub returns-clause-values : goal.returns-clause-values
returns-clause-values c table number = values-unowned table.rows number

pub returns-clause-numbers : goal.returns-clause-numbers
returns-clause-numbers c table number = least-unowned table.rows number

pub returns-clause-valid : goal.returns-clause-valid
returns-clause-valid c = valid-unowned
