use Rattle.q4_table.proofs.Validity.{valid-added, valid-owned, valid-removed, check_room}
use Rattle.q4_table.proofs.laws.changes_keep_tables_valid.Goals as goal

pub returns-clause-added : goal.returns-clause-added
returns-clause-added c table row origin valid fits is new = valid-added table row origin valid fits is (check_room table row origin new)

pub returns-clause-owned : goal.returns-clause-owned
returns-clause-owned c = valid-owned

pub returns-clause-removed : goal.returns-clause-removed
returns-clause-removed c = valid-removed
