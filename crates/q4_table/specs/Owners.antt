-- A table with its owners left out, which is what a file holds of it.
use Rattle.std.specs.Prelude.{None, map}
use Rattle.q4_table.specs.declared.rows.StoredRow.{StoredRow}
use Rattle.q4_table.specs.TableState.{TableState}

-- a row without its owner
abbrev pub without_owner : StoredRow → StoredRow
without_owner r = record { number = r.number; row = r.row; owner = None }

-- the table without the owners of its rows
abbrev pub without_owners : TableState → TableState
without_owners table = record table { rows = map without_owner table.rows }
