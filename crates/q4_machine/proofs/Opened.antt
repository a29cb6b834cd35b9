-- A desk's history at first: the one entry of empty tables.
use Rattle.std.proofs.Common.{◌≡◌, ◌≤◌, ◌∷◌, [], List, None, All, map, length, get_or, refl, ap, arith}
use Rattle.std.proofs.lemmas.List.{length-map}
use Rattle.std.proofs.lemmas.List.Elements.{All-nil, All-cons, All-map}
use Rattle.q4_value.specs.Row.{Fits}
use Rattle.q4_def.specs.declared.table_def.TableDef.{TableDef}
use Rattle.q4_def.specs.Tables.{IsTableDef, AreDefs}
use Rattle.q4_table.specs.declared.rows.StoredRow.{StoredRow}
use Rattle.q4_table.specs.TableState.{new_table}
use Rattle.q4_table.specs.Valid.{IsValidTable, IsMark}
use Rattle.q4_machine.specs.declared.entry.Entry.{Entry}
use Rattle.q4_machine.specs.Opening.{Opening}
use Rattle.q4_machine.specs.Definitions.{definition_of}
use Rattle.q4_machine.specs.Valid.{AreValidTables}
use Rattle.q4_machine.specs.History.{AreUnowned}
use Rattle.q4_machine.specs.Recorded.{new_opening, opened_new, IsSound}
use Rattle.q4_machine.proofs.Histories.{nil_long}

new_valid : (def : TableDef) → IsTableDef def → IsValidTable (new_table def.columns)
new_valid def is = record {
  columns = record { some = omega (arith, is.columns.some); few = is.columns.few };
  begins = omega arith;
  limit = omega arith;
  numbers = tt;
  fit = All-nil (λ (r : StoredRow). Fits def.columns r.row);
  marks = record { rise = tt; each = All-nil IsMark };
  count = omega arith;
  bytes = omega arith;
}

pub tables_valid : (defs : List TableDef) → AreDefs defs → AreValidTables (map new_opening defs)
tables_valid defs are = All-map (λ (o : Opening). IsValidTable o.table) new_opening defs (λ k d inside. new_valid (get_or defs k d) (are.distinct.each k d inside))

pub tables_unowned : (defs : List TableDef) → AreUnowned (map new_opening defs)
tables_unowned defs = All-map (λ (o : Opening). All (λ (r : StoredRow). r.owner ≡ None) o.table.rows) new_opening defs (λ k d inside. All-nil (λ (r : StoredRow). r.owner ≡ None))

pub tables_few : (defs : List TableDef) → AreDefs defs → length (map new_opening defs) ≤ 16
tables_few defs are = let size = length-map defs new_opening in omega (arith, size, are.few)

-- the definitions of the tables are those that they were made of
pub defined_new : (defs : List TableDef) → map definition_of (map new_opening defs) ≡ defs
defined_new [] = refl
defined_new (def ∷ defs) = ap (λ ds. def ∷ ds) (defined_new defs)

pub sound_new : (defs : List TableDef) → AreDefs defs → IsSound (opened_new defs ∷ [])
sound_new defs are = record {
  legal = record {
    opening = opened_new defs;
    rest = [];
    whole = refl;
    opens = record {
      caller = refl;
      session = refl;
      tables = map new_opening defs;
      call = refl;
      few = tables_few defs are;
      valid = tables_valid defs are;
      unowned = tables_unowned defs;
      reply = refl;
    };
    each = λ before e later is. absurd (nil_long before e later is);
    few = omega arith;
    few_owing = λ _. omega arith;
  };
  defined = refl;
  by_zero = All-cons (λ (e : Entry). e.caller ≡ 0) (opened_new defs) [] refl (All-nil (λ (e : Entry). e.caller ≡ 0));
}
