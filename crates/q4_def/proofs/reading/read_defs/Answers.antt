use Rattle.std.proofs.Common.{refl, sym, map, arith, ◌∙◌}
use Rattle.std.proofs.lemmas.Result.{err_from_is_err_and}
use Rattle.std.proofs.lemmas.List.{length-map}
use Rattle.std.proofs.lemmas.Bool.{eqb-false}
use Rattle.toml.specs.View.{view, table_view}
use Rattle.q4_def.specs.Faults.{FirstTableFails, no_tables, too_many, bad_table, Fails}
use Rattle.q4_def.specs.Document.{Defines}
use Rattle.q4_def.proofs.Growing.{file_fault, or_memory_by, length_zip}
use Rattle.q4_def.proofs.reading.read_defs.Goals as goal

pub returns-in_default-clause-cause : goal.returns-in_default-clause-cause
returns-in_default-clause-cause c =
    let some = eqb-false _ _ (sym c.is_empty.ensures ∙ c.if-is_empty.false) in
    file_fault _ _ some (no_tables _ c.in_ok-document.ensures.document refl c.in_default.ensures.none)

pub returns-then-tables-gt-TABLE_LIMIT-clause-cause : goal.returns-then-tables-gt-TABLE_LIMIT-clause-cause
returns-then-tables-gt-TABLE_LIMIT-clause-cause c =
    let some = eqb-false _ _ (sym c.is_empty.ensures ∙ c.if-is_empty.false) in
    file_fault _ _ some (too_many _ (map view c.in-Some.tables.now) c.in_ok-document.ensures.document c.in-Some.ensures.tables refl (omega (arith, c.if-tables-gt-TABLE_LIMIT.true, length-map c.in-Some.tables.now view)))

pub returns-in_err-read_tables-clause-cause : goal.returns-in_err-read_tables-clause-cause
returns-in_err-read_tables-clause-cause c =
    let some = eqb-false _ _ (sym c.is_empty.ensures ∙ c.if-is_empty.false) in
    let p = err_from_is_err_and c.from_residual-in_err-read_tables.result c.from_residual-in_err-read_tables.ensures.1 in
    rw (p.1, p.2) (or_memory_by (FirstTableFails (map view c.in-Some.tables.now)) (Fails c.args.bytes.now)
    (λ why bad. file_fault c.args.bytes.now why some (bad_table (table_view c.in_ok-document.document) (map view c.in-Some.tables.now) c.in_ok-document.ensures.document c.in-Some.ensures.tables
    (omega (arith, c.if-tables-gt-TABLE_LIMIT.false, length-map c.in-Some.tables.now view)) bad))
    _ c.in_err-read_tables.ensures.cause)

pub from_tables-requires-2 : goal.from_tables-requires-2
from_tables-requires-2 c =
    let count = length_zip Defines (map view c.in-Some.tables.now) c.in_ok-read_tables.field-0.items c.in_ok-read_tables.ensures.defs in
    let same = length-map c.in-Some.tables.now view in
    record {
      distinct = c.in_ok-read_tables.ensures.distinct;
      some = omega (arith, count, c.in-Some.ensures.tables.some);
      few = omega (arith, count, same, c.if-tables-gt-TABLE_LIMIT.false);
    }
