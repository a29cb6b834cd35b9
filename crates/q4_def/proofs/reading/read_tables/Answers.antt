use Rattle.std.proofs.Common.{arith, length-append, ◌∷◌, []}
use Rattle.std.proofs.lemmas.Result.{err_from_is_err_and}
use Rattle.q4_def.proofs.Growing.{table_fault, table_next, distinct_push}
use Rattle.q4_def.proofs.reading.read_tables.Goals as goal

pub returns-in_err-def-clause-cause : goal.returns-in_err-def-clause-cause
returns-in_err-def-clause-cause c =
    let p = err_from_is_err_and c.from_residual.result c.from_residual.ensures.1 in
    let inv = c.loop-member.invariant in
    rw (p.1, p.2) (table_fault c.args.members.now c.loop-member.tables.items c.deref.result.now c.loop-member.member-index c.member-item.result _ c.loop-member-test.true c.member-item.is c.deref.ensures.value inv.each inv.distinct c.in_err-def.ensures.cause)

pub loop-member-preserved : goal.loop-member-preserved
loop-member-preserved c =
    let inv = c.loop-member.invariant in
    let is = c.in_ok-def.ensures in
    rw c.in_ok-push_table.ensures record {
      count = omega (arith, inv.count, length-append c.loop-member.tables.items (c.in_ok-def.def ∷ []));
      each = table_next c.args.members.now c.loop-member.tables.items c.loop-member.member-index c.member-item.result c.in_ok-def.def c.loop-member-test.true c.member-item.is inv.each is.defines;
      distinct = distinct_push c.loop-member.tables.items c.in_ok-def.def inv.distinct is.def (rw c.deref.ensures.value at is.fresh);
    }
