use Rattle.std.proofs.Common.{◌+◌, refl, map, length, arith}
use Rattle.std.proofs.lemmas.Result.{err_from_is_err_and}
use Rattle.toml.specs.Data.{string}
use Rattle.toml.specs.View.{view}
use Rattle.q4_def.specs.Tables.{names_of}
use Rattle.q4_def.specs.Faults.{bad_shape}
use Rattle.q4_def.proofs.Forms.{one_entries}
use Rattle.q4_def.proofs.Growing.{head_fault, columns_fault}
use Rattle.q4_def.proofs.reading.read_table.Goals as goal

pub returns-in_default-clause-cause : goal.returns-in_default-clause-cause
returns-in_default-clause-cause c = bad_shape refl (λ name texts is. c.in_default.ensures.none name (map string texts) is)

pub returns-in_default-2-clause-cause : goal.returns-in_default-2-clause-cause
returns-in_default-2-clause-cause c =
    let none = rw c.in_default-2.is at c.in_ok-texts.ensures in
    bad_shape refl (λ name texts is. none texts (one_entries _ _ _ _ _ c.in-Some.ensures.entries is).1)

pub returns-in_err-check_head-clause-cause : goal.returns-in_err-check_head-clause-cause
returns-in_err-check_head-clause-cause c =
    let p = err_from_is_err_and c.from_residual-in_err-check_head.result c.from_residual-in_err-check_head.ensures.1 in
    let texts = rw c.in-Some-2.is at c.in_ok-texts.ensures in
    rw (p.1, p.2) (head_fault (names_of c.args.earlier.now) (view c.args.member.now) c.in-Some.name.now (map view c.in-Some.columns.now) c.in-Some-2.texts.items (length c.args.earlier.now + 1) c.len.result _
    c.in-Some.ensures.entries texts (omega (arith, c.len.ensures, c.in-Some-2.texts.ok)) c.in_err-check_head.ensures.cause)

pub returns-in_err-columns-clause-cause : goal.returns-in_err-columns-clause-cause
returns-in_err-columns-clause-cause c =
    let p = err_from_is_err_and c.from_residual-in_err-columns.result c.from_residual-in_err-columns.ensures.1 in
    let texts = rw c.in-Some-2.is at c.in_ok-texts.ensures in
    rw (p.1, p.2) (columns_fault (names_of c.args.earlier.now) (view c.args.member.now) c.in-Some.name.now (map view c.in-Some.columns.now) c.in-Some-2.texts.items (length c.args.earlier.now + 1) c.len.result _
    c.in-Some.ensures.entries texts (omega (arith, c.len.ensures, c.in-Some-2.texts.ok)) c.in_ok-check_head.ensures.head (rw c.deref.ensures.value at c.in_err-columns.ensures.cause))
