use Rattle.std.proofs.lemmas.Result.{err_from_is_err_and}
use Rattle.q4_value.proofs.Unescaped.{cut_off, cut_run_fails, cut_is_bad}
use Rattle.q4_value.proofs.escaping.unescape_first.Goals as goal

pub returns-in_err-unescape_run-clause-fault : goal.returns-in_err-unescape_run-clause-fault
returns-in_err-unescape_run-clause-fault c =
    let p = err_from_is_err_and c.from_residual.result c.from_residual.ensures.1 in
    let cut = cut_off c.args.text.now c.as_bytes.result.now c.split_at.result.0.now c.in-Some.at c.as_bytes.ensures.value c.in-Some.ensures c.split_at.ensures.front in
    rw (p.1, p.2) (cut_run_fails c.args.text.now c.split_at.result.0.now c.in_err-unescape_run.field-0.0 cut c.in_err-unescape_run.ensures.fault)

pub returns-clause-fault : goal.returns-clause-fault
returns-clause-fault c =
    let cut = cut_off c.args.text.now c.as_bytes.result.now c.split_at.result.0.now c.in-Some.at c.as_bytes.ensures.value c.in-Some.ensures c.split_at.ensures.front in
    cut_is_bad c.args.text.now c.split_at.result.0.now c.in_ok-unescape_run.field-0 c.in-Some.at cut c.in_ok-unescape_run.ensures.read c.split_at.ensures.front_len
