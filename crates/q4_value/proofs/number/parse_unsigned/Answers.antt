use Rattle.std.proofs.Common.{sym, ◌∙◌}
use Rattle.q4_value.proofs.Numbers.{unsigned_is_text, unsigned_no_error, unsigned_same, differs_not}
use Rattle.q4_value.proofs.number.parse_unsigned.Goals as goal

pub returns-in_default-clause-none : goal.returns-in_default-clause-none
returns-in_default-clause-none c = λ n fits spelled. c.in_default.ensures.cases.0 (unsigned_is_text n c.args.text.now fits spelled)

pub returns-in_default-parse-clause-none : goal.returns-in_default-parse-clause-none
returns-in_default-parse-clause-none c = λ n fits spelled. unsigned_no_error n c.in-Ok.digits.now c.in_default-parse.field-0 fits (c.in-Ok.ensures.cases.0 ∙ spelled) c.in_default-parse.ensures.value.0

pub returns-else-eq-clause-none : goal.returns-else-eq-clause-none
returns-else-eq-clause-none c = λ n fits spelled.
    let same = unsigned_same n c.in-Ok-parse.number c.in-Ok.digits.now c.parse.result c.in-Ok-parse.is c.parse.ensures.value.0 fits (c.in-Ok.ensures.cases.0 ∙ spelled) in
    differs_not c.args.text.now c.as_bytes.result.now c.eq.result c.eq.ensures c.if-eq.false (sym c.in-Ok.ensures.cases.0 ∙ same ∙ sym c.format.ensures.text ∙ sym c.as_bytes.ensures.value)
