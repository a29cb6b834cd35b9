use Rattle.std.proofs.Common.{FitsSigned, ap, subst, sym, ◌∙◌}
use Rattle.std.proofs.lemmas.Int.{to_z-of_z}
use Rattle.std.specs.Fmt.{signed_decimal}
use Rattle.std.specs.Int.{w64}
use Rattle.q4_value.proofs.Numbers.{signed_is_text, signed_no_error, signed_same, differs_not}
use Rattle.q4_value.proofs.number.parse_signed.Goals as goal

pub returns-in_default-clause-none : goal.returns-in_default-clause-none
returns-in_default-clause-none c = λ z fits spelled. c.in_default.ensures.cases.0 (signed_is_text z c.args.text.now fits spelled)

pub returns-in_default-parse-clause-none : goal.returns-in_default-parse-clause-none
returns-in_default-parse-clause-none c = λ z fits spelled. signed_no_error z c.in-Ok.digits.now c.in_default-parse.field-0 fits (c.in-Ok.ensures.cases.0 ∙ spelled) c.in_default-parse.ensures.value.0

pub returns-else-eq-clause-none : goal.returns-else-eq-clause-none
returns-else-eq-clause-none c = λ z fits spelled.
    let read = c.in-Ok-parse.ensures.value.0 in
    let same = signed_same z c.in-Ok-parse.number c.in-Ok.digits.now c.parse.result c.in-Ok-parse.is c.parse.ensures.value.0 fits (c.in-Ok.ensures.cases.0 ∙ spelled) in
    differs_not c.args.text.now c.as_bytes.result.now c.eq.result c.eq.ensures c.if-eq.false (sym c.in-Ok.ensures.cases.0 ∙ same ∙ ap signed_decimal (sym (to_z-of_z w64 c.in-Ok-parse.number (subst (FitsSigned w64) (sym read.1) read.0.1))) ∙ sym c.format.ensures.text ∙ sym c.as_bytes.ensures.value)
