-- A number of more than 128 bits is none that the grammar has.
use Rattle.std.proofs.Common.{◌≡◌, ◌+◌, ◌*◌, ◌-◌, ◌^◌, ◌≤◌, true, get_or, ap, sym, ◌∙◌, arith}
use Rattle.q4_cond.specs.Tokens.{is_digit, numeral}
use Rattle.q4_cond.proofs.Lexing.{digits_over}
use Rattle.q4_cond.proofs.token.digits_value.Goals as goal

pub returns-in-None : goal.returns-in-None
returns-in-None c =
    let digit : is_digit (get_or c.args.run.now c.loop-byte.byte-index 0) ≡ true = sym c.is_digit.ensures ∙ c.if-not-is_digit.false in
    let large : 2 ^ 127 ≤ 10 * c.loop-byte.value + (get_or c.args.run.now c.loop-byte.byte-index 0 - 48) = omega (arith, c.in-None.ensures) in
    sym (digits_over c.loop-byte.value c.loop-byte.byte-index c.args.run.now c.loop-byte-test.true digit large) ∙ ap numeral c.loop-byte.invariant
