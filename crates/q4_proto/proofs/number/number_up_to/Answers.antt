use Rattle.std.proofs.Common.{◌≡◌, ◌<◌, ◌^◌, ◌∙◌, sym, arith}
use Rattle.std.proofs.lemmas.Fmt.{decimal_injective}
use Rattle.q4_proto.proofs.number.number_up_to.Goals as goal

pub returns-else-number-from-clause-none : goal.returns-else-number-from-clause-none
returns-else-number-from-clause-none c = λ number most is.
    let small : number < 2 ^ 64 = omega (arith, most, c.ranges.most) in
    let same : c.in_ok-number.number ≡ number = decimal_injective c.in_ok-number.number number (omega arith) small (sym c.in_ok-number.ensures.found ∙ c.as_bytes.ensures.value ∙ is) in
    omega (arith, same, most, c.if-number-from.false, c.from.ensures)
