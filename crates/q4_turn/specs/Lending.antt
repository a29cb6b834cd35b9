-- What a hold becomes once its value was lent.
use Rattle.std.specs.Prelude.{[]}
use Rattle.std.specs.Borrow.{Lends, MutBor, Fml}
use mir.Syntax.{named}
use denote.RattleType.{RattleType}
use Rattle.q4_turn.specs.declared.turn.Held.{Held}
use Rattle.q4_turn.specs.contracts.turn.Held.{the_row}

-- it ends with the value that was last behind r, and is else as it was
abbrev pub LendsValue : (V E : RattleType) → MutBor (Held V.Denot E.Denot) → MutBor V.Denot → Fml
LendsValue V E s r = Lends (the_row (record { mir = named 1; lft = [] }) V E) V s r (λ w. record s.now { value = w })
