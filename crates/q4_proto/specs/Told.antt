-- What a line is answered, with the rows themselves where the program has a reference to them.
use Rattle.std.specs.Prelude.{ℕ, List}
use Rattle.q4_machine.specs.declared.shown.NumberedRow.{NumberedRow}
use Rattle.q4_proto.specs.declared.reply.Code.{Code}
use Rattle.q4_proto.specs.declared.reply.Outcome.{Outcome}
use Rattle.q4_proto.specs.declared.reply.Outcome.TheVariants as outcome

pub data Told : Type 0 where
  Ok : Told
  Number : ℕ → Told
  Seen : ℕ → Told
  Rows : List NumberedRow → Told
  Bye : Told
  Refused : Code → Told

abbrev pub told : Outcome → Told
told outcome.Ok = Ok
told (outcome.Number number) = Number number
told (outcome.Seen mark) = Seen mark
told (outcome.Rows rows) = Rows rows.now
told outcome.Bye = Bye
told (outcome.Refused code) = Refused code
