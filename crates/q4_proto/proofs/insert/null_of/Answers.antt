use Rattle.std.proofs.Common.{refl}
use Rattle.q4_proto.specs.Commands.{null_field}
use Rattle.q4_proto.proofs.Spellings.{no_null}
use Rattle.q4_proto.proofs.insert.null_of.Goals as goal

pub returns-else-column : goal.returns-else-column
returns-else-column c = no_null c.args.column.now null_field refl c.if-column.false
