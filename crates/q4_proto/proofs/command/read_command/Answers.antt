use Rattle.std.proofs.Common.{arith, ap, length}
use Rattle.q4_proto.proofs.Splitting.{few_fields}
use Rattle.q4_proto.proofs.command.read_command.Goals as goal

pub read_fields-requires : goal.read_fields-requires
read_fields-requires c =
    let few = few_fields c.in-Ok.text.now c.split_line-args.result.0.now c.split_line-args.result.1 c.split_line-args.ensures in
    omega (arith, few, c.if-line-ge-LINE_LIMIT.false, ap length c.in-Ok.ensures.cases.0)
