use Rattle.q4_record.proofs.OneSide.{read_again, told_again}
use Rattle.q4_record.proofs.side.read_side.Goals as goal

pub returns-clause-read : goal.returns-clause-read
returns-clause-read c = read_again c.args.columns c.args.bytes.now c.read_parts.result c.requires.schema c.read_parts.ensures.side c.read_parts.ensures.kept c.read_parts.ensures.fault

pub returns-clause-told : goal.returns-clause-told
returns-clause-told c = told_again c.args.columns c.args.bytes.now c.read_parts.result c.requires.schema c.read_parts.ensures.side c.read_parts.ensures.fault
