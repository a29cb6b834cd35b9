use Rattle.q4_proto.proofs.Waiting.{find_names}
use Rattle.q4_proto.proofs.wait.names_table.Goals as goal

pub returns-clause-named : goal.returns-clause-named
returns-clause-named c = (find_names c.args.defs.now c.args.field.now c.split_entry.result.0.now c.find.result c.is_some.result c.is_some.ensures c.find.ensures.well_formed c.requires c.split_entry.ensures.front c.find.ensures.found c.find.ensures.none).0

pub returns-clause-unknown : goal.returns-clause-unknown
returns-clause-unknown c = (find_names c.args.defs.now c.args.field.now c.split_entry.result.0.now c.find.result c.is_some.result c.is_some.ensures c.find.ensures.well_formed c.requires c.split_entry.ensures.front c.find.ensures.found c.find.ensures.none).1
