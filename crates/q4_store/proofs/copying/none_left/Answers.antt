use Rattle.q4_store.proofs.Taking.{none_left_iff, none_by_some}
use Rattle.q4_store.proofs.copying.none_left.Goals as goal

pub returns : goal.returns
returns c = none_left_iff c.args.table.now.state c.args.cursor c.live_from.result c.is_none.result c.tables_are_valid.ensures.table c.live_from.ensures (none_by_some c.live_from.result c.is_none.result c.is_none.ensures)
