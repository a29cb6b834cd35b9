use Rattle.q4_table.proofs.Keeping.{has-position}
use Rattle.q4_table.proofs.cursors.Cursors.has.Goals as goal

pub returns : goal.returns
returns c = rw (c.is_some.ensures, c.place.ensures) (has-position c.args.cond.now.tree c.args.self.now)
