use Rattle.q4_value.proofs.Wider.{wider-refl, row-wider, fits-wider, columns-narrower}
use Rattle.q4_value.proofs.laws.wider_laws.Goals as goal

pub returns-clause-same : goal.returns-clause-same
returns-clause-same c = wider-refl

pub returns-clause-rows : goal.returns-clause-rows
returns-clause-rows c = row-wider

pub returns-clause-fit : goal.returns-clause-fit
returns-clause-fit c = fits-wider

pub returns-clause-columns : goal.returns-clause-columns
returns-clause-columns c = columns-narrower
