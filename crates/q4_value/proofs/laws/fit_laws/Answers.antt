use Rattle.q4_value.proofs.Fitting.{fits_apart, one_misfit}
use Rattle.q4_value.proofs.laws.fit_laws.Goals as goal

pub returns-clause-apart : goal.returns-clause-apart
returns-clause-apart c = fits_apart

pub returns-clause-one_fault : goal.returns-clause-one_fault
returns-clause-one_fault c = one_misfit
