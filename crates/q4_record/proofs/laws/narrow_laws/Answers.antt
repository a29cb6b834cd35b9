use Rattle.q4_record.proofs.WideSides.{own_is_side, own_not_narrow, side_is_own, narrow_limit}
use Rattle.q4_record.proofs.laws.narrow_laws.Goals as goal

pub returns-clause-own : goal.returns-clause-own
returns-clause-own c = own_is_side

pub returns-clause-apart : goal.returns-clause-apart
returns-clause-apart c = own_not_narrow

pub returns-clause-same : goal.returns-clause-same
returns-clause-same c = side_is_own

pub returns-clause-limit : goal.returns-clause-limit
returns-clause-limit c = narrow_limit
