use Rattle.endpoint_membership.proofs.TargetsByLog.{IsAscending-targets_of, targets_want}
use Rattle.endpoint_membership.proofs.laws.targets_are_those_that_want.Goals as goal

pub returns-clause-wanted : goal.returns-clause-wanted
returns-clause-wanted c = targets_want

pub returns-clause-ascending : goal.returns-clause-ascending
returns-clause-ascending c = IsAscending-targets_of
