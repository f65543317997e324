use Rattle.endpoint_membership.proofs.{FittingReports.{IsWithin-fits}, HoldsAfter.{none_where_it_fits}}
use Rattle.endpoint_membership.proofs.laws.reports_that_fit_pass_no_limit.Goals as goal

pub returns-clause-none : goal.returns-clause-none
returns-clause-none c = none_where_it_fits

pub returns-clause-within : goal.returns-clause-within
returns-clause-within c settings limits log endpoint records at = IsWithin-fits settings log endpoint records at settings.limits limits
