use Rattle.endpoint_membership.proofs.Clearings.{rows-unless_cleared, membership_at-unless_cleared}
use Rattle.endpoint_membership.proofs.laws.clearings_change_nothing_where_none_is_live.Goals as goal

pub returns-clause-membership : goal.returns-clause-membership
returns-clause-membership c = membership_at-unless_cleared

pub returns-clause-rows : goal.returns-clause-rows
returns-clause-rows c = rows-unless_cleared
