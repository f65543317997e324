use Rattle.endpoint_membership.proofs.PublishedLog.{published-next, published-none}
use Rattle.endpoint_membership.proofs.published.published_logs_grow_with_accepted_ones.Goals as goal

pub returns-clause-none : goal.returns-clause-none
returns-clause-none c = published-none

pub returns-clause-next : goal.returns-clause-next
returns-clause-next c = published-next
