use Rattle.endpoint_membership.proofs.PublishedLog.{left_out}
use Rattle.endpoint_membership.proofs.published.clearings_of_none_may_be_left_out.Goals as goal

pub returns : goal.returns
returns c = left_out
