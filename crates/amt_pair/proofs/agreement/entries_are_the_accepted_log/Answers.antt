use Rattle.amt_pair.proofs.Courses.{logged-after}
use Rattle.amt_pair.proofs.agreement.entries_are_the_accepted_log.Goals as goal

pub returns : goal.returns
returns c = logged-after
