use Rattle.amt_pair.proofs.Courses.{pair_at_more}
use Rattle.amt_pair.proofs.laws.steps_extend_schedules.Goals as goal

pub returns : goal.returns
returns c = pair_at_more
