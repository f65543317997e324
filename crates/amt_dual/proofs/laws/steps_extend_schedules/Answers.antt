use Rattle.amt_dual.proofs.DualCourses.{dual_pair_at_more}
use Rattle.amt_dual.proofs.laws.steps_extend_schedules.Goals as goal

pub returns : goal.returns
returns c = dual_pair_at_more
