use Rattle.{amt_dual.proofs.DualCourses.{course_machines}, amt_dual_script.proofs.AsDuals.{as_one, first_as_one, next_as_one}}
use Rattle.amt_dual_script.proofs.laws.gateways_step_as_dual_ones.Goals as goal

pub returns-clause-steps : goal.returns-clause-steps
returns-clause-steps c = λ pair setup schedule event place v4 v6 family at both. (as_one pair setup schedule place v4 v6 at both event family).0

pub returns-clause-first : goal.returns-clause-first
returns-clause-first c = λ setup place v4 v6 both. first_as_one setup place v4 v6 both

pub returns-clause-stay : goal.returns-clause-stay
returns-clause-stay c = λ setup schedule. course_machines setup schedule

pub returns-clause-next : goal.returns-clause-next
returns-clause-next c = λ pair setup schedule event place v4 v6 next4 next6 at both later. next_as_one pair setup schedule place v4 v6 at both event next4 next6 later
