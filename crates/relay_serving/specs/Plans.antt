-- Which plans a run may have.
use Rattle.std.specs.Prelude.{◌≤◌}
use Rattle.relay_serving.specs.declared.plan.ServePlan.{ServePlan}

pub record IsLawfulPlan (plan : ServePlan) : Type 0 where
  pub some_turns : 1 ≤ plan.turns
  pub few_turns : plan.turns ≤ 1099511627776
  pub few_workers : plan.workers ≤ 64
  pub rotates : 1 ≤ plan.rotate_ms
