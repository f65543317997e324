use Rattle.std.proofs.Common.{bit_and}
use Rattle.gateway_machine.specs.Runs.{settings_of}
use Rattle.gateway_serving.{specs.Courses.{events_so_far}, proofs.OutcomeCounts.{IsTallied-none}}
use Rattle.gateway_serving.proofs.server.Server.start.Goals as goal

pub invariant_of-result-clause-tallied : goal.invariant_of-result-clause-tallied
invariant_of-result-clause-tallied c =
    IsTallied-none (settings_of c.in_ok-gateway.gateway) (bit_and c.args.word 4294967295) (events_so_far c.new-5.result) c.in_ok-outcomes.outcomes c.new-5.ensures c.in_ok-outcomes.ensures
