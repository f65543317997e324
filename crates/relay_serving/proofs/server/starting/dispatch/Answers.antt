use Rattle.std.proofs.Common.{◌≡◌, true, subst}
use Rattle.amt_ports.specs.Causes.{Rose}
use Rattle.replication_workers.specs.Starting.{AllButOneBack, OnFailed}
use Rattle.relay_serving.proofs.Starting.{loses_one}
use Rattle.relay_serving.proofs.server.starting.dispatch.Goals as goal

pub returns-in-Err-Failed-clause-left : goal.returns-in-Err-Failed-clause-left
returns-in-Err-Failed-clause-left g c =
    let failed = subst (λ fault. OnFailed fault (AllButOneBack c.args.made.slots (g.P.Spawner.starts c.args.spawner.now) (g.P.Spawner.starts c.start.new.spawner))) c.in-Err-Failed.field-0-is c.in-Err-Failed.ensures.failed in
    let cause = subst (λ fault. OnFailed fault (λ _ _. (c.args.threads ≡ true) × Rose (g.P.Spawner.faults c.args.spawner.now) (g.P.Spawner.faults c.start.new.spawner))) c.in-Err-Failed.field-0-is c.in-Err-Failed.ensures.cause in
    (loses_one c.args.made.slots _ _ c.in-Err-Failed.outs _ failed, cause.1)
