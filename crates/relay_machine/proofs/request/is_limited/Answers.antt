use Rattle.std.proofs.Common.{ℕ, nat_le, ap}
use Rattle.relay_machine.proofs.request.is_limited.Goals as goal

pub returns : goal.returns
returns c terms log holds =
    rw c.limits.ensures (ap (λ (live : ℕ). nat_le c.args.table.now.in_force.endpoints live) (c.live_endpoints.ensures terms log holds))
