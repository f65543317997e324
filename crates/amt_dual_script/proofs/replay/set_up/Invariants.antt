use Rattle.std.proofs.Common.{map, take, []}
use Rattle.amt_dual.specs.State.{DualPairAt}
use Rattle.amt_dual_script.specs.Setup.{host_of}
use Rattle.amt_dual_script.proofs.replay.set_up.Given as goal

abbrev pub invariant-loop-gateway : goal.invariant-loop-gateway
invariant-loop-gateway l =
    DualPairAt l.pair (record { settings = l.script.settings; secret = l.script.secret; hosts = map host_of (take l.gateway-index l.gateway-items) }) []
