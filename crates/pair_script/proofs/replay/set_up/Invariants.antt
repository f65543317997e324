use Rattle.std.proofs.Common.{map, take, []}
use Rattle.amt_pair.specs.State.{PairAt}
use Rattle.pair_script.specs.Setup.{host_of}
use Rattle.pair_script.proofs.replay.set_up.Given as goal

abbrev pub invariant-loop-gateway : goal.invariant-loop-gateway
invariant-loop-gateway l =
    PairAt l.pair (record {
      settings = l.script.settings;
      secret = l.script.secret;
      hosts = map (host_of l.script.settings) (take l.gateway-index l.gateway-items);
    }) []
