use Rattle.std.proofs.Common.{◌≡◌, map, take}
use Rattle.amt_pair.specs.Members.{kept_datagram}
use Rattle.amt_pair.proofs.datagrams.datagrams_from.Given as goal

abbrev pub invariant-loop-send : goal.invariant-loop-send
invariant-loop-send l = l.datagrams.items ≡ map (kept_datagram l.from) (take l.send-index l.sends)
