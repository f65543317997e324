use Rattle.std.proofs.Common.{◌≡◌, take}
use Rattle.socket_merge.proofs.named.NamedSockets.copy.Given as goal

abbrev pub invariant-loop-socket : goal.invariant-loop-socket
invariant-loop-socket l = l.copy ≡ take l.socket-index l.socket-items
