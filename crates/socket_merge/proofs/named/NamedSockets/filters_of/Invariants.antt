use Rattle.std.proofs.Common.{◌≡◌, take}
use Rattle.socket_merge.specs.Interface.{filters_on}
use Rattle.socket_merge.proofs.named.NamedSockets.filters_of.Given as goal

abbrev pub invariant-loop-socket : goal.invariant-loop-socket
invariant-loop-socket l = l.filters.items ≡ filters_on l.group (take l.socket-index l.socket-items)
