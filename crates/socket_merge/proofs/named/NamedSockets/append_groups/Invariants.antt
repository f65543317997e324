use Rattle.std.proofs.Common.{◌≡◌, ◌++◌, map, take}
use Rattle.socket_merge.specs.History.{Socket}
use Rattle.socket_merge.proofs.named.NamedSockets.append_groups.Given as goal

abbrev pub invariant-loop-socket : goal.invariant-loop-socket
invariant-loop-socket l = l.groups.items ≡ l.initial.groups.items ++ map (λ (one : Socket). one.group) (take l.socket-index l.socket-items)
