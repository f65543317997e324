use Rattle.std.proofs.Common.{◌≡◌, take}
use Rattle.socket_merge.specs.{Kept.{listed_in, listed_on}, Refusal.{family_of}}
use Rattle.socket_merge.proofs.named.NamedSockets.listed.Given as goal

abbrev pub invariant-loop-socket : goal.invariant-loop-socket
invariant-loop-socket l = record {
  on : l.on ≡ listed_on l.group (take l.socket-index l.socket-items);
  all : l.all ≡ listed_in (family_of l.group) (take l.socket-index l.socket-items);
}
