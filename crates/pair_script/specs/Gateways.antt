-- The gateways that lines have given.
use Rattle.std.specs.{Prelude.{◌≡◌, ℕ, Bool, false, List, Option, None, find}, List.{list_any}}
use Rattle.amt_values.specs.declared.peer.Peer.{Peer}
use Rattle.gateway_machine.specs.Answers.{same_peer}
use Rattle.group_records.specs.declared.family.Family.{Family}
use Rattle.socket_merge.specs.{FullReport.{family_by}, History.{same_name}}
use Rattle.pair_script.specs.declared.script.PairGateway.{PairGateway}

-- the family of a gateway
abbrev pub family_of : PairGateway → Family
family_of gateway = family_by gateway.v6

-- the gateway of this name
abbrev pub gateway_named : List PairGateway → List ℕ → Option PairGateway
gateway_named gateways name = find (λ gateway. same_name name gateway.name) gateways

-- a gateway has the peer
abbrev pub is_peer_given : List PairGateway → Peer → Bool
is_peer_given gateways peer = list_any (λ gateway. same_peer gateway.peer peer) gateways

-- neither the name nor the peer of the gateway is that of one of these
pub record IsNew (gateways : List PairGateway) (gateway : PairGateway) : Type 0 where
  pub name : gateway_named gateways gateway.name ≡ None
  pub peer : is_peer_given gateways gateway.peer ≡ false
