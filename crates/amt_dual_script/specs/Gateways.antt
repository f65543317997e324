-- The dual gateways that lines have given.
use Rattle.std.specs.{Prelude.{◌≡◌, ℕ, Bool, false, List}, List.{list_any}}
use Rattle.amt_values.specs.declared.peer.Peer.{Peer}
use Rattle.gateway_machine.specs.Answers.{same_peer}
use Rattle.socket_merge.specs.History.{same_name}
use Rattle.amt_dual_script.specs.declared.script.DualGateway.{DualGateway}

-- a gateway has the name
abbrev pub is_name_given : List DualGateway → List ℕ → Bool
is_name_given gateways name = list_any (λ gateway. same_name name gateway.name) gateways

-- a gateway has the peer
abbrev pub is_peer_given : List DualGateway → Peer → Bool
is_peer_given gateways peer = list_any (λ gateway. same_peer gateway.peer peer) gateways

-- neither the name nor the peer of the gateway is that of one of these
pub record IsNew (gateways : List DualGateway) (gateway : DualGateway) : Type 0 where
  pub name : is_name_given gateways gateway.name ≡ false
  pub peer : is_peer_given gateways gateway.peer ≡ false
