-- The machines of dual gateways in one list: two a gateway, side by side.
use Rattle.std.specs.Prelude.{◌≢◌, ◌&&◌, ℕ, Bool, true, false, not, List, [], ◌∷◌, AllPairs}
use Rattle.amt_values.specs.declared.peer.Peer.{Peer}
use Rattle.gateway_machine.specs.Answers.{same_peer}
use Rattle.socket_merge.specs.History.{same_name}
use Rattle.amt_pair.specs.Setup.{Host}

-- the machines of one gateway: of IPv4 and of IPv6, with one name and one peer
abbrev pub are_of_one : Host → Host → Bool
are_of_one v4 v6 = (not v4.settings.v6 && v6.settings.v6) && (same_name v4.name v6.name && same_peer v4.peer v6.peer)

-- each IPv4 machine is followed by the IPv6 one of its gateway
abbrev pub are_twins : List Host → Bool
are_twins [] = true
are_twins (v4 ∷ []) = false
are_twins (v4 ∷ v6 ∷ rest) = are_of_one v4 v6 && are_twins rest

-- in what machines differ: the name or the peer, and the family
abbrev pub name_and_family : Host → List ℕ × Bool
name_and_family machine = (machine.name, machine.settings.v6)

abbrev pub peer_and_family : Host → Peer × Bool
peer_and_family machine = (machine.peer, machine.settings.v6)

-- no two machines have one name, or one peer, and one family
pub record AreMachinesApart (machines : List Host) : Type 0 where
  pub names : AllPairs (λ one other. name_and_family one ≢ name_and_family other) machines
  pub peers : AllPairs (λ one other. peer_and_family one ≢ peer_and_family other) machines
