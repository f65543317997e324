-- What a serving gateway sends by its link, and hands on by its out.
use Rattle.std.specs.{Prelude.{ℕ, List, [], ◌∷◌, map, Option, None, Some}, List.{flat_map}}
use Rattle.amt_values.specs.declared.peer.Peer.{Peer}
use Rattle.gateway_machine.specs.{Runs.{answer_after}, Sends.{datagram_of}, declared.{event.GatewayEvent.{GatewayEvent}, settings.GatewaySettings.{GatewaySettings}, step.PeerSend.{PeerSend}}}
use Rattle.relay_machine.specs.Courses.{each_after}

-- a datagram and its peer
abbrev pub to_peer : PeerSend → Peer × List ℕ
to_peer send = (send.to, send.bytes)

-- what an event after these makes the machine send
abbrev pub sends_to : GatewaySettings → ℕ → List GatewayEvent → GatewayEvent → List (Peer × List ℕ)
sends_to settings first earlier event = map to_peer (map datagram_of (answer_after settings first earlier event).sends)

-- what later events do, in order
abbrev pub sends_after : GatewaySettings → ℕ → List GatewayEvent → List GatewayEvent → List (Peer × List ℕ)
sends_after settings first earlier later = flat_map (λ sends. sends) (each_after (sends_to settings first) earlier later)

-- a packet that is handed on goes to this peer
abbrev pub delivery_to : Peer → Option (List ℕ) → List (Peer × List ℕ)
delivery_to peer None = []
delivery_to peer (Some packet) = (peer, packet) ∷ []

-- the packet that an event after these makes the machine hand on
abbrev pub delivered_to : Peer → GatewaySettings → ℕ → List GatewayEvent → GatewayEvent → List (Peer × List ℕ)
delivered_to peer settings first earlier event = delivery_to peer (answer_after settings first earlier event).deliver

-- those of later events, in order
abbrev pub delivered_after : Peer → GatewaySettings → ℕ → List GatewayEvent → List GatewayEvent → List (Peer × List ℕ)
delivered_after peer settings first earlier later =
    flat_map (λ packets. packets) (each_after (delivered_to peer settings first) earlier later)
