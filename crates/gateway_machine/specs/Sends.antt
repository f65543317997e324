-- What a gateway sends.
use Rattle.std.specs.Prelude.{ℕ, ◌≤◌, ◌&&◌, Bool, false, List, [], ◌∷◌, All, length, Option, Some, None, if◌then◌else◌}
use Rattle.amt_values.specs.declared.peer.Peer.{Peer}
use Rattle.byteorder.specs.Endian.{big_bytes}
use Rattle.amt_messages.specs.{Layout.{spelling_of}, declared.message.Message.{Message, TheVariants.{Discovery, Request}}}
use Rattle.gateway_machine.specs.declared.{exchange.Exchange.{Exchange}, settings.GatewaySettings.{GatewaySettings}, step.PeerSend.{PeerSend}}

-- a message to a peer, whether it carries a full report, and whether it is for a Linux relay
pub record Sending : Type 0 where
  pub to : Peer
  pub message : Message
  pub full_report : Bool
  pub for_linux : Bool

-- the octets of a message: of a Request for MLD that is for a Linux relay, whose driver counts the flags' bits
-- from the other end, with the second octet 80 in place of 01 (RFC 7450, section 5.1.3), and else its spelling
abbrev pub octets_of : Message → Bool → List ℕ
octets_of (Request v6 nonce) for_linux =
    if v6 && for_linux then 3 ∷ 0x80 ∷ 0 ∷ 0 ∷ big_bytes 4 nonce else spelling_of (Request v6 nonce)
octets_of message for_linux = spelling_of message

-- the datagram that carries it
abbrev pub datagram_of : Sending → PeerSend
datagram_of sending = record { to = sending.to; bytes = octets_of sending.message sending.for_linux }

-- each datagram has at most so many octets as a UDP payload has in all crates
abbrev pub AreShort : List PeerSend → Type 0
AreShort sends = All (λ send. length send.bytes ≤ 65535) sends

-- a message to the relay, if one is known; the law states_have_relays says when it is
abbrev pub to_relay : Option Peer → Bool → Message → List Sending
to_relay None full_report message = []
to_relay (Some relay) full_report message = record { to = relay; message = message; full_report = full_report; for_linux = false } ∷ []

-- a Discovery with the nonce in use (RFC 7450, section 5.1.1)
abbrev pub discovery : GatewaySettings → Exchange → List Sending
discovery settings exchange =
    record { to = settings.discovery; message = Discovery exchange.nonce; full_report = false; for_linux = false } ∷ []

-- a Request of the gateway's family (RFC 7450, section 5.1.3) to the relay, if one is known
abbrev pub request_to : Option Peer → GatewaySettings → ℕ → List Sending
request_to None settings nonce = []
request_to (Some relay) settings nonce =
    record { to = relay; message = Request settings.v6 nonce; full_report = false; for_linux = settings.linux_relay } ∷ []

-- the Request with the nonce in use
abbrev pub request : GatewaySettings → Exchange → List Sending
request settings exchange = request_to exchange.relay settings exchange.nonce
