-- What holds of each datagram and each packet that a gateway lets out, and of its exchange, over every run.
use Rattle.std.specs.{Prelude.{◌≡◌, ℕ, Bool, true, List, [], ◌∷◌, ◌++◌, All, Option, Some, None, map}, List.{filter_map}}
use Rattle.amt_values.specs.{EndpointValue.{EndpointValue}, Group.{is_forwardable}, declared.{mac.Mac48.{Mac48}, peer.Peer.{Peer}}}
use Rattle.amt_messages.specs.{Layout.{Spells}, declared.message.Message.{Message, TheVariants.{Discovery, Request, Query, Update, Multicast, Teardown}}}
use Rattle.inner_datagrams.specs.{Head.{IsHead}, declared.head.Head.{Head}}
use Rattle.socket_merge.specs.Interface.{wants}
use Rattle.gateway_machine.specs.declared.{event.GatewayEvent.{GatewayEvent, TheVariants.{Datagram}}, exchange.GatewayState.{GatewayState}}
use Rattle.gateway_machine.specs.{declared.{exchange.{GatewayState.TheVariants.{Requesting as InRequesting, Active as InActive}, LastQuery.{LastQuery}}, outcome.GatewayOutcome.TheVariants.{Active}, settings.GatewaySettings.{GatewaySettings}, step.PeerSend.{PeerSend}}, Runs.{answer_after, run_of}, Sends.{Sending, datagram_of}}

-- the nonce of a Request
abbrev pub nonce_asked : Message → Option ℕ
nonce_asked (Request v6 nonce) = Some nonce
nonce_asked message = None

-- the last item
abbrev pub last_of : {X : Type 0} → Option X → List X → Option X
last_of before [] = before
last_of before (x ∷ xs) = last_of (Some x) xs

-- the nonce of the last Request that was sent in these events
abbrev pub last_request : GatewaySettings → ℕ → List GatewayEvent → Option ℕ
last_request settings first events =
    last_of None (filter_map (λ sending. nonce_asked sending.message) (run_of settings first events).sent)

-- after these events the event is a Query with this MAC and nonce that the gateway accepts: it comes from the
-- gateway's relay, and its nonce is the one of the last Request (RFC 7450, section 5.2.3.5)
pub record IsAcceptedQuery (settings : GatewaySettings) (first : ℕ) (events : List GatewayEvent) (event : GatewayEvent) (mac : Mac48) (nonce : ℕ) : Type 0 where
  pub from : Peer
  pub bytes : List ℕ
  pub limited : Bool
  pub inner : List ℕ
  pub seen : Option EndpointValue
  pub came : event ≡ Datagram from bytes
  pub spelled : Spells (Query limited mac nonce inner seen) bytes
  pub sender : (run_of settings first events).exchange.relay ≡ Some from
  pub asked : last_request settings first events ≡ Some nonce
  pub accepted : (answer_after settings first events event).outcome ≡ Active

-- one of the events is a Query that is accepted after the events before it
pub record HasAcceptedQuery (settings : GatewaySettings) (first : ℕ) (events : List GatewayEvent) (mac : Mac48) (nonce : ℕ) : Type 0 where
  pub earlier : List GatewayEvent
  pub event : GatewayEvent
  pub later : List GatewayEvent
  pub among : events ≡ earlier ++ event ∷ later
  pub query : IsAcceptedQuery settings first earlier event mac nonce

-- an Update or a Teardown carries the MAC and the nonce of an accepted Query (RFC 7450, section 5.2.3.6), and
-- no message is for a Linux relay unless the settings say that the relay is one
pub record IsAuthorized (settings : GatewaySettings) (first : ℕ) (events : List GatewayEvent) (sending : Sending) : Type 0 where
  pub update : (mac : Mac48) (nonce : ℕ) (inner : List ℕ) → sending.message ≡ Update mac nonce inner
      → HasAcceptedQuery settings first events mac nonce
  pub teardown : (mac : Mac48) (nonce : ℕ) (gateway : EndpointValue) → sending.message ≡ Teardown mac nonce gateway
      → HasAcceptedQuery settings first events mac nonce
  pub linux : sending.for_linux ≡ true → settings.linux_relay ≡ true

-- the datagrams are the octets of messages, and each Update and each Teardown among these carries the MAC and
-- the nonce of an accepted Query
pub record AreAuthorized (settings : GatewaySettings) (first : ℕ) (events : List GatewayEvent) (sends : List PeerSend) : Type 0 where
  pub sendings : List Sending
  pub spelled : sends ≡ map datagram_of sendings
  pub each : All (IsAuthorized settings first events) sendings

-- after these events the event is Multicast Data from the gateway's relay with this packet, whose group is
-- forwarded, and whose source some open socket of the group lets in
pub record IsWantedPacket (settings : GatewaySettings) (first : ℕ) (events : List GatewayEvent) (event : GatewayEvent) (packet : List ℕ) : Type 0 where
  pub from : Peer
  pub bytes : List ℕ
  pub head : Head
  pub came : event ≡ Datagram from bytes
  pub spelled : Spells (Multicast packet) bytes
  pub sender : (run_of settings first events).exchange.relay ≡ Some from
  pub begins : IsHead head packet
  pub scope : is_forwardable head.group ≡ true
  pub wanted : wants (run_of settings first events).history head.group head.source ≡ true

-- a relay is known in the states in which its Query or its packets come (RFC 7450, section 5.2.3)
abbrev pub HasRelay : GatewayState → Option Peer → Type 0
HasRelay InRequesting relay = (peer : Peer) × (relay ≡ Some peer)
HasRelay InActive relay = (peer : Peer) × (relay ≡ Some peer)
HasRelay state relay = Unit {0}

-- a Query is kept where changes are reported by its MAC (RFC 7450, section 5.2.3.6)
abbrev pub HasQuery : GatewayState → Option LastQuery → Type 0
HasQuery InActive query = (last : LastQuery) × (query ≡ Some last)
HasQuery state query = Unit {0}

-- Where a gateway with this relay sends a message: a Discovery to the relay discovery address (RFC 7450, section
-- 5.2.3.4), a Request, an Update and a Teardown to its relay. It sends no other message.
abbrev pub destination : Peer → Option Peer → Message → Option Peer
destination discovery relay (Discovery nonce) = Some discovery
destination discovery relay (Request v6 nonce) = relay
destination discovery relay (Update mac nonce inner) = relay
destination discovery relay (Teardown mac nonce gateway) = relay
destination discovery relay message = None

-- the message goes there
abbrev pub IsDirected : GatewaySettings → Option Peer → Sending → Type 0
IsDirected settings relay sending = destination settings.discovery relay sending.message ≡ Some sending.to
