-- Which messages there are, and which may be written.
use Rattle.std.specs.Prelude.{◌≡◌, ◌+◌, ◌<◌, ◌≤◌, ◌^◌, false, length, Option, Some, None}
use Rattle.amt_values.specs.{Octets.{AreOctets}, Address.{IsAddress, is_mapped}, EndpointValue.{EndpointValue}, declared.mac.Mac48.{Mac48}}
use Rattle.amt_messages.specs.{StatedLength.{inner_length_of}, Layout.{named_gateway_octets}, declared.message.Message.{Message, TheVariants.{Discovery, Advertisement, Request, Query, Update, Multicast, Teardown}}}

-- a response MAC has six octets
abbrev pub IsMac : Mac48 → Type 0
IsMac mac = (length mac.0 ≡ 6) × AreOctets mac.0

-- a gateway's endpoint, in its one form
abbrev pub IsGateway : EndpointValue → Type 0
IsGateway gateway = (gateway.address < 2 ^ 128) × (gateway.port < 2 ^ 16) × (is_mapped gateway.address ≡ false)

-- the gateway that a Query names, if it names one
abbrev pub IsNamedGateway : Option EndpointValue → Type 0
IsNamedGateway None = Unit {0}
IsNamedGateway (Some gateway) = IsGateway gateway

-- each number of the message fits its field
abbrev pub IsMessage : Message → Type 0
IsMessage (Discovery nonce) = nonce < 2 ^ 32
IsMessage (Advertisement nonce relay) = (nonce < 2 ^ 32) × IsAddress relay
IsMessage (Request v6 nonce) = nonce < 2 ^ 32
IsMessage (Query limited mac nonce inner seen) = IsMac mac × (nonce < 2 ^ 32) × AreOctets inner × IsNamedGateway seen
IsMessage (Update mac nonce inner) = IsMac mac × (nonce < 2 ^ 32) × AreOctets inner
IsMessage (Multicast packet) = AreOctets packet
IsMessage (Teardown mac nonce gateway) = IsMac mac × (nonce < 2 ^ 32) × IsGateway gateway

-- a Query's inner datagram is as long as its own header says; a Query, an Update and Multicast Data are
-- no longer than what UDP carries; every other message may be written
abbrev pub IsSendable : Message → Type 0
IsSendable (Discovery nonce) = Unit {0}
IsSendable (Advertisement nonce relay) = Unit {0}
IsSendable (Request v6 nonce) = Unit {0}
IsSendable (Query limited mac nonce inner seen) =
    (inner_length_of inner ≡ Some (length inner)) × (12 + length inner + length (named_gateway_octets seen) ≤ 65535)
IsSendable (Update mac nonce inner) = 12 + length inner ≤ 65535
IsSendable (Multicast packet) = 2 + length packet ≤ 65535
IsSendable (Teardown mac nonce gateway) = Unit {0}
