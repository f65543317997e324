-- The Query by which a relay tells a gateway how it counts.
use Rattle.std.specs.Prelude.{◌≡◌, ℕ, ◌<◌, ◌^◌, Bool, List, All, Some, Ok}
use Rattle.amt_messages.specs.{Refusal.{message_of}, declared.message.Message.TheVariants.{Request}}
use Rattle.amt_values.specs.{EndpointValue.{EndpointValue}, declared.peer.Peer.{Peer}}
use Rattle.response_mac.specs.{declared.secret.Secret.{Secret}, ResponseMac.{mac_of}}
use Rattle.gateway_machine.specs.Sends.{Sending, datagram_of}
use Rattle.gateway_machine.specs.declared.exchange.{Exchange.{Exchange}, GatewayState.TheVariants.{Requesting}, LastQuery.{LastQuery}}
use Rattle.relay_machine.specs.{declared.settings.Settings.{Settings}, Queries.{asks_for_mld, gateway_named}, Settings.{membership_interval_ms}}

-- the sources of General Queries fit the headers that carry them (RFC 791, section 3.1; RFC 8200,
-- section 3)
pub record HasQuerySources (settings : Settings) : Type 0 where
  pub ipv4 : settings.query4 < 2 ^ 32
  pub ipv6 : settings.query6 < 2 ^ 128

-- a relay takes these octets for a Request with the nonce, for MLD where `v6` is true and else for IGMP (RFC
-- 7450, section 5.1.3)
pub record IsAskedFor (settings : Settings) (v6 : Bool) (nonce : ℕ) (octets : List ℕ) : Type 0 where
  pub p_flag : Bool
  pub read : message_of octets ≡ Ok (Request p_flag nonce)
  pub family : asks_for_mld settings octets p_flag ≡ v6

-- each of a gateway's messages is taken for such a Request
abbrev pub AsksFor : Settings → Bool → ℕ → List Sending → Type 0
AsksFor settings v6 nonce sends = All (λ sending. IsAskedFor settings v6 nonce (datagram_of sending).bytes) sends

-- a gateway has sent a Request to this relay and awaits its Query (RFC 7450, section 5.2.3.5); the nonce
-- fits its field
pub record IsAsking (exchange : Exchange) (relay : Peer) : Type 0 where
  pub state : exchange.state ≡ Requesting
  pub relay_known : exchange.relay ≡ Some relay
  pub nonce_fits : exchange.nonce < 2 ^ 32

-- what is to be kept of the Query that answers the Request of this source with this nonce: the relay's
-- own interval and the time for which it lets a report count (RFC 3376, sections 8.2 and 8.4)
abbrev pub query_of_relay : Settings → Secret → EndpointValue → ℕ → LastQuery
query_of_relay settings secret source nonce = record {
  mac = mac_of secret source nonce;
  nonce = nonce;
  seen = gateway_named settings source;
  interval_seconds = settings.query_seconds;
  lifetime_ms = membership_interval_ms settings;
}
