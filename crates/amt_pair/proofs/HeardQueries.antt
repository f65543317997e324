-- A gateway accepts the Query that its relay sends for its Request.
use Rattle.std.{proofs.{Common.{◌≡◌, ℕ, ◌<◌, ◌^◌, eqb, eqb-true, Bool, true, List, length, Option, Some, Result, Ok, refl, ap, ◌∙◌, arith, length-take-le}, lemmas.{Bool.{and_parts, cond_both, eq-eqb}, Cmp.{eq_by_cmp_equiv}, Map.Views.{tells_apart}}}, specs.Ordering.{eq_by_cmp}}
use Rattle.sha2.proofs.Facts256.{length-sha256}
use Rattle.amt_values.{specs.{EndpointValue.{EndpointValue}, Order.{ip_order}, declared.peer.Peer.{Peer}}, proofs.Orders.{ip_order-exact, ip_order-total}}
use Rattle.amt_messages.{specs.{Layout.{spelling_of}, Messages.{IsGateway, IsNamedGateway}, Refusal.{message_of}, declared.{message.Message.{Message}, refusal.Refused.{Refused}}}, proofs.{Spelled.{spelled_is_read}, Written.{written_query}}}
use Rattle.response_mac.specs.{Hmac.{hmac_of}, ResponseMac.{authenticated_octets, mac_of}, declared.secret.Secret.{Secret}}
use Rattle.source_filter.specs.declared.query.QueryFields.{QueryFields}
use Rattle.socket_merge.specs.History.{AcceptedCall}
use Rattle.gateway_machine.specs.{declared.{event.GatewayEvent.TheVariants.{Datagram}, exchange.Exchange.{Exchange}, outcome.Ignored.{Ignored}, settings.GatewaySettings.{GatewaySettings}}, Answers.{Answer, asked_relay, datagram_answer, event_answer, fields_heard, query_accepted, query_by, query_kept, same_peer}}
use Rattle.relay_machine.{specs.{declared.settings.Settings.{Settings}, Queries.{gateway_named, general_query, query_fields, query_for, says_limited}, Settings.{AreLawfulSettings}}, proofs.QuerySizes.{query_may_carry}}
use Rattle.amt_pair.{specs.Queries.{HasQuerySources, IsAsking, query_of_relay}, proofs.{QueryTimes.{interval_of-query_fields, lifetime_of-query_fields}, ReadQueries.{general_query_in-general_query}}}

-- a digest of HMAC, of 32 octets, has the six of a MAC
pub length-mac_of : (secret : Secret) (endpoint : EndpointValue) (nonce : ℕ) → length (mac_of secret endpoint nonce).0 ≡ 6
unfolding mac_of hmac_of
length-mac_of secret endpoint nonce =
    let digest = hmac_of secret.0 (authenticated_octets endpoint nonce) in
    let size : length digest ≡ 32 = length-sha256 _ in
    length-take-le 6 digest (omega arith)

-- the gateway that it names is in its one form
pub named-form : (settings : Settings) (source : EndpointValue) → IsGateway source → IsNamedGateway (gateway_named settings source)
named-form settings source form = cond_both settings.linux_gateways _ _ IsNamedGateway (λ _. tt) (λ _. form)

-- the datagram that a relay writes spells its Query
pub query_for-read : (settings : Settings) (secret : Secret) (v6 limited : Bool) (source : EndpointValue) (nonce : ℕ) → nonce < 2 ^ 32 → IsGateway source
    → message_of (spelling_of (query_for settings secret v6 limited source nonce)) ≡ Ok (query_for settings secret v6 limited source nonce)
query_for-read settings secret v6 limited source nonce small form =
    let query = query_for settings secret v6 limited source nonce in
    let mac = mac_of secret source nonce in
    let inner = general_query settings v6 in
    let whole = (query_may_carry inner settings v6 18 (omega arith) refl).0 in
    spelled_is_read query (spelling_of query)
    (written_query (says_limited settings limited) mac nonce inner (gateway_named settings source) (spelling_of query) (length-mac_of secret source nonce) small (named-form settings source form) whole refl).spelled

-- a peer is told to be itself
pub same_peer-itself : (peer : Peer) → same_peer peer peer ≡ true
same_peer-itself peer =
    let ip : eq_by_cmp ip_order peer.ip peer.ip ≡ true = (eq_by_cmp_equiv ip_order-total).refl peer.ip in
    rw ip (eq-eqb peer.port peer.port refl)

-- and peers that are told to be one are one
pub same_peer-is : (one other : Peer) → same_peer one other ≡ true → one ≡ other
same_peer-is one other same =
    let parts = and_parts (eq_by_cmp ip_order one.ip other.ip) (eqb one.port other.port) same in
    let ip : one.ip ≡ other.ip = tells_apart ip_order-exact one.ip other.ip parts.0 in
    let port : one.port ≡ other.port = eqb-true one.port other.port parts.1 in
    λ i. record { ip = ip i; port = port i }

-- a Query that came from the relay of whom it is awaited, with the nonce in use, is heeded
pub fields_heard-general_query : (settings : Settings) (v6 : Bool) (exchange : Exchange) (relay : Peer) (nonce : ℕ) → AreLawfulSettings settings
    → HasQuerySources settings → exchange.nonce ≡ nonce
    → fields_heard (Some relay) v6 exchange relay nonce (general_query settings v6) ≡ Ok (query_fields settings v6)
fields_heard-general_query settings v6 exchange relay nonce lawful sources same =
    let peer = same_peer-itself relay in
    let current = eq-eqb exchange.nonce nonce same in
    rw (peer, current) (general_query_in-general_query settings v6 lawful sources)

-- what is kept of it has the relay's own times
query_kept-of_relay : (settings : Settings) (gateway : GatewaySettings) (secret : Secret) (source : EndpointValue) (nonce : ℕ) → AreLawfulSettings settings
    → query_kept gateway (mac_of secret source nonce) nonce (gateway_named settings source) (query_fields settings gateway.v6) ≡ query_of_relay settings secret source nonce
query_kept-of_relay settings gateway secret source nonce lawful =
    let interval = interval_of-query_fields settings gateway.v6 lawful in
    let lifetime = lifetime_of-query_fields settings gateway.v6 lawful in λ i. record {
      mac = mac_of secret source nonce;
      nonce = nonce;
      seen = gateway_named settings source;
      interval_seconds = interval i;
      lifetime_ms = lifetime i;
    }

pub query_for-accepted : (settings : Settings) (secret : Secret) (limited : Bool) (source : EndpointValue)
    (gateway : GatewaySettings) (exchange : Exchange) (history : List AcceptedCall) (relay : Peer)
    → AreLawfulSettings settings → HasQuerySources settings → IsGateway source → IsAsking exchange relay
    → event_answer gateway exchange history (Datagram relay (spelling_of (query_for settings secret gateway.v6 limited source exchange.nonce)))
    ≡ query_accepted gateway exchange history (query_of_relay settings secret source exchange.nonce)
query_for-accepted settings secret limited source gateway exchange history relay lawful sources form asking =
    let nonce = exchange.nonce in
    let mac = mac_of secret source nonce in
    let read = query_for-read settings secret gateway.v6 limited source nonce asking.nonce_fits form in
    let asked : asked_relay exchange.state exchange.relay ≡ Some relay = rw (asking.state, asking.relay_known) refl in
    let heard = fields_heard-general_query settings gateway.v6 exchange relay nonce lawful sources refl in
    let answer : Result QueryFields Ignored → Answer = λ fields. query_by fields gateway exchange history mac nonce (gateway_named settings source) in
    ap (λ (reading : Result Message Refused). datagram_answer gateway exchange history relay reading) read
    ∙ ap (λ (known : Option Peer). answer (fields_heard known gateway.v6 exchange relay nonce (general_query settings gateway.v6))) asked
    ∙ ap answer heard
    ∙ ap (query_accepted gateway exchange history) (query_kept-of_relay settings gateway secret source nonce lawful)
