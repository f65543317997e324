-- The datagrams that a relay sends, and what a gateway reads in them: each Query states the relay's lifetime.
use Rattle.std.{proofs.Common.{◌≡◌, ℕ, ◌+◌, ◌≤◌, ◌<◌, ◌^◌, Bool, true, false, List, [], ◌∷◌, ◌++◌, length, Option, Some, None, Ok, refl, sym, ap, ◌∙◌, arith, length-append}, specs.Option.{is_some}}
use Rattle.byteorder.specs.{Endian.{big_bytes}, Numbers.{length-bytes_high_first}}
use Rattle.amt_values.specs.{EndpointValue.{EndpointValue}, declared.{address.Ip.{Ip, TheVariants.{V4, V6}}, mac.Mac48.{Mac48}, peer.Peer.{Peer}}}
use Rattle.amt_messages.specs.{Layout.{named_gateway_octets, query_flags, spelling_of}, Messages.{IsGateway}, Refusal.{message_of}, declared.message.Message.{Message, TheVariants.{Advertisement, Query, Multicast}}}
use Rattle.inner_datagrams.specs.{declared.inner.InnerFault.{InnerFault}, Fault.{first_inner_fault}, Reading.{inner_at, payload_in}}
use Rattle.response_mac.specs.{ResponseMac.{mac_of}, declared.secret.Secret.{Secret}}
use Rattle.source_filter.specs.declared.query.QueryFields.{QueryFields}
use Rattle.socket_merge.specs.FullReport.{family_by}
use Rattle.endpoint_membership.specs.declared.limits.Limits.{Limits}
use Rattle.gateway_machine.specs.{General.{carried_query, general_query_in, unless_fault}, Timing.{lifetime_of}, declared.{event.GatewayEvent.TheVariants.{Datagram as Heard}, settings.GatewaySettings.{GatewaySettings}}}
use Rattle.relay_machine.{specs.{Queries.{gateway_named, general_query, query_fields, query_for, says_limited}, Settings.{AreLawfulSettings, membership_interval_ms}, declared.{sends.OneSend.{OneSend}, settings.Settings.{Settings}}}, proofs.QuerySizes.{general_query-limits, named-few, query_may_carry}}
use Rattle.amt_pair.{specs.Queries.{HasQuerySources}, proofs.{GatewaySteps.{States}, HeardQueries.{length-mac_of, query_for-read}, QueryTimes.{lifetime_of-query_fields}, ReadQueries.{general_query_in-general_query}, SpelledKinds.{kind_of, same-kind}}}

-- the inner octets are a General Query of the relay, of one family or the other
abbrev pub IsGeneral : Settings → List ℕ → Type 0
IsGeneral settings inner = (v6 : Bool) × (inner ≡ general_query settings v6)

-- a datagram that the relay sent: UDP carries it, and if it is read as a Query, it has the relay's General Query
pub record IsDown (settings : Settings) (send : OneSend) : Type 0 where
  pub short : length send.bytes ≤ 65535
  pub query : (limited : Bool) (mac : Mac48) (nonce : ℕ) (inner : List ℕ) (seen : Option EndpointValue)
      → message_of send.bytes ≡ Ok (Query limited mac nonce inner seen) → IsGeneral settings inner

-- whatever limits are in force: none is in a General Query
pub down-limits : (settings : Settings) (limits : Limits) (send : OneSend) → IsDown (record settings { limits = limits }) send → IsDown settings send
down-limits settings limits send down = record {
  short = down.short;
  query = λ limited mac nonce inner seen read.
      let own = down.query limited mac nonce inner seen read in
      (own.0, own.1 ∙ sym (general_query-limits settings limits own.0));
}

-- ---- what a gateway makes of it

one-family : (one other : Bool) (fault : Option InnerFault) (source destination : Ip) (payload : List ℕ) (fields others : QueryFields)
    → unless_fault fault (carried_query one source destination payload) ≡ Ok fields
    → unless_fault fault (carried_query other source destination payload) ≡ Ok others → one ≡ other
one-family one other (Some fault) source destination payload fields others first second = absurd cc
one-family false false None source destination payload fields others first second = refl
one-family true true None source destination payload fields others first second = refl
one-family false true None (V4 source) destination payload fields others first second = absurd cc
one-family false true None (V6 source) destination payload fields others first second = absurd cc
one-family true false None (V4 source) destination payload fields others first second = absurd cc
one-family true false None (V6 source) destination payload fields others first second = absurd cc

read-family : (one other : Bool) (inner : List ℕ) (fields others : QueryFields) → general_query_in one inner ≡ Ok fields → general_query_in other inner ≡ Ok others → one ≡ other
unfolding general_query_in
read-family one other inner fields others first second =
    one-family one other (first_inner_fault inner) (inner_at inner).source (inner_at inner).destination (payload_in inner) fields others first second

-- the General Query is read as its own fields, or not at all
read-fields : (settings : Settings) (own v6 : Bool) (inner : List ℕ) (fields : QueryFields) → AreLawfulSettings settings → HasQuerySources settings
    → inner ≡ general_query settings v6 → general_query_in own inner ≡ Ok fields → fields ≡ query_fields settings own
read-fields settings own v6 inner fields lawful sources is read =
    let written : general_query_in v6 inner ≡ Ok (query_fields settings v6) =
    ap (general_query_in v6) is ∙ general_query_in-general_query settings v6 lawful sources in
    let same : own ≡ v6 = read-family own v6 inner fields (query_fields settings v6) read written in
    let both : Ok fields ≡ Ok (query_fields settings v6) = sym read ∙ ap (λ (family : Bool). general_query_in family inner) same ∙ written in
    let fields_are : fields ≡ query_fields settings v6 = cc in
    fields_are ∙ ap (query_fields settings) (sym same)

-- a Query of the relay's datagrams states the relay's lifetime
pub states-down : (settings : Settings) (gateway : GatewaySettings) (send : OneSend) (from : Peer) → AreLawfulSettings settings → HasQuerySources settings → IsDown settings send
    → States (membership_interval_ms settings) gateway (Heard from send.bytes)
states-down settings gateway send from lawful sources down limited mac nonce inner seen fields read general =
    let own = down.query limited mac nonce inner seen read in
    ap (lifetime_of (family_by gateway.v6)) (read-fields settings gateway.v6 own.0 inner fields lawful sources own.1 general)
    ∙ lifetime_of-query_fields settings gateway.v6 lawful

-- ---- what the relay sends

-- another kind of message isn't read as a Query
no-query : (settings : Settings) (written : Message) (limited : Bool) (mac : Mac48) (nonce : ℕ) (inner : List ℕ) (seen : Option EndpointValue) → (kind_of written ≡ 4 → ⊥)
    → message_of (spelling_of written) ≡ Ok (Query limited mac nonce inner seen) → IsGeneral settings inner
no-query settings written limited mac nonce inner seen other is = absurd (other (same-kind written (Query limited mac nonce inner seen) is))

same-inner : (limited other_limited : Bool) (mac other_mac : Mac48) (nonce other_nonce : ℕ) (inner other_inner : List ℕ) (seen other_seen : Option EndpointValue)
    → Query limited mac nonce inner seen ≡ Query other_limited other_mac other_nonce other_inner other_seen → inner ≡ other_inner
same-inner limited other_limited mac other_mac nonce other_nonce inner other_inner seen other_seen same = ap inner_octets same
  where
    inner_octets : Message → List ℕ
    inner_octets (Query limited mac nonce inner seen) = inner
    inner_octets message = []

four-octets : (number : ℕ) → length (big_bytes 4 number) ≡ 4
four-octets number = length-bytes_high_first 4 number

pub down-advertisement : (settings : Settings) (to : EndpointValue) (nonce : ℕ) (relay : Ip) → IsDown settings (record { to = to; bytes = spelling_of (Advertisement nonce relay) })
down-advertisement settings to nonce (V4 address) = record {
  short = omega (arith, four-octets nonce, length-append (big_bytes 4 nonce) (big_bytes 4 address), four-octets address);
  query = λ limited mac other inner seen. no-query settings (Advertisement nonce (V4 address)) limited mac other inner seen (λ same. omega arith);
}
down-advertisement settings to nonce (V6 address) = record {
  short = omega (arith, four-octets nonce, length-append (big_bytes 4 nonce) (big_bytes 16 address), length-bytes_high_first 16 address);
  query = λ limited mac other inner seen. no-query settings (Advertisement nonce (V6 address)) limited mac other inner seen (λ same. omega arith);
}

query-length : (mac : List ℕ) (nonce : ℕ) (inner rest : List ℕ) (flags : ℕ) → length mac ≡ 6
    → length (4 ∷ flags ∷ (mac ++ big_bytes 4 nonce ++ inner ++ rest)) ≡ 12 + length inner + length rest
query-length mac nonce inner rest flags six =
    let size = four-octets nonce in
    let first = length-append mac (big_bytes 4 nonce) in
    let second = length-append (mac ++ big_bytes 4 nonce) inner in
    let third = length-append (mac ++ big_bytes 4 nonce ++ inner) rest in
    omega arith

pub down-query : (settings : Settings) (secret : Secret) (v6 limited : Bool) (source : EndpointValue) (nonce : ℕ) → nonce < 2 ^ 32 → IsGateway source
    → IsDown settings (record { to = source; bytes = spelling_of (query_for settings secret v6 limited source nonce) })
down-query settings secret v6 limited source nonce small form =
    let mac = mac_of secret source nonce in
    let inner = general_query settings v6 in
    let fits = (query_may_carry inner settings v6 18 (omega arith) refl).1 in
    let seen = gateway_named settings source in
    let says = says_limited settings limited in
    let tail = named-few settings source in
    let size = query-length mac.0 nonce inner (named_gateway_octets seen) (query_flags says (is_some seen)) (length-mac_of secret source nonce) in
    let written = query_for-read settings secret v6 limited source nonce small form in
    record {
      short = omega arith;
      query = λ other_limited other_mac other_nonce other_inner other_seen is.
          let both : Ok (Query says mac nonce inner seen) ≡ Ok (Query other_limited other_mac other_nonce other_inner other_seen) = sym written ∙ is in
          let same : Query says mac nonce inner seen ≡ Query other_limited other_mac other_nonce other_inner other_seen = cc in
          (v6, sym (same-inner says other_limited mac other_mac nonce other_nonce inner other_inner seen other_seen same));
    }

pub down-copy : (settings : Settings) (to : EndpointValue) (packet : List ℕ) → length packet ≤ 65000 → IsDown settings (record { to = to; bytes = spelling_of (Multicast packet) })
down-copy settings to packet few = record {
  short = omega arith;
  query = λ limited mac nonce inner seen. no-query settings (Multicast packet) limited mac nonce inner seen (λ same. omega arith);
}
