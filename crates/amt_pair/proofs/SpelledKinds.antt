-- What is read of the octets that spell a message: it is of the message's own type.
use Rattle.std.proofs.{Common.{◌≡◌, ℕ, ◌%◌, ◌<◌, ◌≤◌, ◌^◌, Bool, true, false, if◌then◌else◌, List, [], ◌++◌, drop, length, slice_index, take, Option, Some, None, Ok, refl, sym, ap, subst, ◌∙◌, arith, length-take-le, length-drop, append-nil, append_assoc}, Math.Nat.{div-eq_of_lt, mod-lt}, lemmas.{Bool.{or_parts}, List.{drop-drop, drop_at}}}
use Rattle.byteorder.specs.{Endian.{big_bytes, big_number}, Numbers.{big_from-bytes, length-bytes_high_first}}
use Rattle.amt_values.specs.{Address.{IsAddress, has_ipv4_prefix, is_compatible, is_mapped, number_of}, Endpoint.{endpoint_of}, EndpointValue.{EndpointValue}, declared.{address.Ip.{Ip, TheVariants.{V4, V6}}, mac.Mac48.{Mac48}, peer.Peer.{Peer}}}
use Rattle.amt_messages.{specs.{Layout.{Spells, spelling_of}, Messages.{IsGateway}, Refusal.{message_of}, declared.message.Message.{Message, TheVariants.{Discovery, Advertisement, Request, Query, Update, Multicast, Teardown}}}, proofs.Unrefused.{read_is_spelled}}
use Rattle.gateway_machine.specs.Sends.{octets_of}
use Rattle.amt_pair.specs.Setup.{IsPeer}

-- the number of a message's type
abbrev pub kind_of : Message → ℕ
kind_of (Discovery nonce) = 1
kind_of (Advertisement nonce relay) = 2
kind_of (Request v6 nonce) = 3
kind_of (Query limited mac nonce inner seen) = 4
kind_of (Update mac nonce inner) = 5
kind_of (Multicast packet) = 6
kind_of (Teardown mac nonce gateway) = 7

spelled-kind : (message : Message) (bytes : List ℕ) → Spells message bytes → slice_index bytes 0 ≡ kind_of message
spelled-kind (Advertisement nonce (V4 address)) bytes spells = spells.kind.first
spelled-kind (Advertisement nonce (V6 address)) bytes spells = spells.kind.first
spelled-kind (Query limited mac nonce inner (Some endpoint)) bytes spells = spells.0.kind.first
spelled-kind (Query limited mac nonce inner None) bytes spells = spells.kind.first
spelled-kind message bytes spells = spells.kind.first

spelling-kind : (message : Message) → slice_index (spelling_of message) 0 ≡ kind_of message
spelling-kind (Discovery nonce) = refl
spelling-kind message = refl

-- what is read of a spelling is of the type that was written
pub same-kind : (written read : Message) → message_of (spelling_of written) ≡ Ok read → kind_of written ≡ kind_of read
same-kind written read is = sym (spelling-kind written) ∙ spelled-kind read (spelling_of written) (read_is_spelled (spelling_of written) read is)

-- so is what is read of a gateway's message, for a Linux relay or another
sent-kind : (written : Message) (for_linux : Bool) → slice_index (octets_of written for_linux) 0 ≡ kind_of written
sent-kind (Request true nonce) true = refl
sent-kind (Request true nonce) false = refl
sent-kind (Request false nonce) for_linux = refl
sent-kind (Discovery nonce) for_linux = refl
sent-kind message for_linux = refl

pub same-sent : (written : Message) (for_linux : Bool) (read : Message) → message_of (octets_of written for_linux) ≡ Ok read → kind_of written ≡ kind_of read
same-sent written for_linux read is =
    let octets = octets_of written for_linux in sym (sent-kind written for_linux) ∙ spelled-kind read octets (read_is_spelled octets read is)

-- the nonce that is read of a Request has 32 bits
request-tail : (v6 for_linux : Bool) (nonce : ℕ) → drop 4 (octets_of (Request v6 nonce) for_linux) ≡ big_bytes 4 nonce
request-tail true true nonce = refl
request-tail true false nonce = refl
request-tail false for_linux nonce = refl

request-nonce : (written : Message) (for_linux : Bool) (nonce : ℕ) → kind_of written ≡ 3 → nonce ≡ big_number 4 (drop 4 (octets_of written for_linux)) → nonce < 2 ^ 32
request-nonce (Request v6 written) for_linux nonce kind field =
    let back = ap (big_number 4) (request-tail v6 for_linux written ∙ sym (append-nil (big_bytes 4 written))) ∙ big_from-bytes 4 written [] in
    let small : written % 256 ^ 4 < 256 ^ 4 = mod-lt written (omega arith) in
    let whole : nonce ≡ written % 256 ^ 4 = field ∙ back in
    omega arith
request-nonce written for_linux nonce kind field = absurd (omega arith)

pub small-nonce : (written : Message) (for_linux v6 : Bool) (nonce : ℕ) → message_of (octets_of written for_linux) ≡ Ok (Request v6 nonce) → nonce < 2 ^ 32
small-nonce written for_linux v6 nonce is =
    request-nonce written for_linux nonce (same-sent written for_linux (Request v6 nonce) is)
    (read_is_spelled (octets_of written for_linux) (Request v6 nonce) is).nonce_field

-- the inner octets of an Update, whose MAC has its six octets, are read as they were written
pub update-inner : (mac other : Mac48) (nonce other_nonce : ℕ) (inner other_inner : List ℕ) → length mac.0 ≡ 6
    → message_of (spelling_of (Update mac nonce inner)) ≡ Ok (Update other other_nonce other_inner) → other_inner ≡ inner
update-inner mac other nonce other_nonce inner other_inner six is =
    let bytes = spelling_of (Update mac nonce inner) in
    let after_mac : drop 8 bytes ≡ big_bytes 4 nonce ++ inner =
    ap (drop 6) (append_assoc mac.0 (big_bytes 4 nonce) inner) ∙ drop_at mac.0 (big_bytes 4 nonce ++ inner) 6 six in
    let after_nonce : drop 12 bytes ≡ inner = sym (drop-drop 4 8 bytes) ∙ (ap (drop 4) after_mac ∙ drop_at (big_bytes 4 nonce) inner 4 (length-bytes_high_first 4 nonce)) in
    (read_is_spelled bytes (Update other other_nonce other_inner) is).inner_field ∙ after_nonce

six-octets : (mac : Mac48) (bytes : List ℕ) → 12 ≤ length bytes → mac.0 ≡ take 6 (drop 2 bytes) → length mac.0 ≡ 6
six-octets mac bytes enough field =
    ap (λ (octets : List ℕ). length octets) field ∙ length-take-le 6 (drop 2 bytes) (omega (arith, length-drop 2 bytes))

-- the MAC of a Query has six octets
pub query-mac : (limited : Bool) (mac : Mac48) (nonce : ℕ) (inner : List ℕ) (seen : Option EndpointValue) (bytes : List ℕ) → Spells (Query limited mac nonce inner seen) bytes
    → length mac.0 ≡ 6
query-mac limited mac nonce inner None bytes spells = six-octets mac bytes (let size = spells.kind.octets in omega arith) spells.mac_field
query-mac limited mac nonce inner (Some endpoint) bytes spells = six-octets mac bytes (let size = spells.0.kind.octets in omega arith) spells.0.mac_field

-- ---- the endpoint of a peer

number-fits : (ip : Ip) → IsAddress ip → number_of ip < 2 ^ 128
number-fits (V4 number) small = omega arith
number-fits (V6 number) small = small

unmapped : (ip : Ip) → IsAddress ip → has_ipv4_prefix ip ≡ false → is_mapped (number_of ip) ≡ false
unmapped (V4 number) small apart = let high = div-eq_of_lt small in rw high refl
unmapped (V6 number) small apart = (or_parts (is_compatible number) (is_mapped number) apart).1

abbrev tunnel_at : Peer → EndpointValue
tunnel_at peer = record { address = number_of peer.ip; port = peer.port }

gateway-by : (prefixed : Bool) (peer : Peer) (endpoint : EndpointValue) → IsPeer peer → has_ipv4_prefix peer.ip ≡ prefixed
    → (if prefixed then None else Some (tunnel_at peer)) ≡ Some endpoint → IsGateway endpoint
gateway-by true peer endpoint peer_is prefix is = absurd cc
gateway-by false peer endpoint peer_is prefix is =
    let same : tunnel_at peer ≡ endpoint = cc in
    subst IsGateway same (number-fits peer.ip peer_is.address, peer_is.port, unmapped peer.ip peer_is.address prefix)

-- a peer's endpoint is in its one form
pub gateway-of : (peer : Peer) (endpoint : EndpointValue) → IsPeer peer → endpoint_of peer ≡ Some endpoint → IsGateway endpoint
gateway-of peer endpoint peer_is is = gateway-by (has_ipv4_prefix peer.ip) peer endpoint peer_is refl is
