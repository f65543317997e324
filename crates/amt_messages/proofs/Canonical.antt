-- A message has one canonical spelling.
use Rattle.std.{proofs.{Common.{◌≡◌, ℕ, ◌+◌, ◌/◌, ◌<◌, ◌≤◌, Bool, true, false, cond, eqb, List, [], ◌∷◌, ◌++◌, length, take, drop, slice_index, Option, Some, None, refl, sym, ap, ◌∙◌, arith, append_assoc, take-append-drop, length-drop, rules}, lemmas.{List.{append-nil, drop-drop, drop_all, take_all}, Nat.Bits.{bit_at-lt, bit_at_lowest}}}, specs.{Int.{bit_at}, Option.{is_some}}}
use Rattle.byteorder.specs.Endian.{big_number, big_bytes}
use Rattle.amt_values.{proofs.NetworkOrder.{AreOctets-drop, bytes_high_first-big_from, bytes_high_first-take}, specs.{Octets.{AreOctets}, Address.{is_mapped}, EndpointValue.{EndpointValue}, declared.{address.Ip.TheVariants.{V4, V6}, mac.Mac48.{Mac48}}}}
use Rattle.amt_messages.specs.{declared.message.Message.{Message, TheVariants.{Discovery, Advertisement, Request, Query, Update, Multicast, Teardown}}, Layout.{IsCanonical, IsAdvertisement, IsQuery, gateway_address, gateway_port, gateway_at, gateway_octets, named_gateway_octets, query_flags, request_flags, spelling_of}}

-- the first octet, three more, and the rest
first_four : (kind : ℕ) (bytes : List ℕ) → 4 ≤ length bytes → slice_index bytes 0 ≡ kind → take 3 (drop 1 bytes) ≡ 0 ∷ 0 ∷ 0 ∷ []
    → bytes ≡ kind ∷ 0 ∷ 0 ∷ 0 ∷ drop 4 bytes
first_four kind [] enough first reserved = absurd (omega arith)
first_four kind (a ∷ []) enough first reserved = absurd (omega arith)
first_four kind (a ∷ b ∷ []) enough first reserved = absurd (omega arith)
first_four kind (a ∷ b ∷ c ∷ []) enough first reserved = absurd (omega arith)
first_four kind (a ∷ b ∷ c ∷ d ∷ rest) enough first reserved =
    let second : b ≡ 0 = cc in
    let third : c ≡ 0 = cc in
    let fourth : d ≡ 0 = cc in
    rw (first, second, third, fourth) refl

-- octets from a place on are a part of them and those from its end on
cut : (n place : ℕ) (bytes : List ℕ) → drop place bytes ≡ take n (drop place bytes) ++ drop (place + n) bytes
cut n place bytes = sym (take-append-drop n (drop place bytes)) ∙ ap (λ (xs : List ℕ). take n (drop place bytes) ++ xs) (drop-drop n place bytes)

-- the first two octets, and the rest
first_two : (kind flags : ℕ) (bytes : List ℕ) → 2 ≤ length bytes → slice_index bytes 0 ≡ kind → slice_index bytes 1 ≡ flags
    → bytes ≡ kind ∷ flags ∷ drop 2 bytes
first_two kind flags [] enough first second = absurd (omega arith)
first_two kind flags (a ∷ []) enough first second = absurd (omega arith)
first_two kind flags (a ∷ b ∷ rest) enough first second = rw (first, second) refl

-- the first octet, the flags, two octets more, and the rest
first_four_flagged : (kind flags : ℕ) (bytes : List ℕ) → 4 ≤ length bytes → slice_index bytes 0 ≡ kind → slice_index bytes 1 ≡ flags
    → take 2 (drop 2 bytes) ≡ 0 ∷ 0 ∷ [] → bytes ≡ kind ∷ flags ∷ 0 ∷ 0 ∷ drop 4 bytes
first_four_flagged kind flags bytes enough first second reserved =
    first_two kind flags bytes (omega arith) first second
    ∙ ap (λ (rest : List ℕ). kind ∷ flags ∷ rest) (cut 2 2 bytes ∙ ap (λ (xs : List ℕ). xs ++ drop 4 bytes) reserved)

-- an address of so many octets stands after the nonce, and nothing after it
advertised : (nonce address octets : ℕ) (bytes : List ℕ) → AreOctets bytes → IsAdvertisement nonce address octets bytes
    → drop 4 bytes ≡ big_bytes 4 nonce ++ big_bytes octets address
advertised nonce address octets bytes small h =
    let size = h.kind.octets in
    let enough : 4 ≤ length (drop 4 bytes) = omega (arith, length-drop 4 bytes) in
    let len : length (drop 8 bytes) ≡ octets = omega (arith, length-drop 8 bytes) in
    let prefix = bytes_high_first-take 4 (drop 4 bytes) enough (AreOctets-drop 4 bytes small) in
    let back = bytes_high_first-big_from octets (drop 8 bytes) len (AreOctets-drop 8 bytes small) in
    let after : drop 4 (drop 4 bytes) ≡ drop 8 bytes = search rules in
    let nonce_is : big_bytes 4 nonce ≡ take 4 (drop 4 bytes) = ap (λ (n : ℕ). big_bytes 4 n) h.nonce_field ∙ prefix in
    let address_is : big_bytes octets address ≡ drop 8 bytes = ap (λ (n : ℕ). big_bytes octets n) h.address_field ∙ back in
    sym (take-append-drop 4 (drop 4 bytes))
    ∙ (ap (λ (xs : List ℕ). xs ++ drop 4 (drop 4 bytes)) (sym nonce_is)
    ∙ ap (λ (xs : List ℕ). big_bytes 4 nonce ++ xs) (after ∙ sym address_is))

-- a flag is its bit
flag_bit : (flag : Bool) (bit : ℕ) → bit < 2 → flag ≡ eqb bit 1 → bit ≡ cond flag 1 0
flag_bit flag bit small is = grind arith

doubled : (flag : Bool) → cond flag 2 0 ≡ cond flag 1 0 + cond flag 1 0
doubled true = refl
doubled false = refl

-- the flags are all that the second octet of a Request has, where its reserved bits are zero
request_flags-of : (octet : ℕ) (v6 : Bool) → v6 ≡ eqb (bit_at octet 0) 1 → octet / 2 ≡ 0 → octet ≡ request_flags v6
request_flags-of octet v6 p_flag reserved =
    let lowest = bit_at_lowest octet in
    let p = flag_bit v6 (bit_at octet 0) (bit_at-lt octet 0) p_flag in
    omega arith

-- and those of a Query
query_flags-of : (octet : ℕ) (limited named : Bool) → limited ≡ eqb (bit_at octet 1) 1 → named ≡ eqb (bit_at octet 0) 1 → octet / 4 ≡ 0
    → octet ≡ query_flags limited named
query_flags-of octet limited named l_flag g_flag reserved =
    let lowest = bit_at_lowest octet in
    let l = flag_bit limited (bit_at octet 1) (bit_at-lt octet 1) l_flag in
    let g = flag_bit named (bit_at octet 0) (bit_at-lt octet 0) g_flag in
    let twice = doubled limited in
    omega arith

-- the gateway's port and address are all that follows the inner datagram
gateway_after_inner : (endpoint : EndpointValue) (inner : ℕ) (bytes : List ℕ) → AreOctets bytes → length bytes ≡ 12 + inner + 18
    → endpoint ≡ gateway_at inner bytes → is_mapped (gateway_address inner bytes) ≡ false → drop (12 + inner) bytes ≡ gateway_octets endpoint
gateway_after_inner endpoint inner bytes small octets names form =
    let port_there : 2 ≤ length (drop (12 + inner) bytes) = omega (arith, length-drop (12 + inner) bytes) in
    let len : length (drop (14 + inner) bytes) ≡ 16 = omega (arith, length-drop (14 + inner) bytes) in
    let port = bytes_high_first-take 2 (drop (12 + inner) bytes) port_there (AreOctets-drop (12 + inner) bytes small) in
    let address = bytes_high_first-big_from 16 (drop (14 + inner) bytes) len (AreOctets-drop (14 + inner) bytes small) in
    let place : 12 + inner + 2 ≡ 14 + inner = omega arith in
    let one_form : endpoint.address ≡ gateway_address inner bytes = ap (λ (t : EndpointValue). t.address) names ∙ rw form refl in
    let port_is : endpoint.port ≡ gateway_port inner bytes = ap (λ (t : EndpointValue). t.port) names in
    cut 2 (12 + inner) bytes
    ∙ (ap (λ (xs : List ℕ). xs ++ drop (12 + inner + 2) bytes) (sym port ∙ ap (λ (n : ℕ). big_bytes 2 n) (sym port_is))
    ∙ ap (λ (xs : List ℕ). big_bytes 2 endpoint.port ++ xs)
    (ap (λ (n : ℕ). drop n bytes) place ∙ (sym address ∙ ap (λ (n : ℕ). big_bytes 16 n) (sym one_form))))

-- the parts of a Query, an Update or a Teardown after the first two octets
query_parts : (mac : Mac48) (nonce : ℕ) (inner tail bytes : List ℕ) → AreOctets bytes → 12 ≤ length bytes
    → mac.0 ≡ take 6 (drop 2 bytes) → nonce ≡ big_number 4 (drop 8 bytes) → inner ≡ take (length inner) (drop 12 bytes)
    → drop (12 + length inner) bytes ≡ tail → drop 2 bytes ≡ mac.0 ++ big_bytes 4 nonce ++ inner ++ tail
query_parts mac nonce inner tail bytes small enough mac_field nonce_field inner_field after =
    let nonce_there : 4 ≤ length (drop 8 bytes) = omega (arith, length-drop 8 bytes) in
    let octets = bytes_high_first-take 4 (drop 8 bytes) nonce_there (AreOctets-drop 8 bytes small) in
    let nonce_is : take 4 (drop 8 bytes) ≡ big_bytes 4 nonce = sym octets ∙ ap (λ (n : ℕ). big_bytes 4 n) (sym nonce_field) in
    let three : drop 12 bytes ≡ inner ++ tail = cut (length inner) 12 bytes
    ∙ (ap (λ (xs : List ℕ). xs ++ drop (12 + length inner) bytes) (sym inner_field) ∙ ap (λ (xs : List ℕ). inner ++ xs) after) in
    let two : drop 8 bytes ≡ big_bytes 4 nonce ++ (inner ++ tail) = cut 4 8 bytes
    ∙ (ap (λ (xs : List ℕ). xs ++ drop 12 bytes) nonce_is ∙ ap (λ (xs : List ℕ). big_bytes 4 nonce ++ xs) three) in
    let one : drop 2 bytes ≡ mac.0 ++ (big_bytes 4 nonce ++ (inner ++ tail)) = cut 6 2 bytes
    ∙ (ap (λ (xs : List ℕ). xs ++ drop 8 bytes) (sym mac_field) ∙ ap (λ (xs : List ℕ). mac.0 ++ xs) two) in
    one ∙ sym (append_assoc (mac.0 ++ big_bytes 4 nonce) inner tail ∙ append_assoc mac.0 (big_bytes 4 nonce) (inner ++ tail))

canonical_query : (limited : Bool) (mac : Mac48) (nonce : ℕ) (inner : List ℕ) (seen : Option EndpointValue) (bytes : List ℕ) → AreOctets bytes
    → IsQuery limited (is_some seen) mac nonce inner bytes → slice_index bytes 1 / 4 ≡ 0 → 12 + length inner ≤ length bytes
    → drop (12 + length inner) bytes ≡ named_gateway_octets seen → bytes ≡ spelling_of (Query limited mac nonce inner seen)
canonical_query limited mac nonce inner seen bytes small h reserved enough after =
    let flags = query_flags-of (slice_index bytes 1) limited (is_some seen) h.l_flag h.g_flag reserved in
    first_two 4 (query_flags limited (is_some seen)) bytes (omega arith) h.kind.first flags
    ∙ ap (λ (rest : List ℕ). 4 ∷ query_flags limited (is_some seen) ∷ rest)
    (query_parts mac nonce inner (named_gateway_octets seen) bytes small (omega arith) h.mac_field h.nonce_field h.inner_field after)

pub canonical_once : (message : Message) (bytes : List ℕ) → AreOctets bytes → IsCanonical message bytes → bytes ≡ spelling_of message
canonical_once (Discovery nonce) bytes small h =
    let size = h.spelled.kind.octets in
    let enough : 4 ≤ length bytes = omega arith in
    let len : length (drop 4 bytes) ≡ 4 = omega (arith, length-drop 4 bytes) in
    let field = bytes_high_first-big_from 4 (drop 4 bytes) len (AreOctets-drop 4 bytes small) in
    first_four 1 bytes enough h.spelled.kind.first h.reserved
    ∙ ap (λ (rest : List ℕ). 1 ∷ 0 ∷ 0 ∷ 0 ∷ rest) (sym field ∙ sym (ap (λ (n : ℕ). big_bytes 4 n) h.spelled.nonce_field))
canonical_once (Advertisement nonce (V4 address)) bytes small h =
    let size = h.spelled.kind.octets in
    let enough : 4 ≤ length bytes = omega arith in
    first_four 2 bytes enough h.spelled.kind.first h.reserved
    ∙ ap (λ (rest : List ℕ). 2 ∷ 0 ∷ 0 ∷ 0 ∷ rest) (advertised nonce address 4 bytes small h.spelled)
canonical_once (Advertisement nonce (V6 address)) bytes small h =
    let size = h.spelled.kind.octets in
    let enough : 4 ≤ length bytes = omega arith in
    first_four 2 bytes enough h.spelled.kind.first h.reserved
    ∙ ap (λ (rest : List ℕ). 2 ∷ 0 ∷ 0 ∷ 0 ∷ rest) (advertised nonce address 16 bytes small h.spelled)
canonical_once (Request v6 nonce) bytes small h =
    let size = h.spelled.kind.octets in
    let enough : 4 ≤ length bytes = omega arith in
    let len : length (drop 4 bytes) ≡ 4 = omega (arith, length-drop 4 bytes) in
    let field = bytes_high_first-big_from 4 (drop 4 bytes) len (AreOctets-drop 4 bytes small) in
    let flags = request_flags-of (slice_index bytes 1) v6 h.spelled.p_flag h.reserved.0 in
    first_four_flagged 3 (request_flags v6) bytes enough h.spelled.kind.first flags h.reserved.1
    ∙ ap (λ (rest : List ℕ). 3 ∷ request_flags v6 ∷ 0 ∷ 0 ∷ rest)
    (sym field ∙ sym (ap (λ (n : ℕ). big_bytes 4 n) h.spelled.nonce_field))
canonical_once (Query limited mac nonce inner None) bytes small h =
    let size = h.spelled.kind.octets in
    canonical_query limited mac nonce inner None bytes small h.spelled h.reserved (omega arith) (drop_all (12 + length inner) bytes (omega arith))
canonical_once (Query limited mac nonce inner (Some endpoint)) bytes small h =
    let size = h.spelled.0.kind.octets in
    canonical_query limited mac nonce inner (Some endpoint) bytes small h.spelled.0 h.reserved (omega arith)
    (gateway_after_inner endpoint (length inner) bytes small size h.spelled.1 h.address_form)
canonical_once (Update mac nonce inner) bytes small h =
    let size = h.spelled.kind.octets in
    let rest : length (drop 12 bytes) ≡ length inner = omega (arith, length-drop 12 bytes) in
    let inner_field = h.spelled.inner_field ∙ sym (take_all (length inner) (drop 12 bytes) (omega arith)) in
    let parts = query_parts mac nonce inner [] bytes small (omega arith) h.spelled.mac_field h.spelled.nonce_field inner_field
    (drop_all (12 + length inner) bytes (omega arith)) in
    first_two 5 0 bytes (omega arith) h.spelled.kind.first h.reserved
    ∙ ap (λ (rest : List ℕ). 5 ∷ 0 ∷ rest) (parts ∙ append-nil (mac.0 ++ big_bytes 4 nonce ++ inner))
canonical_once (Multicast packet) bytes small h =
    let size = h.spelled.kind.octets in
    first_two 6 0 bytes (omega arith) h.spelled.kind.first h.reserved ∙ ap (λ (rest : List ℕ). 6 ∷ 0 ∷ rest) (sym h.spelled.packet_field)
canonical_once (Teardown mac nonce gateway) bytes small h =
    let size = h.spelled.kind.octets in
    let tail = gateway_octets gateway in
    let after = gateway_after_inner gateway 0 bytes small size h.spelled.gateway_field h.address_form in
    let parts = query_parts mac nonce [] tail bytes small (omega arith) h.spelled.mac_field h.spelled.nonce_field refl after in
    first_two 7 0 bytes (omega arith) h.spelled.kind.first h.reserved
    ∙ ap (λ (rest : List ℕ). 7 ∷ 0 ∷ rest) (parts ∙ ap (λ (prefix : List ℕ). prefix ++ tail) (append-nil (mac.0 ++ big_bytes 4 nonce)))
