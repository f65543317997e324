-- Which octets spell which message. Reserved bits are not spoken of, so a reader ignores them.
use Rattle.std.specs.{Prelude.{◌≡◌, ℕ, ◌+◌, ◌/◌, ◌==◌, Bool, true, false, List, [], ◌∷◌, ◌++◌, length, drop, take, slice_index, Option, Some, None, is_some, if◌then◌else◌}, Int.{bit_at}}
use Rattle.amt_values.specs.{Address.{is_mapped}, Endpoint.{endpoint_named}, EndpointValue.{EndpointValue}, declared.{address.Ip.{Ip, TheVariants.{V4, V6}}, mac.Mac48.{Mac48}}}
use Rattle.byteorder.specs.Endian.{big_number, big_bytes}
use Rattle.amt_messages.specs.{StatedLength.{inner_length_of}, declared.message.Message.{Message, TheVariants.{Discovery, Advertisement, Request, Query, Update, Multicast, Teardown}}}

-- so many octets, of which the first has this type and version 0 (RFC 7450, section 5.1)
pub record IsOfKind (kind size : ℕ) (bytes : List ℕ) : Type 0 where
  pub octets : length bytes ≡ size
  pub first : slice_index bytes 0 ≡ kind

-- three reserved octets, and the nonce (RFC 7450, section 5.1.1)
pub record IsDiscovery (nonce : ℕ) (bytes : List ℕ) : Type 0 where
  pub kind : IsOfKind 1 8 bytes
  pub nonce_field : nonce ≡ big_number 4 (drop 4 bytes)

-- three reserved octets, the nonce, and the relay's address of so many octets (RFC 7450, section 5.1.2)
pub record IsAdvertisement (nonce address octets : ℕ) (bytes : List ℕ) : Type 0 where
  pub kind : IsOfKind 2 (8 + octets) bytes
  pub nonce_field : nonce ≡ big_number 4 (drop 4 bytes)
  pub address_field : address ≡ big_number octets (drop 8 bytes)

-- a bit of the second octet is set, where the flags stand; bit 0 is the lowest
abbrev pub has_flag : ℕ → List ℕ → Bool
has_flag bit bytes = bit_at (slice_index bytes 1) bit == 1

-- the P flag, two reserved octets, and the nonce (RFC 7450, section 5.1.3)
pub record IsRequest (v6 : Bool) (nonce : ℕ) (bytes : List ℕ) : Type 0 where
  pub kind : IsOfKind 3 8 bytes
  pub p_flag : v6 ≡ has_flag 0 bytes
  pub nonce_field : nonce ≡ big_number 4 (drop 4 bytes)

-- the octets of a Query by its G flag: a head of 12, the inner datagram, and with G the port and
-- the address (RFC 7450, section 5.1.4)
abbrev pub query_length : Bool → ℕ → ℕ
query_length false inner = 12 + inner
query_length true inner = 12 + inner + 18

-- the flags, the MAC, the nonce, and the inner datagram, whose own header says where it ends
-- (RFC 7450, section 5.1.4)
pub record IsQuery (limited named : Bool) (mac : Mac48) (nonce : ℕ) (inner bytes : List ℕ) : Type 0 where
  pub kind : IsOfKind 4 (query_length named (length inner)) bytes
  pub l_flag : limited ≡ has_flag 1 bytes
  pub g_flag : named ≡ has_flag 0 bytes
  pub mac_field : mac.0 ≡ take 6 (drop 2 bytes)
  pub nonce_field : nonce ≡ big_number 4 (drop 8 bytes)
  pub inner_field : inner ≡ take (length inner) (drop 12 bytes)
  pub inner_whole : inner_length_of inner ≡ Some (length inner)

-- the gateway's port, after an inner datagram of so many octets (RFC 7450, section 5.1.4); a Teardown has
-- it in the same place, with no inner datagram (section 5.1.7)
abbrev pub gateway_port : ℕ → List ℕ → ℕ
gateway_port inner bytes = big_number 2 (drop (12 + inner) bytes)

-- and its address
abbrev pub gateway_address : ℕ → List ℕ → ℕ
gateway_address inner bytes = big_number 16 (drop (14 + inner) bytes)

-- the endpoint that they name
abbrev pub gateway_at : ℕ → List ℕ → EndpointValue
gateway_at inner bytes = endpoint_named (gateway_address inner bytes) (gateway_port inner bytes)

-- one reserved octet, the MAC, the nonce, and the inner datagram, which is all the rest
-- (RFC 7450, section 5.1.5)
pub record IsUpdate (mac : Mac48) (nonce : ℕ) (inner bytes : List ℕ) : Type 0 where
  pub kind : IsOfKind 5 (12 + length inner) bytes
  pub mac_field : mac.0 ≡ take 6 (drop 2 bytes)
  pub nonce_field : nonce ≡ big_number 4 (drop 8 bytes)
  pub inner_field : inner ≡ drop 12 bytes

-- one reserved octet, and the IP packet, which is all the rest (RFC 7450, section 5.1.6)
pub record IsMulticast (packet bytes : List ℕ) : Type 0 where
  pub kind : IsOfKind 6 (2 + length packet) bytes
  pub packet_field : packet ≡ drop 2 bytes

-- one reserved octet, the MAC, the nonce, and the gateway's port and address (RFC 7450, section 5.1.7)
pub record IsTeardown (mac : Mac48) (nonce : ℕ) (gateway : EndpointValue) (bytes : List ℕ) : Type 0 where
  pub kind : IsOfKind 7 30 bytes
  pub mac_field : mac.0 ≡ take 6 (drop 2 bytes)
  pub nonce_field : nonce ≡ big_number 4 (drop 8 bytes)
  pub gateway_field : gateway ≡ gateway_at 0 bytes

-- the octets spell the message; the G flag of a Query is set exactly where it says what was seen
abbrev pub Spells : Message → List ℕ → Type 0
Spells (Discovery nonce) bytes = IsDiscovery nonce bytes
Spells (Advertisement nonce (V4 address)) bytes = IsAdvertisement nonce address 4 bytes
Spells (Advertisement nonce (V6 address)) bytes = IsAdvertisement nonce address 16 bytes
Spells (Request v6 nonce) bytes = IsRequest v6 nonce bytes
Spells (Query limited mac nonce inner None) bytes = IsQuery limited false mac nonce inner bytes
Spells (Query limited mac nonce inner (Some endpoint)) bytes =
    IsQuery limited true mac nonce inner bytes × (endpoint ≡ gateway_at (length inner) bytes)
Spells (Update mac nonce inner) bytes = IsUpdate mac nonce inner bytes
Spells (Multicast packet) bytes = IsMulticast packet bytes
Spells (Teardown mac nonce gateway) bytes = IsTeardown mac nonce gateway bytes

-- reserved bits are zero: of a Request all but P, of a Query's second octet all but L and G
abbrev pub HasZeroReserved : Message → List ℕ → Type 0
HasZeroReserved (Discovery nonce) bytes = take 3 (drop 1 bytes) ≡ 0 ∷ 0 ∷ 0 ∷ []
HasZeroReserved (Advertisement nonce relay) bytes = take 3 (drop 1 bytes) ≡ 0 ∷ 0 ∷ 0 ∷ []
HasZeroReserved (Request v6 nonce) bytes = (slice_index bytes 1 / 2 ≡ 0) × (take 2 (drop 2 bytes) ≡ 0 ∷ 0 ∷ [])
HasZeroReserved (Query limited mac nonce inner seen) bytes = slice_index bytes 1 / 4 ≡ 0
HasZeroReserved (Update mac nonce inner) bytes = slice_index bytes 1 ≡ 0
HasZeroReserved (Multicast packet) bytes = slice_index bytes 1 ≡ 0
HasZeroReserved (Teardown mac nonce gateway) bytes = slice_index bytes 1 ≡ 0

-- an IPv4 address of a gateway stands after 96 zero bits
abbrev pub HasZeroForm : Message → List ℕ → Type 0
HasZeroForm (Discovery nonce) bytes = Unit {0}
HasZeroForm (Advertisement nonce relay) bytes = Unit {0}
HasZeroForm (Request v6 nonce) bytes = Unit {0}
HasZeroForm (Query limited mac nonce inner None) bytes = Unit {0}
HasZeroForm (Query limited mac nonce inner (Some endpoint)) bytes = is_mapped (gateway_address (length inner) bytes) ≡ false
HasZeroForm (Update mac nonce inner) bytes = Unit {0}
HasZeroForm (Multicast packet) bytes = Unit {0}
HasZeroForm (Teardown mac nonce gateway) bytes = is_mapped (gateway_address 0 bytes) ≡ false

-- the octets spell the message, with reserved bits zero and the gateway's address in its one form
pub record IsCanonical (message : Message) (bytes : List ℕ) : Type 0 where
  pub spelled : Spells message bytes
  pub reserved : HasZeroReserved message bytes
  pub address_form : HasZeroForm message bytes

-- the octets of an address as an Advertisement carries it
abbrev pub relay_octets : Ip → List ℕ
relay_octets (V4 address) = big_bytes 4 address
relay_octets (V6 address) = big_bytes 16 address

-- the P flag has the value 1
abbrev pub request_flags : Bool → ℕ
request_flags v6 = if v6 then 1 else 0

-- the L flag has the value 2, and the G flag 1
abbrev pub query_flags : Bool → Bool → ℕ
query_flags limited named = (if limited then 2 else 0) + (if named then 1 else 0)

-- the octets of a gateway's port and address, as a Query and a Teardown have them
abbrev pub gateway_octets : EndpointValue → List ℕ
gateway_octets gateway = big_bytes 2 gateway.port ++ big_bytes 16 gateway.address

-- those after the inner datagram of a Query, where it names the gateway
abbrev pub named_gateway_octets : Option EndpointValue → List ℕ
named_gateway_octets None = []
named_gateway_octets (Some gateway) = gateway_octets gateway

-- the one canonical spelling
abbrev pub spelling_of : Message → List ℕ
spelling_of (Discovery nonce) = 1 ∷ 0 ∷ 0 ∷ 0 ∷ big_bytes 4 nonce
spelling_of (Advertisement nonce relay) = 2 ∷ 0 ∷ 0 ∷ 0 ∷ (big_bytes 4 nonce ++ relay_octets relay)
spelling_of (Request v6 nonce) = 3 ∷ request_flags v6 ∷ 0 ∷ 0 ∷ big_bytes 4 nonce
spelling_of (Query limited mac nonce inner seen) =
    4 ∷ query_flags limited (is_some seen) ∷ (mac.0 ++ big_bytes 4 nonce ++ inner ++ named_gateway_octets seen)
spelling_of (Update mac nonce inner) = 5 ∷ 0 ∷ (mac.0 ++ big_bytes 4 nonce ++ inner)
spelling_of (Multicast packet) = 6 ∷ 0 ∷ packet
spelling_of (Teardown mac nonce gateway) = 7 ∷ 0 ∷ (mac.0 ++ big_bytes 4 nonce ++ gateway_octets gateway)
