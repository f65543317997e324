-- Why octets are no message: the first refusal, in order; and the message where there is none.
use Rattle.std.specs.Prelude.{ℕ, ◌/◌, ◌%◌, ◌==◌, nat_lt, nat_le, not, ◌||◌, ◌&&◌, Bool, List, [], ◌∷◌, length, drop, take, slice_index, Option, Some, None, is_none, unwrap_or, Result, Ok, Err, if◌then◌else◌}
use Rattle.amt_values.specs.{Conditions.{Conditions, first_holding, unless}, EndpointValue.{EndpointValue}, declared.address.Ip.{Ip, TheVariants.{V4, V6}}}
use Rattle.byteorder.specs.Endian.{big_number}
use Rattle.amt_messages.specs.{StatedLength.{inner_length_of}, Layout.{has_flag, query_length, gateway_at}, declared.{message.Message.{Message, TheVariants.{Discovery, Advertisement, Request, Query, Update, Multicast, Teardown}}, refusal.{DecodeFault.{DecodeFault, TheVariants.{Refused as RefusedBy, Memory}}, Refused.{Refused, TheVariants.{Empty, Version, Kind, NoInner, Short, Long}}}}}

-- the high half of the first octet (RFC 7450, section 5.1)
abbrev pub version_of : List ℕ → ℕ
version_of bytes = slice_index bytes 0 / 16

-- the message's type, the low half of the first octet (RFC 7450, section 5.1)
abbrev pub message_kind : List ℕ → ℕ
message_kind bytes = slice_index bytes 0 % 16

-- a type that the standard doesn't define (RFC 7450, section 5.1)
abbrev pub is_unknown : ℕ → Bool
is_unknown kind = (kind == 0) || nat_lt 7 kind

-- an Advertisement has 12 octets or 24 (RFC 7450, section 5.1.2): past 12 the longer form is meant
abbrev pub advertisement_length : ℕ → ℕ
advertisement_length have = if nat_le have 12 then 12 else 24

-- the length that the datagram after the head of a Query states
abbrev pub stated_inner : List ℕ → Option ℕ
stated_inner bytes = inner_length_of (drop 12 bytes)

-- the octets of a Query by the length that its inner datagram states, or of its head where it states none
-- (RFC 7450, section 5.1.4)
abbrev pub query_need : Option ℕ → List ℕ → ℕ
query_need None bytes = 12
query_need (Some inner) bytes = query_length (has_flag 0 bytes) inner

-- the least octets by type (RFC 7450, sections 5.1.1 to 5.1.7)
abbrev pub lengths_by_kind : ℕ → List ℕ → Conditions ℕ
lengths_by_kind kind bytes =
    (kind == 1, 8)
    ∷ (kind == 2, advertisement_length (length bytes))
    ∷ (kind == 3, 8)
    ∷ (kind == 4, query_need (stated_inner bytes) bytes)
    ∷ (kind == 5, 12)
    ∷ (kind == 6, 2)
    ∷ (kind == 7, 30)
    ∷ []

-- the octets that a message of this type needs
abbrev pub needed_length : ℕ → List ℕ → ℕ
needed_length kind bytes = unwrap_or (first_holding (lengths_by_kind kind bytes)) 0

-- a Query whose head is whole, and after it no datagram that states its length
abbrev pub lacks_inner : ℕ → List ℕ → Bool
lacks_inner kind bytes = kind == 4 && (nat_le 12 (length bytes) && is_none (stated_inner bytes))

-- an Update and Multicast Data may have any octets after those that they need (RFC 7450, sections 5.1.5
-- and 5.1.6)
abbrev pub is_open : ℕ → Bool
is_open kind = kind == 5 || kind == 6

-- of a known type: no inner datagram, too few octets, too many
abbrev pub length_refusals : ℕ → List ℕ → Conditions Refused
length_refusals kind bytes =
    (lacks_inner kind bytes, NoInner)
    ∷ (nat_lt (length bytes) (needed_length kind bytes), Short (needed_length kind bytes) (length bytes))
    ∷ (not (is_open kind) && nat_lt (needed_length kind bytes) (length bytes), Long (needed_length kind bytes) (length bytes))
    ∷ []

-- no octet, another version, an unknown type, and then those of the type
abbrev pub refusals : List ℕ → Conditions Refused
refusals bytes =
    (length bytes == 0, Empty)
    ∷ (not (version_of bytes == 0), Version (version_of bytes))
    ∷ (is_unknown (message_kind bytes), Kind (message_kind bytes))
    ∷ length_refusals (message_kind bytes) bytes

-- the first refusal, in this order
unfoldable pub first_refusal : List ℕ → Option Refused
first_refusal bytes = first_holding (refusals bytes)

-- the relay's address in an Advertisement (RFC 7450, section 5.1.2)
abbrev pub relay_at : List ℕ → Ip
relay_at bytes = if length bytes == 12 then V4 (big_number 4 (drop 8 bytes)) else V6 (big_number 16 (drop 8 bytes))

-- a Discovery by its fields' places, and so the others (RFC 7450, sections 5.1.1 to 5.1.7)
abbrev pub discovery_at : List ℕ → Message
discovery_at bytes = Discovery (big_number 4 (drop 4 bytes))

-- an Advertisement
abbrev pub advertisement_at : List ℕ → Message
advertisement_at bytes = Advertisement (big_number 4 (drop 4 bytes)) (relay_at bytes)

-- a Request
abbrev pub request_at : List ℕ → Message
request_at bytes = Request (has_flag 0 bytes) (big_number 4 (drop 4 bytes))

-- the gateway that a Query names after an inner datagram of so many octets, where the G flag is set
abbrev pub named_gateway_at : ℕ → List ℕ → Option EndpointValue
named_gateway_at inner bytes = if has_flag 0 bytes then Some (gateway_at inner bytes) else None

-- a Query with an inner datagram of so many octets
abbrev pub query_with : ℕ → List ℕ → Message
query_with inner bytes =
    Query (has_flag 1 bytes) (record { 0 = take 6 (drop 2 bytes) }) (big_number 4 (drop 8 bytes)) (take inner (drop 12 bytes))
    (named_gateway_at inner bytes)

-- a Query
abbrev pub query_at : List ℕ → Message
query_at bytes = query_with (unwrap_or (stated_inner bytes) 0) bytes

-- an Update
abbrev pub update_at : List ℕ → Message
update_at bytes = Update (record { 0 = take 6 (drop 2 bytes) }) (big_number 4 (drop 8 bytes)) (drop 12 bytes)

-- Multicast Data
abbrev pub multicast_at : List ℕ → Message
multicast_at bytes = Multicast (drop 2 bytes)

-- a Teardown
abbrev pub teardown_at : List ℕ → Message
teardown_at bytes = Teardown (record { 0 = take 6 (drop 2 bytes) }) (big_number 4 (drop 8 bytes)) (gateway_at 0 bytes)

-- the messages by type, but for a Teardown
abbrev pub messages_by_kind : ℕ → List ℕ → Conditions Message
messages_by_kind kind bytes =
    (kind == 1, discovery_at bytes)
    ∷ (kind == 2, advertisement_at bytes)
    ∷ (kind == 3, request_at bytes)
    ∷ (kind == 4, query_at bytes)
    ∷ (kind == 5, update_at bytes)
    ∷ (kind == 6, multicast_at bytes)
    ∷ []

-- the message by the first octet, which is its type where nothing is refused
abbrev pub message_at : List ℕ → Message
message_at bytes = unwrap_or (first_holding (messages_by_kind (slice_index bytes 0) bytes)) (teardown_at bytes)

-- the message that the octets spell, or their first refusal
unfoldable pub message_of : List ℕ → Result Message Refused
message_of bytes = unless (first_refusal bytes) (message_at bytes)

-- memory is asked for the inner datagram of a Query or an Update, and for the packet of Multicast Data
abbrev pub TakesMemory : Result Message Refused → Type 0
TakesMemory (Ok (Query limited mac nonce inner seen)) = Unit {0}
TakesMemory (Ok (Update mac nonce inner)) = Unit {0}
TakesMemory (Ok (Multicast packet)) = Unit {0}
TakesMemory (Ok (Discovery nonce)) = ⊥
TakesMemory (Ok (Advertisement nonce relay)) = ⊥
TakesMemory (Ok (Request v6 nonce)) = ⊥
TakesMemory (Ok (Teardown mac nonce gateway)) = ⊥
TakesMemory (Err refusal) = ⊥

-- the refusal in a fault; out of memory comes where nothing is refused
abbrev pub refusal_in : DecodeFault → Option Refused
refusal_in (RefusedBy refusal) = Some refusal
refusal_in Memory = None
