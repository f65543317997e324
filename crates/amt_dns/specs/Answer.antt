-- Which octets answer the query for a name's relays, and which relays they list (RFC 1035, section 4.1;
-- RFC 8777, section 4.2).
use Rattle.std.specs.{Prelude.{◌≡◌, ℕ, ◌+◌, ◌/◌, ◌%◌, ◌^◌, ◌≤◌, ◌<◌, ◌==◌, if◌then◌else◌, List, [], ◌∷◌, ◌++◌, length, map, take, drop, slice_index}, Str.{str_to_ascii_lowercase}}
use Rattle.byteorder.specs.Endian.{big_number}
use Rattle.amt_values.specs.declared.address.Ip.TheVariants.{V4, V6}
use Rattle.amt_dns_names.specs.{NameAt.{NameAt}, Query.{words}}
use Rattle.amt_dns.specs.declared.found.{Found.{Found}, Relay.{Relay}}
use Rattle.amt_dns.specs.declared.found.Relay.TheVariants as relays

-- the number of 16 bits that stands at the place
abbrev pub word_at : List ℕ → ℕ → ℕ
word_at bytes at = big_number 2 (drop at bytes)

-- of the head's flags the bit QR, which an answer has; the bit TC, which one that was cut has; and the response
-- code (section 4.1.1)
abbrev pub response_bit : List ℕ → ℕ
response_bit bytes = word_at bytes 2 / 2 ^ 15 % 2

abbrev pub truncation_bit : List ℕ → ℕ
truncation_bit bytes = word_at bytes 2 / 2 ^ 9 % 2

abbrev pub response_code : List ℕ → ℕ
response_code bytes = word_at bytes 2 % 2 ^ 4

-- how many questions and how many answers follow the head
abbrev pub question_count : List ℕ → ℕ
question_count bytes = word_at bytes 4

abbrev pub answer_count : List ℕ → ℕ
answer_count bytes = word_at bytes 6

-- a head of 12 octets, with the id, of a whole answer without an error to one question
pub record IsHead (wanted : ℕ) (bytes : List ℕ) : Type 0 where
  pub whole : 12 ≤ length bytes
  pub id : word_at bytes 0 ≡ wanted
  pub response : response_bit bytes ≡ 1
  pub not_truncated : truncation_bit bytes ≡ 0
  pub code : response_code bytes ≡ 0
  pub questions : question_count bytes ≡ 1

-- the type AMTRELAY and the class IN stand at the place (RFC 8777, section 4.1; RFC 1035, section 3.2.4)
abbrev pub IsOfRelays : List ℕ → ℕ → Type 0
IsOfRelays bytes at = take 4 (drop at bytes) ≡ words (260 ∷ 1 ∷ [])

-- what was read asks for the relays of the name: its labels, with ASCII letters in either case (section 2.3.3), and
-- after them the type and the class
pub record AsksFor (name : List (List ℕ)) (bytes : List ℕ) (labels : List (List ℕ)) (behind : ℕ) : Type 0 where
  pub alike : map str_to_ascii_lowercase labels ≡ map str_to_ascii_lowercase name
  pub of_relays : IsOfRelays bytes behind

-- the question, after the head, asks for the relays of the name, and ends at this place (section 4.1.2)
pub record IsQuestion (name : List (List ℕ)) (bytes : List ℕ) (end : ℕ) : Type 0 where
  pub labels : List (List ℕ)
  pub behind : ℕ
  pub named : NameAt bytes 12 labels behind
  pub asks : AsksFor name bytes labels behind
  pub ends : end ≡ behind + 4

-- the data of a resource record begin 10 octets after its owner's name: the type, the class, the time to live and
-- the length of the data stand before them (section 4.1.3)
abbrev pub data_place : ℕ → ℕ
data_place behind = behind + 10

-- and end after as many octets as the length says
abbrev pub data_end : List ℕ → ℕ → ℕ
data_end bytes behind = data_place behind + word_at bytes (behind + 8)

-- of the data's second octet the low seven bits: the type of the relay (RFC 8777, section 4.2.3)
abbrev pub relay_type : List ℕ → ℕ → ℕ
relay_type bytes begin = slice_index bytes (begin + 1) % 2 ^ 7

-- the octets of a relay of the types 0 to 2: of nothing, of an IPv4 address, of an IPv6 address (section 4.2.4)
abbrev pub relay_length : ℕ → ℕ
relay_length kind = if kind == 0 then 0 else (if kind == 1 then 4 else 16)

-- a relay of this type is what stands from the place on, up to the end: nothing, an address, or a name, which may
-- lead to any place of the message
abbrev pub IsRelay : List ℕ → ℕ → ℕ → ℕ → Relay → Type 0
IsRelay bytes kind at end relays.None = (kind ≡ 0) × (end ≡ at)
IsRelay bytes kind at end (relays.At (V4 number)) = (kind ≡ 1) × (end ≡ at + 4) × (number ≡ big_number 4 (drop at bytes))
IsRelay bytes kind at end (relays.At (V6 number)) = (kind ≡ 2) × (end ≡ at + 16) × (number ≡ big_number 16 (drop at bytes))
IsRelay bytes kind at end (relays.Named labels) = (kind ≡ 3) × NameAt bytes at labels end

-- the data between the places are of this relay: an octet of precedence (section 4.2.1), an octet whose high bit allows
-- a Request without a discovery (section 4.2.2) and whose other bits are the relay's type, and the relay
pub record IsRelayData (bytes : List ℕ) (begin end : ℕ) (found : Found) : Type 0 where
  pub head : begin + 2 ≤ end
  pub precedence : found.precedence ≡ slice_index bytes begin
  pub direct : found.direct ≡ (slice_index bytes (begin + 1) / 2 ^ 7 == 1)
  pub relay : IsRelay bytes (relay_type bytes begin) (begin + 2) end found.relay

-- what a record says that has its fields from this place on: of another type or class nothing, of a relay of another
-- type nothing, or the relay in its data
pub data Says (bytes : List ℕ) (behind : ℕ) : List Found → Type 0 where
  other : (IsOfRelays bytes behind → ⊥) → Says bytes behind []
  unknown : IsOfRelays bytes behind → data_place behind + 2 ≤ data_end bytes behind
      → 3 < relay_type bytes (data_place behind) → Says bytes behind []
  relay : (found : Found) → IsOfRelays bytes behind → IsRelayData bytes (data_place behind) (data_end bytes behind) found
      → Says bytes behind (found ∷ [])

-- a resource record stands at the place, says this, and ends there: its owner's name, which may be any, and its
-- fields and data as a whole (section 4.1.3)
pub record IsRecord (bytes : List ℕ) (at : ℕ) (found : List Found) (end : ℕ) : Type 0 where
  pub owner : List (List ℕ)
  pub behind : ℕ
  pub named : NameAt bytes at owner behind
  pub says : Says bytes behind found
  pub ends : end ≡ data_end bytes behind
  pub whole : end ≤ length bytes

-- that many records stand from the first place on, up to the last one, and say this together
pub data AreRecords (bytes : List ℕ) (start : ℕ) : ℕ → List Found → ℕ → Type 0 where
  none : AreRecords bytes start 0 [] start
  more : (count at end : ℕ) (found last : List Found) → AreRecords bytes start count found at
      → IsRecord bytes at last end → AreRecords bytes start (count + 1) (found ++ last) end

-- an answer to the query with this id for the relays of this name: a head, the question, and as many records as the
-- head counts; what follows them may be any
pub record IsAnswer (id : ℕ) (name : List (List ℕ)) (found : List Found) (bytes : List ℕ) : Type 0 where
  pub head : IsHead id bytes
  pub start : ℕ
  pub question : IsQuestion name bytes start
  pub end : ℕ
  pub records : AreRecords bytes start (answer_count bytes) found end
