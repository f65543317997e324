-- What a capture holds: a head, and captured packets (the classic file format of libpcap, of version 2.4).
use Rattle.std.specs.Prelude.{◌≡◌, ℕ, zero, suc, ◌+◌, ◌*◌, ◌/◌, ◌%◌, ◌^◌, ◌<◌, ◌≤◌, ◌==◌, ◌&&◌, ◌||◌, not, nat_lt, Bool, true, List, [], ◌∷◌, ◌++◌, All, length, take, drop, is_none, Option, Some, None, Result, Ok, Err, if◌then◌else◌}
use Rattle.std.specs.List.{concat}
use Rattle.byteorder.specs.Endian.{big_number, little_number}
use Rattle.amt_values.specs.Conditions.{Conditions, first_holding}
use Rattle.amt_messages.specs.StatedLength.{inner_length_of}
use Rattle.inner_datagrams.specs.Head.{first_head_fault}
use Rattle.amt_pcap.specs.declared.{capture.{Item.{Item}, Capture.{Capture}, CaptureFault.{CaptureFault, TheVariants.{Short, Magic, Version, LinkType}}, Skip.{Skip, TheVariants.{Cut, Frame, Ip}}}, format.{FieldOrder.{FieldOrder, TheVariants.{Big, Little}}, Format.{Format}}}

-- the number of that many octets that stands at a place, in the order of the file's fields
abbrev pub number_at : FieldOrder → ℕ → List ℕ → ℕ → ℕ
number_at Big size bytes at = big_number size (drop at bytes)
number_at Little size bytes at = little_number size (drop at bytes)

-- the first four octets, which are read in one order whatever that of the file is
abbrev pub magic_of : List ℕ → ℕ
magic_of bytes = big_number 4 bytes

-- what a magic number says: the order of the fields, and how many units of a record's fraction make a millisecond
abbrev pub format_of : ℕ → Option Format
format_of magic =
    if magic == 0xa1b2c3d4 then Some (record { order = Big; units = 1000 })
    else (if magic == 0xa1b23c4d then Some (record { order = Big; units = 1000000 })
    else (if magic == 0xd4c3b2a1 then Some (record { order = Little; units = 1000 })
    else (if magic == 0x4d3cb2a1 then Some (record { order = Little; units = 1000000 }) else None)))

-- the version, of two numbers; and the link type, of which the low 16 bits count
abbrev pub major_version : FieldOrder → List ℕ → ℕ
major_version order bytes = number_at order 2 bytes 4

abbrev pub minor_version : FieldOrder → List ℕ → ℕ
minor_version order bytes = number_at order 2 bytes 6

abbrev pub link_type : FieldOrder → List ℕ → ℕ
link_type order bytes = number_at order 4 bytes 20 % 2 ^ 16

-- a head of 24 octets: a magic number of this format, version 2.4, and the link type of Ethernet frames, 1, or of IP
-- packets, 101. All else in it may be any
pub record IsHead (bytes : List ℕ) (format : Format) : Type 0 where
  pub whole : 24 ≤ length bytes
  pub magic : format_of (magic_of bytes) ≡ Some format
  pub major : major_version format.order bytes ≡ 2
  pub minor : minor_version format.order bytes ≡ 4
  pub link : (link_type format.order bytes == 1) || (link_type format.order bytes == 101) ≡ true

-- the order of the fields, where the magic number says one
abbrev pub order_in : Option Format → FieldOrder
order_in None = Big
order_in (Some format) = format.order

-- what may be wrong with the head, in order
abbrev pub head_faults_by : FieldOrder → List ℕ → Conditions CaptureFault
head_faults_by order bytes =
    (nat_lt (length bytes) 24, Short 24 (length bytes))
    ∷ (is_none (format_of (magic_of bytes)), Magic (magic_of bytes))
    ∷ (not ((major_version order bytes == 2) && (minor_version order bytes == 4)), Version (major_version order bytes) (minor_version order bytes))
    ∷ (not ((link_type order bytes == 1) || (link_type order bytes == 101)), LinkType (link_type order bytes)) ∷ []

abbrev pub first_fault : List ℕ → Option CaptureFault
first_fault bytes = first_holding (head_faults_by (order_in (format_of (magic_of bytes))) bytes)

-- the type of a frame's payload stands at the place, and is that of IPv4 or IPv6 (RFC 894; RFC 2464, section 3)
abbrev pub is_ip_type : List ℕ → ℕ → Bool
is_ip_type frame at = not (nat_lt (length frame) (at + 2))
    && ((big_number 2 (drop at frame) == 0x0800) || (big_number 2 (drop at frame) == 0x86dd))

-- a tag of a VLAN stands at the place (IEEE 802.1Q)
abbrev pub is_tag : List ℕ → ℕ → Bool
is_tag frame at = not (nat_lt (length frame) (at + 2))
    && ((big_number 2 (drop at frame) == 0x8100) || (big_number 2 (drop at frame) == 0x88a8))

-- where the IP packet of a frame begins, with at most that many tags before its type
unfoldable pub packet_place : ℕ → List ℕ → ℕ → Option ℕ
packet_place zero frame at = if is_ip_type frame at then Some (at + 2) else None
packet_place (suc tags) frame at =
    if is_ip_type frame at then Some (at + 2)
    else (if is_tag frame at then packet_place tags frame (at + 4) else None)

-- what a frame carries after two addresses of 6 octets, two tags at most, and its type
abbrev pub payload_from : List ℕ → Option ℕ → Option (List ℕ)
payload_from frame None = None
payload_from frame (Some place) = Some (drop place frame)

abbrev pub payload_of : List ℕ → Option (List ℕ)
payload_of frame = payload_from frame (packet_place 2 frame 12)

-- the packet at the head of these octets, as long as it says that it is; what follows it, as the padding of a frame, is
-- no part of it
abbrev pub sized_packet : List ℕ → Option ℕ → Result (List ℕ) Skip
sized_packet octets None = Err Ip
sized_packet octets (Some size) = if nat_lt (length octets) size || nat_lt 65535 size then Err Ip else Ok (take size octets)

-- an IP packet whose head and length can be read (RFC 791, section 3.1; RFC 8200, section 3)
abbrev pub packet_at_head : List ℕ → Result (List ℕ) Skip
packet_at_head octets = if is_none (first_head_fault octets) then sized_packet octets (inner_length_of octets) else Err Ip

abbrev pub packet_in_frame : Option (List ℕ) → Result (List ℕ) Skip
packet_in_frame None = Err Frame
packet_in_frame (Some octets) = packet_at_head octets

-- the packet in what was captured of a link of this type, of that many octets originally
abbrev pub packet_of : ℕ → ℕ → List ℕ → Result (List ℕ) Skip
packet_of link original captured =
    if nat_lt (length captured) original then Err Cut
    else (if link == 1 then packet_in_frame (payload_of captured) else packet_at_head captured)

-- a record begins with its moment in seconds and a fraction, the number of octets that were captured, and that of all
-- there were; then come those that were captured
abbrev pub record_end : Format → List ℕ → ℕ → ℕ
record_end format bytes at = at + 16 + number_at format.order 4 bytes (at + 8)

abbrev pub captured_at : Format → List ℕ → ℕ → List ℕ
captured_at format bytes at = take (number_at format.order 4 bytes (at + 8)) (drop (at + 16) bytes)

-- its moment in milliseconds, of which a fraction may be more than a second
abbrev pub moment_at : Format → List ℕ → ℕ → ℕ
moment_at format bytes at = number_at format.order 4 bytes at * 1000 + number_at format.order 4 bytes (at + 4) / format.units

abbrev pub item_at : Format → List ℕ → ℕ → Item
item_at format bytes at = record {
  at = moment_at format bytes at;
  packet = packet_of (link_type format.order bytes) (number_at format.order 4 bytes (at + 12)) (captured_at format bytes at);
}

-- whole records stand after the head up to the place, and hold these items
pub data AreRecords (format : Format) (bytes : List ℕ) : List Item → ℕ → Type 0 where
  none : AreRecords format bytes [] 24
  more : (items : List Item) (at : ℕ) → AreRecords format bytes items at → record_end format bytes at ≤ length bytes
      → AreRecords format bytes (items ++ item_at format bytes at ∷ []) (record_end format bytes at)

-- the octets are a capture of these items: a head, whole records, and a tail that holds no whole one
pub record IsCapture (bytes : List ℕ) (capture : Capture) : Type 0 where
  pub format : Format
  pub head : IsHead bytes format
  pub end : ℕ
  pub records : AreRecords format bytes capture.items end
  pub last : length bytes < record_end format bytes end
  pub whole : length bytes ≡ end + capture.tail

-- the octets of a record are 16, and as many more as it counts
abbrev pub IsCounted : FieldOrder → List ℕ → Type 0
IsCounted order octets = length octets ≡ 16 + number_at order 4 octets 8

-- the octets are those of a head, of a record for each item, and of the tail, one after another
pub record HasParts (bytes : List ℕ) (capture : Capture) : Type 0 where
  pub head : List ℕ
  pub records : List (List ℕ)
  pub tail : List ℕ
  pub parts : bytes ≡ head ++ concat records ++ tail
  pub head_length : length head ≡ 24
  pub record_lengths : All (IsCounted (order_in (format_of (magic_of bytes)))) records
  pub one_each : length records ≡ length capture.items
  pub tail_length : length tail ≡ capture.tail
