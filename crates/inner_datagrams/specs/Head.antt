-- The source and the group of a native multicast packet, of which nothing else is read.
use Rattle.std.specs.Prelude.{◌≡◌, ◌⊎◌, ℕ, ◌≤◌, ◌==◌, ◌||◌, nat_lt, not, Bool, List, [], ◌∷◌, length, Option, Result, if◌then◌else◌}
use Rattle.amt_values.specs.{declared.address.Ip.TheVariants.{V4, V6}, Conditions.{Conditions, first_holding, unless}, IpHeader.{ip_version}}
use Rattle.inner_datagrams.specs.{Header.{source_number, destination_number}, Header6.{source_number6, destination_number6}, declared.head.{Head.{Head}, HeadFault.{HeadFault, TheVariants.{Version, ShortHeader}}}}

-- the addresses of an IPv4 packet whose least header is there (RFC 791, section 3.1). The lengths, the
-- checksum, the flags and what the packet carries may be any.
pub record IsHead4 (head : Head) (bytes : List ℕ) : Type 0 where
  pub version : ip_version bytes ≡ 4
  pub least_header : 20 ≤ length bytes
  pub comes_from : head.source ≡ V4 (source_number bytes)
  pub goes_to : head.group ≡ V4 (destination_number bytes)

-- the addresses of an IPv6 packet whose header is there (RFC 8200, section 3). The payload length, the
-- headers that follow and what the packet carries may be any.
pub record IsHead6 (head : Head) (bytes : List ℕ) : Type 0 where
  pub version : ip_version bytes ≡ 6
  pub whole_header : 40 ≤ length bytes
  pub comes_from : head.source ≡ V6 (source_number6 bytes)
  pub goes_to : head.group ≡ V6 (destination_number6 bytes)

-- the head of a native packet, of either version
abbrev pub IsHead : Head → List ℕ → Type 0
IsHead head bytes = IsHead4 head bytes ⊎ IsHead6 head bytes

-- the octets of the least header, by the version (RFC 791, section 3.1; RFC 8200, section 3)
abbrev pub least_octets : List ℕ → ℕ
least_octets bytes = if ip_version bytes == 6 then 40 else 20

-- fewer octets than a header needs
abbrev pub short_header : ℕ → List ℕ → Bool × HeadFault
short_header need bytes = (nat_lt (length bytes) need, ShortHeader need (length bytes))

-- what is wrong with a packet, in order: no octet, a version that isn't read, a header that is cut
-- short (RFC 791, section 3.1; RFC 8200, section 3)
abbrev pub head_faults : List ℕ → Conditions HeadFault
head_faults bytes =
    (length bytes == 0, ShortHeader 20 0)
    ∷ (not (ip_version bytes == 4 || ip_version bytes == 6), Version (ip_version bytes))
    ∷ short_header (least_octets bytes) bytes
    ∷ []

-- the first fault of a packet's head
unfoldable pub first_head_fault : List ℕ → Option HeadFault
first_head_fault bytes = first_holding (head_faults bytes)

-- the addresses of an IPv4 packet by their places (RFC 791, section 3.1)
abbrev pub head4_at : List ℕ → Head
head4_at bytes = record { source = V4 (source_number bytes); group = V4 (destination_number bytes) }

-- the addresses of an IPv6 packet by their places (RFC 8200, section 3)
abbrev pub head6_at : List ℕ → Head
head6_at bytes = record { source = V6 (source_number6 bytes); group = V6 (destination_number6 bytes) }

-- the addresses of a packet, by its version
abbrev pub head_at : List ℕ → Head
head_at bytes = if ip_version bytes == 6 then head6_at bytes else head4_at bytes

-- what is read of a packet: its addresses, or its first fault
abbrev pub head_of : List ℕ → Result Head HeadFault
head_of bytes = unless (first_head_fault bytes) (head_at bytes)
