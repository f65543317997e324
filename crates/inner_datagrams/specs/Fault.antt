-- The first fault of bytes that are no inner datagram.
use Rattle.std.specs.Prelude.{ℕ, ◌==◌, ◌&&◌, ◌||◌, nat_lt, not, Bool, List, [], ◌∷◌, ◌++◌, length, Option, if◌then◌else◌}
use Rattle.amt_values.specs.{Conditions.{Conditions, first_holding}, IpHeader.{ip_version, total_length}}
use Rattle.inner_datagrams.specs.{Checksum.{internet_sum_of, has_right_sum}, Header.{header_words, header_octets, header_of, fragment_bits, protocol_number, header_sum, with_zero_sum}}
use Rattle.inner_datagrams.specs.{Header6.{whole_length6, has_hop_by_hop, hop_by_hop_end, last_next_header}, declared.inner.InnerFault.{InnerFault, TheVariants.{Version, ShortHeader, HeaderLength, TotalLength, HeaderSum, Fragment, Protocol, Extension}}}

-- no version, or one that isn't read (RFC 791, section 3.1; RFC 8200, section 3)
abbrev pub version_faults : List ℕ → Conditions InnerFault
version_faults bytes =
    (length bytes == 0, ShortHeader 20 0)
    ∷ (not (ip_version bytes == 4 || ip_version bytes == 6), Version (ip_version bytes))
    ∷ []

-- a header that is shorter than it may be or than it states (RFC 791, section 3.1)
abbrev pub header_length_faults : List ℕ → Conditions InnerFault
header_length_faults bytes =
    (nat_lt (length bytes) 20, ShortHeader 20 (length bytes))
    ∷ (nat_lt (header_words bytes) 5, HeaderLength (header_words bytes))
    ∷ (nat_lt (length bytes) (header_octets bytes), ShortHeader (header_octets bytes) (length bytes))
    ∷ []

-- the length of the whole that a header states isn't that of the bytes (RFC 791, section 3.1; RFC 8200, section 3)
abbrev pub wrong_total : ℕ → List ℕ → Bool × InnerFault
wrong_total stated bytes = (not (stated == length bytes), TotalLength stated (length bytes))

-- lengths of the header and of the whole that aren't those of the bytes
abbrev pub length_faults : List ℕ → Conditions InnerFault
length_faults bytes = header_length_faults bytes ++ wrong_total (total_length bytes) bytes ∷ []

-- the header's words don't add up (RFC 791, section 3.1)
abbrev pub wrong_header_sum : List ℕ → Bool × InnerFault
wrong_header_sum bytes =
    (not (has_right_sum (header_of bytes)), HeaderSum (internet_sum_of (with_zero_sum (header_of bytes))) (header_sum bytes))

-- more fragments follow, or others come before
abbrev pub fragment : List ℕ → Bool × InnerFault
fragment bytes = (not (fragment_bits bytes == 0), Fragment (fragment_bits bytes))

-- another protocol than IGMP (RFC 3376, section 4)
abbrev pub other_protocol : ℕ → Bool × InnerFault
other_protocol protocol = (not (protocol == 2), Protocol protocol)

-- a wrong checksum, a fragment, another protocol
abbrev pub header_faults : List ℕ → Conditions InnerFault
header_faults bytes = wrong_header_sum bytes ∷ fragment bytes ∷ other_protocol (protocol_number bytes) ∷ []

-- lengths of the IPv6 header and of the whole that aren't those of the bytes, and that of a
-- hop-by-hop header, which has at least 8 octets (RFC 8200, section 4.3)
abbrev pub length_faults6 : List ℕ → Conditions InnerFault
length_faults6 bytes =
    (nat_lt (length bytes) 40, ShortHeader 40 (length bytes))
    ∷ wrong_total (whole_length6 bytes) bytes
    ∷ (has_hop_by_hop bytes && nat_lt (length bytes) 48, ShortHeader 48 (length bytes))
    ∷ (has_hop_by_hop bytes && nat_lt (length bytes) (hop_by_hop_end bytes), ShortHeader (hop_by_hop_end bytes) (length bytes))
    ∷ []

-- of those, the ones of a hop-by-hop header that is there
abbrev pub hop_by_hop_faults : List ℕ → Conditions InnerFault
hop_by_hop_faults bytes =
    (nat_lt (length bytes) 48, ShortHeader 48 (length bytes))
    ∷ (nat_lt (length bytes) (hop_by_hop_end bytes), ShortHeader (hop_by_hop_end bytes) (length bytes))
    ∷ []

-- the kind of another extension header that may stand before a message: hop-by-hop options, routing,
-- authentication (RFC 4302, section 2), destination options (RFC 8200, section 4.1)
abbrev pub is_extension : ℕ → Bool
is_extension kind = kind == 0 || (kind == 43 || (kind == 51 || kind == 60))

-- of what follows the headers: a fragment header (RFC 8200, section 4.5), another extension header,
-- another protocol than ICMPv6 (RFC 4443, section 1)
abbrev pub next_header_faults : ℕ → Conditions InnerFault
next_header_faults kind =
    (kind == 44, Fragment 0) ∷ (is_extension kind, Extension kind) ∷ (not (kind == 58), Protocol kind) ∷ []

-- the faults of an IPv4 datagram in their order: lengths, header
abbrev pub faults4 : List ℕ → Conditions InnerFault
faults4 bytes = length_faults bytes ++ header_faults bytes

-- the faults of an IPv6 datagram in their order: lengths, what follows the headers
abbrev pub faults6 : List ℕ → Conditions InnerFault
faults6 bytes = length_faults6 bytes ++ next_header_faults (last_next_header bytes)

-- the first fault in this order: of the version, and then of a datagram of that version
unfoldable pub first_inner_fault : List ℕ → Option InnerFault
first_inner_fault bytes =
    first_holding (version_faults bytes ++ (if ip_version bytes == 6 then faults6 bytes else faults4 bytes))
