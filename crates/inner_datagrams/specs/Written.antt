-- The one spelling in which a datagram is written.
use Rattle.std.specs.Prelude.{◌≡◌, ℕ, ◌+◌, ◌^◌, ◌<◌, List, [], ◌∷◌, ◌++◌, length}
use Rattle.byteorder.specs.Endian.{big_bytes}
use Rattle.amt_values.specs.declared.address.Ip.{Ip, TheVariants.{V4, V6}}
use Rattle.inner_datagrams.specs.Checksum.{internet_sum_of}

-- the IPv4 header of an IGMP message with this checksum: type of service c0, time to live 1, protocol
-- 2 and the option Router Alert (RFC 791, section 3.1; RFC 2113, section 2.1; RFC 3376, section 4)
abbrev pub header4_with_sum : ℕ → ℕ → ℕ → ℕ → List ℕ
header4_with_sum header_sum total_length source destination =
    0x46 ∷ 0xc0 ∷ big_bytes 2 total_length
    ++ 0 ∷ 0 ∷ 0 ∷ 0 ∷ []
    ++ 1 ∷ 2 ∷ big_bytes 2 header_sum
    ++ big_bytes 4 source
    ++ big_bytes 4 destination
    ++ 0x94 ∷ 4 ∷ 0 ∷ 0 ∷ []

-- the header with its own checksum, which is taken with a zero in its place
abbrev pub header4 : ℕ → ℕ → ℕ → List ℕ
header4 total_length source destination =
    header4_with_sum (internet_sum_of (header4_with_sum 0 total_length source destination)) total_length source destination

-- that header, of 24 octets, and the payload
unfoldable pub written_inner4 : ℕ → ℕ → List ℕ → List ℕ
written_inner4 source destination payload = header4 (24 + length payload) source destination ++ payload

-- the hop-by-hop header of an MLD message: ICMPv6 follows; the option Router Alert of value 0, and
-- two octets of padding (RFC 8200, sections 4.2 and 4.3; RFC 2711, section 2.1)
abbrev pub hop_by_hop_header : List ℕ
hop_by_hop_header = 58 ∷ 0 ∷ 5 ∷ 2 ∷ 0 ∷ 0 ∷ 1 ∷ 0 ∷ []

-- the headers of an MLD message: traffic class and flow label 0, hop limit 1 and the hop-by-hop header
-- (RFC 8200, section 3; RFC 3810, section 5)
abbrev pub headers6 : ℕ → ℕ → ℕ → List ℕ
headers6 payload_length source destination =
    0x60 ∷ 0 ∷ 0 ∷ 0 ∷ big_bytes 2 payload_length
    ++ 0 ∷ 1 ∷ big_bytes 16 source
    ++ big_bytes 16 destination
    ++ hop_by_hop_header

-- those headers, of 48 octets, and the payload; the payload length counts the hop-by-hop header too
unfoldable pub written_inner6 : ℕ → ℕ → List ℕ → List ℕ
written_inner6 source destination payload = headers6 (8 + length payload) source destination ++ payload

-- the bytes are the spelling of a datagram of these addresses and this payload
abbrev pub IsWrittenInner : Ip → Ip → List ℕ → List ℕ → Type 0
IsWrittenInner (V4 source) (V4 destination) payload bytes =
    (source < 2 ^ 32) × (destination < 2 ^ 32) × (bytes ≡ written_inner4 source destination payload)
IsWrittenInner (V6 source) (V6 destination) payload bytes =
    (source < 2 ^ 128) × (destination < 2 ^ 128) × (bytes ≡ written_inner6 source destination payload)
IsWrittenInner _ _ _ _ = ⊥

-- the octets of the headers that are written, by the source's family
abbrev pub written_headers : Ip → ℕ
written_headers (V4 source) = 24
written_headers (V6 source) = 48
