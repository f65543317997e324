-- Which bytes are an IP datagram that carries membership messages.
use Rattle.std.specs.Prelude.{◌≡◌, ◌⊎◌, ℕ, ◌≤◌, List, length, drop}
use Rattle.amt_values.specs.{declared.address.Ip.{Ip, TheVariants.{V4, V6}}, IpHeader.{ip_version, total_length}}
use Rattle.inner_datagrams.specs.{Checksum.{IsRight}, Header.{header_words, header_octets, header_of, fragment_bits, protocol_number, source_number, destination_number}, Header6.{whole_length6, next_header, hop_by_hop_next, hop_by_hop_end, source_number6, destination_number6}}

-- an IPv4 datagram that carries IGMP and is no fragment (RFC 791, section 3.1). The type of service,
-- the identification, the other flags, the time to live and the options may be any.
pub record IsInner4 (source destination : ℕ) (payload bytes : List ℕ) : Type 0 where
  pub version : ip_version bytes ≡ 4
  pub least_header : 5 ≤ header_words bytes
  pub whole_header : header_octets bytes ≤ length bytes
  pub whole_datagram : total_length bytes ≡ length bytes
  pub right_header : IsRight (header_of bytes)
  -- neither "more fragments" nor an offset
  pub no_fragment : fragment_bits bytes ≡ 0
  pub protocol : protocol_number bytes ≡ 2
  pub comes_from : source_number bytes ≡ source
  pub goes_to : destination_number bytes ≡ destination
  pub carries : drop (header_octets bytes) bytes ≡ payload

-- ICMPv6 follows the IPv6 header at once (RFC 8200, section 3; RFC 4443, section 1)
pub record FollowsHeader (payload bytes : List ℕ) : Type 0 where
  pub protocol : next_header bytes ≡ 58
  pub carries : drop 40 bytes ≡ payload

-- ICMPv6 follows one hop-by-hop header, which is there whole (RFC 8200, section 4.3)
pub record FollowsHopByHop (payload bytes : List ℕ) : Type 0 where
  pub announced : next_header bytes ≡ 0
  pub whole_options : hop_by_hop_end bytes ≤ length bytes
  pub protocol : hop_by_hop_next bytes ≡ 58
  pub carries : drop (hop_by_hop_end bytes) bytes ≡ payload

-- an IPv6 datagram that carries ICMPv6, after no extension header but one of hop-by-hop options
-- (RFC 8200, sections 3 and 4). The traffic class, the flow label, the hop limit and the options may
-- be any.
pub record IsInner6 (source destination : ℕ) (payload bytes : List ℕ) : Type 0 where
  pub version : ip_version bytes ≡ 6
  pub whole_header : 40 ≤ length bytes
  pub whole_datagram : whole_length6 bytes ≡ length bytes
  pub comes_from : source_number6 bytes ≡ source
  pub goes_to : destination_number6 bytes ≡ destination
  pub follows : FollowsHeader payload bytes ⊎ FollowsHopByHop payload bytes

-- a datagram of these parts; both addresses are of one family
abbrev pub IsInner : Ip → Ip → List ℕ → List ℕ → Type 0
IsInner (V4 source) (V4 destination) payload bytes = IsInner4 source destination payload bytes
IsInner (V6 source) (V6 destination) payload bytes = IsInner6 source destination payload bytes
IsInner _ _ _ _ = ⊥
