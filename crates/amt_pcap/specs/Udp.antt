-- UDP in IP packets (RFC 768; RFC 791, section 3.1; RFC 8200, section 3). No checksum is looked at.
use Rattle.std.specs.Prelude.{ℕ, ◌+◌, ◌-◌, ◌==◌, ◌&&◌, not, nat_lt, Bool, List, length, take, drop, Option, Some, None, if◌then◌else◌}
use Rattle.byteorder.specs.Endian.{big_number}
use Rattle.amt_values.specs.{IpHeader.{ip_version}}
use Rattle.inner_datagrams.specs.{Head.{head_at}, Header.{fragment_bits, header_octets, protocol_number}, Header6.{next_header}}
use Rattle.amt_pcap.specs.declared.udp.Ends.{Ends}

-- a datagram: its two ends and its data
pub record Datagram : Type 0 where
  pub ends : Ends
  pub payload : List ℕ

-- of IPv4 the place after its header, where it carries UDP and is no fragment
abbrev pub udp_place4 : List ℕ → Option ℕ
udp_place4 packet =
    if (protocol_number packet == 17) && (fragment_bits packet == 0) && not (nat_lt (header_octets packet) 20)
    then Some (header_octets packet) else None

-- of IPv6 the place after its header, where UDP follows at once
abbrev pub udp_place6 : List ℕ → Option ℕ
udp_place6 packet = if next_header packet == 17 then Some 40 else None

abbrev pub udp_place : List ℕ → Option ℕ
udp_place packet =
    if ip_version packet == 6 then udp_place6 packet
    else (if ip_version packet == 4 then udp_place4 packet else None)

-- the length that the UDP header at the place states, itself included
abbrev pub udp_length : List ℕ → ℕ → ℕ
udp_length packet place = big_number 2 (drop (place + 4) packet)

-- that header is there, and its length is one that fits
abbrev pub has_udp : List ℕ → ℕ → Bool
has_udp packet place = not (nat_lt (length packet) (place + 8)) && not (nat_lt (udp_length packet place) 8)
    && not (nat_lt (length packet) (place + udp_length packet place))

-- both ends and the data
abbrev pub datagram_at : List ℕ → ℕ → Datagram
datagram_at packet place = record {
  ends = record {
    source = record { ip = (head_at packet).source; port = big_number 2 (drop place packet) };
    destination = record { ip = (head_at packet).group; port = big_number 2 (drop (place + 2) packet) };
  };
  payload = take (udp_length packet place - 8) (drop (place + 8) packet);
}

abbrev pub datagram_if : List ℕ → Option ℕ → Option Datagram
datagram_if packet None = None
datagram_if packet (Some place) = if has_udp packet place then Some (datagram_at packet place) else None

-- the datagram that a packet carries, if it carries one
abbrev pub datagram_of : List ℕ → Option Datagram
datagram_of packet = datagram_if packet (udp_place packet)
