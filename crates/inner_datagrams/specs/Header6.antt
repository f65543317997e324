-- The fields of an IPv6 header (RFC 8200, section 3), and of a hop-by-hop header after it (section 4.3).
use Rattle.std.specs.Prelude.{ℕ, ◌+◌, ◌*◌, ◌==◌, Bool, List, drop, slice_index, if◌then◌else◌}
use Rattle.byteorder.specs.Endian.{big_number}
use Rattle.amt_values.specs.IpHeader.{payload_length}

-- the octets of the whole datagram
abbrev pub whole_length6 : List ℕ → ℕ
whole_length6 bytes = 40 + payload_length bytes

-- the kind of what follows the IPv6 header
abbrev pub next_header : List ℕ → ℕ
next_header bytes = slice_index bytes 6

-- the source's address as a number
abbrev pub source_number6 : List ℕ → ℕ
source_number6 bytes = big_number 16 (drop 8 bytes)

-- the destination's address as a number
abbrev pub destination_number6 : List ℕ → ℕ
destination_number6 bytes = big_number 16 (drop 24 bytes)

-- a hop-by-hop header follows the IPv6 header
abbrev pub has_hop_by_hop : List ℕ → Bool
has_hop_by_hop bytes = next_header bytes == 0

-- the kind of what follows the hop-by-hop header
abbrev pub hop_by_hop_next : List ℕ → ℕ
hop_by_hop_next bytes = slice_index bytes 40

-- the place after the hop-by-hop header; its length counts units of 8 octets without the first one
abbrev pub hop_by_hop_end : List ℕ → ℕ
hop_by_hop_end bytes = 40 + 8 * (slice_index bytes 41 + 1)

-- the place after all headers that are read
abbrev pub headers_end6 : List ℕ → ℕ
headers_end6 bytes = if has_hop_by_hop bytes then hop_by_hop_end bytes else 40

-- the kind of what stands at that place
abbrev pub last_next_header : List ℕ → ℕ
last_next_header bytes = if has_hop_by_hop bytes then hop_by_hop_next bytes else next_header bytes
