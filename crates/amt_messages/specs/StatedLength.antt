-- The length that the IP datagram at the head of some octets states of itself.
use Rattle.std.specs.Prelude.{ℕ, ◌+◌, ◌==◌, nat_lt, List, length, Option, Some, None, if◌then◌else◌}
use Rattle.amt_values.specs.IpHeader.{ip_version, total_length, payload_length}

-- no IPv4 datagram is shorter than the least header, of 20 octets
abbrev pub ipv4_length : List ℕ → Option ℕ
ipv4_length octets =
    if nat_lt (length octets) 4 then None
    else (if nat_lt (total_length octets) 20 then None else Some (total_length octets))

-- an IPv6 datagram is its header and what the header says of the rest
abbrev pub ipv6_length : List ℕ → Option ℕ
ipv6_length octets = if nat_lt (length octets) 6 then None else Some (40 + payload_length octets)

-- the datagram's length by its own header: none where the octets end before its length field, or begin no
-- IP datagram
unfoldable pub inner_length_of : List ℕ → Option ℕ
inner_length_of octets =
    if ip_version octets == 4 then ipv4_length octets
    else (if ip_version octets == 6 then ipv6_length octets else None)
