-- The fields of an IP header that say which version it has, and how long its datagram is.
use Rattle.std.specs.Prelude.{ℕ, ◌/◌, List, drop, slice_index}
use Rattle.byteorder.specs.Endian.{big_number}

-- the version, the high half of the first octet (RFC 791, section 3.1; RFC 8200, section 3)
abbrev pub ip_version : List ℕ → ℕ
ip_version octets = slice_index octets 0 / 16

-- the Total Length of an IPv4 datagram, which counts its header (RFC 791, section 3.1)
abbrev pub total_length : List ℕ → ℕ
total_length octets = big_number 2 (drop 2 octets)

-- the Payload Length of an IPv6 datagram, which counts what follows the header of 40 octets (RFC 8200, section 3)
abbrev pub payload_length : List ℕ → ℕ
payload_length octets = big_number 2 (drop 4 octets)
