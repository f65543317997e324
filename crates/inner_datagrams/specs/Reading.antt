-- What is read of bytes: an inner datagram, or their first fault.
use Rattle.std.specs.Prelude.{◌≡◌, ℕ, ◌-◌, ◌==◌, List, length, take, drop, if◌then◌else◌}
use Rattle.amt_values.specs.{declared.address.Ip.{Ip, TheVariants.{V4, V6}}, IpHeader.{ip_version}}
use Rattle.inner_datagrams.specs.{Header.{header_octets, source_number, destination_number}, Header6.{headers_end6, source_number6, destination_number6}, declared.inner.Inner.{Inner}}

-- the bytes between two places
abbrev pub payload_of : ℕ → ℕ → List ℕ → List ℕ
payload_of start end bytes = take (end - start) (drop start bytes)

-- what was read of the bytes names these parts of a datagram
pub record HasParts (source destination : Ip) (payload bytes : List ℕ) (inner : Inner) : Type 0 where
  pub comes_from : inner.source ≡ source
  pub goes_to : inner.destination ≡ destination
  pub carries : payload_of inner.start inner.end bytes ≡ payload

-- the parts of an IPv4 datagram by their places in the bytes (RFC 791, section 3.1)
abbrev pub inner4_at : List ℕ → Inner
inner4_at bytes =
    record { source = V4 (source_number bytes); destination = V4 (destination_number bytes); start = header_octets bytes; end = length bytes }

-- the parts of an IPv6 datagram by their places in the bytes (RFC 8200, sections 3 and 4.3)
abbrev pub inner6_at : List ℕ → Inner
inner6_at bytes =
    record { source = V6 (source_number6 bytes); destination = V6 (destination_number6 bytes); start = headers_end6 bytes; end = length bytes }

-- the parts of a datagram, by its version
abbrev pub inner_at : List ℕ → Inner
inner_at bytes = if ip_version bytes == 6 then inner6_at bytes else inner4_at bytes

-- the place after a datagram's headers, by its version
abbrev pub payload_start : List ℕ → ℕ
payload_start bytes = if ip_version bytes == 6 then headers_end6 bytes else header_octets bytes

-- what a datagram carries, by its version
abbrev pub payload_in : List ℕ → List ℕ
payload_in bytes = drop (payload_start bytes) bytes
