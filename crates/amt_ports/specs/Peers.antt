-- Peers as std's socket addresses.
use Rattle.std.specs.{Prelude.{ℕ, ◌%◌, ◌^◌, if◌then◌else◌}, Net.Addr.{ipv4_bits, ipv6_bits, IsIpv4OfBits, IsIpv6OfBits}, declared.net.ip_addr.IpAddr.{IpAddr, TheVariants.{V4 as StdV4, V6 as StdV6}}}
use Rattle.amt_values.specs.{Address.{is_mapped}, declared.address.Ip.{Ip, TheVariants.{V4, V6}}}

-- the address with these 128 bits: an IPv4-mapped one is the IPv4 address in it, and every other one is
-- itself (RFC 4291, section 2.5.5.2)
abbrev pub unmapped : ℕ → Ip
unmapped bits = if is_mapped bits then V4 (bits % 2 ^ 32) else V6 bits

-- the address that a datagram came from
abbrev pub source_ip : IpAddr → Ip
source_ip (StdV4 address) = V4 (ipv4_bits address)
source_ip (StdV6 address) = unmapped (ipv6_bits address)

-- std's address has the family and the bits of ours
abbrev pub IsStdAddress : Ip → IpAddr → Type 0
IsStdAddress (V4 bits) (StdV4 address) = IsIpv4OfBits address bits
IsStdAddress (V6 bits) (StdV6 address) = IsIpv6OfBits address bits
IsStdAddress (V4 bits) (StdV6 address) = ⊥
IsStdAddress (V6 bits) (StdV4 address) = ⊥
