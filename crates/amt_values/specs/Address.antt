-- IP addresses as numbers.
use Rattle.std.specs.Prelude.{ℕ, ◌/◌, ◌%◌, ◌^◌, ◌<◌, ◌==◌, ◌||◌, Bool, false, if◌then◌else◌}
use Rattle.amt_values.specs.declared.address.Ip.{Ip, TheVariants.{V4, V6}}

-- the number is in ::/96, as an IPv4-compatible address is (RFC 4291, section 2.5.5.1)
abbrev pub is_compatible : ℕ → Bool
is_compatible number = number / 2 ^ 32 == 0

-- the number is in ::ffff:0:0/96, as an IPv4-mapped address is (RFC 4291, section 2.5.5.2)
abbrev pub is_mapped : ℕ → Bool
is_mapped number = number / 2 ^ 32 == 0xffff

-- the number of the address has its 32 or 128 bits
abbrev pub IsAddress : Ip → Type 0
IsAddress (V4 number) = number < 2 ^ 32
IsAddress (V6 number) = number < 2 ^ 128

-- what 16 octets carry of an address
abbrev pub number_of : Ip → ℕ
number_of (V4 number) = number
number_of (V6 number) = number

-- the address that 16 octets carry, where both IPv4 forms name the IPv4 address
abbrev pub address_of : ℕ → Ip
address_of number =
    if is_compatible number || is_mapped number then V4 (number % 2 ^ 32) else V6 number

-- an IPv6 address in one of the two prefixes, which no tunnel endpoint has
abbrev pub has_ipv4_prefix : Ip → Bool
has_ipv4_prefix (V4 number) = false
has_ipv4_prefix (V6 number) = is_compatible number || is_mapped number
