-- Multicast groups that a relay forwards.
use Rattle.std.specs.Prelude.{◌/◌, ◌%◌, ◌^◌, ◌==◌, ◌&&◌, not, nat_lt, Bool}
use Rattle.amt_values.specs.declared.address.Ip.{Ip, TheVariants.{V4, V6}}

-- 224.0.0.0/4 without 224.0.0.0/24, whose packets no router forwards (RFC 5771, section 4); and
-- ff00::/8 without the reserved, interface-local and link-local scopes 0, 1 and 2, the low half of
-- the second octet (RFC 4291, section 2.7)
abbrev pub is_forwardable : Ip → Bool
is_forwardable (V4 number) = (number / 2 ^ 28 == 14) && not (number / 2 ^ 8 == 0xe00000)
is_forwardable (V6 number) = (number / 2 ^ 120 == 0xff) && nat_lt 2 (number / 2 ^ 112 % 16)
