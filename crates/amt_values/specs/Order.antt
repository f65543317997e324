-- The orders of addresses and of tunnel endpoints.
use Rattle.std.specs.{Ordering.{nat_cmp, on, then_cmp}, declared.cmp.Ordering.{Ordering, TheVariants.{Less, Greater}}}
use Rattle.amt_values.specs.{declared.address.Ip.{Ip, TheVariants.{V4, V6}}, EndpointValue.{EndpointValue}}

-- IPv4 before IPv6, then by number
abbrev pub ip_order : Ip → Ip → Ordering
ip_order (V4 one) (V4 other) = nat_cmp one other
ip_order (V4 one) (V6 other) = Less
ip_order (V6 one) (V4 other) = Greater
ip_order (V6 one) (V6 other) = nat_cmp one other

-- by address, then port
abbrev pub endpoint_order : EndpointValue → EndpointValue → Ordering
endpoint_order = then_cmp (on (λ tunnel. tunnel.address) nat_cmp) (on (λ tunnel. tunnel.port) nat_cmp)
