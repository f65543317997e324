-- The orders of addresses and of endpoints are total, and tell all values apart.
use Rattle.std.{proofs.{Common.{◌≡◌, ℕ, refl, ap, ◌∙◌}, lemmas.{Cmp.{nat_cmp_total, on_total, then_total}, Map.Lookups.{CmpEqualImpliesEq, exact_unsigned}}}, specs.{Cmp.{IsTotalOrder}, Ordering.{nat_cmp, ordering_reverse, ordering_then}, declared.cmp.Ordering.{Ordering, TheVariants.{Less, Equal, Greater}}}}
use Rattle.amt_values.specs.{declared.address.Ip.{Ip, TheVariants.{V4, V6}}, Order.{ip_order, endpoint_order}, EndpointValue.{EndpointValue}}

antisymm-ip_order : (x y : Ip) → ip_order x y ≡ ordering_reverse (ip_order y x)
antisymm-ip_order (V4 one) (V4 other) = nat_cmp_total.antisymm one other
antisymm-ip_order (V4 one) (V6 other) = refl
antisymm-ip_order (V6 one) (V4 other) = refl
antisymm-ip_order (V6 one) (V6 other) = nat_cmp_total.antisymm one other

trans-ip_order : (x y z : Ip) → ip_order x y ≡ Less → ip_order y z ≡ Less → ip_order x z ≡ Less
trans-ip_order (V4 one) (V4 two) (V4 three) first second = nat_cmp_total.trans one two three first second
trans-ip_order (V4 one) (V4 two) (V6 three) first second = refl
trans-ip_order (V4 one) (V6 two) (V4 three) first second = cc
trans-ip_order (V4 one) (V6 two) (V6 three) first second = refl
trans-ip_order (V6 one) (V4 two) z first second = cc
trans-ip_order (V6 one) (V6 two) (V4 three) first second = cc
trans-ip_order (V6 one) (V6 two) (V6 three) first second = nat_cmp_total.trans one two three first second

congr-ip_order : (x y z : Ip) → ip_order x y ≡ Equal → ip_order x z ≡ ip_order y z
congr-ip_order (V4 one) (V4 two) (V4 three) same = nat_cmp_total.congr one two three same
congr-ip_order (V4 one) (V4 two) (V6 three) same = refl
congr-ip_order (V4 one) (V6 two) z same = cc
congr-ip_order (V6 one) (V4 two) z same = cc
congr-ip_order (V6 one) (V6 two) (V4 three) same = refl
congr-ip_order (V6 one) (V6 two) (V6 three) same = nat_cmp_total.congr one two three same

pub ip_order-total : IsTotalOrder ip_order
ip_order-total = record { antisymm = antisymm-ip_order; trans = trans-ip_order; congr = congr-ip_order }

pub ip_order-exact : CmpEqualImpliesEq ip_order
ip_order-exact (V4 one) (V4 other) same = ap V4 (exact_unsigned one other same)
ip_order-exact (V4 one) (V6 other) same = cc
ip_order-exact (V6 one) (V4 other) same = cc
ip_order-exact (V6 one) (V6 other) same = ap V6 (exact_unsigned one other same)

pub endpoint_order-total : IsTotalOrder endpoint_order
endpoint_order-total = then_total (on_total (λ (tunnel : EndpointValue). tunnel.address) nat_cmp_total) (on_total (λ (tunnel : EndpointValue). tunnel.port) nat_cmp_total)

-- where two orders find no difference, neither does
pub both_tied : (first second : Ordering) → ordering_then first second ≡ Equal → (first ≡ Equal) × (second ≡ Equal)
both_tied Less second tied = cc
both_tied Equal second tied = (refl, tied)
both_tied Greater second tied = cc

abbrev tunnel : ℕ → ℕ → EndpointValue
tunnel address port = record { address = address; port = port }

pub endpoint_order-exact : CmpEqualImpliesEq endpoint_order
endpoint_order-exact one other same =
    let both = both_tied (nat_cmp one.address other.address) (nat_cmp one.port other.port) same in
    ap (λ (address : ℕ). tunnel address one.port) (exact_unsigned one.address other.address both.0)
    ∙ ap (λ (port : ℕ). tunnel other.address port) (exact_unsigned one.port other.port both.1)
