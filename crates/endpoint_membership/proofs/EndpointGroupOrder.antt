-- The order of pairs is total and tells all pairs apart.
use Rattle.std.{proofs.{Common.{◌≡◌, ◌&&◌, sym, ap, ◌∙◌}, lemmas.{Cmp.{on_total, then_total}, Map.Lookups.{CmpEqualImpliesEq}}}, specs.Cmp.{IsTotalOrder, tied_then}}
use Rattle.amt_values.{specs.{declared.address.Ip.{Ip}, Order.{ip_order, endpoint_order}, EndpointValue.{EndpointValue}}, proofs.Orders.{both_tied, ip_order-exact, ip_order-total, endpoint_order-exact, endpoint_order-total}}
use Rattle.endpoint_membership.specs.EndpointGroup.{EndpointGroup, endpoint_group_order, same_endpoint, same_group, same_endpoint_group}

pub endpoint_group_order-total : IsTotalOrder endpoint_group_order
endpoint_group_order-total = then_total (on_total (λ (endpoint_group : EndpointGroup). endpoint_group.endpoint) endpoint_order-total) (on_total (λ (endpoint_group : EndpointGroup). endpoint_group.group) ip_order-total)

abbrev made : EndpointValue → Ip → EndpointGroup
made endpoint group = record { endpoint = endpoint; group = group }

pub endpoint_group_order-exact : CmpEqualImpliesEq endpoint_group_order
endpoint_group_order-exact one other same =
    let both = both_tied (endpoint_order one.endpoint other.endpoint) (ip_order one.group other.group) same in
    ap (λ (endpoint : EndpointValue). made endpoint one.group) (endpoint_order-exact one.endpoint other.endpoint both.0)
    ∙ ap (λ (group : Ip). made other.endpoint group) (ip_order-exact one.group other.group both.1)

pub same_endpoint_group-is : (one other : EndpointGroup) → same_endpoint_group one other ≡ (same_endpoint one.endpoint other.endpoint && same_group one.group other.group)
same_endpoint_group-is one other = sym (tied_then (endpoint_order one.endpoint other.endpoint) (ip_order one.group other.group))
