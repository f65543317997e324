-- An endpoint and a group, a pair in comments: for each pair the log says whether the endpoint has a
-- membership in the group.
use Rattle.std.specs.{Prelude.{Bool}, Ordering.{on, then_cmp, eq_by_cmp}, declared.cmp.Ordering.{Ordering}}
use Rattle.amt_values.specs.{declared.address.Ip.{Ip}, Order.{ip_order, endpoint_order}, EndpointValue.{EndpointValue}}

-- a tunnel endpoint and a group that it may be a member of
pub record EndpointGroup : Type 0 where
  pub endpoint : EndpointValue
  pub group : Ip

-- by endpoint, then group
abbrev pub endpoint_group_order : EndpointGroup → EndpointGroup → Ordering
endpoint_group_order = then_cmp (on (λ one. one.endpoint) endpoint_order) (on (λ one. one.group) ip_order)

-- the endpoints are one
abbrev pub same_endpoint : EndpointValue → EndpointValue → Bool
same_endpoint one other = eq_by_cmp endpoint_order one other

-- the groups are one
abbrev pub same_group : Ip → Ip → Bool
same_group one other = eq_by_cmp ip_order one other

-- both are one
abbrev pub same_endpoint_group : EndpointGroup → EndpointGroup → Bool
same_endpoint_group one other = eq_by_cmp endpoint_group_order one other
