-- The membership of a tunnel endpoint in a group.
use Rattle.std.specs.{Prelude.{ℕ, ◌+◌, nat_lt, Bool}, Ordering.{on}, declared.cmp.Ordering.{Ordering}}
use Rattle.amt_values.specs.{declared.address.Ip.{Ip}, EndpointValue.{EndpointValue}}
use Rattle.source_filter.specs.Filter.{FilterValue}
use Rattle.endpoint_membership.specs.EndpointGroup.{EndpointGroup, endpoint_group_order}

-- what an endpoint wants of a group, and the moment at which its membership was last renewed
pub record Membership : Type 0 where
  pub endpoint : EndpointValue
  pub group : Ip
  pub filter : FilterValue
  pub renewed : ℕ

-- whose membership it is, and in which group
abbrev pub endpoint_group_of : Membership → EndpointGroup
endpoint_group_of membership = record { endpoint = membership.endpoint; group = membership.group }

-- memberships are ordered by endpoint, then group
abbrev pub membership_order : Membership → Membership → Ordering
membership_order = on endpoint_group_of endpoint_group_order

-- less than a lifetime has passed since the last renewal (RFC 3376, section 8.4)
abbrev pub is_fresh : ℕ → ℕ → Membership → Bool
is_fresh lifetime moment membership = nat_lt moment (membership.renewed + lifetime)
