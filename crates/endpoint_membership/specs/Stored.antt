-- The memberships of a table as the ascending list that its calls are proved by. No public contract says
-- these words.
use Rattle.std.specs.Prelude.{◌≡◌, ℕ, not, Bool, false, ◌&&◌, List, is_some, Option, Some, None, if◌then◌else◌}
use Rattle.amt_values.specs.{declared.address.Ip.{Ip}, Order.{endpoint_order}, EndpointValue.{EndpointValue}, Ascending.{IsAscending, has}}
use Rattle.source_filter.specs.Filter.{admits}
use Rattle.endpoint_membership.specs.{EndpointGroup.{same_endpoint}, Membership.{Membership, endpoint_group_of, is_fresh}, Memberships.{membership_in}}

-- a membership where it passes the test
abbrev pub only : (Membership → Bool) → Option Membership → Option Membership
only test None = None
only test (Some membership) = if test membership then Some membership else None

-- some of the rows is of the membership's pair
abbrev pub is_known : List Membership → Membership → Bool
is_known rows membership = is_some (membership_in rows (endpoint_group_of membership))

-- a membership of another endpoint
abbrev pub is_of_another : EndpointValue → Membership → Bool
is_of_another endpoint membership = not (same_endpoint membership.endpoint endpoint)

-- a membership of another endpoint that counts at the moment
abbrev pub is_counted : ℕ → ℕ → EndpointValue → Membership → Bool
is_counted lifetime moment besides membership = is_of_another besides membership && is_fresh lifetime moment membership

-- the last one is of the endpoint
abbrev pub ends_with : Option EndpointValue → EndpointValue → Bool
ends_with None endpoint = false
ends_with (Some last) endpoint = same_endpoint last endpoint

-- a membership that counts at the moment and lets the source in
abbrev pub is_target : ℕ → ℕ → Ip → Membership → Bool
is_target lifetime moment source membership = is_fresh lifetime moment membership && admits membership.filter source

-- the endpoints ascend, and are those whose membership in the group is such a one
pub record AreTargets (lifetime moment : ℕ) (group source : Ip) (rows : List Membership) (endpoints : List EndpointValue) : Type 0 where
  pub ascend : IsAscending endpoint_order endpoints
  pub each : (endpoint : EndpointValue) → has endpoint_order endpoints endpoint ≡ is_some (only (is_target lifetime moment source) (membership_in rows (record { endpoint = endpoint; group = group })))
