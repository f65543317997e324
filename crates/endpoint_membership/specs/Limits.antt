-- The limits of a membership table: each keeps hosts from claiming the relay's memory.
use Rattle.std.specs.Prelude.{◌≡◌, ℕ, ◌*◌, ◌≤◌, max, nat_lt, Bool, true, List, [], ◌∷◌, ◌++◌, length, map, sum_by, Option, Some, None, ◌&&◌}
use Rattle.std.specs.List.{list_any, count_by, AllByRecursion}
use Rattle.amt_values.specs.{declared.address.Ip.{Ip}, Order.{endpoint_order}, EndpointValue.{EndpointValue}, Ascending.{ascending}, Conditions.{Conditions, first_holding}}
use Rattle.source_filter.specs.declared.record.Record.{Record}
use Rattle.endpoint_membership.specs.{EndpointGroup.{EndpointGroup, same_endpoint, same_group}, Membership.{Membership, endpoint_group_of}, Memberships.{membership_in}, declared.{limits.{LimitFault.{LimitFault, TheVariants.{Sources, Groups, Endpoints}}, Limits.{Limits}}, row.Row.{Row}}}

-- the number of groups of the endpoint
abbrev pub group_count : EndpointValue → List Membership → ℕ
group_count endpoint rows = count_by (λ membership. same_endpoint membership.endpoint endpoint) rows

-- the number of different endpoints
abbrev pub live_count : List Membership → ℕ
live_count rows = length (ascending endpoint_order (map (λ membership. membership.endpoint) rows))

-- the number of listed sources
abbrev pub size : Membership → ℕ
size membership = length membership.filter.sources

-- the same, and 0 where there is no membership
abbrev pub size_of : Option Membership → ℕ
size_of None = 0
size_of (Some membership) = size membership

-- the size of the pair's membership
abbrev pub size_at : List Membership → EndpointGroup → ℕ
size_at rows endpoint_group = size_of (membership_in rows endpoint_group)

-- each number is at most the given one
pub record AreAtMost (given limits : Limits) : Type 0 where
  pub endpoints : limits.endpoints ≤ given.endpoints
  pub groups : limits.groups ≤ given.groups
  pub sources : limits.sources ≤ given.sources

-- the limits that may be in force later: each number is at least 1 and at most the given one
pub record AreWithin (given limits : Limits) : Type 0 where
  pub endpoints : (1 ≤ limits.endpoints) × (limits.endpoints ≤ given.endpoints)
  pub groups : (1 ≤ limits.groups) × (limits.groups ≤ given.groups)
  pub sources : (1 ≤ limits.sources) × (limits.sources ≤ given.sources)

-- the memberships are at most the limits
pub record IsWithin (limits : Limits) (rows : List Membership) : Type 0 where
  pub endpoints : live_count rows ≤ limits.endpoints
  pub groups : (endpoint : EndpointValue) → group_count endpoint rows ≤ limits.groups
  pub sources : AllByRecursion (λ membership. size membership ≤ limits.sources) rows

-- the limits bound how many rows there are, and how many sources they list together
pub record AreFew (limits : Limits) (all : List Row) : Type 0 where
  pub rows : length all ≤ limits.endpoints * limits.groups
  pub sources : sum_by (λ row. length row.filter.sources) all ≤ (limits.endpoints * limits.groups) * limits.sources

-- a record is on the group
abbrev pub is_reported : List Record → Ip → Bool
is_reported records group = list_any (λ group_record. same_group group group_record.group) records

-- A report of the endpoint leaves no more than the limits, or no more than there is without it: of the
-- sources of each reported group, of the endpoint's groups and of live endpoints.
pub record Fits (limits : Limits) (endpoint : EndpointValue) (records : List Record) (without rows : List Membership) : Type 0 where
  pub sources : (group : Ip) → is_reported records group ≡ true
      → size_at rows (record { endpoint = endpoint; group = group }) ≤ max limits.sources (size_at without (record { endpoint = endpoint; group = group }))
  pub groups : group_count endpoint rows ≤ max limits.groups (group_count endpoint without)
  pub endpoints : live_count rows ≤ max limits.endpoints (live_count without)

-- a membership of the endpoint in a reported group, with more sources than the limit and than without
-- the report
abbrev pub is_too_wide : Limits → EndpointValue → List Record → List Membership → Membership → Bool
is_too_wide limits endpoint records without membership =
    (same_endpoint membership.endpoint endpoint && is_reported records membership.group)
    && nat_lt (max limits.sources (size_at without (endpoint_group_of membership))) (size membership)

-- each membership that is too wide by the test, with its number of sources
abbrev pub width_conditions : (Membership → Bool) → List Membership → Conditions LimitFault
width_conditions test rows = map (λ membership. (test membership, Sources membership.group (size membership))) rows

-- too many groups of the endpoint, then too many endpoints
abbrev pub count_conditions : Limits → ℕ → ℕ → Conditions LimitFault
count_conditions limits groups endpoints =
    (nat_lt limits.groups groups, Groups groups) ∷ (nat_lt limits.endpoints endpoints, Endpoints endpoints) ∷ []

-- the limits, with the numbers of groups and of endpoints without a report where these are greater
abbrev pub raised : Limits → ℕ → ℕ → Limits
raised limits groups endpoints =
    record { endpoints = max limits.endpoints endpoints; groups = max limits.groups groups; sources = limits.sources }

-- What memberships may pass after a report of the endpoint, in the order in which it is tried: the
-- sources of each reported group, by group; the endpoint's groups; the live endpoints.
abbrev pub limit_conditions : Limits → EndpointValue → List Record → List Membership → List Membership → Conditions LimitFault
limit_conditions limits endpoint records without rows =
    width_conditions (is_too_wide limits endpoint records without) rows
    ++ count_conditions (raised limits (group_count endpoint without) (live_count without)) (group_count endpoint rows) (live_count rows)

-- the first limit that memberships pass after a report of the endpoint, by the memberships without it
abbrev pub first_limit : Limits → EndpointValue → List Record → List Membership → List Membership → Option LimitFault
first_limit limits endpoint records without rows = first_holding (limit_conditions limits endpoint records without rows)
