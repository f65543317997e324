-- Which memberships there are, by the log alone.
use Rattle.std.specs.{Prelude.{ℕ, Bool, List, [], ◌∷◌, ◌++◌, reverse, map, Option, Some, None, if◌then◌else◌}, List.{filter_map, find, list_any}}
use Rattle.amt_values.specs.{EndpointValue.{EndpointValue}, Ascending.{ascending}}
use Rattle.source_filter.specs.{Filter.{FilterValue, wants_any}, declared.record.Record.{Record}}
use Rattle.endpoint_membership.specs.{EndpointGroup.{EndpointGroup, endpoint_group_order, same_endpoint, same_endpoint_group}, GroupFilter.{filter_of}, Log.{live_chain, renewed_at}, Membership.{Membership, endpoint_group_of}, declared.{change.Change.{Change, TheVariants.{Reported, Clear, Mark}}, row.Row.{Row}}}

-- the membership with this filter, where something is wanted
abbrev pub membership_of : EndpointGroup → FilterValue → ℕ → Option Membership
membership_of endpoint_group filter renewed =
    if wants_any filter
    then Some (record { endpoint = endpoint_group.endpoint; group = endpoint_group.group; filter = filter; renewed = renewed })
    else None

-- the membership of the endpoint in the group at a moment not before the latest, by the entries,
-- newest first
abbrev pub membership_at : ℕ → ℕ → List Change → EndpointGroup → Option Membership
membership_at lifetime moment past endpoint_group =
    membership_of endpoint_group (filter_of (live_chain lifetime endpoint_group moment past)) (renewed_at endpoint_group past)

-- the endpoint with each group that records name
abbrev pub endpoint_groups_of : EndpointValue → List Record → List EndpointGroup
endpoint_groups_of endpoint records = map (λ group_record. record { endpoint = endpoint; group = group_record.group }) records

-- the endpoints and groups that the reports name
abbrev pub endpoint_groups_in : List Change → List EndpointGroup
endpoint_groups_in [] = []
endpoint_groups_in (Reported endpoint records at ∷ rest) = endpoint_groups_of endpoint records ++ endpoint_groups_in rest
endpoint_groups_in (Clear endpoint at ∷ rest) = endpoint_groups_in rest
endpoint_groups_in (Mark at ∷ rest) = endpoint_groups_in rest

-- all memberships at the moment by the log, oldest entry first: by endpoint, then group
abbrev pub memberships_at : ℕ → ℕ → List Change → List Membership
memberships_at lifetime moment log =
    let past = reverse log in filter_map (membership_at lifetime moment past) (ascending endpoint_group_order (endpoint_groups_in past))

-- the one of these that is the endpoint's in the group
abbrev pub membership_in : List Membership → EndpointGroup → Option Membership
membership_in rows endpoint_group = find (λ membership. same_endpoint_group endpoint_group (endpoint_group_of membership)) rows

-- a membership as it is shown
abbrev pub row_of : Membership → Row
row_of membership = record { endpoint = membership.endpoint; group = membership.group; filter = membership.filter }

-- the rows at the moment by the log
abbrev pub rows_of : ℕ → ℕ → List Change → List Row
rows_of lifetime moment log = map row_of (memberships_at lifetime moment log)

-- one of these is the endpoint's
abbrev pub is_live : EndpointValue → List Membership → Bool
is_live endpoint rows = list_any (λ membership. same_endpoint membership.endpoint endpoint) rows
