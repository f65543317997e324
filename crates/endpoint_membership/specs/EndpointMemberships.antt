-- The memberships of one endpoint after its report, as a table finds them. No public contract says
-- these words.
use Rattle.std.specs.{Prelude.{◌≡◌, ℕ, ◌+◌, ◌==◌, max, Bool, true, false, List, [], ◌∷◌, Option, Some, None, ◌&&◌, length, nat_lt, if◌then◌else◌}, List.{AllByRecursion, filter, find}, Option.{option_map}}
use Rattle.amt_values.specs.{declared.address.Ip.{Ip}, EndpointValue.{EndpointValue}, Ascending.{IsAscending, has}, Conditions.{first_holding, first_of}}
use Rattle.source_filter.specs.{Filter.{FilterValue, filter_after, nothing, wants_any}, declared.record.Record.{Record}}
use Rattle.endpoint_membership.specs.{EndpointGroup.{EndpointGroup, endpoint_group_order, same_endpoint}, Limits.{count_conditions, is_reported, live_count, raised, size, size_at}, Log.{on_group}, Membership.{Membership, endpoint_group_of, is_fresh, membership_order}}
use Rattle.endpoint_membership.specs.{Memberships.{membership_in, membership_of}, Stored.{is_counted, only}, declared.{after_report.RenewedFilter.{RenewedFilter}, limits.{LimitFault.{LimitFault, TheVariants.{Sources}}, Limits.{Limits}}}}

-- the filter of a membership, and when it was renewed
abbrev pub renewed_filter_of : Option Membership → Option RenewedFilter
renewed_filter_of None = None
renewed_filter_of (Some membership) = Some (record { filter = membership.filter; renewed = membership.renewed })

-- the filter, and nothing where there is none
abbrev pub filter_or_nothing : Option RenewedFilter → FilterValue
filter_or_nothing None = nothing
filter_or_nothing (Some renewed_filter) = renewed_filter.filter

-- a group's filter after a record on the group
abbrev pub renewed_filter_after : ℕ → Record → Option RenewedFilter → Option RenewedFilter
renewed_filter_after moment group_record before =
    Some (record { filter = filter_after (filter_or_nothing before) group_record; renewed = moment })

-- a group's filter after records on the group, oldest first
abbrev pub renewed_filter_after_all : ℕ → List Record → Option RenewedFilter → Option RenewedFilter
renewed_filter_after_all moment [] before = before
renewed_filter_after_all moment (group_record ∷ later) before =
    renewed_filter_after_all moment later (renewed_filter_after moment group_record before)

-- the membership that an entry of a map of filters makes, where something is wanted
abbrev pub membership_of_entry : EndpointValue → Ip × RenewedFilter → Option Membership
membership_of_entry endpoint entry = membership_of (record { endpoint = endpoint; group = entry.0 }) entry.1.filter entry.1.renewed

-- the membership that a filter of the group makes, if there is one
abbrev pub membership_of_renewed : EndpointValue → Ip → Option RenewedFilter → Option Membership
membership_of_renewed endpoint group None = None
membership_of_renewed endpoint group (Some renewed_filter) = membership_of_entry endpoint (group, renewed_filter)

-- all are of the endpoint
abbrev pub AreOf : EndpointValue → List Membership → Type 0
AreOf endpoint rows = AllByRecursion (λ membership. same_endpoint membership.endpoint endpoint ≡ true) rows

-- a membership in a reported group with more sources than allowed, and than before the report
abbrev pub is_over : ℕ → List Membership → List Record → Membership → Bool
is_over most before records membership =
    nat_lt (max most (size_at before (endpoint_group_of membership))) (size membership) && is_reported records membership.group

-- the limit that a membership passes which has too many sources
abbrev pub width_fault : Membership → LimitFault
width_fault membership = Sources membership.group (size membership)

-- the first limit that is passed: by the membership that has too many sources, if there is one, or
-- by the numbers of groups and endpoints
abbrev pub limit_by : Limits → ℕ → ℕ → Option Membership → Option LimitFault
limit_by limits groups endpoints wide = first_of (option_map width_fault wide) (first_holding (count_conditions limits groups endpoints))

-- how many endpoints are live where one has this many groups, and these others are live
abbrev pub live_with : ℕ → ℕ → ℕ
live_with others groups = others + (if groups == 0 then 0 else 1)

-- the first limit that a report passes, by all memberships before it, how many of these are its
-- endpoint's and still count, and the endpoint's memberships after it
abbrev pub limit_by_own : ℕ → ℕ → Limits → EndpointValue → List Record → List Membership → ℕ → List Membership → Option LimitFault
limit_by_own lifetime moment limits endpoint records rows before own =
    let others = live_count (filter (is_counted lifetime moment endpoint) rows) in
    limit_by (raised limits before (live_with others before)) (length own) (live_with others (length own)) (find (is_over limits.sources (filter (is_fresh lifetime moment) rows) records) own)

-- the memberships of an endpoint after its report, from all memberships before it
pub record AreOwn (lifetime moment : ℕ) (endpoint : EndpointValue) (records : List Record) (rows own : List Membership) : Type 0 where
  pub ascends : IsAscending membership_order own
  pub of : AreOf endpoint own
  pub each : (group : Ip) → membership_in own (record { endpoint = endpoint; group = group })
      ≡ membership_of_renewed endpoint group (renewed_filter_after_all moment (on_group group records)
      (renewed_filter_of (only (is_fresh lifetime moment) (membership_in rows (record { endpoint = endpoint; group = group })))))

-- the pair of an entry of a map of filters, where nothing is wanted of its group
abbrev pub gone_of_entry : EndpointValue → Ip × RenewedFilter → Option EndpointGroup
gone_of_entry endpoint entry = if wants_any entry.1.filter then None else Some (record { endpoint = endpoint; group = entry.0 })

-- pairs of the endpoint that have no membership after its report; of all others of the endpoint that
-- have none afterwards, none counts at the moment anyway
pub record AreGone (lifetime moment : ℕ) (endpoint : EndpointValue) (rows own : List Membership) (gone : List EndpointGroup) : Type 0 where
  pub of : (at : EndpointGroup) → has endpoint_group_order gone at ≡ true → same_endpoint at.endpoint endpoint ≡ true
  pub none : (at : EndpointGroup) → has endpoint_group_order gone at ≡ true → membership_in own at ≡ None
  pub all : (group : Ip) → membership_in own (record { endpoint = endpoint; group = group }) ≡ None → has endpoint_group_order gone (record { endpoint = endpoint; group = group }) ≡ false
      → only (is_fresh lifetime moment) (membership_in rows (record { endpoint = endpoint; group = group })) ≡ None
