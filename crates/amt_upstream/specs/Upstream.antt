-- What all tunnel endpoints together want of each group, and what changes of it: what a relay's own network has to
-- hear of it as of a host (RFC 4605, section 4.1; RFC 3376, sections 3.2 and 5.1).
use Rattle.std.specs.{Prelude.{◌≡◌, ℕ, ◌↔◌, true, List, [], ◌∷◌, ◌++◌, map}, List.{filter, flat_map}}
use Rattle.amt_values.specs.{declared.address.Ip.{Ip}, Order.{ip_order}, EndpointValue.{EndpointValue}, Ascending.{ascending}}
use Rattle.source_filter.specs.{Changes.{changes_on}, Filter.{FilterValue, admits}, Merging.{merged}, declared.record.Record.{Record}}
use Rattle.endpoint_membership.specs.{Admission.{is_admitted}, EndpointGroup.{same_group}, Limits.{IsWithin}, Log.{latest}, Membership.{Membership}, Memberships.{memberships_at}, Table.{Holds, TableSettings, TableValue, memberships_now}, declared.change.Change.{Change}}

-- the filters of the memberships in the group
abbrev pub filters_in : Ip → List Membership → List FilterValue
filters_in group rows = map (λ membership. membership.filter) (filter (λ membership. same_group group membership.group) rows)

-- the one filter of the group for all of these memberships
abbrev pub joined : List Membership → Ip → FilterValue
joined rows group = merged (filters_in group rows)

-- the same by the log, at its latest moment
abbrev pub upstream_filter : ℕ → List Change → Ip → FilterValue
upstream_filter lifetime log group = joined (memberships_at lifetime (latest log) log) group

-- the groups of the memberships, ascending: IPv4 before IPv6
abbrev pub groups_in : List Membership → List Ip
groups_in rows = ascending ip_order (map (λ membership. membership.group) rows)

-- the change records of the group; there is none where both filters are one
abbrev pub records_on : List Membership → List Membership → Ip → List Record
records_on before after group = changes_on (joined before group) (joined after group) group

-- those of each group that has a membership before or after, by group
unfoldable pub records_between : List Membership → List Membership → List Record
records_between before after = flat_map (records_on before after) (groups_in (before ++ after))

-- the records by which the log's next entry is answered
abbrev pub changes_after : TableSettings → List Change → Change → List Record
changes_after settings log entry = records_between (memberships_now settings log) (memberships_now settings (log ++ entry ∷ []))

-- some endpoint wants the source of the group at the log's latest moment
abbrev pub IsWantedBySome : ℕ → List Change → Ip → Ip → Type 0
IsWantedBySome lifetime log group source =
    (endpoint : EndpointValue) × (is_admitted lifetime log (record { endpoint = endpoint; group = group }) source (latest log) ≡ true)

-- the filter lets in exactly the sources that some endpoint wants
abbrev pub AdmitsTheWanted : ℕ → List Change → Ip → FilterValue → Type 0
AdmitsTheWanted lifetime log group filter = (source : Ip) → (admits filter source ≡ true) ↔ IsWantedBySome lifetime log group source

-- by some log that the table stands for, the memberships with the next entry are within the limits
pub record StaysWithin (table : TableValue) (entry : Change) : Type 0 where
  pub settings : TableSettings
  pub log : List Change
  pub holds : Holds settings table log
  pub within : IsWithin settings.limits (memberships_now settings (log ++ entry ∷ []))
