-- How the filter of a group is found by numbers, and how much of it is looked at. No public contract says these words.
use Rattle.std.specs.{Prelude.{◌≡◌, ℕ, ◌==◌, nat_lt, Bool, ◌&&◌, List, [], ◌++◌, map, Option, Some, None, if◌then◌else◌}, List.{filter, flat_map}}
use Rattle.amt_values.specs.{declared.address.Ip.{Ip}, EndpointValue.{EndpointValue}, Order.{ip_order}, Ascending.{IsAscending, ascending, intersection}}
use Rattle.source_filter.specs.{Filter.{FilterValue}, declared.mode.Mode.{Mode, TheVariants.{Include, Exclude}}}
use Rattle.endpoint_membership.specs.{EndpointGroup.{same_group}, Membership.{Membership, membership_order}, MembershipChanges.{AreChanges}, declared.membership_change.MembershipChange.{MembershipChange}}
use Rattle.amt_upstream.specs.{Counting.{AreInOrder, AreNumbers, Numbers, number}, Upstream.{joined}, declared.{count_key.{Counted.{Counted, TheVariants.{Excluders, Excluder, Excluding, Including}}}, changed_group.ChangedGroup.{ChangedGroup}}}

-- some membership excludes
abbrev pub excludes : Numbers → Ip → Bool
excludes tally group = nat_lt 0 (number tally (record { group = group; counted = Excluders }))

-- some membership includes the source
abbrev pub is_included : Numbers → Ip → Ip → Bool
is_included tally group source = nat_lt 0 (number tally (record { group = group; counted = Including source }))

-- every membership that excludes lists the source, and none includes it
abbrev pub is_common : Numbers → Ip → Ip → Bool
is_common tally group source =
    number tally (record { group = group; counted = Excluding source }) == number tally (record { group = group; counted = Excluders })
    && number tally (record { group = group; counted = Including source }) == 0

-- the source that is counted as included, where the number is not 0
abbrev pub included_source : Counted → ℕ → Option Ip
included_source (Including source) number = if nat_lt 0 number then Some source else None
included_source counted number = None

-- the endpoint that is counted as excluding
abbrev pub excluding_endpoint : Counted → Option EndpointValue
excluding_endpoint (Excluder endpoint) = Some endpoint
excluding_endpoint counted = None

-- the sources of a filter, if there is one
abbrev pub sources_if : Option FilterValue → List Ip
sources_if None = []
sources_if (Some filter) = filter.sources

-- the sources that changes name
abbrev pub named_by : List MembershipChange → List Ip
named_by changes = flat_map (λ change. sources_if change.before ++ sources_if change.after) changes

-- the changes of the group
abbrev pub changes_on_group : Ip → List MembershipChange → List MembershipChange
changes_on_group group changes = filter (λ change. same_group group change.group) changes

-- the groups that change, ascending
abbrev pub changed_groups : List MembershipChange → List Ip
changed_groups changes = ascending ip_order (map (λ change. change.group) changes)

-- What is looked at of a filter: of an INCLUDE list the sources that may have changed alone.
abbrev pub seen_by : Mode → List Ip → FilterValue → FilterValue
seen_by Include sources filter = record { mode = Include; sources = intersection ip_order filter.sources sources }
seen_by Exclude sources filter = filter

-- the same by the filter's mode
abbrev pub seen : List Ip → FilterValue → FilterValue
seen sources filter = seen_by filter.mode sources filter

-- after a filter of this mode: what follows an EXCLUDE filter is looked at whole
abbrev pub seen_after : Mode → List Ip → FilterValue → FilterValue
seen_after Include sources filter = seen sources filter
seen_after Exclude sources filter = filter

-- a group that changes, with the sources that its changes name and what is seen of its filter before
pub record IsChangedGroupOf (rows : List Membership) (changes : List MembershipChange) (side : ChangedGroup) : Type 0 where
  pub named : side.named.items ≡ named_by (changes_on_group side.group changes)
  pub before : side.before ≡ seen side.named.items (joined rows side.group)

-- memberships after the changes, ascending as those before them do, and their numbers
pub record IsAfter (before : List Membership) (changes : List MembershipChange) (tally : Numbers) (after : List Membership) : Type 0 where
  pub ascended : IsAscending membership_order before
  pub ascends : IsAscending membership_order after
  pub are_changes : AreChanges before after changes
  pub numbers : AreNumbers after tally
  pub in_order : AreInOrder after
