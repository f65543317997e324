-- The filters of a table, kept by group, as the memberships that contracts see. No public contract says
-- these words.
use Rattle.std.specs.{Prelude.{◌≡◌, List, is_some, Option, if◌then◌else◌}, BTreeMap.{BTreeMap, get}, BTreeSet.{BTreeSet}, List.{filter_map}, Option.{option_map}, Ordering.{on, then_cmp}, declared.cmp.Ordering.{Ordering}}
use Rattle.std.specs.BTreeSet as sorted
use Rattle.amt_values.specs.{Order.{ip_order, endpoint_order}, Ascending.{IsAscending}}
use Rattle.endpoint_membership.specs.{EndpointGroup.{EndpointGroup, endpoint_group_order, same_endpoint_group}, Membership.{Membership, membership_order}, Memberships.{membership_in}, declared.{keys.GroupMember.{GroupMember}, stored.StoredFilter.{StoredFilter}}}

-- the membership of a pair that has a filter
abbrev pub stored_membership : EndpointGroup × StoredFilter → Membership
stored_membership entry = record { endpoint = entry.0.endpoint; group = entry.0.group; filter = entry.1.filter; renewed = entry.1.renewed }

-- the membership of the pair, if it has a filter
abbrev pub membership_with : EndpointGroup → Option StoredFilter → Option Membership
membership_with at found = option_map (λ stored. stored_membership (at, stored)) found

-- the pair has this membership now, or none, and each other pair has what it had; both lists ascend
pub record IsSetAt (at : EndpointGroup) (now : Option Membership) (before after : List Membership) : Type 0 where
  pub ascended : IsAscending membership_order before
  pub ascends : IsAscending membership_order after
  pub each : (other : EndpointGroup) → membership_in after other ≡ if same_endpoint_group at other then now else membership_in before other

-- by group, then endpoint
abbrev pub group_member_order : GroupMember → GroupMember → Ordering
group_member_order = then_cmp (on (λ member. member.group) ip_order) (on (λ member. member.endpoint) endpoint_order)

-- the pair as a member of its group
abbrev pub member_of : EndpointGroup → GroupMember
member_of at = record { group = at.group; endpoint = at.endpoint }

-- the member as a pair
abbrev pub pair_of : GroupMember → EndpointGroup
pair_of member = record { endpoint = member.endpoint; group = member.group }

-- the membership of the pair, by the filters of groups
abbrev pub kept_at : BTreeMap GroupMember StoredFilter → EndpointGroup → Option Membership
kept_at by_group at = membership_with at (get group_member_order by_group (member_of at))

-- the memberships of the pairs
abbrev pub memberships_by : BTreeMap GroupMember StoredFilter → BTreeSet EndpointGroup → List Membership
memberships_by by_group pairs = filter_map (kept_at by_group) pairs.keys

-- the pairs ascend, and are those of the members that have a filter
pub record HaveSamePairs (by_group : BTreeMap GroupMember StoredFilter) (pairs : BTreeSet EndpointGroup) : Type 0 where
  pub ordered : sorted.IsOrdered endpoint_group_order pairs
  pub same : (at : EndpointGroup) → sorted.contains endpoint_group_order pairs at ≡ is_some (get group_member_order by_group (member_of at))
