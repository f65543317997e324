-- What changes of what endpoints want, from some memberships to others.
use Rattle.std.specs.{Prelude.{◌≡◌, Bool, false, List, All, map, Option}, Option.{option_map}, Ordering.{on, then_cmp}, declared.cmp.Ordering.{Ordering}}
use Rattle.amt_values.specs.{Order.{ip_order, endpoint_order}, Ascending.{IsAscending, has}}
use Rattle.source_filter.specs.Filter.{FilterValue}
use Rattle.endpoint_membership.specs.{EndpointGroup.{EndpointGroup, endpoint_group_order}, Membership.{Membership}, Memberships.{membership_in}, declared.membership_change.MembershipChange.{MembershipChange}}

-- what the endpoint wants of the group, where it has a membership
abbrev pub filter_at : List Membership → EndpointGroup → Option FilterValue
filter_at rows at = option_map (λ membership. membership.filter) (membership_in rows at)

-- whose change it is, and in which group
abbrev pub changed_pair : MembershipChange → EndpointGroup
changed_pair change = record { endpoint = change.endpoint; group = change.group }

-- by group, then endpoint
abbrev pub change_order : MembershipChange → MembershipChange → Ordering
change_order = then_cmp (on (λ change. change.group) ip_order) (on (λ change. change.endpoint) endpoint_order)

-- one of the changes is the pair's
abbrev pub changes_pair : List MembershipChange → EndpointGroup → Bool
changes_pair changes at = has endpoint_group_order (map changed_pair changes) at

-- the pair's filter before and after, and these differ
pub record IsChange (before after : List Membership) (change : MembershipChange) : Type 0 where
  pub was : change.before ≡ filter_at before (changed_pair change)
  pub is : change.after ≡ filter_at after (changed_pair change)
  pub differ : change.before ≡ change.after → ⊥

-- exactly the pairs whose filter differs, by group and then endpoint
pub record AreChanges (before after : List Membership) (changes : List MembershipChange) : Type 0 where
  pub ascend : IsAscending change_order changes
  pub each : All (IsChange before after) changes
  pub others : (at : EndpointGroup) → changes_pair changes at ≡ false → filter_at before at ≡ filter_at after at
