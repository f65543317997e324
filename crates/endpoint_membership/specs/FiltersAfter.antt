-- The filters of pairs after an entry of the log, as far as the entry may change them. No public contract
-- says these words.
use Rattle.std.specs.{Prelude.{◌≡◌, ℕ, Bool, false, true, not, ◌&&◌, List, Option, Some, None, if◌then◌else◌}, BTreeMap.{BTreeMap, get}, Cmp.Lexicographic.{pointwise}, Option.{option_map, unwrap_or}}
use Rattle.amt_values.specs.{Ascending.{has}}
use Rattle.source_filter.specs.{Filter.{FilterValue}, declared.mode.Mode.{Mode, TheVariants.{Include, Exclude}}}
use Rattle.endpoint_membership.specs.{EndpointGroup.{EndpointGroup, endpoint_group_order, same_group}, Filters.{group_member_order, member_of, pair_of}, Membership.{Membership, is_fresh}, MembershipChanges.{filter_at}, declared.{keys.GroupMember.{GroupMember}, membership_change.MembershipChange.{MembershipChange}}}

-- a membership that was not renewed in time
abbrev pub is_expired : ℕ → ℕ → Option Membership → Bool
is_expired lifetime moment None = false
is_expired lifetime moment (Some membership) = not (is_fresh lifetime moment membership)

-- what a moment leaves at the pair of the membership: nothing, where that was not renewed in time
abbrev pub expired_left : ℕ → ℕ → Option Membership → Option (Option FilterValue)
expired_left lifetime moment found = if is_expired lifetime moment found then Some None else None

-- what an entry leaves at a pair, if it may change its filter
abbrev pub left_at : BTreeMap GroupMember (Option FilterValue) → EndpointGroup → Option (Option FilterValue)
left_at filters at = get group_member_order filters (member_of at)

-- nothing is left at these pairs
abbrev pub cleared_at : List EndpointGroup → EndpointGroup → Option (Option FilterValue) → Option (Option FilterValue)
cleared_at pairs at before = if has endpoint_group_order pairs at then Some None else before

-- the filter of a membership, as what is left at its pair
abbrev pub left_of : Option Membership → Option (Option FilterValue)
left_of found = option_map (λ membership. Some membership.filter) found

-- for each pair: where something is left at it, that is its filter afterwards; where nothing is said of it,
-- its filter is the same before and afterwards
abbrev pub AreFiltersAfter : List Membership → List Membership → BTreeMap GroupMember (Option FilterValue) → Type 0
AreFiltersAfter before after filters = (at : EndpointGroup) → unwrap_or (left_at filters at) (filter_at before at) ≡ filter_at after at

-- the modes are one
abbrev pub same_mode : Mode → Mode → Bool
same_mode Include Include = true
same_mode Exclude Exclude = true
same_mode Include Exclude = false
same_mode Exclude Include = false

-- the filters are one
abbrev pub same_filter : FilterValue → FilterValue → Bool
same_filter one other = same_mode one.mode other.mode && pointwise same_group one.sources other.sources

-- the filters are one, or there is none
abbrev pub same_filters : Option FilterValue → Option FilterValue → Bool
same_filters None None = true
same_filters None (Some other) = false
same_filters (Some one) None = false
same_filters (Some one) (Some other) = same_filter one other

-- the member's filter before isn't the one afterwards
abbrev pub is_changed : List Membership → GroupMember × Option FilterValue → Bool
is_changed before entry = not (same_filters (filter_at before (pair_of entry.0)) entry.1)

-- the change of the member's filter
abbrev pub change_at : List Membership → GroupMember × Option FilterValue → MembershipChange
change_at before entry = record { group = entry.0.group; endpoint = entry.0.endpoint; before = filter_at before (pair_of entry.0); after = entry.1 }
