-- Filters that are kept by group, as the memberships that contracts see.
use Rattle.std.{proofs.{Common.{◌≡◌, Bool, true, false, cond, ◌&&◌, is_some, List, length, map, Option, Some, None, unwrap_or, refl, sym, ap, subst, ◌∙◌}, lemmas.{List.{length-map}}}, specs.{BTreeMap.{BTreeMap, get, is_at}, BTreeSet.{BTreeSet}, Cmp.{tied_then}}}
use Rattle.std.specs.{List.{list_any, Sorted.{IsStrictlySortedBy}}, Ordering.{is_eq}, declared.cmp.Ordering.{Ordering}}
use Rattle.std.specs.BTreeSet as sorted
use Rattle.amt_values.{specs.{Order.{endpoint_order, ip_order}, Ascending.{IsAscending}}, proofs.AscendingLaws.{same_ascending}}
use Rattle.endpoint_membership.specs.{EndpointGroup.{EndpointGroup, endpoint_group_order, same_endpoint_group}, Filters.{HaveSamePairs, IsSetAt, group_member_order, kept_at, member_of, membership_with, memberships_by}, Membership.{Membership, endpoint_group_of, membership_order}, Memberships.{membership_in}}
use Rattle.endpoint_membership.{specs.declared.{keys.GroupMember.{GroupMember}, stored.StoredFilter.{StoredFilter}}, proofs.{EndpointGroupOrder.{endpoint_group_order-exact, endpoint_group_order-total}, MembershipIn.{has-pairs, IsAscending-pairs, GivesItsEndpointGroup, same_endpoint_group-exact, same_rows}, MembershipsByLog.{IsAscending-filter_map, membership_in-filter_map}, SetAt.{gone_again}}}

abbrev Kept : Type 0
Kept = BTreeMap GroupMember StoredFilter

-- what the pair has among what is kept by group
abbrev filter_at : {V : Type 0} → BTreeMap GroupMember V → EndpointGroup → Option V
filter_at kept at = get group_member_order kept (member_of at)

its_by : (at : EndpointGroup) (found : Option StoredFilter) (membership : Membership) → membership_with at found ≡ Some membership → endpoint_group_of membership ≡ at
its_by at None membership is = cc
its_by at (Some stored) membership is = ap (λ (one : Option Membership). endpoint_group_of (unwrap_or one membership)) (sym is)

its : (kept : Kept) → GivesItsEndpointGroup (kept_at kept)
its kept at membership is = its_by at (filter_at kept at) membership is

-- a filter makes a membership, and nothing else does
pub some_with : (at : EndpointGroup) (found : Option StoredFilter) → is_some (membership_with at found) ≡ is_some found
some_with at None = refl
some_with at (Some stored) = refl

where_some : (at : EndpointGroup) (found : Option StoredFilter) → cond (is_some found) (membership_with at found) None ≡ membership_with at found
where_some at None = refl
where_some at (Some stored) = refl

-- the memberships ascend
pub IsAscending-kept : (kept : Kept) (pairs : BTreeSet EndpointGroup) → HaveSamePairs kept pairs → IsAscending membership_order (memberships_by kept pairs)
IsAscending-kept kept pairs have = IsAscending-filter_map (kept_at kept) (its kept) pairs.keys have.ordered

-- a pair has the membership that its filter makes
pub membership_in-kept : (kept : Kept) (pairs : BTreeSet EndpointGroup) (at : EndpointGroup) → HaveSamePairs kept pairs → membership_in (memberships_by kept pairs) at ≡ kept_at kept at
membership_in-kept kept pairs at have =
    membership_in-filter_map (kept_at kept) (its kept) pairs.keys at ∙ ap (λ (there : Bool). cond there (kept_at kept at) None) (have.same at) ∙ where_some at (filter_at kept at)

-- their pairs are these
pub pairs-kept : (kept : Kept) (pairs : BTreeSet EndpointGroup) → HaveSamePairs kept pairs → map endpoint_group_of (memberships_by kept pairs) ≡ pairs.keys
pairs-kept kept pairs have =
    let rows = memberships_by kept pairs in
    same_ascending endpoint_group_order-total endpoint_group_order-exact (map endpoint_group_of rows) pairs.keys (IsAscending-pairs rows (IsAscending-kept kept pairs have)) have.ordered
    (λ at. has-pairs rows at ∙ ap is_some (membership_in-kept kept pairs at have) ∙ some_with at (filter_at kept at) ∙ sym (have.same at))

-- there are as many
pub length-kept : (kept : Kept) (pairs : BTreeSet EndpointGroup) → HaveSamePairs kept pairs → length pairs.keys ≡ length (memberships_by kept pairs)
length-kept kept pairs have = ap (λ (all : List EndpointGroup). length all) (sym (pairs-kept kept pairs have)) ∙ length-map (memberships_by kept pairs) endpoint_group_of

-- ---- a filter more, less or another

turned : (first second : Bool) → (first && second) ≡ (second && first)
turned true true = refl
turned true false = refl
turned false true = refl
turned false false = refl

-- the members of two pairs are one where the pairs are
pub same_member : (at other : EndpointGroup) → is_at (group_member_order (member_of at)) (member_of other) ≡ same_endpoint_group at other
same_member at other =
    sym (tied_then (ip_order at.group other.group) (endpoint_order at.endpoint other.endpoint)) ∙ turned (is_eq (ip_order at.group other.group)) (is_eq (endpoint_order at.endpoint other.endpoint))
    ∙ tied_then (endpoint_order at.endpoint other.endpoint) (ip_order at.group other.group)

-- the pair has this filter now, or none, and the others have what they had
abbrev pub IsSet : {V : Type 0} → BTreeMap GroupMember V → BTreeMap GroupMember V → EndpointGroup → Option V → Type 0
IsSet before after at now = (other : EndpointGroup) → filter_at after other ≡ cond (same_endpoint_group at other) now (filter_at before other)

-- a change of a map by group, by pairs
pub IsSet-updated : {V : Type 0} (order : GroupMember → GroupMember → Ordering) (before after : BTreeMap GroupMember V) (at : EndpointGroup) (member : GroupMember) (now : Option V) → order ≡ group_member_order → member ≡ member_of at
    → ((other : GroupMember) → get order after other ≡ cond (is_at (order member) other) now (get order before other)) → IsSet before after at now
IsSet-updated order before after at member now same is updated other =
    subst (λ (by : GroupMember → GroupMember → Ordering). get by after (member_of other) ≡ cond (is_at (by member) (member_of other)) now (get by before (member_of other))) same (updated (member_of other))
    ∙ ap (λ (one : GroupMember). cond (is_at (group_member_order one) (member_of other)) now (filter_at before other)) is
    ∙ ap (λ (here : Bool). cond here now (filter_at before other)) (same_member at other)

some_by : (same : Bool) (now found : Option StoredFilter) → cond same (is_some now) (is_some found) ≡ is_some (cond same now found)
some_by true now found = refl
some_by false now found = refl

-- the pairs stay those of the filters
pub HaveSamePairs-set : (before after : Kept) (pairs pairs_after : BTreeSet EndpointGroup) (at : EndpointGroup) (now : Option StoredFilter) → HaveSamePairs before pairs → IsSet before after at now
    → ((other : EndpointGroup) → sorted.contains endpoint_group_order pairs_after other ≡ cond (same_endpoint_group at other) (is_some now) (sorted.contains endpoint_group_order pairs other))
    → sorted.IsOrdered endpoint_group_order pairs_after → HaveSamePairs after pairs_after
HaveSamePairs-set before after pairs pairs_after at now have set there ordered = record {
  ordered = ordered;
  same = λ other. there other ∙ ap (cond (same_endpoint_group at other) (is_some now)) (have.same other) ∙ some_by (same_endpoint_group at other) now (filter_at before other)
      ∙ ap is_some (sym (set other));
}

still_there : (same there : Bool) → (same ≡ true → there ≡ true) → there ≡ cond same true there
still_there true there is = is refl
still_there false there is = refl

-- the pairs stay those of the filters where one of them gets another filter
pub HaveSamePairs-put : (before after : Kept) (pairs : BTreeSet EndpointGroup) (at : EndpointGroup) (stored : StoredFilter) → HaveSamePairs before pairs → IsSet before after at (Some stored)
    → is_some (membership_in (memberships_by before pairs) at) ≡ true → HaveSamePairs after pairs
HaveSamePairs-put before after pairs at stored have set some =
    HaveSamePairs-set before after pairs pairs at (Some stored) have set
    (λ other. still_there (same_endpoint_group at other) (sorted.contains endpoint_group_order pairs other)
    (λ same. have.same other ∙ ap (λ (one : EndpointGroup). is_some (filter_at before one)) (sym (same_endpoint_group-exact at other same))
    ∙ sym (ap is_some (membership_in-kept before pairs at have) ∙ some_with at (filter_at before at)) ∙ some)) have.ordered

-- the pairs stay those of the filters where nothing changes
pub HaveSamePairs-same : (before after : Kept) (pairs pairs_after : BTreeSet EndpointGroup) → HaveSamePairs before pairs → ((at : EndpointGroup) → filter_at after at ≡ filter_at before at) → pairs_after.keys ≡ pairs.keys
    → HaveSamePairs after pairs_after
HaveSamePairs-same before after pairs pairs_after have same is = record {
  ordered = subst (IsStrictlySortedBy endpoint_group_order) (sym is) have.ordered;
  same = λ at. ap (λ (keys : List EndpointGroup). list_any (is_at (endpoint_group_order at)) keys) is ∙ have.same at ∙ ap is_some (sym (same at));
}

-- the same filters of the same pairs are the same memberships
pub same_filters : (before after : Kept) (pairs pairs_after : BTreeSet EndpointGroup) → HaveSamePairs before pairs → HaveSamePairs after pairs_after → ((at : EndpointGroup) → filter_at after at ≡ filter_at before at)
    → memberships_by after pairs_after ≡ memberships_by before pairs
same_filters before after pairs pairs_after have had same =
    same_rows (memberships_by after pairs_after) (memberships_by before pairs) (IsAscending-kept after pairs_after had) (IsAscending-kept before pairs have)
    (λ at. membership_in-kept after pairs_after at had ∙ ap (membership_with at) (same at) ∙ sym (membership_in-kept before pairs at have))

-- what a search by group finds makes the pair's membership
pub found_as : (order : GroupMember → GroupMember → Ordering) (kept : Kept) (pairs : BTreeSet EndpointGroup) (rows : List Membership) (at : EndpointGroup) (member : GroupMember) → order ≡ group_member_order → member ≡ member_of at
    → HaveSamePairs kept pairs → memberships_by kept pairs ≡ rows → membership_with at (get order kept member) ≡ membership_in rows at
found_as order kept pairs rows at member same is have view =
    ap (λ (by : GroupMember → GroupMember → Ordering). membership_with at (get by kept member)) same ∙ ap (λ (one : GroupMember). membership_with at (get group_member_order kept one)) is
    ∙ sym (membership_in-kept kept pairs at have) ∙ ap (λ (all : List Membership). membership_in all at) view

none_by : (at : EndpointGroup) (found : Option StoredFilter) → membership_with at found ≡ None → found ≡ None
none_by at None none = refl
none_by at (Some stored) none = cc

-- a pair with no membership has no filter
pub filter_at-none : (kept : Kept) (pairs : BTreeSet EndpointGroup) (rows : List Membership) (at : EndpointGroup) → HaveSamePairs kept pairs → memberships_by kept pairs ≡ rows → membership_in rows at ≡ None → filter_at kept at ≡ None
filter_at-none kept pairs rows at have view none = none_by at (filter_at kept at) (found_as group_member_order kept pairs rows at (member_of at) refl refl have view ∙ none)

-- the pairs have those with a membership
pub there_as : (order : EndpointGroup → EndpointGroup → Ordering) (kept : Kept) (pairs : BTreeSet EndpointGroup) (rows : List Membership) (at : EndpointGroup) → order ≡ endpoint_group_order
    → HaveSamePairs kept pairs → memberships_by kept pairs ≡ rows → sorted.contains order pairs at ≡ is_some (membership_in rows at)
there_as order kept pairs rows at same have view =
    ap (λ (by : EndpointGroup → EndpointGroup → Ordering). sorted.contains by pairs at) same ∙ have.same at ∙ sym (some_with at (filter_at kept at))
    ∙ ap is_some (sym (membership_in-kept kept pairs at have) ∙ ap (λ (all : List Membership). membership_in all at) view)

with_by : (same : Bool) (at other : EndpointGroup) (now had : Option StoredFilter) → same_endpoint_group at other ≡ same → membership_with other (cond same now had) ≡ cond same (membership_with at now) (membership_with other had)
with_by true at other now had is = ap (λ (one : EndpointGroup). membership_with one now) (sym (same_endpoint_group-exact at other is))
with_by false at other now had is = refl

-- what each pair has afterwards
pub set_as : (before after : Kept) (pairs pairs_after : BTreeSet EndpointGroup) (rows : List Membership) (at : EndpointGroup) (now : Option StoredFilter) → HaveSamePairs before pairs → HaveSamePairs after pairs_after
    → IsSet before after at now → memberships_by before pairs ≡ rows → IsSetAt at (membership_with at now) rows (memberships_by after pairs_after)
set_as before after pairs pairs_after rows at now have had set view = record {
  ascended = subst (IsAscending membership_order) view (IsAscending-kept before pairs have);
  ascends = IsAscending-kept after pairs_after had;
  each = λ other. membership_in-kept after pairs_after other had ∙ ap (membership_with other) (set other)
      ∙ with_by (same_endpoint_group at other) at other now (filter_at before other) refl
      ∙ ap (cond (same_endpoint_group at other) (membership_with at now)) (found_as group_member_order before pairs rows other (member_of other) refl refl have view);
}

-- a new filter that was put in and taken out leaves what there was
pub undone : (before middle after : Kept) (at : EndpointGroup) (stored : StoredFilter) → filter_at before at ≡ None → IsSet before middle at (Some stored) → IsSet middle after at None → (other : EndpointGroup) → filter_at after other ≡ filter_at before other
undone before middle after at stored none put taken other =
    taken other ∙ ap (cond (same_endpoint_group at other) None) (put other)
    ∙ gone_again (same_endpoint_group at other) (Some stored) (filter_at before other) (λ same. ap (filter_at before) (sym (same_endpoint_group-exact at other same)) ∙ none)
