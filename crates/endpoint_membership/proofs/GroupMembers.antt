-- The endpoints of a group that get a packet, by the group's members.
use Rattle.std.proofs.{Common.{◌≡◌, ℕ, ◌+◌, ◌<◌, Bor, Bool, true, false, cond, ◌&&◌, ◌||◌, List, [], ◌∷◌, ◌++◌, map, filter, length, nat_lt, Option, Some, None, is_some, refl, sym, ap, subst, ◌∙◌, arith}, lemmas.{Bool.{and_left, and_parts}, Cmp.{eq_by_cmp_equiv, tied_itself}}}
use Rattle.std.{proofs.lemmas.{List.{append-nil, length-append, map-append, Elements.{filter-append}}, Map.{Iter.{rest_so_far}, Made.{is_some-lookup}, Views.{All-turn}, Lookups.{CmpEqualImpliesEq}}}, specs.BTreeMap.{BTreeMap, IsOrdered, get, is_at, keys}}
use Rattle.std.specs.{BTreeMap.Range.{IsEntryInRange, IsRangeOf, entries_between, range_contains}, Iterator.{Yields}, List.{AllByRecursion, Sorted.{IsStrictlySortedBy}}, Map.{keys_of, Iter.{TakesFirst, deref_pair}}, Ordering.{is_eq, is_le, nat_cmp, ordering_then}, declared.{cmp.Ordering.{Ordering, TheVariants.{Less, Equal, Greater}}, ops.Bound.TheVariants.{Included, Unbounded}}}
use Rattle.amt_values.{specs.{declared.address.Ip.{Ip}, Order.{endpoint_order, ip_order}, EndpointValue.{EndpointValue}, Ascending.{has, IsAscending}}, proofs.{Orders.{both_tied, endpoint_order-exact, ip_order-exact, ip_order-total}, AscendingLaws.{Equal-from_test, IsAscending-filter, has-filter}}}
use Rattle.source_filter.specs.Filter.{admits}
use Rattle.endpoint_membership.specs.{EndpointGroup.{EndpointGroup, same_group}, Filters.{group_member_order, membership_with, stored_membership}, Limits.{live_count}, Membership.{Membership}, Memberships.{membership_in}, Stored.{AreTargets, is_target, only}}
use Rattle.endpoint_membership.{specs.declared.{keys.GroupMember.{GroupMember}, stored.StoredFilter.{StoredFilter}}, proofs.{KeptFilters.{some_with}, KeysTogether.{All-passing, filter-none, filter-wider, in_range-shares, least_number, others}, TargetsByLog.{is_some-cond, length-targets}}}

-- the members that a walk over filters has seen
abbrev pub seen_members : List (Bor GroupMember × Bor StoredFilter) → List GroupMember
seen_members seen = keys_of (map deref_pair seen)

-- the pair of an endpoint and a group
abbrev pub pair : EndpointValue → Ip → EndpointGroup
pair endpoint group = record { endpoint = endpoint; group = group }

abbrev made : Ip → EndpointValue → GroupMember
made group endpoint = record { group = group; endpoint = endpoint }

-- a member before all others of the group
abbrev pub least_member : Ip → GroupMember
least_member group = made group (record { address = 0; port = 0 })

abbrev pub from_least : Ip → GroupMember → Bool
from_least group = range_contains group_member_order (Included (least_member group)) Unbounded

-- each filter stands by group too
abbrev pub AreByGroup : BTreeMap GroupMember StoredFilter → List Membership → Type 0
AreByGroup kept rows = (member : GroupMember) → membership_with (pair member.endpoint member.group) (get group_member_order kept member) ≡ membership_in rows (pair member.endpoint member.group)

-- all members are of the group
abbrev AreIn : Ip → List GroupMember → Type 0
AreIn group members = AllByRecursion (λ member. same_group member.group group ≡ true) members

tied : (group other : Ip) → same_group other group ≡ true → ip_order group other ≡ Equal
tied group other same = Equal-from_test (ip_order group other) ((eq_by_cmp_equiv ip_order-total).symm group other ∙ same)

abbrev endpoints : List GroupMember → List EndpointValue
endpoints members = map (λ member. member.endpoint) members

-- among members of one group an endpoint is found as the member
has-endpoints : (group : Ip) (members : List GroupMember) (endpoint : EndpointValue) → AreIn group members → has endpoint_order (endpoints members) endpoint ≡ has group_member_order members (made group endpoint)
has-endpoints group [] endpoint all = refl
has-endpoints group (member ∷ rest) endpoint all =
    let later = has endpoint_order (endpoints rest) endpoint in
    ap (λ (order : Ordering). is_eq (ordering_then order (endpoint_order endpoint member.endpoint)) || later) (sym (tied group member.group all.0))
    ∙ ap (λ (found : Bool). is_eq (ordering_then (ip_order group member.group) (endpoint_order endpoint member.endpoint)) || found) (has-endpoints group rest endpoint all.1)

second_less : (first second : Ordering) → first ≡ Equal → ordering_then first second ≡ Less → second ≡ Less
second_less Less second is less = cc
second_less Equal second is less = less
second_less Greater second is less = cc

one_group : (group one other : Ip) → same_group one group ≡ true → same_group other group ≡ true → ip_order one other ≡ Equal
one_group group one other first second = subst (λ (its : Ip). ip_order its other ≡ Equal) (ip_order-exact group one (tied group one first)) (tied group other second)

less_each : (group : Ip) (one : GroupMember) (rest : List GroupMember) → same_group one.group group ≡ true → AreIn group rest → AllByRecursion (λ later. group_member_order one later ≡ Less) rest
    → AllByRecursion (λ later. endpoint_order one.endpoint later ≡ Less) (endpoints rest)
less_each group one [] here all after = tt
less_each group one (next ∷ rest) here all after =
    (second_less (ip_order one.group next.group) (endpoint_order one.endpoint next.endpoint) (one_group group one.group next.group here all.0) after.0, less_each group one rest here all.1 after.1)

IsAscending-endpoints : (group : Ip) (members : List GroupMember) → AreIn group members → IsAscending group_member_order members → IsAscending endpoint_order (endpoints members)
unfolding IsStrictlySortedBy
IsAscending-endpoints group [] all ascends = tt
IsAscending-endpoints group (member ∷ rest) all ascends = (less_each group member rest all.0 all.1 ascends.0, IsAscending-endpoints group rest all.1 ascends.1)

pub group_member_order-exact : CmpEqualImpliesEq group_member_order
group_member_order-exact one other same =
    let both = both_tied (ip_order one.group other.group) (endpoint_order one.endpoint other.endpoint) same in
    ap (λ (group : Ip). made group one.endpoint) (ip_order-exact one.group other.group both.0)
    ∙ ap (λ (endpoint : EndpointValue). made other.group endpoint) (endpoint_order-exact one.endpoint other.endpoint both.1)

least_pair : (first second : Ordering) → is_le first ≡ true → is_le second ≡ true → is_le (ordering_then first second) ≡ true
least_pair Less second le more = refl
least_pair Equal second le more = more
least_pair Greater second le more = cc

least_endpoint : (endpoint : EndpointValue) → is_le (endpoint_order (record { address = 0; port = 0 }) endpoint) ≡ true
least_endpoint endpoint = least_pair (nat_cmp 0 endpoint.address) (nat_cmp 0 endpoint.port) (least_number endpoint.address) (least_number endpoint.port)

only_found : (same : Bool) (test : Membership → Bool) (found : Option Membership) → same ≡ true → (is_some found && (same && is_some (only test found))) ≡ is_some (only test found)
only_found true test None is = refl
only_found true test (Some membership) is = refl
only_found false test found is = cc

module _ (lifetime moment : ℕ) (group source : Ip) (rows : List Membership) where
  -- whether the endpoint's membership in the group lets the packet in
  abbrev pub lets_in : EndpointValue → Bool
  lets_in endpoint = is_some (only (is_target lifetime moment source) (membership_in rows (pair endpoint group)))

  -- a member of the group whose membership does
  abbrev pub is_target_member : GroupMember → Bool
  is_target_member member = same_group member.group group && lets_in member.endpoint

  -- the endpoints of such members
  abbrev pub targets_among : List GroupMember → List EndpointValue
  targets_among members = endpoints (filter is_target_member members)

  in_group : (member : GroupMember) → is_target_member member ≡ true → same_group member.group group ≡ true
  in_group member passes = (and_parts (same_group member.group group) (lets_in member.endpoint) passes).0

  -- at a member of the group the membership decides
  pub decided : (member : GroupMember) → same_group member.group group ≡ true → is_target_member member ≡ lets_in member.endpoint
  decided member same = ap (λ (here : Bool). here && lets_in member.endpoint) same

  -- the members of a table that get a packet are the targets
  pub AreTargets-table : (order : GroupMember → GroupMember → Ordering) (kept : BTreeMap GroupMember StoredFilter) → order ≡ group_member_order → AreByGroup kept rows → IsOrdered order kept
      → AreTargets lifetime moment group source rows (targets_among (keys kept))
  AreTargets-table order kept same by_group ascending =
      let members = filter is_target_member (keys kept) in
      let all = All-passing (λ (member : GroupMember). same_group member.group group ≡ true) is_target_member in_group (keys kept) in record {
        ascend = IsAscending-endpoints group members all
            (IsAscending-filter group_member_order is_target_member (keys kept) (subst (λ (by : GroupMember → GroupMember → Ordering). IsOrdered by kept) same ascending));
        each = λ endpoint. let member = made group endpoint in
            has-endpoints group members endpoint all ∙ has-filter group_member_order-exact is_target_member (keys kept) member
            ∙ ap (λ (there : Bool). there && is_target_member member) (sym (is_some-lookup (is_at (group_member_order member)) kept.entries)
            ∙ sym (some_with (pair endpoint group) (get group_member_order kept member)) ∙ ap is_some (by_group member))
            ∙ only_found (same_group group group) (is_target lifetime moment source) (membership_in rows (pair endpoint group)) (ap is_eq (tied_itself ip_order-total group));
      }

  -- members from the least one of the group on are all that count
  targets_among-range : (members : List GroupMember) → targets_among (filter (from_least group) members) ≡ targets_among members
  targets_among-range members =
      ap endpoints (filter-wider is_target_member (from_least group)
      (λ member passes. in_range-shares ip_order endpoint_order (λ (one : GroupMember). one.group) (λ (one : GroupMember). one.endpoint) ip_order-total (least_member group) least_endpoint member (in_group member passes)) members)

  targets_among-append : (before rest : List GroupMember) → targets_among (before ++ rest) ≡ targets_among before ++ targets_among rest
  targets_among-append before rest = ap endpoints (filter-append is_target_member before rest) ∙ map-append (λ (member : GroupMember). member.endpoint) (filter is_target_member before) (filter is_target_member rest)

  no_targets : (members : List GroupMember) → AllByRecursion (λ member. same_group member.group group ≡ false) members → AllByRecursion (λ member. is_target_member member ≡ false) members
  no_targets [] others = tt
  no_targets (member ∷ rest) others = (and_left (same_group member.group group) (lets_in member.endpoint) others.0, no_targets rest others.1)

  -- where none of the rest counts, all that count were seen
  targets_among-whole : (members before rest : List GroupMember) → filter (from_least group) members ≡ before ++ rest → targets_among rest ≡ [] → targets_among before ≡ targets_among members
  targets_among-whole members before rest is none =
      sym (sym (targets_among-range members) ∙ ap targets_among is ∙ targets_among-append before rest ∙ ap (λ more. targets_among before ++ more) none ∙ append-nil (targets_among before))

  -- from a member of another group on none counts
  pub targets_among-stop : (members before rest : List GroupMember) (member : GroupMember) → IsAscending group_member_order members
      → filter (from_least group) members ≡ before ++ member ∷ rest → same_group member.group group ≡ false → targets_among before ≡ targets_among members
  targets_among-stop members before rest member ordered is other =
      let past = others ip_order endpoint_order (λ (one : GroupMember). one.group) (λ (one : GroupMember). one.endpoint) ip_order-total (least_member group) members before rest member ordered is other in
      targets_among-whole members before (member ∷ rest) is (ap endpoints (filter-none is_target_member (member ∷ rest) (no_targets (member ∷ rest) past)))

  -- after the last member of the range all are seen
  pub targets_among-end : (members before rest : List GroupMember) → filter (from_least group) members ≡ before ++ rest → rest ≡ [] → targets_among before ≡ targets_among members
  targets_among-end members before rest is none = targets_among-whole members before rest is (ap targets_among none)

  -- before a member that counts there is room for its endpoint, where there is for the live ones
  pub targets_among-room : (members before rest : List GroupMember) (member : GroupMember) → AreTargets lifetime moment group source rows (targets_among members)
      → filter (from_least group) members ≡ before ++ member ∷ rest → is_target_member member ≡ true → length (targets_among before) < live_count rows
  targets_among-room members before rest member targets is passes =
      let so_far = targets_among before in
      let whole = sym (targets_among-range members) ∙ ap targets_among is ∙ targets_among-append before (member ∷ rest) in
      let more : targets_among (member ∷ rest) ≡ member.endpoint ∷ targets_among rest = rw passes refl in
      let long = ap (λ (all : List EndpointValue). length all) (whole ∙ ap (λ (later : List EndpointValue). so_far ++ later) more) in
      omega (arith, long, length-append so_far (member.endpoint ∷ targets_among rest), length-targets lifetime moment group source rows (targets_among members) targets)

  -- the filter of a member decides whether its membership lets a packet in
  pub lets_in-kept : (kept : BTreeMap GroupMember StoredFilter) (member : GroupMember) (stored : StoredFilter) → AreByGroup kept rows → get group_member_order kept member ≡ Some stored → same_group member.group group ≡ true
      → (nat_lt moment (stored.renewed + lifetime) && admits stored.filter source) ≡ lets_in member.endpoint
  lets_in-kept kept member stored by_group found same =
      let at = pair member.endpoint member.group in
      let here = ap (λ (one : Ip). membership_in rows (pair member.endpoint one)) (ip_order-exact group member.group (tied group member.group same)) ∙ sym (by_group member) ∙ ap (membership_with at) found in
      sym (ap (λ (one : Option Membership). is_some (only (is_target lifetime moment source) one)) here ∙ is_some-cond (is_target lifetime moment source (stored_membership (at, stored))) (stored_membership (at, stored)))

  one_more_by : (passes : Bool) (member : GroupMember) → is_target_member member ≡ passes → targets_among (member ∷ []) ≡ cond passes (member.endpoint ∷ []) []
  one_more_by true member is = rw is refl
  one_more_by false member is = rw is refl

  -- one member of the group more
  pub targets_among-more : (seen : List (Bor GroupMember × Bor StoredFilter)) (item : Bor GroupMember × Bor StoredFilter) (before after : List EndpointValue) (lets : Bool) → same_group item.0.now.group group ≡ true
      → lets_in item.0.now.endpoint ≡ lets → before ≡ targets_among (seen_members seen) → after ≡ before ++ cond lets (item.0.now.endpoint ∷ []) [] → after ≡ targets_among (seen_members (seen ++ item ∷ []))
  targets_among-more seen item before after lets same is so_far now =
      let member = item.0.now in
      let more = ap keys_of (map-append deref_pair seen (item ∷ [])) ∙ map-append (λ (entry : GroupMember × StoredFilter). entry.0) (map deref_pair seen) (deref_pair item ∷ []) in
      now ∙ ap (λ (first : List EndpointValue). first ++ cond lets (member.endpoint ∷ []) []) so_far
      ∙ sym (ap targets_among more ∙ targets_among-append (seen_members seen) (member ∷ [])
      ∙ ap (λ (last : List EndpointValue). targets_among (seen_members seen) ++ last) (one_more_by lets member (decided member same ∙ is)))

keys_by : (keeps : Bool) (entry : GroupMember × StoredFilter) (rest : List (GroupMember × StoredFilter)) (members : List GroupMember) → keys_of rest ≡ members → keys_of (cond keeps (entry ∷ rest) rest) ≡ cond keeps (entry.0 ∷ members) members
keys_by true entry rest members is = ap (λ (more : List GroupMember). entry.0 ∷ more) is
keys_by false entry rest members is = is

keys_between-entries : (group : Ip) (entries : List (GroupMember × StoredFilter)) → keys_of (entries_between group_member_order (Included (least_member group)) Unbounded entries) ≡ filter (from_least group) (keys_of entries)
keys_between-entries group [] = refl
keys_between-entries group (entry ∷ rest) =
    keys_by (from_least group entry.0) entry (entries_between group_member_order (Included (least_member group)) Unbounded rest) (filter (from_least group) (keys_of rest)) (keys_between-entries group rest)

-- the part of the members that a walk has seen, and the rest
pub walked : (order : GroupMember → GroupMember → Ordering) (group : Ip) (endpoint : EndpointValue) (kept : BTreeMap GroupMember StoredFilter) (range start rest : List (GroupMember × StoredFilter)) (seen : List (Bor GroupMember × Bor StoredFilter))
    → order ≡ group_member_order → endpoint ≡ record { address = 0; port = 0 } → range ≡ entries_between order (Included (record { group = group; endpoint = endpoint })) Unbounded kept.entries → start ≡ range
    → Yields (TakesFirst deref_pair) start seen rest → filter (from_least group) (keys kept) ≡ seen_members seen ++ keys_of rest
walked order group endpoint kept range start rest seen same least between begins yields =
    let whole = begins ∙ between ∙ ap (λ (by : GroupMember → GroupMember → Ordering). entries_between by (Included (made group endpoint)) Unbounded kept.entries) same
    ∙ ap (λ (first : EndpointValue). entries_between group_member_order (Included (made group first)) Unbounded kept.entries) least in
    sym (keys_between-entries group kept.entries) ∙ ap keys_of (sym whole ∙ rest_so_far deref_pair seen start rest yields)
    ∙ map-append (λ (entry : GroupMember × StoredFilter). entry.0) (map deref_pair seen) rest

-- the next filter of the range is the member's
pub next_found : (order : GroupMember → GroupMember → Ordering) (first : GroupMember) (kept : BTreeMap GroupMember StoredFilter) (range start rest later : List (GroupMember × StoredFilter)) (seen : List (Bor GroupMember × Bor StoredFilter))
    (next : Option (Bor GroupMember × Bor StoredFilter)) (item : Bor GroupMember × Bor StoredFilter) → order ≡ group_member_order → IsRangeOf order (Included first) Unbounded kept range → start ≡ range
    → Yields (TakesFirst deref_pair) start seen rest → next ≡ Some item → TakesFirst deref_pair rest next later → get group_member_order kept item.0.now ≡ Some item.1.now
next_found order first kept range start rest later seen next item same within begins yields is steps =
    ap (λ (by : GroupMember → GroupMember → Ordering). get by kept item.0.now) (sym same)
    ∙ (All-turn deref_pair (IsEntryInRange order (Included first) Unbounded kept) range seen start rest later next item within.0 begins yields is steps).1
