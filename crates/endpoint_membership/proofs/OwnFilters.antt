-- The filters of an endpoint's memberships, by the pairs in its range.
use Rattle.std.proofs.{Common.{◌≡◌, ℕ, Bor, Bool, true, false, not, cond, ◌&&◌, ◌||◌, List, [], ◌∷◌, ◌++◌, map, filter, Option, Some, None, is_some, refl, sym, ap, ◌∙◌, rules}, lemmas.{Bool.{and_left, and_parts, or_from}, Cmp.{tied_itself}, List.{map-append}, Map.{Iter.{rest_so_far}, Views.{tells_apart}}}}
use Rattle.std.specs.{BTreeMap.Range.{range_contains}, BTreeSet.{BTreeSet, keys_between}, Iterator.{Yields}, List.{AllByRecursion, Sorted.{IsStrictlySortedBy}}, Map.Iter.{TakesFirst, deref}, Ordering.{is_eq, is_le}, declared.{cmp.Ordering.{Ordering}, ops.Bound.TheVariants.{Included, Unbounded}}}
use Rattle.amt_values.{specs.{declared.address.Ip.{Ip, TheVariants.{V4, V6}}, Order.{endpoint_order, ip_order}, EndpointValue.{EndpointValue}, Ascending.{has}}, proofs.{Orders.{endpoint_order-total, ip_order-exact}, AscendingLaws.{has-append, has-filter}}}
use Rattle.amt_values.specs.contracts.endpoint.EndpointPartialEq as endpoints
use Rattle.endpoint_membership.specs.{EndpointGroup.{EndpointGroup, endpoint_group_order, same_endpoint, same_endpoint_group, same_group}, Filters.{stored_membership}, EndpointMemberships.{renewed_filter_of}, Membership.{Membership, endpoint_group_of, is_fresh}}
use Rattle.endpoint_membership.{specs.{Memberships.{membership_in}, Stored.{only}, declared.{after_report.RenewedFilter.{RenewedFilter}, stored.StoredFilter.{StoredFilter}}}, proofs.{AfterEntries.{same_back, same_endpoint-exact}, EndpointGroupOrder.{endpoint_group_order-exact, same_endpoint_group-is}}}
use Rattle.endpoint_membership.proofs.{FilterMap.{same_group-back}, KeysTogether.{in_range-shares, least_number, others, same-ne}, MembershipIn.{filter_all, has-pairs}}

abbrev pub pair : EndpointValue → Ip → EndpointGroup
pair endpoint group = record { endpoint = endpoint; group = group }

-- the pair is not before the endpoint's
abbrev pub within : EndpointValue → EndpointGroup → Bool
within endpoint = range_contains endpoint_group_order (Included (pair endpoint (V4 0))) Unbounded

least_group : (group : Ip) → is_le (ip_order (V4 0) group) ≡ true
least_group (V4 number) = least_number number
least_group (V6 number) = refl

pub in_range : (endpoint : EndpointValue) (group : Ip) → within endpoint (pair endpoint group) ≡ true
in_range endpoint group =
    in_range-shares endpoint_order ip_order (λ (one : EndpointGroup). one.endpoint) (λ (one : EndpointGroup). one.group) endpoint_order-total (pair endpoint (V4 0)) least_group (pair endpoint group)
    (ap is_eq (tied_itself endpoint_order-total endpoint))

none_of : (endpoint : EndpointValue) (group : Ip) (keys : List EndpointGroup) → AllByRecursion (λ key. same_endpoint key.endpoint endpoint ≡ false) keys → has endpoint_group_order keys (pair endpoint group) ≡ false
none_of endpoint group [] apart = refl
none_of endpoint group (key ∷ rest) apart =
    or_from (same_endpoint_group (pair endpoint group) key) (has endpoint_group_order rest (pair endpoint group))
    (same_endpoint_group-is (pair endpoint group) key ∙ and_left (same_endpoint endpoint key.endpoint) (same_group group key.group) (same_back endpoint key.endpoint ∙ apart.0)) (none_of endpoint group rest apart.1)

-- the pairs of the range that a walk has seen, and the rest
pub walked : (order : EndpointGroup → EndpointGroup → Ordering) (endpoint : EndpointValue) (rows : List Membership) (pairs : BTreeSet EndpointGroup) (range start rest : List EndpointGroup) (seen : List (Bor EndpointGroup))
    → order ≡ endpoint_group_order → pairs.keys ≡ map endpoint_group_of rows → range ≡ keys_between order (Included (pair endpoint (V4 0))) Unbounded pairs → start ≡ range → Yields (TakesFirst deref) start seen rest
    → filter (within endpoint) (map endpoint_group_of rows) ≡ map deref seen ++ rest
walked order endpoint rows pairs range start rest seen same are between begins yields =
    sym (begins ∙ between ∙ ap (λ (by : EndpointGroup → EndpointGroup → Ordering). keys_between by (Included (pair endpoint (V4 0))) Unbounded pairs) same ∙ ap (filter (within endpoint)) are)
    ∙ rest_so_far deref seen start rest yields

-- from a pair of another endpoint on none is of the endpoint
pub none_past : (endpoint : EndpointValue) (group : Ip) (keys seen : List EndpointGroup) (at : EndpointGroup) (rest : List EndpointGroup) → IsStrictlySortedBy endpoint_group_order keys → filter (within endpoint) keys ≡ seen ++ at ∷ rest
    → same_endpoint at.endpoint endpoint ≡ false → has endpoint_group_order (at ∷ rest) (pair endpoint group) ≡ false
none_past endpoint group keys seen at rest ordered is other =
    none_of endpoint group (at ∷ rest)
    (others endpoint_order ip_order (λ (one : EndpointGroup). one.endpoint) (λ (one : EndpointGroup). one.group) endpoint_order-total (pair endpoint (V4 0)) keys seen rest at ordered is other)

more_by : (here listed : Bool) (made its before after : Option RenewedFilter) → before ≡ cond listed its None → (here ≡ true → its ≡ made) → after ≡ cond here made before → after ≡ cond (listed || (here || false)) its None
more_by true true made its before after so_far same is = is ∙ sym (same refl)
more_by true false made its before after so_far same is = is ∙ sym (same refl)
more_by false true made its before after so_far same is = is ∙ so_far
more_by false false made its before after so_far same is = is ∙ so_far

none_by : (here listed : Bool) (its before : Option RenewedFilter) → before ≡ cond listed its None → (here ≡ true → its ≡ None) → before ≡ cond here None before
none_by true true its before so_far same = so_far ∙ same refl
none_by true false its before so_far same = so_far
none_by false listed its before so_far same = refl

all_by : (listed : Bool) (found : Option Membership) (test : Membership → Bool) → listed ≡ is_some found → cond (listed || false) (renewed_filter_of (only test found)) None ≡ renewed_filter_of (only test found)
all_by true found test is = refl
all_by false None test is = refl
all_by false (Some membership) test is = cc

stored_by : (fresh : Bool) (membership : Membership) → renewed_filter_of (cond fresh (Some membership) None) ≡ cond fresh (renewed_filter_of (Some membership)) None
stored_by true membership = refl
stored_by false membership = refl

and_true : (test : Bool) → (test && true) ≡ test
and_true true = refl
and_true false = refl

or_false : (test : Bool) → (test || false) ≡ test
or_false true = refl
or_false false = refl

-- a pair that was seen is of the endpoint where all are
pub seen_pair-of : (endpoint : EndpointValue) (seen : List EndpointGroup) (at : EndpointGroup) → AllByRecursion (λ pair. same_endpoint pair.endpoint endpoint ≡ true) seen → has endpoint_group_order seen at ≡ true
    → same_endpoint at.endpoint endpoint ≡ true
seen_pair-of endpoint seen at all there =
    let its = λ (pair : EndpointGroup). same_endpoint pair.endpoint endpoint in
    (and_parts (has endpoint_group_order seen at) (its at) (sym (has-filter endpoint_group_order-exact its seen at) ∙ ap (λ (pairs : List EndpointGroup). has endpoint_group_order pairs at) (filter_all its seen all) ∙ there)).1

-- where no pair of the endpoint is left, those are seen that have a membership
pub seen_pair-all : (endpoint : EndpointValue) (rows : List Membership) (seen rest : List EndpointGroup) (group : Ip) → filter (within endpoint) (map endpoint_group_of rows) ≡ seen ++ rest
    → has endpoint_group_order rest (pair endpoint group) ≡ false → has endpoint_group_order seen (pair endpoint group) ≡ is_some (membership_in rows (pair endpoint group))
seen_pair-all endpoint rows seen rest group whole none =
    let own = pair endpoint group in
    let listed = has endpoint_group_order seen own in
    let all = has endpoint_group_order (map endpoint_group_of rows) own in
    sym (or_false listed) ∙ ap (λ (test : Bool). listed || test) (sym none)
    ∙ sym (has-append endpoint_group_order seen rest own) ∙ ap (λ (keys : List EndpointGroup). has endpoint_group_order keys own) (sym whole)
    ∙ has-filter endpoint_group_order-exact (within endpoint) (map endpoint_group_of rows) own ∙ ap (λ (test : Bool). all && test) (in_range endpoint group) ∙ and_true all ∙ has-pairs rows own

module _ (lifetime moment : ℕ) (endpoint : EndpointValue) (rows : List Membership) where
  -- what a table has of the pair
  abbrev pub filter_of : EndpointGroup → Option RenewedFilter
  filter_of at = renewed_filter_of (only (is_fresh lifetime moment) (membership_in rows at))

  -- what it has of the endpoint's group, where that pair was seen
  abbrev pub seen_filter : List (Bor EndpointGroup) → Ip → Option RenewedFilter
  seen_filter seen group = cond (has endpoint_group_order (map deref seen) (pair endpoint group)) (filter_of (pair endpoint group)) None

  -- what it has of a pair that has a stored filter
  pub filter_of-stored : (at : EndpointGroup) (stored : StoredFilter) (fresh : Bool) → membership_in rows at ≡ Some (stored_membership (at, stored)) → is_fresh lifetime moment (stored_membership (at, stored)) ≡ fresh
      → filter_of at ≡ cond fresh (renewed_filter_of (Some (stored_membership (at, stored)))) None
  filter_of-stored at stored fresh found is =
      ap (λ (one : Option Membership). renewed_filter_of (only (is_fresh lifetime moment) one)) found ∙ ap (λ (test : Bool). renewed_filter_of (cond test (Some (stored_membership (at, stored))) None)) is
      ∙ stored_by fresh (stored_membership (at, stored))

  its_filter : (at : EndpointGroup) (group : Ip) → same_endpoint at.endpoint endpoint ≡ true → same_group at.group group ≡ true → filter_of (pair endpoint group) ≡ filter_of at
  its_filter at group same here =
      ap filter_of (sym (ap (λ (one : EndpointValue). pair one at.group) (same_endpoint-exact at.endpoint endpoint same) ∙ ap (pair endpoint) (tells_apart ip_order-exact at.group group here)))

  -- one pair of the endpoint more
  pub seen_filter-more : (seen : List (Bor EndpointGroup)) (at : Bor EndpointGroup) (group : Ip) (made before after : Option RenewedFilter) → same_endpoint at.now.endpoint endpoint ≡ true → filter_of at.now ≡ made
      → before ≡ seen_filter seen group → after ≡ cond (same_group at.now.group group) made before → after ≡ seen_filter (seen ++ at ∷ []) group
  seen_filter-more seen at group made before after same makes so_far is =
      let own = pair endpoint group in
      let listed = has endpoint_group_order (map deref seen) own in
      let here : same_endpoint_group own at.now ≡ same_group at.now.group group = same_endpoint_group-is own at.now
      ∙ ap (λ (test : Bool). test && same_group group at.now.group) (same_back endpoint at.now.endpoint ∙ same) ∙ same_group-back group at.now.group in
      more_by (same_group at.now.group group) listed made (filter_of own) before after so_far (λ one. its_filter at.now group same one ∙ makes) is
      ∙ ap (λ (some : Bool). cond some (filter_of own) None) (ap (λ (one : Bool). listed || (one || false)) (sym here)
      ∙ sym (ap (λ (all : List EndpointGroup). has endpoint_group_order all own) (map-append deref seen (at ∷ [])) ∙ has-append endpoint_group_order (map deref seen) (at.now ∷ []) own))

  -- one of which the table has none
  pub seen_filter-none : (seen : List (Bor EndpointGroup)) (at : Bor EndpointGroup) (group : Ip) (before : Option RenewedFilter) → same_endpoint at.now.endpoint endpoint ≡ true → filter_of at.now ≡ None
      → before ≡ seen_filter seen group → before ≡ seen_filter (seen ++ at ∷ []) group
  seen_filter-none seen at group before same makes so_far =
      seen_filter-more seen at group None before before same makes so_far
      (none_by (same_group at.now.group group) (has endpoint_group_order (map deref seen) (pair endpoint group)) (filter_of (pair endpoint group)) before so_far (λ one. its_filter at.now group same one ∙ makes))

  -- where no pair of the endpoint is left, all are seen
  pub seen_filter-all : (seen : List (Bor EndpointGroup)) (rest : List EndpointGroup) (group : Ip) → filter (within endpoint) (map endpoint_group_of rows) ≡ map deref seen ++ rest
      → has endpoint_group_order rest (pair endpoint group) ≡ false → seen_filter seen group ≡ filter_of (pair endpoint group)
  seen_filter-all seen rest group whole none =
      let own = pair endpoint group in
      let listed = has endpoint_group_order (map deref seen) own in
      ap (λ (test : Bool). cond test (filter_of own) None) (sym (or_false listed))
      ∙ all_by listed (membership_in rows own) (is_fresh lifetime moment) (seen_pair-all endpoint rows (map deref seen) rest group whole none)

endpoints_tied : (one other : EndpointValue) → (endpoints.TheImpl.ghosts).eq one other ≡ same_endpoint one other
endpoints_tied one other = search rules

-- whether two endpoints differ, as `!=` finds it
pub same_endpoint-ne : (one other : EndpointValue) (differ answer : Bool) → differ ≡ not ((endpoints.TheImpl.ghosts).eq one other) → differ ≡ answer → same_endpoint one other ≡ not answer
same_endpoint-ne one other differ answer is found = same-ne (same_endpoint one other) ((endpoints.TheImpl.ghosts).eq one other) differ answer (endpoints_tied one other) is found
