-- The first of an endpoint's memberships: from the least of its pairs on.
use Rattle.std.proofs.{Common.{◌≡◌, ◌==◌, ◌&&◌, ◌||◌, Bool, true, false, not, cond, filter, map, Option, Some, None, IsSome, is_some, IfNone, IfSome, List, [], ◌∷◌, refl, sym, ap, ◌∙◌, arith}, lemmas.{Bool.{and_parts, Decides.{nat_tests}}, Cmp.{tied_itself}}}
use Rattle.std.specs.{Bool.{then_some}, BTreeSet.{BTreeSet, keys_between}, List.Sorted.{IsStrictlySortedBy}, Ordering.{is_eq}, declared.{cmp.Ordering.{Ordering}, ops.Bound.TheVariants.{Included, Unbounded}}}
use Rattle.amt_values.{specs.{declared.address.Ip.{Ip, TheVariants.{V4}}, EndpointValue.{EndpointValue}, Ascending.{IsAscending, has}}, proofs.{Orders.{endpoint_order-total}, AscendingLaws.{has-filter}}}
use Rattle.endpoint_membership.specs.{EndpointGroup.{EndpointGroup, endpoint_group_order, same_endpoint}, Membership.{Membership, endpoint_group_of, membership_order}, Memberships.{membership_in}, Stored.{is_of_another, only}}
use Rattle.endpoint_membership.proofs.{AfterEntries.{same_endpoint-exact}, EndpointGroupOrder.{endpoint_group_order-exact, endpoint_group_order-total}, MembershipIn.{has-pairs, GivesItsEndpointGroup-membership_in, all_where, only_where}, OwnFilters.{in_range, none_past, pair, within}}

not_other : (test : Bool) → not test ≡ false → test ≡ true
not_other true is = refl
not_other false is = cc

none_where : (found : Option Membership) → is_some found ≡ false → found ≡ None
none_where None none = refl
none_where (Some membership) none = cc

same_parts : (one other : EndpointValue) → ((one.address == other.address) && (one.port == other.port)) ≡ same_endpoint one other
same_parts one other = grind (arith, nat_tests)

module _ (order : EndpointGroup → EndpointGroup → Ordering) (endpoint : EndpointValue) (rows : List Membership) (pairs : BTreeSet EndpointGroup) (range : List EndpointGroup) (same : order ≡ endpoint_group_order)
    (are : pairs.keys ≡ map endpoint_group_of rows) (between : range ≡ keys_between order (Included (pair endpoint (V4 0))) Unbounded pairs) where
  in_range_is : range ≡ filter (within endpoint) (map endpoint_group_of rows)
  in_range_is = between ∙ ap (λ (by : EndpointGroup → EndpointGroup → Ordering). keys_between by (Included (pair endpoint (V4 0))) Unbounded pairs) same ∙ ap (filter (within endpoint)) are

  has-range : (at : EndpointGroup) → has endpoint_group_order range at ≡ (is_some (membership_in rows at) && within endpoint at)
  has-range at = ap (λ (keys : List EndpointGroup). has endpoint_group_order keys at) in_range_is ∙ has-filter endpoint_group_order-exact (within endpoint) (map endpoint_group_of rows) at
      ∙ ap (λ (there : Bool). there && within endpoint at) (has-pairs rows at)

  -- where none of the range is of the endpoint, it has no membership
  pub none_of : IsAscending membership_order rows → ((group : Ip) → has endpoint_group_order range (pair endpoint group) ≡ false) → filter (is_of_another endpoint) rows ≡ rows
  none_of ascends none =
      all_where (λ (at : EndpointGroup). not (same_endpoint at.endpoint endpoint)) rows ascends
      (λ at mine. let exact = ap (λ (one : EndpointValue). pair one at.group) (same_endpoint-exact at.endpoint endpoint (not_other (same_endpoint at.endpoint endpoint) mine)) in
      ap (membership_in rows) exact ∙ none_where (membership_in rows (pair endpoint at.group))
      (fails_by (is_some (membership_in rows (pair endpoint at.group))) (within endpoint (pair endpoint at.group)) (in_range endpoint at.group) (sym (has-range (pair endpoint at.group)) ∙ none at.group)))
    where
      fails_by : (some inside : Bool) → inside ≡ true → (some && inside) ≡ false → some ≡ false
      fails_by true inside is fails = let wrong = sym is ∙ fails in cc
      fails_by false inside is fails = refl

  module _ (first : EndpointGroup) (rest : List EndpointGroup) (own : Bool) (found : Option EndpointGroup) (is : range ≡ first ∷ rest)
      (test : own ≡ ((first.endpoint.address == endpoint.address) && (first.endpoint.port == endpoint.port))) (given : found ≡ then_some own first) where
    first_by : (mine : Bool) → (mine ≡ true → first.endpoint ≡ endpoint) → IsSome (membership_in rows first) → IfSome (then_some mine first) (λ at. (at.endpoint ≡ endpoint) × IsSome (membership_in rows at))
    first_by true its member = (its refl, member)
    first_by false its member = tt

    -- the first pair of the range, where it is of the endpoint
    pub first_found : IfSome found (λ at. (at.endpoint ≡ endpoint) × IsSome (membership_in rows at))
    first_found =
        let here : has endpoint_group_order range first ≡ true = ap (λ (keys : List EndpointGroup). has endpoint_group_order keys first) is
        ∙ ap (λ (one : Bool). one || has endpoint_group_order rest first) (ap is_eq (tied_itself endpoint_group_order-total first)) in
        rw given (first_by own (λ yes. same_endpoint-exact first.endpoint endpoint (sym (test ∙ same_parts first.endpoint endpoint) ∙ yes))
        (and_parts (is_some (membership_in rows first)) (within endpoint first) (sym (has-range first) ∙ here)).0)

    none_by : (mine : Bool) (P : Type 0) → (mine ≡ false → P) → IfNone (then_some mine first) P
    none_by true P holds = tt
    none_by false P holds = holds refl

    -- where that is of another endpoint, the endpoint has no membership
    pub none_found : IsAscending membership_order rows → IsStrictlySortedBy endpoint_group_order (map endpoint_group_of rows) → IfNone found (filter (is_of_another endpoint) rows ≡ rows)
    none_found ascends ordered =
        rw given (none_by own (filter (is_of_another endpoint) rows ≡ rows) (λ other. none_of ascends (λ group. ap (λ (keys : List EndpointGroup). has endpoint_group_order keys (pair endpoint group)) is
        ∙ none_past endpoint group (map endpoint_group_of rows) [] first rest ordered (sym in_range_is ∙ is) (sym (test ∙ same_parts first.endpoint endpoint) ∙ other))))

-- a membership of a pair of the endpoint is not of another endpoint
pub not_another : (endpoint : EndpointValue) (at : EndpointGroup) (rows : List Membership) → at.endpoint ≡ endpoint → only (is_of_another endpoint) (membership_in rows at) ≡ None
not_another endpoint at rows own =
    only_where (λ (one : EndpointGroup). not (same_endpoint one.endpoint endpoint)) at (membership_in rows at) (GivesItsEndpointGroup-membership_in rows at)
    ∙ ap (λ (here : Bool). cond (not here) (membership_in rows at) None) (ap (λ (one : EndpointValue). same_endpoint one endpoint) own ∙ ap is_eq (tied_itself endpoint_order-total endpoint))
