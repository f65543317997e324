-- The pairs whose membership expires are those of the first renewals.
use Rattle.std.proofs.{Common.{◌≡◌, ℕ, ◌+◌, nat_lt, Bool, true, false, not, ◌&&◌, List, [], ◌∷◌, ◌++◌, map, filter, Option, Some, None, ⊎_elim, refl, sym, ap, subst, ◌∙◌, arith}, lemmas.{Bool.{and_parts, cases_Bool, eq-eqb, eqb-true, false_from_ne_true, or_cases, or_left, or_right, Decides.{nat_tests}}, Cmp.{tied_itself}, List.{append-nil, Elements.{filter-append}}, Map.{Keys.{le_from_not_gt, sorted_head}, Views.{tells_apart}}}}
use Rattle.std.specs.{BTreeSet.{BTreeSet}, List.{AllByRecursion, Sorted.{IsStrictlySortedBy}}, Ordering.{is_eq, is_gt, nat_cmp}, declared.cmp.Ordering.{TheVariants.{Less}}}
use Rattle.std.specs.BTreeSet as sorted
use Rattle.amt_values.{specs.Ascending.{has}, proofs.AscendingLaws.{has-filter}}
use Rattle.endpoint_membership.specs.{EndpointGroup.{EndpointGroup, endpoint_group_order, same_endpoint_group}, FiltersAfter.{is_expired}, Membership.{Membership}, Memberships.{membership_in}, Parts.{is_renewed_at, is_stored, renewal_order}, declared.keys.LastRenewal.{LastRenewal}}
use Rattle.endpoint_membership.proofs.{EndpointGroupOrder.{endpoint_group_order-total}, Expiry.{not_gt_first}, KeysTogether.{filter-none, sorted_back}, MembershipIn.{filter_all, same_endpoint_group-exact}, PartOrders.{renewal_at, renewal_order-exact, renewal_order-total}}

abbrev pub pairs_of : List LastRenewal → List EndpointGroup
pairs_of renewals = map (λ renewal. renewal.at) renewals

same_pair : (one other : LastRenewal) → is_eq (renewal_order one other) ≡ true → same_endpoint_group one.at other.at ≡ true
same_pair one other same =
    subst (λ (next : LastRenewal). same_endpoint_group one.at next.at ≡ true) (tells_apart renewal_order-exact one other same) (ap is_eq (tied_itself endpoint_group_order-total one.at))

-- the pair of one of some renewals is among theirs
has-pair : (renewals : List LastRenewal) (one : LastRenewal) → has renewal_order renewals one ≡ true → has endpoint_group_order (pairs_of renewals) one.at ≡ true
has-pair [] one there = cc
has-pair (first ∷ rest) one there =
    ⊎_elim (λ same. or_left _ _ (same_pair one first same)) (λ later. or_right _ _ (has-pair rest one later)) (or_cases (is_eq (renewal_order one first)) (has renewal_order rest one) there)

-- one of them is a renewal of each of these pairs
has-renewal : (renewals : List LastRenewal) (at : EndpointGroup) → has endpoint_group_order (pairs_of renewals) at ≡ true → (renewed : ℕ) × (has renewal_order renewals (renewal_at renewed at) ≡ true)
has-renewal [] at there = cc
has-renewal (first ∷ rest) at there =
    ⊎_elim (λ same. (first.renewed, or_left _ _ (subst (λ (pair : EndpointGroup). is_eq (renewal_order (renewal_at first.renewed pair) first) ≡ true) (sym (same_endpoint_group-exact at first.at same)) (ap is_eq (tied_itself renewal_order-total first)))))
    (λ later. let found = has-renewal rest at later in (found.0, or_right _ _ found.1)) (or_cases (same_endpoint_group at first.at) (has endpoint_group_order (pairs_of rest) at) there)

module _ (lifetime moment : ℕ) where
  -- the renewal was not in time
  abbrev pub is_late : LastRenewal → Bool
  is_late renewal = not (nat_lt moment (renewal.renewed + lifetime))

  -- pairs expire exactly where they have a late renewal, by their memberships
  expired_by : (renewals : List LastRenewal) (at : EndpointGroup) (found : Option Membership) → ((renewed : ℕ) → has renewal_order renewals (renewal_at renewed at) ≡ (is_renewed_at renewed found && is_late (renewal_at renewed at)))
      → has endpoint_group_order (pairs_of renewals) at ≡ is_expired lifetime moment found
  expired_by renewals at None are = false_from_ne_true _ (λ there. let one = has-renewal renewals at there in let none = are one.0 in cc)
  expired_by renewals at (Some membership) are =
      let late = is_late (renewal_at membership.renewed at) in
      let here : has renewal_order renewals (renewal_at membership.renewed at) ≡ late = are membership.renewed ∙ ap (λ (same : Bool). same && late) (eq-eqb membership.renewed membership.renewed refl) in
      ⊎_elim (λ passes. has-pair renewals (renewal_at membership.renewed at) (here ∙ passes) ∙ sym passes)
      (λ fails. false_from_ne_true _ (λ there.
      let one = has-renewal renewals at there in
      let both = and_parts _ _ (sym (are one.0) ∙ one.1) in
      let same : late ≡ true = ap (λ (renewed : ℕ). is_late (renewal_at renewed at)) (eqb-true membership.renewed one.0 both.0) ∙ both.1 in cc) ∙ sym fails)
      (cases_Bool late)

  in_time_from : (one other : LastRenewal) → renewal_order one other ≡ Less → is_late one ≡ false → is_late other ≡ false
  in_time_from one other less early =
      let later = le_from_not_gt one.renewed other.renewed (not_gt_first (nat_cmp one.renewed other.renewed) (endpoint_group_order one.at other.at) (ap is_gt less)) in grind (arith, nat_tests)

  in_time_each : (one : LastRenewal) (rest : List LastRenewal) → is_late one ≡ false → AllByRecursion (λ next. renewal_order one next ≡ Less) rest → AllByRecursion (λ next. is_late next ≡ false) rest
  in_time_each one [] early after = tt
  in_time_each one (next ∷ rest) early after = (in_time_from one next after.0 early, in_time_each one rest early after.1)

  -- from a renewal that is in time on, none is late
  pub none_late : (renewals seen rest : List LastRenewal) (one : LastRenewal) → IsStrictlySortedBy renewal_order renewals → renewals ≡ seen ++ one ∷ rest → is_late one ≡ false
      → AllByRecursion (λ next. is_late next ≡ false) (one ∷ rest)
  none_late renewals seen rest one ordered is early =
      (early, in_time_each one rest early (sorted_head renewal_order one rest (sorted_back renewal_order seen (one ∷ rest) (subst (IsStrictlySortedBy renewal_order) is ordered))))

  -- the pairs of the late renewals, which are the first, are those that expire
  pub pairs_expired : (rows : List Membership) (renewals : BTreeSet LastRenewal) (seen rest : List LastRenewal) → ((renewal : LastRenewal) → sorted.contains renewal_order renewals renewal ≡ is_stored rows renewal)
      → renewals.keys ≡ seen ++ rest → AllByRecursion (λ renewal. is_late renewal ≡ true) seen → AllByRecursion (λ renewal. is_late renewal ≡ false) rest
      → (at : EndpointGroup) → has endpoint_group_order (pairs_of seen) at ≡ is_expired lifetime moment (membership_in rows at)
  pairs_expired rows renewals seen rest renewed whole late early at =
      let kept : filter is_late renewals.keys ≡ seen = ap (filter is_late) whole ∙ filter-append is_late seen rest
      ∙ ap (λ (more : List LastRenewal). filter is_late seen ++ more) (filter-none is_late rest early) ∙ append-nil (filter is_late seen) ∙ filter_all is_late seen late in
      expired_by seen at (membership_in rows at) (λ moment. ap (λ (all : List LastRenewal). has renewal_order all (renewal_at moment at)) (sym kept)
      ∙ has-filter renewal_order-exact is_late renewals.keys (renewal_at moment at) ∙ ap (λ (there : Bool). there && is_late (renewal_at moment at)) (renewed (renewal_at moment at)))
