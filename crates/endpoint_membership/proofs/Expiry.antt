-- Memberships in the order of their renewals.
use Rattle.std.proofs.{Common.{◌≡◌, ℕ, zero, suc, ◌+◌, ◌<◌, ◌≤◌, Bool, true, false, nat_lt, List, [], ◌∷◌, length, filter, Option, Some, None, IsSome, IfNone, ◌↔◌, refl, ap, subst, ◌∙◌, arith}, lemmas.Bool.{eq-eqb, eqb-true, Decides.{nat_tests}}}
use Rattle.std.{proofs.lemmas.Map.Keys.{le_from_not_gt}, specs.{BTreeSet.{BTreeSet}, List.{list_any}, Ordering.{is_eq, is_gt, nat_cmp, ordering_then}, declared.cmp.Ordering.{Ordering, TheVariants.{Less, Equal, Greater}}}}
use Rattle.std.specs.BTreeSet as sorted
use Rattle.amt_values.{specs.Ascending.{IsAscending}, proofs.AscendingLaws.{IsAscending-filter}}
use Rattle.endpoint_membership.specs.{EndpointGroup.{endpoint_group_order}, Membership.{Membership, is_fresh, membership_order}, Memberships.{membership_in}, Parts.{is_renewed_at, is_stored, renewal_order}}
use Rattle.endpoint_membership.{specs.{Stored.{only}, declared.keys.LastRenewal.{LastRenewal}}, proofs.MembershipIn.{membership_in-filter, same_rows}}

pub IfNone-from : {T : Type 0} {P : Type 0} (found : Option T) → P → IfNone found P
IfNone-from None holds = holds
IfNone-from (Some value) holds = tt

-- where two orders do not find the first value later, neither does the first order
pub not_gt_first : (first second : Ordering) → is_gt (ordering_then first second) ≡ false → is_gt first ≡ false
not_gt_first Less second is = refl
not_gt_first Equal second is = refl
not_gt_first Greater second is = is

kept_by : (lifetime moment : ℕ) (found : Option Membership) → ((membership : Membership) → found ≡ Some membership → is_fresh lifetime moment membership ≡ true) → only (is_fresh lifetime moment) found ≡ found
kept_by lifetime moment None fresh = refl
kept_by lifetime moment (Some membership) fresh = rw (fresh membership refl) refl

-- all memberships are fresh where all renewals are
pub all_fresh : (lifetime moment : ℕ) (rows : List Membership) (renewals : BTreeSet LastRenewal) → IsAscending membership_order rows
    → ((renewal : LastRenewal) → sorted.contains renewal_order renewals renewal ≡ is_stored rows renewal)
    → ((renewal : LastRenewal) → sorted.contains renewal_order renewals renewal ≡ true → nat_lt moment (renewal.renewed + lifetime) ≡ true)
    → filter (is_fresh lifetime moment) rows ≡ rows
all_fresh lifetime moment rows renewals ascends renewed fresh =
    same_rows (filter (is_fresh lifetime moment) rows) rows (IsAscending-filter membership_order (is_fresh lifetime moment) rows ascends) ascends
    (λ at. membership_in-filter (is_fresh lifetime moment) rows at ascends ∙ kept_by lifetime moment (membership_in rows at)
    (λ membership found. fresh (record { renewed = membership.renewed; at = at })
    (renewed (record { renewed = membership.renewed; at = at }) ∙ ap (is_renewed_at membership.renewed) found ∙ eq-eqb membership.renewed membership.renewed refl)))

-- where the first renewal is fresh, all are
pub fresh_after : (lifetime moment : ℕ) (order : LastRenewal → LastRenewal → Ordering) (renewals : BTreeSet LastRenewal) (first renewal : LastRenewal) → order ≡ renewal_order → sorted.IsLowerBound order renewals first → moment < first.renewed + lifetime
    → sorted.contains renewal_order renewals renewal ≡ true → nat_lt moment (renewal.renewed + lifetime) ≡ true
fresh_after lifetime moment order renewals first renewal same least fresh has =
    let bound = subst (λ (one : LastRenewal → LastRenewal → Ordering). sorted.IsLowerBound one renewals first) same least renewal has in
    let later = le_from_not_gt first.renewed renewal.renewed (not_gt_first (nat_cmp first.renewed renewal.renewed) (endpoint_group_order first.at renewal.at) bound) in
    grind (arith, nat_tests)

empty_by : (count : ℕ) → (0 < count → false ≡ true) → count ≡ 0
empty_by zero some = refl
empty_by (suc count) some = let wrong = some (omega arith) in cc

none_in : {K : Type 0} (test : K → Bool) (keys : List K) → length keys ≡ 0 → list_any test keys ≡ false
none_in test [] empty = refl
none_in test (key ∷ keys) empty = cc

-- a set with no first renewal has none
pub fresh_none : (lifetime moment : ℕ) (renewals : BTreeSet LastRenewal) (renewal : LastRenewal) → (IsSome {T = LastRenewal} None ↔ (0 < length renewals.keys))
    → sorted.contains renewal_order renewals renewal ≡ true → nat_lt moment (renewal.renewed + lifetime) ≡ true
fresh_none lifetime moment renewals renewal some has =
    let none = none_in (λ (one : LastRenewal). is_eq (renewal_order renewal one)) renewals.keys (empty_by (length renewals.keys) some.1) in cc

expired_by : (lifetime moment renewed : ℕ) (found : Option Membership) → is_renewed_at renewed found ≡ true → renewed + lifetime ≤ moment
    → IsSome found × (only (is_fresh lifetime moment) found ≡ None)
expired_by lifetime moment renewed None is past = cc
expired_by lifetime moment renewed (Some membership) is past =
    let same = eqb-true membership.renewed renewed is in
    let stale : nat_lt moment (membership.renewed + lifetime) ≡ false = grind (arith, nat_tests) in
    (refl, rw stale refl)

-- the membership of a renewal that is not fresh is there, and is not fresh
pub expired : (lifetime moment : ℕ) (rows : List Membership) (first : LastRenewal) → is_stored rows first ≡ true → first.renewed + lifetime ≤ moment
    → IsSome (membership_in rows first.at) × (only (is_fresh lifetime moment) (membership_in rows first.at) ≡ None)
expired lifetime moment rows first is past = expired_by lifetime moment first.renewed (membership_in rows first.at) is past
