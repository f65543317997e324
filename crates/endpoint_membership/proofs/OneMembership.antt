-- The parts with one membership more, and with one less.
use Rattle.std.proofs.{Common.{◌≡◌, ℕ, ◌==◌, Bool, true, false, cond, ◌&&◌, List, Option, Some, None, refl, sym, ap, subst, ◌∙◌, arith}, lemmas.{Cmp.{eq_by_cmp_equiv}, Map.Steps.{list_any_congr}}}
use Rattle.std.specs.{BTreeMap.{BTreeMap, get, is_at}, BTreeSet.{BTreeSet}, Cmp.{IsTotalOrder, tied_then, unsigned_ties}, Map.{lookup}, Ordering.{nat_cmp}, declared.cmp.Ordering.{Ordering}}
use Rattle.std.specs.BTreeSet as sorted
use Rattle.amt_values.specs.{EndpointValue.{EndpointValue}, Order.{endpoint_order}}
use Rattle.endpoint_membership.specs.{EndpointGroup.{EndpointGroup, endpoint_group_order, same_endpoint, same_endpoint_group}, Filters.{IsSetAt, stored_membership}, Limits.{group_count}, Membership.{Membership}, Memberships.{membership_in}}
use Rattle.endpoint_membership.specs.{Parts.{AreAgreed, HasNumber, is_renewed_at, one_less, one_more, renewal_order}, declared.{keys.LastRenewal.{LastRenewal}, stored.StoredFilter.{StoredFilter}}}
use Rattle.endpoint_membership.proofs.{CountedParts.{counted-less, counted-more}, MembershipIn.{same_endpoint_group-exact}, SetAt.{IsWith-set, IsWith-taken, sum_by-with}}

abbrev Counts : Type 0
Counts = BTreeMap EndpointValue ℕ

abbrev renewal_of : EndpointGroup → StoredFilter → LastRenewal
renewal_of at stored = record { renewed = stored.renewed; at = at }

renewal_at : (at : EndpointGroup) (stored : StoredFilter) (renewal : LastRenewal) → is_at (renewal_order (renewal_of at stored)) renewal ≡ ((stored.renewed == renewal.renewed) && same_endpoint_group at renewal.at)
renewal_at at stored renewal =
    sym (ap (λ (moment : Bool). moment && same_endpoint_group at renewal.at) (unsigned_ties stored.renewed renewal.renewed) ∙ tied_then (nat_cmp stored.renewed renewal.renewed) (endpoint_group_order at renewal.at))

renewed_more : (moment same : Bool) (found : Option Membership) (membership : Membership) (renewed : ℕ) → (membership.renewed == renewed) ≡ moment → (same ≡ true → found ≡ None)
    → cond (moment && same) true (is_renewed_at renewed found) ≡ is_renewed_at renewed (cond same (Some membership) found)
renewed_more true true found membership renewed is none = sym is
renewed_more false true found membership renewed is none = ap (is_renewed_at renewed) (none refl) ∙ sym is
renewed_more true false found membership renewed is none = refl
renewed_more false false found membership renewed is none = refl

renewed_less : (moment same : Bool) (found : Option Membership) (membership : Membership) (renewed : ℕ) → (membership.renewed == renewed) ≡ moment → (same ≡ true → found ≡ Some membership)
    → cond (moment && same) false (is_renewed_at renewed found) ≡ is_renewed_at renewed (cond same None found)
renewed_less true true found membership renewed is some = refl
renewed_less false true found membership renewed is some = ap (is_renewed_at renewed) (some refl) ∙ is
renewed_less true false found membership renewed is some = refl
renewed_less false false found membership renewed is some = refl

at_pair : (rows : List Membership) (at other : EndpointGroup) (found : Option Membership) → membership_in rows at ≡ found → same_endpoint_group at other ≡ true → membership_in rows other ≡ found
at_pair rows at other found is same = ap (membership_in rows) (sym (same_endpoint_group-exact at other same)) ∙ is

module _ (rows rows_after : List Membership) (renewals renewals_after : BTreeSet LastRenewal) (counts counts_after : Counts) (agreed : AreAgreed rows renewals counts) where
  -- parts that agree do so with one membership more
  pub AreAgreed-more : (at : EndpointGroup) (stored : StoredFilter) → membership_in rows at ≡ None → IsSetAt at (Some (stored_membership (at, stored))) rows rows_after
      → sorted.Updates renewal_order renewals renewals_after (renewal_of at stored) true
      → HasNumber at.endpoint (one_more (get endpoint_order counts at.endpoint)) counts counts_after → AreAgreed rows_after renewals_after counts_after
  AreAgreed-more at stored none set renewing counting =
      let membership = stored_membership (at, stored) in record {
        ascends = set.ascends;
        renewed = λ renewal. renewing.0 renewal
            ∙ ap (λ (here : Bool). cond here true (sorted.contains renewal_order renewals renewal)) (renewal_at at stored renewal)
            ∙ ap (cond ((stored.renewed == renewal.renewed) && same_endpoint_group at renewal.at) true) (agreed.renewed renewal)
            ∙ renewed_more (stored.renewed == renewal.renewed) (same_endpoint_group at renewal.at) (membership_in rows renewal.at) membership renewal.renewed refl (at_pair rows at renewal.at None none)
            ∙ ap (is_renewed_at renewal.renewed) (sym (set.each renewal.at));
        counted = λ endpoint. counted-more counts counts_after at.endpoint endpoint (group_count endpoint rows) (group_count endpoint rows_after) counting (agreed.counted endpoint)
            (sum_by-with (λ one. cond (same_endpoint one.endpoint endpoint) 1 0) membership rows rows_after (IsWith-set membership rows rows_after none set));
      }

  -- parts that agree do so with one membership less
  pub AreAgreed-less : (at : EndpointGroup) (stored : StoredFilter) → membership_in rows at ≡ Some (stored_membership (at, stored)) → IsSetAt at None rows rows_after
      → sorted.Updates renewal_order renewals renewals_after (renewal_of at stored) false
      → HasNumber at.endpoint (one_less (get endpoint_order counts at.endpoint)) counts counts_after → AreAgreed rows_after renewals_after counts_after
  AreAgreed-less at stored some set ending counting =
      let membership = stored_membership (at, stored) in record {
        ascends = set.ascends;
        renewed = λ renewal. ending.0 renewal
            ∙ ap (λ (here : Bool). cond here false (sorted.contains renewal_order renewals renewal)) (renewal_at at stored renewal)
            ∙ ap (cond ((stored.renewed == renewal.renewed) && same_endpoint_group at renewal.at) false) (agreed.renewed renewal)
            ∙ renewed_less (stored.renewed == renewal.renewed) (same_endpoint_group at renewal.at) (membership_in rows renewal.at) membership renewal.renewed refl (at_pair rows at renewal.at (Some membership) some)
            ∙ ap (is_renewed_at renewal.renewed) (sym (set.each renewal.at));
        counted = λ endpoint.
            let with_it = sum_by-with (λ one. cond (same_endpoint one.endpoint endpoint) 1 0) membership rows_after rows (IsWith-taken membership rows rows_after some set) in
            counted-less counts counts_after at.endpoint endpoint (group_count endpoint rows) (group_count endpoint rows_after) counting (agreed.counted endpoint) (omega arith);
      }

  -- parts with the same memberships, renewals and counts agree
  pub AreAgreed-same : rows_after ≡ rows → sorted.IsSameSet renewal_order renewals_after renewals → counts_after.entries ≡ counts.entries → AreAgreed rows_after renewals_after counts_after
  AreAgreed-same same same_renewals same_counts =
      subst (λ (all : List Membership). AreAgreed all renewals_after counts_after) (sym same) (record {
        ascends = agreed.ascends;
        renewed = λ renewal. same_renewals renewal ∙ agreed.renewed renewal;
        counted = λ endpoint. ap (λ (entries : List (EndpointValue × ℕ)). lookup (is_at (endpoint_order endpoint)) entries) same_counts ∙ agreed.counted endpoint;
      })

-- ---- what a refused insertion leaves, undone

out_again : (same had : Bool) → (same ≡ true → had ≡ false) → cond same false (cond same true had) ≡ had
out_again true had none = sym (none refl)
out_again false had none = refl

-- a new key that was put in and taken out leaves the set as it was
pub undone-key : {K : Type 0} {order : K → K → Ordering} (total : IsTotalOrder order) (before middle after : BTreeSet K) (key : K) → sorted.contains order before key ≡ false
    → sorted.Updates order before middle key true → sorted.Updates order middle after key false → sorted.IsSameSet order after before
undone-key {K} {order} total before middle after key none put taken = λ other.
    taken.0 other ∙ ap (cond (is_at (order key) other) false) (put.0 other)
    ∙ out_again (is_at (order key) other) (sorted.contains order before other) (λ same. sym (list_any_congr (eq_by_cmp_equiv total) key other before.keys same) ∙ none)
