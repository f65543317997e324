-- What entries do to memberships that stand for a log.
use Rattle.std.proofs.{Common.{◌≡◌, ℕ, ◌≤◌, Bool, true, false, cond, not, List, [], ◌∷◌, ◌++◌, filter, Option, None, refl, sym, ap, ◌∙◌}, lemmas.Cmp.{eq_by_cmp_equiv}}
use Rattle.std.{proofs.lemmas.Map.Views.{tells_apart}, specs.{List.{AllByRecursion, Sorted.{IsStrictlySortedBy}}, declared.cmp.Ordering.TheVariants.{Less}}}
use Rattle.amt_values.{specs.{EndpointValue.{EndpointValue}, Ascending.{IsAscending}}, proofs.{Orders.{endpoint_order-exact, endpoint_order-total}, AscendingLaws.{IsAscending-filter}}}
use Rattle.endpoint_membership.specs.{declared.change.Change.{Change, TheVariants.{Clear}}, Membership.{Membership, is_fresh, membership_order}, Stored.{is_of_another, only}, Log.{latest, records_at}, EndpointMemberships.{AreOf}, EndpointGroup.{EndpointGroup, same_endpoint}}
use Rattle.endpoint_membership.{specs.{Memberships.{membership_in, membership_at}, Table.{AreMembershipsAt}}, proofs.{MembershipIn.{filter_all, membership_in-filter, membership_in-where}, MembershipAt.{membership_at-clear, membership_at-later, membership_at-other}}}

-- as time passes, the memberships that are still fresh last
pub AreMembershipsAt-later : (lifetime moment later : ℕ) (past : List Change) (rows : List Membership) → moment ≤ later → AreMembershipsAt lifetime moment past rows
    → AreMembershipsAt lifetime later past (filter (is_fresh lifetime later) rows)
AreMembershipsAt-later lifetime moment later past rows onward are = record {
  ascend = IsAscending-filter membership_order (is_fresh lifetime later) rows are.ascend;
  each = λ endpoint_group. membership_in-filter (is_fresh lifetime later) rows endpoint_group are.ascend
      ∙ ap (only (is_fresh lifetime later)) (are.each endpoint_group)
      ∙ sym (membership_at-later lifetime moment later past endpoint_group onward);
}

-- an entry that makes no record anywhere changes no membership
pub AreMembershipsAt-other : (lifetime moment : ℕ) (entry : Change) (past : List Change) (rows : List Membership) → ((endpoint_group : EndpointGroup) → records_at endpoint_group entry ≡ [])
    → AreMembershipsAt lifetime moment past rows → AreMembershipsAt lifetime moment (entry ∷ past) rows
AreMembershipsAt-other lifetime moment entry past rows none are =
    record { ascend = are.ascend; each = λ endpoint_group. are.each endpoint_group ∙ sym (membership_at-other lifetime moment entry past endpoint_group (none endpoint_group)) }

cleared_by : (here : Bool) (before after : Option Membership) → (here ≡ true → after ≡ None) → (here ≡ false → after ≡ before) → cond (not here) before None ≡ after
cleared_by true before after none same = sym (none refl)
cleared_by false before after none same = sym (same refl)

-- a clearing takes away the endpoint's memberships
pub AreMembershipsAt-clear : (lifetime at : ℕ) (endpoint : EndpointValue) (past : List Change) (rows : List Membership)
    → AreMembershipsAt lifetime (latest (Clear endpoint at ∷ past)) past rows
    → AreMembershipsAt lifetime (latest (Clear endpoint at ∷ past)) (Clear endpoint at ∷ past) (filter (is_of_another endpoint) rows)
AreMembershipsAt-clear lifetime at endpoint past rows are =
    let moment = latest (Clear endpoint at ∷ past) in record {
      ascend = IsAscending-filter membership_order (is_of_another endpoint) rows are.ascend;
      each = λ endpoint_group. membership_in-where (λ one. not (same_endpoint one.endpoint endpoint)) rows endpoint_group are.ascend
          ∙ ap (λ (found : Option Membership). cond (not (same_endpoint endpoint_group.endpoint endpoint)) found None) (are.each endpoint_group)
          ∙ cleared_by (same_endpoint endpoint_group.endpoint endpoint) (membership_at lifetime moment past endpoint_group) (membership_at lifetime moment (Clear endpoint at ∷ past) endpoint_group)
          (membership_at-clear lifetime at endpoint past endpoint_group)
          (λ apart. membership_at-other lifetime moment (Clear endpoint at) past endpoint_group (rw apart refl));
    }

pub same_back : (one other : EndpointValue) → same_endpoint one other ≡ same_endpoint other one
same_back one other = (eq_by_cmp_equiv endpoint_order-total).symm one other

pub same_endpoint-exact : (one other : EndpointValue) → same_endpoint one other ≡ true → one ≡ other
same_endpoint-exact one other same = tells_apart endpoint_order-exact one other same

-- a pair of another endpoint has no membership among the endpoint's
pub membership_in-of : (endpoint : EndpointValue) (rows : List Membership) (at : EndpointGroup) → IsAscending membership_order rows → AreOf endpoint rows → same_endpoint at.endpoint endpoint ≡ false → membership_in rows at ≡ None
membership_in-of endpoint rows at ascends of apart =
    ap (λ (all : List Membership). membership_in all at) (sym (filter_all (λ (membership : Membership). same_endpoint membership.endpoint endpoint) rows of))
    ∙ membership_in-where (λ (one : EndpointGroup). same_endpoint one.endpoint endpoint) rows at ascends ∙ ap (λ (here : Bool). cond here (membership_in rows at) None) apart

-- what holds of all holds of the first ones
pub prefix_of : (P : Membership → Type 0) (xs ys : List Membership) → AllByRecursion P (xs ++ ys) → AllByRecursion P xs
prefix_of P [] ys each = tt
prefix_of P (x ∷ xs) ys each = (each.0, prefix_of P xs ys each.1)

pub IsAscending-prefix : (xs ys : List Membership) → IsAscending membership_order (xs ++ ys) → IsAscending membership_order xs
unfolding IsStrictlySortedBy
IsAscending-prefix [] ys ascends = tt
IsAscending-prefix (x ∷ xs) ys ascends = (prefix_of (λ membership. membership_order x membership ≡ Less) xs ys ascends.0, IsAscending-prefix xs ys ascends.1)
