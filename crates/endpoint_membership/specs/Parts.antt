-- The parts in which a table stores its memberships, and that they agree. No public contract
-- says these words.
use Rattle.std.specs.{Prelude.{◌≡◌, ℕ, ◌+◌, ◌-◌, zero, suc, ◌==◌, if◌then◌else◌, Bool, false, ◌||◌, List, Option, Some, None}, BTreeMap.{BTreeMap, get}, BTreeSet.{BTreeSet}, List.{list_any}, Ordering.{eq_by_cmp, nat_cmp, on, then_cmp}, declared.cmp.Ordering.{Ordering}}
use Rattle.std.specs.BTreeSet as sorted
use Rattle.amt_values.specs.{EndpointValue.{EndpointValue}, Order.{endpoint_order}, Ascending.{IsAscending}}
use Rattle.endpoint_membership.specs.{EndpointGroup.{endpoint_group_order, same_endpoint}, Limits.{group_count}, Membership.{Membership, endpoint_group_of, membership_order}, Memberships.{membership_in}, declared.{keys.LastRenewal.{LastRenewal}, stored.StoredFilter.{StoredFilter}}}

-- by moment, then endpoint and group
abbrev pub renewal_order : LastRenewal → LastRenewal → Ordering
renewal_order = then_cmp (on (λ renewal. renewal.renewed) nat_cmp) (on (λ renewal. renewal.at) endpoint_group_order)

-- what a table keeps at the membership's endpoint and group
abbrev pub stored_filter : Membership → StoredFilter
stored_filter membership = record { filter = membership.filter; renewed = membership.renewed }

-- when the membership was last renewed, by its endpoint and group
abbrev pub renewal_of : Membership → LastRenewal
renewal_of membership = record { renewed = membership.renewed; at = endpoint_group_of membership }

-- one of the memberships was last renewed so
abbrev pub is_renewal_in : List Membership → LastRenewal → Bool
is_renewal_in memberships renewal = list_any (λ membership. eq_by_cmp renewal_order renewal (renewal_of membership)) memberships

-- the membership was last renewed at the moment
abbrev pub is_renewed_at : ℕ → Option Membership → Bool
is_renewed_at moment None = false
is_renewed_at moment (Some membership) = membership.renewed == moment

-- the membership of the pair was last renewed so
abbrev pub is_stored : List Membership → LastRenewal → Bool
is_stored rows renewal = is_renewed_at renewal.renewed (membership_in rows renewal.at)

-- the renewals are those of the memberships and of the rows
abbrev pub AreRenewalsOf : List Membership → List Membership → BTreeSet LastRenewal → Type 0
AreRenewalsOf memberships rows renewals =
    (renewal : LastRenewal) → sorted.contains renewal_order renewals renewal ≡ (is_renewal_in memberships renewal || is_stored rows renewal)

-- a number, and nothing for 0
abbrev pub some_unless_zero : ℕ → Option ℕ
some_unless_zero zero = None
some_unless_zero (suc n) = Some (suc n)

-- a count with one more
abbrev pub one_more : Option ℕ → Option ℕ
one_more None = Some 1
one_more (Some n) = Some (n + 1)

-- a count with one less, and nothing for 0
abbrev pub one_less : Option ℕ → Option ℕ
one_less None = None
one_less (Some n) = some_unless_zero (n - 1)

-- the endpoint has another count, and no other endpoint has
abbrev pub HasNumber : EndpointValue → Option ℕ → BTreeMap EndpointValue ℕ → BTreeMap EndpointValue ℕ → Type 0
HasNumber endpoint count before after =
    (other : EndpointValue) → get endpoint_order after other ≡ if same_endpoint endpoint other then count else get endpoint_order before other

-- Each membership has its renewal, each endpoint the number of its groups; and there is nothing more.
pub record AreAgreed (rows : List Membership) (renewals : BTreeSet LastRenewal) (counts : BTreeMap EndpointValue ℕ) : Type 0 where
  pub ascends : IsAscending membership_order rows
  pub renewed : (renewal : LastRenewal) → sorted.contains renewal_order renewals renewal ≡ is_stored rows renewal
  pub counted : (endpoint : EndpointValue) → get endpoint_order counts endpoint ≡ some_unless_zero (group_count endpoint rows)
