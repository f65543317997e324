-- Memberships within the limits are few: a product of the limits bounds them.
use Rattle.std.proofs.Common.{◌≡◌, ℕ, ◌*◌, ◌≤◌, Bool, true, false, cond, not, ◌||◌, List, [], ◌∷◌, filter, length, map, sum_by, refl, ap, ◌∙◌, arith}
use Rattle.std.{specs.List.{AllByRecursion}, proofs.{Math.Nat.{mul-le-mul, suc-mul}, lemmas.{Bool.{or_right}, Cmp.{eq_by_cmp_equiv}, List.{length-map, Filters.{length-filter_both}, Sums.{length-filter, sum_by-cons}}}}}
use Rattle.amt_values.{specs.{Order.{endpoint_order}, EndpointValue.{EndpointValue}, Ascending.{has, ascending}}, proofs.{Orders.{endpoint_order-total}, AscendingLaws.{has-ascending}}}
use Rattle.endpoint_membership.{specs.{Limits.{AreFew, IsWithin, group_count, live_count, size}, EndpointGroup.{same_endpoint}, Memberships.{row_of}, Membership.{Membership}, Stored.{is_of_another}, declared.limits.Limits.{Limits}}, proofs.{CountedLive.{endpoints_of, group_count-filter}}}

-- each membership's endpoint is among these
abbrev AreAmong : List EndpointValue → List Membership → Type 0
AreAmong endpoints rows = AllByRecursion (λ membership. has endpoint_order endpoints membership.endpoint ≡ true) rows

among_by : (here : Bool) (endpoints : List EndpointValue) (membership : Membership) (others : List Membership) → (here || has endpoint_order endpoints membership.endpoint) ≡ true → AreAmong endpoints others
    → AreAmong endpoints (cond (not here) (membership ∷ others) others)
among_by true endpoints membership others listed rest = rest
among_by false endpoints membership others listed rest = (listed, rest)

-- those of other endpoints than the first are among the rest
AreAmong-rest : (endpoint : EndpointValue) (endpoints : List EndpointValue) (rows : List Membership) → AreAmong (endpoint ∷ endpoints) rows → AreAmong endpoints (filter (is_of_another endpoint) rows)
AreAmong-rest endpoint endpoints [] among = tt
AreAmong-rest endpoint endpoints (membership ∷ rest) among =
    among_by (same_endpoint membership.endpoint endpoint) endpoints membership (filter (is_of_another endpoint) rest) among.0 (AreAmong-rest endpoint endpoints rest among.1)

none_among : (rows : List Membership) → AreAmong [] rows → rows ≡ []
none_among [] among = refl
none_among (membership ∷ rest) among = let wrong = among.0 in cc

-- each endpoint has at most so many
length-among : (most : ℕ) (endpoints : List EndpointValue) (rows : List Membership) → AreAmong endpoints rows → ((endpoint : EndpointValue) → group_count endpoint rows ≤ most) → length rows ≤ length endpoints * most
length-among most [] rows among few = let none = ap (λ (all : List Membership). length all) (none_among rows among) in omega arith
length-among most (endpoint ∷ rest) rows among few =
    let others = filter (is_of_another endpoint) rows in
    let both = length-filter_both (λ (membership : Membership). same_endpoint membership.endpoint endpoint) (is_of_another endpoint) (λ (membership : Membership). refl) rows in
    let mine = length-filter (λ (membership : Membership). same_endpoint membership.endpoint endpoint) rows in
    let later = length-among most rest others (AreAmong-rest endpoint rest rows among) (λ one. omega (arith, few one, group_count-filter (is_of_another endpoint) one rows)) in
    omega (arith, few endpoint, suc-mul (length rest) most)

-- what lists the endpoints of some memberships lists them with one endpoint more
All-more : (endpoint : EndpointValue) (endpoints : List EndpointValue) (rows : List Membership) → AllByRecursion (λ membership. has endpoint_order endpoints membership.endpoint ≡ true) rows
    → AllByRecursion (λ membership. has endpoint_order (endpoint ∷ endpoints) membership.endpoint ≡ true) rows
All-more endpoint endpoints [] each = tt
All-more endpoint endpoints (membership ∷ rest) each = (or_right (same_endpoint membership.endpoint endpoint) _ each.0, All-more endpoint endpoints rest each.1)

-- the endpoint of each membership is among those of all
pub All-own : (rows : List Membership) → AllByRecursion (λ membership. has endpoint_order (endpoints_of rows) membership.endpoint ≡ true) rows
All-own [] = tt
All-own (membership ∷ rest) =
    (rw ((eq_by_cmp_equiv endpoint_order-total).refl membership.endpoint) refl, All-more membership.endpoint (endpoints_of rest) rest (All-own rest))

All-ascending : (endpoints : List EndpointValue) (rows : List Membership) → AllByRecursion (λ membership. has endpoint_order endpoints membership.endpoint ≡ true) rows
    → AllByRecursion (λ membership. has endpoint_order (ascending endpoint_order endpoints) membership.endpoint ≡ true) rows
All-ascending endpoints [] each = tt
All-ascending endpoints (membership ∷ rest) each = (has-ascending endpoint_order-total endpoints membership.endpoint ∙ each.0, All-ascending endpoints rest each.1)

rows-few : (limits : Limits) (rows : List Membership) → IsWithin limits rows → length rows ≤ limits.endpoints * limits.groups
rows-few limits rows within =
    let live = ascending endpoint_order (endpoints_of rows) in
    let few = length-among limits.groups live rows (All-ascending (endpoints_of rows) rows (All-own rows)) within.groups in
    let most : live_count rows * limits.groups ≤ limits.endpoints * limits.groups = mul-le-mul within.endpoints (omega arith) in
    omega arith

-- the sources of the memberships as they are shown
abbrev sources_in : List Membership → ℕ
sources_in rows = sum_by (λ row. length row.filter.sources) (map row_of rows)

sources-few : (most : ℕ) (rows : List Membership) → AllByRecursion (λ membership. size membership ≤ most) rows → sources_in rows ≤ length rows * most
sources-few most [] each = omega arith
sources-few most (membership ∷ rest) each =
    omega (arith, sum_by-cons (λ row. length row.filter.sources) (row_of membership) (map row_of rest), each.0, sources-few most rest each.1, suc-mul (length rest) most)

pub AreFew-row_of : (limits : Limits) (rows : List Membership) → IsWithin limits rows → AreFew limits (map row_of rows)
AreFew-row_of limits rows within =
    let few = rows-few limits rows within in
    let listed = sources-few limits.sources rows within.sources in
    let most : length rows * limits.sources ≤ (limits.endpoints * limits.groups) * limits.sources = mul-le-mul few (omega arith) in record {
      rows = omega (arith, length-map rows row_of);
      sources = omega arith;
    }
