-- Counts of groups by endpoint: against the list of memberships, and with one more or one less.
use Rattle.std.{proofs.{Common.{◌≡◌, ℕ, zero, suc, ◌+◌, ◌-◌, ◌≤◌, Bool, true, false, cond, if◌then◌else◌, ◌||◌, is_some, List, [], ◌∷◌, length, map, Option, Some, None, refl, sym, ap, ◌∙◌, arith}, lemmas.{List.Sums.{sum_by-cons}, Map.{Entries.{length-keys_of}, Made.{is_some-lookup}, Views.{tells_apart}}}}, specs.{BTreeMap.{BTreeMap, IsOrdered, get}, Map.{keys_of}, Ordering.{eq_by_cmp}}}
use Rattle.amt_values.{specs.{Order.{endpoint_order}, EndpointValue.{EndpointValue}, Ascending.{ascending, has}}, proofs.{Orders.{endpoint_order-exact, endpoint_order-total}, AscendingLaws.{IsAscending-ascending, has-ascending, same_ascending}}}
use Rattle.endpoint_membership.{specs.{EndpointGroup.{same_endpoint}, Limits.{group_count, live_count}, Membership.{Membership}, Memberships.{is_live}, Parts.{HasNumber, one_less, one_more, some_unless_zero}}, proofs.AfterEntries.{same_back}}

abbrev Counts : Type 0
Counts = BTreeMap EndpointValue ℕ

count_here : (counts : Counts) (endpoint other : EndpointValue) → same_endpoint endpoint other ≡ true → get endpoint_order counts other ≡ get endpoint_order counts endpoint
count_here counts endpoint other same = ap (get endpoint_order counts) (sym (tells_apart endpoint_order-exact endpoint other same))

none_by : (same : Bool) (mine its : Option ℕ) → mine ≡ None → (same ≡ true → its ≡ mine) → its ≡ (if same then one_less mine else its)
none_by true mine its none here = here refl ∙ none ∙ sym (ap one_less none)
none_by false mine its none here = refl

-- an endpoint with no count keeps none
pub HasNumber-none : (counts : Counts) (endpoint : EndpointValue) → get endpoint_order counts endpoint ≡ None → HasNumber endpoint (one_less (get endpoint_order counts endpoint)) counts counts
HasNumber-none counts endpoint none other =
    none_by (same_endpoint endpoint other) (get endpoint_order counts endpoint) (get endpoint_order counts other) none (count_here counts endpoint other)

at_most_one : (n : ℕ) → n ≤ 1 → some_unless_zero (n - 1) ≡ None
at_most_one n few = let none : n - 1 ≡ 0 = omega arith in ap some_unless_zero none

-- the last group of an endpoint takes its count away
pub HasNumber-last : (before after : Counts) (endpoint : EndpointValue) (n : ℕ) → get endpoint_order before endpoint ≡ Some n → n ≤ 1
    → ((other : EndpointValue) → get endpoint_order after other ≡ (if same_endpoint endpoint other then None else get endpoint_order before other))
    → HasNumber endpoint (one_less (get endpoint_order before endpoint)) before after
HasNumber-last before after endpoint n is few out other =
    out other ∙ ap (λ (count : Option ℕ). if same_endpoint endpoint other then count else get endpoint_order before other) (sym (ap one_less is ∙ at_most_one n few))

-- the groups of an endpoint with one membership in front
pub group_count-cons : (endpoint : EndpointValue) (membership : Membership) (rest : List Membership) → group_count endpoint (membership ∷ rest) ≡ cond (same_endpoint membership.endpoint endpoint) 1 0 + group_count endpoint rest
group_count-cons endpoint membership rest = sum_by-cons (λ (one : Membership). cond (same_endpoint one.endpoint endpoint) 1 0) membership rest

live_by : (here rest : Bool) (n m : ℕ) → m ≡ cond here 1 0 + n → rest ≡ is_some (some_unless_zero n) → (here || rest) ≡ is_some (some_unless_zero m)
live_by true rest n m more is = let one : m ≡ suc n = omega arith in sym (ap (λ (count : ℕ). is_some (some_unless_zero count)) one)
live_by false rest n m more is = let same : m ≡ n = omega arith in is ∙ sym (ap (λ (count : ℕ). is_some (some_unless_zero count)) same)

-- an endpoint is live exactly where it has some group
pub is_live-count : (endpoint : EndpointValue) (rows : List Membership) → is_live endpoint rows ≡ is_some (some_unless_zero (group_count endpoint rows))
is_live-count endpoint [] = refl
is_live-count endpoint (membership ∷ rest) =
    live_by (same_endpoint membership.endpoint endpoint) (is_live endpoint rest) (group_count endpoint rest) (group_count endpoint (membership ∷ rest))
    (group_count-cons endpoint membership rest) (is_live-count endpoint rest)

-- and where its endpoint is among those of the memberships
pub is_live-has : (endpoint : EndpointValue) (rows : List Membership) → is_live endpoint rows ≡ has endpoint_order (map (λ membership. membership.endpoint) rows) endpoint
is_live-has endpoint [] = refl
is_live-has endpoint (membership ∷ rest) =
    ap (λ (here : Bool). here || is_live endpoint rest) (same_back membership.endpoint endpoint)
    ∙ ap (λ (later : Bool). same_endpoint endpoint membership.endpoint || later) (is_live-has endpoint rest)

-- there are as many counts as live endpoints
pub live_count-counted : (counts : Counts) (rows : List Membership) → IsOrdered endpoint_order counts
    → ((endpoint : EndpointValue) → get endpoint_order counts endpoint ≡ some_unless_zero (group_count endpoint rows)) → length counts.entries ≡ live_count rows
live_count-counted counts rows ordered counted =
    let all = map (λ (membership : Membership). membership.endpoint) rows in
    sym (length-keys_of counts.entries)
    ∙ ap length (same_ascending endpoint_order-total endpoint_order-exact (keys_of counts.entries) (ascending endpoint_order all) ordered (IsAscending-ascending endpoint_order-total all)
    (λ endpoint. sym (is_some-lookup (eq_by_cmp endpoint_order endpoint) counts.entries) ∙ ap is_some (counted endpoint) ∙ sym (is_live-count endpoint rows)
    ∙ is_live-has endpoint rows ∙ sym (has-ascending endpoint_order-total all endpoint)))

more_by : (same : Bool) (mine its : Option ℕ) (n m : ℕ) → (same ≡ true → its ≡ mine) → its ≡ some_unless_zero n → m ≡ cond same 1 0 + n → (if same then one_more mine else its) ≡ some_unless_zero m
more_by true mine its zero m here is more = let one : m ≡ 1 = omega arith in ap one_more (sym (here refl) ∙ is) ∙ sym (ap some_unless_zero one)
more_by true mine its (suc n) m here is more =
    let one : m ≡ suc (suc n) = omega arith in
    let next : suc n + 1 ≡ suc (suc n) = omega arith in
    ap one_more (sym (here refl) ∙ is) ∙ ap (λ (count : ℕ). Some count) next ∙ sym (ap some_unless_zero one)
more_by false mine its n m here is more = let same : m ≡ n = omega arith in is ∙ sym (ap some_unless_zero same)

-- the counts of memberships among which one more is the endpoint's
pub counted-more : (before after : Counts) (endpoint other : EndpointValue) (n m : ℕ) → HasNumber endpoint (one_more (get endpoint_order before endpoint)) before after
    → get endpoint_order before other ≡ some_unless_zero n → m ≡ cond (same_endpoint endpoint other) 1 0 + n → get endpoint_order after other ≡ some_unless_zero m
counted-more before after endpoint other n m now is more =
    now other ∙ more_by (same_endpoint endpoint other) (get endpoint_order before endpoint) (get endpoint_order before other) n m (count_here before endpoint other) is more

less_by : (same : Bool) (mine its : Option ℕ) (n m : ℕ) → (same ≡ true → its ≡ mine) → its ≡ some_unless_zero n → m + cond same 1 0 ≡ n → (if same then one_less mine else its) ≡ some_unless_zero m
less_by true mine its zero m here is less = absurd (omega arith)
less_by true mine its (suc n) m here is less = let one : suc n - 1 ≡ m = omega arith in ap one_less (sym (here refl) ∙ is) ∙ ap some_unless_zero one
less_by false mine its n m here is less = let same : n ≡ m = omega arith in is ∙ ap some_unless_zero same

-- the counts of memberships among which one less is the endpoint's
pub counted-less : (before after : Counts) (endpoint other : EndpointValue) (n m : ℕ) → HasNumber endpoint (one_less (get endpoint_order before endpoint)) before after
    → get endpoint_order before other ≡ some_unless_zero n → m + cond (same_endpoint endpoint other) 1 0 ≡ n → get endpoint_order after other ≡ some_unless_zero m
counted-less before after endpoint other n m now is less =
    now other ∙ less_by (same_endpoint endpoint other) (get endpoint_order before endpoint) (get endpoint_order before other) n m (count_here before endpoint other) is less
