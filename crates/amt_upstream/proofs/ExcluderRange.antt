-- The counts of the endpoints that exclude, which a walk over a range of keys goes over.
use Rattle.std.{proofs.{Common.{◌≡◌, ◌<◌, ◌≤◌, ℕ, Bor, Bool, true, false, not, ◌&&◌, List, All, Option, Some, None, is_some, IfSome, IfNone, refl, sym, ap, subst, ◌∙◌, arith}, lemmas.{Bool.{and_from, and_parts}, Cmp.{tied_itself}, Map.{Entries.{All-lookup, lookup-filter-keys}, Views.{All-turn, range_contains-from_IsInRange, tells_apart}}}}, specs.{BTreeMap.{get, is_at, Range.{IsEntryInRange, IsRangeOf, entries_between, range_contains}}, Iterator.{Yields}, Map.{lookup, Iter.{TakesFirst, deref_pair}}, Option.{unwrap_or}, Ordering.{is_eq, is_le, nat_cmp, ordering_then}, declared.{cmp.Ordering.{Ordering, TheVariants.{Less, Equal, Greater}}, ops.Bound.{Bound, TheVariants.{Included, Excluded}}}}}
use Rattle.amt_values.{specs.{declared.address.Ip.{Ip, TheVariants.{V4}}, Order.{ip_order}, EndpointValue.{EndpointValue}}, proofs.Orders.{ip_order-exact, ip_order-total}}
use Rattle.endpoint_membership.{specs.EndpointGroup.{same_group}, proofs.KeysTogether.{least_number}}
use Rattle.amt_upstream.{specs.{Counting.{Numbers, counted_order, key_order, number}, Looking.{excluding_endpoint}, declared.count_key.{CountKey.{CountKey}, Counted.{Counted, TheVariants.{Excluders, Excluder, Excluding, Including}}}}, proofs.{GroupRange.{least_source}, KeyOrder.{key_on, key_order-total, same_key-is}}}

abbrev least_endpoint : EndpointValue
least_endpoint = record { address = 0; port = 0 }

-- from the first count of an endpoint that excludes
abbrev pub least_excluder : Ip → Bound CountKey
least_excluder group = Included (key_on group (Excluder least_endpoint))

-- to the first count of another kind
abbrev pub past_excluders : Ip → Bound CountKey
past_excluders group = Excluded (key_on group (Excluding (V4 0)))

abbrev is_between : Ip → CountKey → Bool
is_between group = range_contains key_order (least_excluder group) (past_excluders group)

both_least : (first second : Ordering) → is_le first ≡ true → is_le second ≡ true → is_le (ordering_then first second) ≡ true
both_least Less second le more = refl
both_least Equal second le more = more
both_least Greater second le more = cc

-- just the counts of the group's endpoints are in this range
between_by : (order : Ordering) (counted : Counted)
    → (is_le (ordering_then order (counted_order (Excluder least_endpoint) counted)) && not (is_le (ordering_then order (counted_order (Excluding (V4 0)) counted)))) ≡ (is_eq order && is_some (excluding_endpoint counted))
between_by Less counted = refl
between_by Greater counted = refl
between_by Equal Excluders = refl
between_by Equal (Excluder endpoint) = ap (λ (least : Bool). least && true) (both_least (nat_cmp 0 endpoint.address) (nat_cmp 0 endpoint.port) (least_number endpoint.address) (least_number endpoint.port))
between_by Equal (Excluding source) = ap not (least_source source)
between_by Equal (Including source) = refl

zero_by : (found : Option ℕ) → IfSome found (λ one. one ≡ 0) → unwrap_or found 0 ≡ 0
zero_by None zero = refl
zero_by (Some one) zero = zero

module _ (numbers : Numbers) (group : Ip) where
  -- where none of them has a number, no endpoint has
  pub no_excluder : (range : List (CountKey × ℕ)) → range ≡ entries_between key_order (least_excluder group) (past_excluders group) numbers.entries → All (λ entry. entry.1 ≡ 0) range
      → (endpoint : EndpointValue) → number numbers (record { group = group; counted = Excluder endpoint }) ≡ 0
  no_excluder range is zeros endpoint =
      let key = key_on group (Excluder endpoint) in
      let at = is_at (key_order key) in
      let inside = between_by (ip_order group group) (Excluder endpoint) ∙ and_from (same_group group group) true (ap is_eq (tied_itself ip_order-total group)) refl in
      sym (ap (λ (found : Option ℕ). unwrap_or found 0) (ap (lookup at) is ∙ lookup-filter-keys at (is_between group) true (λ one same. ap (is_between group) (sym (same_key-is key one same)) ∙ inside) numbers.entries))
      ∙ zero_by (lookup at range) (All-lookup (λ one. one ≡ 0) at range zeros)

  module _ (other : Ip) (its : ℕ) where
    some_excluder : (counted : Counted) → is_between group (key_on other counted) ≡ true → get key_order numbers (key_on other counted) ≡ Some its → 0 < its
        → IfSome (excluding_endpoint counted) (λ endpoint. 1 ≤ number numbers (record { group = group; counted = Excluder endpoint }))
    some_excluder (Excluder endpoint) inside found some =
        let same = tells_apart ip_order-exact group other (and_parts (same_group group other) true (sym (between_by (ip_order group other) (Excluder endpoint)) ∙ inside)).0 in
        let is = ap (λ (one : Ip). number numbers (key_on one (Excluder endpoint))) same ∙ ap (λ (one : Option ℕ). unwrap_or one 0) found in
        omega arith
    some_excluder counted inside found some = tt

    never_none : (counted : Counted) → is_between group (key_on other counted) ≡ true → (P : Type 0) → IfNone (excluding_endpoint counted) P
    never_none (Excluder endpoint) inside P = tt
    never_none counted inside P = let wrong = (and_parts (same_group group other) false (sym (between_by (ip_order group other) counted) ∙ inside)).1 in cc

-- the range by the order and the least endpoint of the walk
pub excluders_between : (order : CountKey → CountKey → Ordering) (group : Ip) (least : EndpointValue) (numbers : Numbers) → order ≡ key_order → least ≡ least_endpoint
    → entries_between order (Included (key_on group (Excluder least))) (past_excluders group) numbers.entries ≡ entries_between key_order (least_excluder group) (past_excluders group) numbers.entries
excluders_between order group least numbers same is =
    ap (λ (by : CountKey → CountKey → Ordering). entries_between by (Included (key_on group (Excluder least))) (past_excluders group) numbers.entries) same
    ∙ ap (λ (one : EndpointValue). entries_between key_order (Included (key_on group (Excluder one))) (past_excluders group) numbers.entries) is

-- what the next entry of a walk says of the endpoint that it counts, where it has a number
pub excluder_told : (order : CountKey → CountKey → Ordering) (group : Ip) (least : EndpointValue) (numbers : Numbers) (range start rest later : List (CountKey × ℕ)) (seen : List (Bor CountKey × Bor ℕ))
    (next : Option (Bor CountKey × Bor ℕ)) (item : Bor CountKey × Bor ℕ) (found : Option EndpointValue) → order ≡ key_order → least ≡ least_endpoint
    → IsRangeOf order (Included (key_on group (Excluder least))) (past_excluders group) numbers range → start ≡ range → Yields (TakesFirst deref_pair) start seen rest → next ≡ Some item → TakesFirst deref_pair rest next later
    → 0 < item.1.now → found ≡ excluding_endpoint item.0.now.counted
    → IfSome found (λ endpoint. 1 ≤ number numbers (record { group = group; counted = Excluder endpoint })) × IfNone found ((endpoint : EndpointValue) → number numbers (record { group = group; counted = Excluder endpoint }) ≡ 0)
excluder_told order group least numbers range start rest later seen next item found same is within begins yields has steps some told =
    let entry = All-turn deref_pair (IsEntryInRange order (Included (key_on group (Excluder least))) (past_excluders group) numbers) range seen start rest later next item within.0 begins yields has steps in
    let moved = subst (λ (one : EndpointValue). IsEntryInRange key_order (Included (key_on group (Excluder one))) (past_excluders group) numbers (deref_pair item)) is
    (subst (λ (by : CountKey → CountKey → Ordering). IsEntryInRange by (Included (key_on group (Excluder least))) (past_excluders group) numbers (deref_pair item)) same entry) in
    let inside = range_contains-from_IsInRange key_order-total (least_excluder group) (past_excluders group) item.0.now moved.0 in
    let its = item.0.now in
    rw told (some_excluder numbers group its.group item.1.now its.counted inside moved.1 some, never_none numbers group its.group item.1.now its.counted inside _)
