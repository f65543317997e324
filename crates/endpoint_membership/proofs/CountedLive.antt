-- Counting live endpoints: after a filter, with one more, without one that is named, and from membership to membership.
use Rattle.std.proofs.{Common.{◌≡◌, ℕ, ◌+◌, ◌-◌, ◌≤◌, Bool, true, false, not, cond, ◌&&◌, ◌||◌, List, [], ◌∷◌, filter, length, map, if◌then◌else◌, refl, sym, ap, ◌∙◌, arith, ◌++◌, Option, Some, None, subst}}
use Rattle.std.proofs.lemmas.{Bool.{or_parts, or_right, or_left}, Cmp.{tied_itself, eq_by_cmp_equiv}, List.{Filters.{sum_by-filter_both}, Elements.{filter-append}, map-append}, Map.{Keys.{IsDistinct-from_sorted, sorted_head, sorted_tail}, Lookups.{CmpEqualImpliesEq}, Made.{length-le_from_is_member}}}
use Rattle.std.specs.{Ordering.{eq_by_cmp, is_eq, match_ordering, ordering_then}, declared.cmp.Ordering.{TheVariants.{Less, Equal, Greater}, Ordering}, Cmp.{IsTotalOrder}, List.{AllByRecursion}, Option.{option_or}}
use Rattle.amt_values.{specs.{EndpointValue.{EndpointValue}, Order.{endpoint_order, ip_order}, Ascending.{ascending, has, placed, IsAscending}}, proofs.{Orders.{endpoint_order-exact, endpoint_order-total}, AscendingLaws.{IsAscending-ascending, IsAscending-placed, has-ascending, has-filter, has-placed, same_ascending, IsAscending-filter, has-append}}}
use Rattle.endpoint_membership.{specs.{EndpointGroup.{same_endpoint}, Limits.{live_count, group_count}, Membership.{Membership, is_fresh, membership_order}, Memberships.{is_live}, Stored.{is_counted, is_of_another, ends_with}}, proofs.{AfterEntries.{same_endpoint-exact, same_back}, CountedParts.{is_live-has}}}

abbrev pub endpoints_of : List Membership → List EndpointValue
endpoints_of rows = map (λ (membership : Membership). membership.endpoint) rows

-- ---- a filter raises no count

-- a set has at most the items of a set that contains it
pub length-within : {K : Type 0} (order : K → K → Ordering) → IsTotalOrder order → CmpEqualImpliesEq order → (xs ys : List K) → IsAscending order xs → IsAscending order ys
    → ((s : K) → has order xs s ≡ true → has order ys s ≡ true) → length xs ≤ length ys
length-within order total exact xs ys first second each = length-le_from_is_member (eq_by_cmp_equiv total) xs ys (IsDistinct-from_sorted order xs first) each

either : (here some rest : Bool) → (some ≡ true → rest ≡ true) → (here || some) ≡ true → (here || rest) ≡ true
either true some rest more is = refl
either false some rest more is = more is

has_more : (passes : Bool) (membership : Membership) (some rest : List Membership) (endpoint : EndpointValue)
    → (has endpoint_order (endpoints_of some) endpoint ≡ true → has endpoint_order (endpoints_of rest) endpoint ≡ true)
    → has endpoint_order (endpoints_of (cond passes (membership ∷ some) some)) endpoint ≡ true → has endpoint_order (endpoints_of (membership ∷ rest)) endpoint ≡ true
has_more true membership some rest endpoint more listed = either (same_endpoint endpoint membership.endpoint) _ _ more listed
has_more false membership some rest endpoint more listed = or_right (same_endpoint endpoint membership.endpoint) _ (more listed)

-- the endpoints of filtered memberships are endpoints of the memberships
has-endpoints-filter : (test : Membership → Bool) (rows : List Membership) (endpoint : EndpointValue) → has endpoint_order (endpoints_of (filter test rows)) endpoint ≡ true
    → has endpoint_order (endpoints_of rows) endpoint ≡ true
has-endpoints-filter test [] endpoint listed = listed
has-endpoints-filter test (membership ∷ rest) endpoint listed = has_more (test membership) membership (filter test rest) rest endpoint (has-endpoints-filter test rest endpoint) listed

pub live_count-filter : (test : Membership → Bool) (rows : List Membership) → live_count (filter test rows) ≤ live_count rows
live_count-filter test rows =
    let some = endpoints_of (filter test rows) in
    let all = endpoints_of rows in
    length-within endpoint_order endpoint_order-total endpoint_order-exact (ascending endpoint_order some) (ascending endpoint_order all) (IsAscending-ascending endpoint_order-total some) (IsAscending-ascending endpoint_order-total all)
    (λ endpoint listed. has-ascending endpoint_order-total all endpoint ∙ has-endpoints-filter test rows endpoint (sym (has-ascending endpoint_order-total some endpoint) ∙ listed))

pub group_count-filter : (test : Membership → Bool) (endpoint : EndpointValue) (rows : List Membership) → group_count endpoint (filter test rows) ≤ group_count endpoint rows
group_count-filter test endpoint rows =
    omega (arith, sum_by-filter_both test (λ (membership : Membership). not (test membership)) (λ (membership : Membership). refl) (λ (membership : Membership). cond (same_endpoint membership.endpoint endpoint) 1 0) rows)

-- ---- one endpoint more

longer_by : (order : Ordering) (one next : EndpointValue) (others : List EndpointValue) → endpoint_order one next ≡ order → eq_by_cmp endpoint_order one next ≡ false
    → length (placed endpoint_order one others) ≡ 1 + length others
    → length (match_ordering order (one ∷ next ∷ others) (next ∷ others) (next ∷ placed endpoint_order one others)) ≡ 1 + length (next ∷ others)
longer_by Less one next others is apart more = omega arith
longer_by Equal one next others is apart more = let same = ap is_eq is in absurd cc
longer_by Greater one next others is apart more = omega (arith, more)

length-placed_new : (one : EndpointValue) (others : List EndpointValue) → has endpoint_order others one ≡ false → length (placed endpoint_order one others) ≡ 1 + length others
length-placed_new one [] none = refl
length-placed_new one (next ∷ others) none =
    let both = or_parts (eq_by_cmp endpoint_order one next) (has endpoint_order others one) none in
    longer_by (endpoint_order one next) one next others refl both.0 (length-placed_new one others both.1)

pub known : (same listed : Bool) → (same ≡ true → listed ≡ true) → (same || listed) ≡ listed
known true listed given = sym (given refl)
known false listed given = refl

-- how many different endpoints there are with one more
pub count-more : (seen : Bool) (all some : List EndpointValue) (one : EndpointValue) → has endpoint_order some one ≡ seen
    → ((each : EndpointValue) → has endpoint_order all each ≡ (same_endpoint each one || has endpoint_order some each))
    → length (ascending endpoint_order all) ≡ length (ascending endpoint_order some) + (if seen then 0 else 1)
count-more true all some one seen members =
    let same = ap (λ (each : List EndpointValue). length each) (same_ascending endpoint_order-total endpoint_order-exact (ascending endpoint_order all) (ascending endpoint_order some)
    (IsAscending-ascending endpoint_order-total all) (IsAscending-ascending endpoint_order-total some)
    (λ each. has-ascending endpoint_order-total all each ∙ members each
    ∙ known (same_endpoint each one) (has endpoint_order some each) (λ here. ap (has endpoint_order some) (same_endpoint-exact each one here) ∙ seen) ∙ sym (has-ascending endpoint_order-total some each))) in
    omega arith
count-more false all some one seen members =
    let others = ascending endpoint_order some in
    let same = ap (λ (each : List EndpointValue). length each) (same_ascending endpoint_order-total endpoint_order-exact (ascending endpoint_order all) (placed endpoint_order one others)
    (IsAscending-ascending endpoint_order-total all) (IsAscending-placed endpoint_order-total one others (IsAscending-ascending endpoint_order-total some))
    (λ each. has-ascending endpoint_order-total all each ∙ members each
    ∙ sym (has-placed endpoint_order-total one others each ∙ ap (λ (listed : Bool). same_endpoint each one || listed) (has-ascending endpoint_order-total some each)))) in
    let longer = length-placed_new one others (has-ascending endpoint_order-total some one ∙ seen) in
    omega arith

endpoints_by : (keeps : Bool) (membership : Membership) (rest : List Membership) (others : List EndpointValue) → endpoints_of rest ≡ others
    → endpoints_of (cond keeps (membership ∷ rest) rest) ≡ cond keeps (membership.endpoint ∷ others) others
endpoints_by true membership rest others is = ap (λ (all : List EndpointValue). membership.endpoint ∷ all) is
endpoints_by false membership rest others is = is

other_endpoints : (endpoint : EndpointValue) (rows : List Membership) → endpoints_of (filter (is_of_another endpoint) rows) ≡ filter (λ (one : EndpointValue). not (same_endpoint one endpoint)) (endpoints_of rows)
other_endpoints endpoint [] = refl
other_endpoints endpoint (membership ∷ rest) =
    endpoints_by (is_of_another endpoint membership) membership (filter (is_of_another endpoint) rest) (filter (λ (one : EndpointValue). not (same_endpoint one endpoint)) (endpoints_of rest)) (other_endpoints endpoint rest)

has-others : (endpoint : EndpointValue) (rows : List Membership) (one : EndpointValue)
    → has endpoint_order (endpoints_of (filter (is_of_another endpoint) rows)) one ≡ (has endpoint_order (endpoints_of rows) one && not (same_endpoint one endpoint))
has-others endpoint rows one =
    ap (λ (all : List EndpointValue). has endpoint_order all one) (other_endpoints endpoint rows)
    ∙ has-filter endpoint_order-exact (λ (tunnel : EndpointValue). not (same_endpoint tunnel endpoint)) (endpoints_of rows) one

put_back : (same listed : Bool) → (same ≡ true → listed ≡ true) → listed ≡ (same || (listed && not same))
put_back true listed is = is refl
put_back false true is = refl
put_back false false is = refl

left_out : (same listed : Bool) → same ≡ true → (listed && not same) ≡ false
left_out true true is = refl
left_out true false is = refl
left_out false listed is = cc

-- where none is the endpoint's, those of other endpoints are all
pub others_left : (endpoint : EndpointValue) (rows : List Membership) → is_live endpoint rows ≡ false → filter (is_of_another endpoint) rows ≡ rows
others_left endpoint [] none = refl
others_left endpoint (membership ∷ rest) none =
    let both = or_parts (same_endpoint membership.endpoint endpoint) (is_live endpoint rest) none in
    rw both.0 (ap (λ (rows : List Membership). membership ∷ rows) (others_left endpoint rest both.1))

besides_by : (live : Bool) (endpoint : EndpointValue) (rows : List Membership) → is_live endpoint rows ≡ live → live_count rows ≡ live_count (filter (is_of_another endpoint) rows) + (if live then 1 else 0)
besides_by true endpoint rows is =
    let all = endpoints_of rows in
    count-more false all (endpoints_of (filter (is_of_another endpoint) rows)) endpoint
    (has-others endpoint rows endpoint ∙ left_out (same_endpoint endpoint endpoint) (has endpoint_order all endpoint) (ap is_eq (tied_itself endpoint_order-total endpoint)))
    (λ one. put_back (same_endpoint one endpoint) (has endpoint_order all one) (λ here. ap (has endpoint_order all) (same_endpoint-exact one endpoint here) ∙ sym (is_live-has endpoint rows) ∙ is)
    ∙ ap (λ (listed : Bool). same_endpoint one endpoint || listed) (sym (has-others endpoint rows one)))
besides_by false endpoint rows is = let same = ap live_count (others_left endpoint rows is) in omega arith

-- one live endpoint less where the named one is live
pub live_count-besides : (endpoint : EndpointValue) (rows : List Membership) → live_count rows ≡ live_count (filter (is_of_another endpoint) rows) + (if is_live endpoint rows then 1 else 0)
live_count-besides endpoint rows = besides_by (is_live endpoint rows) endpoint rows refl

less_by : (live : Bool) (all others step : ℕ) → all ≡ others + (if live then 1 else 0) → step ≡ (if not live then 0 else 1) → (step ≤ all) × (all - step ≡ others)
less_by true all others step is less = (omega arith, omega arith)
less_by false all others step is less = (omega arith, omega arith)

-- one is taken off the live endpoints where the named one is live
pub one_less : (endpoint : EndpointValue) (rows : List Membership) (live : Bool) (all step : ℕ) → all ≡ live_count rows → live ≡ is_live endpoint rows → step ≡ (if not live then 0 else 1)
    → (step ≤ all) × (all - step ≡ live_count (filter (is_of_another endpoint) rows))
one_less endpoint rows live all step count lives less =
    less_by live all (live_count (filter (is_of_another endpoint) rows)) step
    (count ∙ live_count-besides endpoint rows ∙ ap (λ (one : Bool). live_count (filter (is_of_another endpoint) rows) + (if one then 1 else 0)) (sym lives)) less

both_by : (other fresh : Bool) (test : Membership → Bool) (membership : Membership) (rest kept : List Membership) → test membership ≡ other → rest ≡ filter test kept
    → cond (other && fresh) (membership ∷ rest) rest ≡ filter test (cond fresh (membership ∷ kept) kept)
both_by true true test membership rest kept passes is = rw passes (ap (λ (rows : List Membership). membership ∷ rows) is)
both_by true false test membership rest kept passes is = is
both_by false true test membership rest kept passes is = rw passes is
both_by false false test membership rest kept passes is = is

pub counted_are : (lifetime moment : ℕ) (besides : EndpointValue) (rows : List Membership) → filter (is_counted lifetime moment besides) rows ≡ filter (is_of_another besides) (filter (is_fresh lifetime moment) rows)
counted_are lifetime moment besides [] = refl
counted_are lifetime moment besides (membership ∷ rest) =
    both_by (is_of_another besides membership) (is_fresh lifetime moment membership) (is_of_another besides) membership (filter (is_counted lifetime moment besides) rest) (filter (is_fresh lifetime moment) rest) refl
    (counted_are lifetime moment besides rest)

-- where all memberships are fresh, those count that are not of the named endpoint
pub all_counted : (lifetime moment : ℕ) (besides : EndpointValue) (rows : List Membership) → filter (is_fresh lifetime moment) rows ≡ rows
    → live_count (filter (is_of_another besides) rows) ≡ live_count (filter (is_counted lifetime moment besides) rows)
all_counted lifetime moment besides rows fresh =
    sym (ap live_count (counted_are lifetime moment besides rows) ∙ ap (λ (kept : List Membership). live_count (filter (is_of_another besides) kept)) fresh)

-- ---- from membership to membership

-- the endpoint of the last one
abbrev pub last_of : List Membership → Option EndpointValue
last_of [] = None
last_of (membership ∷ rest) = option_or (last_of rest) (Some membership.endpoint)

pub last_of-push : (rows : List Membership) (membership : Membership) → last_of (rows ++ membership ∷ []) ≡ Some membership.endpoint
last_of-push [] membership = refl
last_of-push (first ∷ rows) membership = ap (λ (last : Option EndpointValue). option_or last (Some first.endpoint)) (last_of-push rows membership)

-- nothing lies between two memberships of one endpoint but its memberships
between_by : (first second : Ordering) (one two three : Membership) → endpoint_order one.endpoint two.endpoint ≡ first → endpoint_order two.endpoint three.endpoint ≡ second
    → membership_order one two ≡ Less → membership_order two three ≡ Less → one.endpoint ≡ three.endpoint → two.endpoint ≡ three.endpoint
between_by Equal second one two three is goes before after same = sym (endpoint_order-exact one.endpoint two.endpoint is) ∙ same
between_by Less Equal one two three is goes before after same = endpoint_order-exact two.endpoint three.endpoint goes
between_by Less Less one two three is goes before after same =
    let onward = endpoint_order-total.trans one.endpoint two.endpoint three.endpoint is goes in
    let tied = ap (endpoint_order one.endpoint) (sym same) ∙ tied_itself endpoint_order-total one.endpoint in
    absurd cc
between_by Less Greater one two three is goes before after same = let wrong = ap (λ (o : Ordering). ordering_then o (ip_order two.group three.group)) (sym goes) ∙ after in absurd cc
between_by Greater second one two three is goes before after same = let wrong = ap (λ (o : Ordering). ordering_then o (ip_order one.group two.group)) (sym is) ∙ before in absurd cc

-- what holds of all holds of the last
pub last_in : (P : Membership → Type 0) (rows : List Membership) (membership : Membership) → AllByRecursion P (rows ++ membership ∷ []) → P membership
last_in P [] membership each = each.0
last_in P (first ∷ rows) membership each = last_in P rows membership each.1

ends_more : (last : Option EndpointValue) (second first endpoint : EndpointValue) → ends_with (option_or (option_or last (Some second)) (Some first)) endpoint ≡ ends_with (option_or last (Some second)) endpoint
ends_more None second first endpoint = refl
ends_more (Some last) second first endpoint = refl

or_false : (a : Bool) → (a || false) ≡ a
or_false true = refl
or_false false = refl

-- an endpoint that was seen is that of the last membership
seen_last : (rows : List Membership) (membership : Membership) → IsAscending membership_order (rows ++ membership ∷ []) → has endpoint_order (endpoints_of rows) membership.endpoint ≡ ends_with (last_of rows) membership.endpoint
seen_last [] membership ascends = refl
seen_last (first ∷ []) membership ascends = or_false (same_endpoint membership.endpoint first.endpoint) ∙ same_back membership.endpoint first.endpoint
seen_last (first ∷ second ∷ rows) membership ascends =
    let later = sorted_tail membership_order first (second ∷ rows ++ membership ∷ []) ascends in
    let after = sorted_head membership_order first (second ∷ rows ++ membership ∷ []) ascends in
    let before = last_in (λ (one : Membership). membership_order second one ≡ Less) rows membership (sorted_head membership_order second (rows ++ membership ∷ []) later) in
    known (same_endpoint membership.endpoint first.endpoint) (has endpoint_order (endpoints_of (second ∷ rows)) membership.endpoint)
    (λ here. or_left (same_endpoint membership.endpoint second.endpoint) (has endpoint_order (endpoints_of rows) membership.endpoint) (ap (same_endpoint membership.endpoint)
    (between_by (endpoint_order first.endpoint second.endpoint) (endpoint_order second.endpoint membership.endpoint) first second membership refl refl after.0 before (sym (same_endpoint-exact membership.endpoint first.endpoint here)))
    ∙ ap is_eq (tied_itself endpoint_order-total membership.endpoint)))
    ∙ seen_last (second ∷ rows) membership later ∙ sym (ends_more (last_of rows) second.endpoint first.endpoint membership.endpoint)

moved : (a b : Bool) → (a || (b || false)) ≡ (b || a)
moved true b = sym (or_right b true refl)
moved false true = refl
moved false false = refl

members : (rows : List Membership) (membership : Membership) (one : EndpointValue) → has endpoint_order (endpoints_of (rows ++ membership ∷ [])) one ≡ (same_endpoint one membership.endpoint || has endpoint_order (endpoints_of rows) one)
members rows membership one =
    ap (λ (all : List EndpointValue). has endpoint_order all one) (map-append (λ (each : Membership). each.endpoint) rows (membership ∷ []))
    ∙ has-append endpoint_order (endpoints_of rows) (membership.endpoint ∷ []) one
    ∙ moved (has endpoint_order (endpoints_of rows) one) (same_endpoint one membership.endpoint)

-- one more membership makes one more live endpoint, unless the last membership is of the same endpoint
pub live_count-push : (rows : List Membership) (membership : Membership) → IsAscending membership_order (rows ++ membership ∷ [])
    → live_count (rows ++ membership ∷ []) ≡ live_count rows + (if ends_with (last_of rows) membership.endpoint then 0 else 1)
live_count-push rows membership ascends =
    count-more (ends_with (last_of rows) membership.endpoint) (endpoints_of (rows ++ membership ∷ [])) (endpoints_of rows) membership.endpoint
    (seen_last rows membership ascends)
    (members rows membership)

pub filter-push_yes : (test : Membership → Bool) (rows : List Membership) (membership : Membership) → test membership ≡ true → filter test (rows ++ membership ∷ []) ≡ filter test rows ++ membership ∷ []
filter-push_yes test rows membership passes = filter-append test rows (membership ∷ []) ∙ rw passes refl

-- one more membership that counts
pub more_live : (test : Membership → Bool) (rows : List Membership) (membership : Membership) (count step : ℕ) (last : Option EndpointValue) → IsAscending membership_order (rows ++ membership ∷ []) → test membership ≡ true
    → count ≡ live_count (filter test rows) → last ≡ last_of (filter test rows) → step ≡ (if ends_with last membership.endpoint then 0 else 1)
    → count + step ≡ live_count (filter test (rows ++ membership ∷ []))
more_live test rows membership count step last ascends passes so_far ends is =
    let whole = filter-push_yes test rows membership passes in
    let more = live_count-push (filter test rows) membership (subst (IsAscending membership_order) whole (IsAscending-filter membership_order test (rows ++ membership ∷ []) ascends)) in
    let stepped = is ∙ ap (λ (one : Option EndpointValue). if ends_with one membership.endpoint then 0 else 1) ends in
    let longer = ap live_count whole in
    omega (arith, so_far, more, stepped, longer)
