-- The membership of a pair in lists of memberships that ascend.
use Rattle.std.proofs.{Common.{◌≡◌, Bool, true, false, cond, ◌||◌, List, [], ◌∷◌, filter, map, Option, Some, None, is_some, unwrap_or, refl, sym, ap, ◌∙◌}, lemmas.Cmp.{tied_itself}}
use Rattle.std.{proofs.lemmas.Map.{Keys.{sorted_head, sorted_tail}, Views.{tells_apart}}, specs.{List.{AllByRecursion, cons_option, filter_map, Sorted.{IsStrictlySortedBy}}, Ordering.{is_eq, ordering_reverse}, declared.cmp.Ordering.{TheVariants.{Less}}}}
use Rattle.amt_values.{specs.Ascending.{IsAscending, has}, proofs.AscendingLaws.{IsAscending-filter, same_ascending}}
use Rattle.endpoint_membership.{specs.{Membership.{Membership, membership_order, endpoint_group_of}, Stored.{only}, EndpointGroup.{EndpointGroup, endpoint_group_order, same_endpoint_group}, Memberships.{membership_in}}, proofs.EndpointGroupOrder.{endpoint_group_order-exact, endpoint_group_order-total}}

-- the pair comes before all of the memberships
abbrev pub AreAfter : EndpointGroup → List Membership → Type 0
AreAfter endpoint_group rows = AllByRecursion (λ membership. endpoint_group_order endpoint_group (endpoint_group_of membership) ≡ Less) rows

-- no membership of a pair that comes before all memberships
pub membership_in-after : (endpoint_group : EndpointGroup) (rows : List Membership) → AreAfter endpoint_group rows → membership_in rows endpoint_group ≡ None
membership_in-after endpoint_group [] after = refl
membership_in-after endpoint_group (membership ∷ rest) after = rw after.0 (membership_in-after endpoint_group rest after.1)

same_itself : (endpoint_group : EndpointGroup) → same_endpoint_group endpoint_group endpoint_group ≡ true
same_itself endpoint_group = ap is_eq (tied_itself endpoint_group_order-total endpoint_group)

pub same_endpoint_group-exact : (one other : EndpointGroup) → same_endpoint_group one other ≡ true → one ≡ other
same_endpoint_group-exact one other same = tells_apart endpoint_group_order-exact one other same

after_rest : (membership : Membership) (rest : List Membership) → IsAscending membership_order (membership ∷ rest) → AreAfter (endpoint_group_of membership) rest
after_rest membership rest ascends = sorted_head membership_order membership rest ascends

-- none of the later memberships is of the first one's pair
pub none_later : (membership : Membership) (rest : List Membership) (endpoint_group : EndpointGroup) → IsAscending membership_order (membership ∷ rest) → same_endpoint_group endpoint_group (endpoint_group_of membership) ≡ true → membership_in rest endpoint_group ≡ None
none_later membership rest endpoint_group ascends same =
    let here = same_endpoint_group-exact endpoint_group (endpoint_group_of membership) same in rw here (membership_in-after (endpoint_group_of membership) rest (after_rest membership rest ascends))

only_by : (here passes : Bool) (membership : Membership) (later : Option Membership) (test : Membership → Bool) → test membership ≡ passes → (here ≡ true → later ≡ None)
    → cond passes (cond here (Some membership) (only test later)) (only test later) ≡ only test (cond here (Some membership) later)
only_by true true membership later test passed none = rw passed refl
only_by true false membership later test passed none = rw (passed, none refl) refl
only_by false true membership later test passed none = refl
only_by false false membership later test passed none = refl

pub membership_in-cond : (passes : Bool) (membership : Membership) (rest : List Membership) (endpoint_group : EndpointGroup)
    → membership_in (cond passes (membership ∷ rest) rest) endpoint_group ≡ cond passes (cond (same_endpoint_group endpoint_group (endpoint_group_of membership)) (Some membership) (membership_in rest endpoint_group)) (membership_in rest endpoint_group)
membership_in-cond true membership rest endpoint_group = refl
membership_in-cond false membership rest endpoint_group = refl

-- a membership is left where it passes the test
pub membership_in-filter : (test : Membership → Bool) (rows : List Membership) (endpoint_group : EndpointGroup) → IsAscending membership_order rows → membership_in (filter test rows) endpoint_group ≡ only test (membership_in rows endpoint_group)
membership_in-filter test [] endpoint_group ascends = refl
membership_in-filter test (membership ∷ rest) endpoint_group ascends =
    let here = same_endpoint_group endpoint_group (endpoint_group_of membership) in
    let passes = test membership in
    membership_in-cond passes membership (filter test rest) endpoint_group
    ∙ ap (λ (later : Option Membership). cond passes (cond here (Some membership) later) later) (membership_in-filter test rest endpoint_group (sorted_tail membership_order membership rest ascends))
    ∙ only_by here passes membership (membership_in rest endpoint_group) test refl (none_later membership rest endpoint_group ascends)

pub membership_in-first : (membership : Membership) (rest : List Membership) → membership_in (membership ∷ rest) (endpoint_group_of membership) ≡ Some membership
membership_in-first membership rest = rw (same_itself (endpoint_group_of membership)) refl

above : (at : EndpointGroup) (rows : List Membership) → AreAfter at rows → AllByRecursion (λ key. endpoint_group_order at key ≡ Less) (map endpoint_group_of rows)
above at [] after = tt
above at (membership ∷ rest) after = (after.0, above at rest after.1)

-- the pairs of memberships that ascend, ascend
pub IsAscending-pairs : (rows : List Membership) → IsAscending membership_order rows → IsStrictlySortedBy endpoint_group_order (map endpoint_group_of rows)
unfolding IsStrictlySortedBy
IsAscending-pairs [] ascends = tt
IsAscending-pairs (membership ∷ rest) ascends = (above (endpoint_group_of membership) rest ascends.0, IsAscending-pairs rest ascends.1)

pub IsAscending-none : IsAscending membership_order []
unfolding IsStrictlySortedBy
IsAscending-none = tt

pairs_by : (here some : Bool) (first : Membership) (found : Option Membership) → some ≡ is_some found → (here || some) ≡ is_some (cond here (Some first) found)
pairs_by true some first found more = refl
pairs_by false some first found more = more

-- whether one of the pairs is this one
pub has-pairs : (rows : List Membership) (at : EndpointGroup) → has endpoint_group_order (map endpoint_group_of rows) at ≡ is_some (membership_in rows at)
has-pairs [] at = refl
has-pairs (first ∷ rows) at =
    pairs_by (same_endpoint_group at (endpoint_group_of first)) (has endpoint_group_order (map endpoint_group_of rows) at) first (membership_in rows at) (has-pairs rows at)

-- each of these is what is found of its pair
abbrev AreFound : List Membership → List Membership → Type 0
AreFound all rows = AllByRecursion (λ membership. membership_in all (endpoint_group_of membership) ≡ Some membership) rows

found_later : (first : Membership) (rows rest : List Membership) → AreAfter (endpoint_group_of first) rest → AreFound rows rest → AreFound (first ∷ rows) rest
found_later first rows [] after found = tt
found_later first rows (membership ∷ rest) after found =
    let apart : same_endpoint_group (endpoint_group_of membership) (endpoint_group_of first) ≡ false =
    ap is_eq (endpoint_group_order-total.antisymm (endpoint_group_of membership) (endpoint_group_of first) ∙ ap ordering_reverse after.0) in
    (ap (λ (here : Bool). cond here (Some first) (membership_in rows (endpoint_group_of membership))) apart ∙ found.0, found_later first rows rest after.1 found.1)

AreFound-all : (rows : List Membership) → IsAscending membership_order rows → AreFound rows rows
AreFound-all [] ascends = tt
AreFound-all (membership ∷ rest) ascends =
    (membership_in-first membership rest, found_later membership rest rest (after_rest membership rest ascends) (AreFound-all rest (sorted_tail membership_order membership rest ascends)))

All-found : (P : Membership → Type 0) (all rows : List Membership) → ((at : EndpointGroup) (membership : Membership) → membership_in all at ≡ Some membership → P membership) → AreFound all rows → AllByRecursion P rows
All-found P all [] each found = tt
All-found P all (membership ∷ rest) each found = (each (endpoint_group_of membership) membership found.0, All-found P all rest each found.1)

-- what holds of each pair's membership holds of all
pub All-from_membership_in : (P : Membership → Type 0) (rows : List Membership) → IsAscending membership_order rows
    → ((at : EndpointGroup) (membership : Membership) → membership_in rows at ≡ Some membership → P membership) → AllByRecursion P rows
All-from_membership_in P rows ascends each = All-found P rows rows each (AreFound-all rows ascends)

found_again : (all rows : List Membership) → AreFound all rows → filter_map (membership_in all) (map endpoint_group_of rows) ≡ rows
found_again all [] found = refl
found_again all (membership ∷ rest) found =
    ap (λ (one : Option Membership). cons_option one (filter_map (membership_in all) (map endpoint_group_of rest))) found.0 ∙ ap (λ (more : List Membership). membership ∷ more) (found_again all rest found.1)

-- what is found of all pairs are all memberships
pub all_found : (rows : List Membership) → IsAscending membership_order rows → filter_map (membership_in rows) (map endpoint_group_of rows) ≡ rows
all_found rows ascends = found_again rows rows (AreFound-all rows ascends)

same_given : (one other : EndpointGroup → Option Membership) → ((at : EndpointGroup) → one at ≡ other at) → (pairs : List EndpointGroup) → filter_map one pairs ≡ filter_map other pairs
same_given one other same [] = refl
same_given one other same (at ∷ rest) = ap (λ (found : Option Membership). cons_option found (filter_map one rest)) (same at) ∙ ap (cons_option (other at)) (same_given one other same rest)

-- memberships that ascend are the same where each pair has the same membership
pub same_rows : (xs ys : List Membership) → IsAscending membership_order xs → IsAscending membership_order ys → ((endpoint_group : EndpointGroup) → membership_in xs endpoint_group ≡ membership_in ys endpoint_group) → xs ≡ ys
same_rows xs ys first second same =
    let pairs = same_ascending endpoint_group_order-total endpoint_group_order-exact (map endpoint_group_of xs) (map endpoint_group_of ys) (IsAscending-pairs xs first) (IsAscending-pairs ys second)
    (λ at. has-pairs xs at ∙ ap is_some (same at) ∙ sym (has-pairs ys at)) in
    sym (all_found xs first) ∙ same_given (membership_in xs) (membership_in ys) same (map endpoint_group_of xs) ∙ ap (filter_map (membership_in ys)) pairs ∙ all_found ys second

-- one of two, by a test
pub cond_by : {A : Type 0} (test : Bool) (one other is : A) → (test ≡ true → one ≡ is) → (test ≡ false → other ≡ is) → cond test one other ≡ is
cond_by true one other is first second = first refl
cond_by false one other is first second = second refl

-- what a function of pairs gives is a membership of the pair
abbrev pub GivesItsEndpointGroup : (EndpointGroup → Option Membership) → Type 0
GivesItsEndpointGroup given = (endpoint_group : EndpointGroup) (membership : Membership) → given endpoint_group ≡ Some membership → endpoint_group_of membership ≡ endpoint_group

its_by : (here : Bool) (at : EndpointGroup) (one other : Membership) (later : Option Membership) → (here ≡ true → at ≡ endpoint_group_of one) → cond here (Some one) later ≡ Some other
    → (later ≡ Some other → endpoint_group_of other ≡ at) → endpoint_group_of other ≡ at
its_by true at one other later same is rest = ap (λ (found : Option Membership). endpoint_group_of (unwrap_or found one)) (sym is) ∙ sym (same refl)
its_by false at one other later same is rest = rest is

-- what is found of a pair is of the pair
pub GivesItsEndpointGroup-membership_in : (rows : List Membership) → GivesItsEndpointGroup (membership_in rows)
GivesItsEndpointGroup-membership_in [] at membership is = cc
GivesItsEndpointGroup-membership_in (first ∷ rest) at membership is =
    its_by (same_endpoint_group at (endpoint_group_of first)) at first membership (membership_in rest at) (same_endpoint_group-exact at (endpoint_group_of first)) is (GivesItsEndpointGroup-membership_in rest at membership)

-- a membership that is found is of a pair that passes where its pair does
pub only_where : (test : EndpointGroup → Bool) (at : EndpointGroup) (found : Option Membership) → ((membership : Membership) → found ≡ Some membership → endpoint_group_of membership ≡ at)
    → only (λ membership. test (endpoint_group_of membership)) found ≡ cond (test at) found None
only_where test at None its = sym (cond_by (test at) None None None (λ passes. refl) (λ fails. refl))
only_where test at (Some membership) its = ap (λ (one : EndpointGroup). cond (test one) (Some membership) None) (its membership refl)

-- of the memberships of some pairs, a pair has one where it is among them
pub membership_in-where : (test : EndpointGroup → Bool) (rows : List Membership) (at : EndpointGroup) → IsAscending membership_order rows
    → membership_in (filter (λ membership. test (endpoint_group_of membership)) rows) at ≡ cond (test at) (membership_in rows at) None
membership_in-where test rows at ascends =
    membership_in-filter (λ membership. test (endpoint_group_of membership)) rows at ascends ∙ only_where test at (membership_in rows at) (GivesItsEndpointGroup-membership_in rows at)

where_same : (passes : Bool) (one other : Option Membership) → (passes ≡ true → one ≡ other) → cond passes one None ≡ cond passes other None
where_same true one other same = same refl
where_same false one other same = refl

-- the memberships of some pairs are the same where these have the same memberships
pub same_where : (test : EndpointGroup → Bool) (one other : List Membership) → IsAscending membership_order one → IsAscending membership_order other
    → ((at : EndpointGroup) → test at ≡ true → membership_in one at ≡ membership_in other at) → filter (λ membership. test (endpoint_group_of membership)) one ≡ filter (λ membership. test (endpoint_group_of membership)) other
same_where test one other first second same =
    let its = λ (membership : Membership). test (endpoint_group_of membership) in
    same_rows (filter its one) (filter its other) (IsAscending-filter membership_order its one first) (IsAscending-filter membership_order its other second)
    (λ at. membership_in-where test one at first ∙ where_same (test at) (membership_in one at) (membership_in other at) (same at) ∙ sym (membership_in-where test other at second))

-- all are of these pairs where each membership's pair is
pub all_where : (test : EndpointGroup → Bool) (rows : List Membership) → IsAscending membership_order rows → ((at : EndpointGroup) → test at ≡ false → membership_in rows at ≡ None)
    → filter (λ membership. test (endpoint_group_of membership)) rows ≡ rows
all_where test rows ascends none =
    let its = λ (membership : Membership). test (endpoint_group_of membership) in
    same_rows (filter its rows) rows (IsAscending-filter membership_order its rows ascends) ascends
    (λ at. membership_in-where test rows at ascends ∙ cond_by (test at) (membership_in rows at) None (membership_in rows at) (λ passes. refl) (λ fails. sym (none at fails)))

-- a filter that all pass keeps all
pub filter_all : {K : Type 0} (test : K → Bool) (xs : List K) → AllByRecursion (λ x. test x ≡ true) xs → filter test xs ≡ xs
filter_all test [] each = refl
filter_all test (x ∷ xs) each = rw each.0 (ap (λ more. x ∷ more) (filter_all test xs each.1))
