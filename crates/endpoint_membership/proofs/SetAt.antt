-- Memberships among which those of pairs were set or taken away.
use Rattle.std.{proofs.{Common.{◌≡◌, ℕ, ◌+◌, ◌<◌, Bool, true, false, cond, not, ◌||◌, if◌then◌else◌, List, [], ◌∷◌, ◌++◌, filter, length, map, sum_by, Option, Some, None, IsSome, is_some, refl, sym, ap, subst, ◌∙◌, arith}, lemmas.{Cmp.{eq_by_cmp_equiv, tied_itself}, List.{Filters.{length-filter_both, sum_by-filter_both}, Folds.{list_any-append}, Sums.{sum_by-cons}}}}, specs.{List.{AllByRecursion, Sorted.{IsStrictlySortedBy}}, Option.{option_or}, Ordering.{is_eq}, declared.cmp.Ordering.TheVariants.{Less}}}
use Rattle.amt_values.{specs.Ascending.{IsAscending, has}, proofs.AscendingLaws.{IsAscending-filter}}
use Rattle.endpoint_membership.specs.{EndpointGroup.{EndpointGroup, endpoint_group_order, same_endpoint_group}, Filters.{IsSetAt}, Membership.{Membership, endpoint_group_of, membership_order}, Memberships.{membership_in}, Stored.{is_known, only}}
use Rattle.endpoint_membership.proofs.{EndpointGroupOrder.{endpoint_group_order-total}, KeysTogether.{All-passing}, MembershipIn.{AreAfter, GivesItsEndpointGroup-membership_in, all_where, cond_by, has-pairs, membership_in-filter, same_endpoint_group-exact, same_rows, same_where}, ReportBounds.{All-at}}

pub same_back : (one other : EndpointGroup) → same_endpoint_group one other ≡ same_endpoint_group other one
same_back one other = (eq_by_cmp_equiv endpoint_group_order-total).symm one other

after_back : (at : EndpointGroup) (rows : List Membership) → AllByRecursion (λ key. endpoint_group_order at key ≡ Less) (map endpoint_group_of rows) → AreAfter at rows
after_back at [] after = tt
after_back at (membership ∷ rest) after = (after.0, after_back at rest after.1)

-- memberships ascend where their pairs do
pub IsAscending-from_pairs : (rows : List Membership) → IsStrictlySortedBy endpoint_group_order (map endpoint_group_of rows) → IsAscending membership_order rows
unfolding IsStrictlySortedBy
IsAscending-from_pairs [] ascends = tt
IsAscending-from_pairs (membership ∷ rest) ascends = (after_back (endpoint_group_of membership) rest ascends.0, IsAscending-from_pairs rest ascends.1)

none_at : (rows : List Membership) (at other : EndpointGroup) → membership_in rows at ≡ None → same_endpoint_group at other ≡ true → membership_in rows other ≡ None
none_at rows at other none same = ap (membership_in rows) (sym (same_endpoint_group-exact at other same)) ∙ none

not_twice : (test : Bool) → not test ≡ false → test ≡ true
not_twice true is = refl
not_twice false is = cc

-- a membership of another pair
abbrev is_not_at : EndpointGroup → Membership → Bool
is_not_at at membership = not (same_endpoint_group at (endpoint_group_of membership))

-- after is before with the membership, whose pair had none
pub record IsWith (membership : Membership) (before after : List Membership) : Type 0 where
  pub others : filter (is_not_at (endpoint_group_of membership)) after ≡ before
  pub one : filter (λ other. same_endpoint_group (endpoint_group_of membership) (endpoint_group_of other)) after ≡ membership ∷ []

IsAscending-one : (membership : Membership) → IsAscending membership_order (membership ∷ [])
unfolding IsStrictlySortedBy
IsAscending-one membership = (tt, tt)

IsWith-by : (membership : Membership) (before after : List Membership) → IsAscending membership_order before → IsAscending membership_order after → membership_in before (endpoint_group_of membership) ≡ None
    → ((other : EndpointGroup) → membership_in after other ≡ cond (same_endpoint_group (endpoint_group_of membership) other) (Some membership) (membership_in before other)) → IsWith membership before after
IsWith-by membership before after first second none each =
    let at = endpoint_group_of membership in record {
      others = same_where (λ (other : EndpointGroup). not (same_endpoint_group at other)) after before second first
          (λ other apart. each other ∙ apart_by (same_endpoint_group at other) (membership_in before other) apart)
          ∙ all_where (λ (other : EndpointGroup). not (same_endpoint_group at other)) before first (λ other here. none_at before at other none (not_twice (same_endpoint_group at other) here));
      one = same_where (same_endpoint_group at) after (membership ∷ []) second (IsAscending-one membership)
          (λ other same. each other ∙ ap (λ (here : Bool). cond here (Some membership) (membership_in before other)) same
          ∙ sym (ap (λ (here : Bool). cond here (Some membership) None) (same_back other at ∙ same)))
          ∙ ap (λ (here : Bool). cond here (membership ∷ []) []) (ap is_eq (tied_itself endpoint_group_order-total at));
    }
  where
    apart_by : (here : Bool) (old : Option Membership) → not here ≡ true → cond here (Some membership) old ≡ old
    apart_by true old apart = cc
    apart_by false old apart = refl

pub IsWith-set : (membership : Membership) (before after : List Membership) → membership_in before (endpoint_group_of membership) ≡ None → IsSetAt (endpoint_group_of membership) (Some membership) before after → IsWith membership before after
IsWith-set membership before after none set = IsWith-by membership before after set.ascended set.ascends none set.each

-- before is after with the membership that was taken away
pub IsWith-taken : (membership : Membership) (before after : List Membership) → membership_in before (endpoint_group_of membership) ≡ Some membership → IsSetAt (endpoint_group_of membership) None before after → IsWith membership after before
IsWith-taken membership before after some set =
    let at = endpoint_group_of membership in
    IsWith-by membership after before set.ascends set.ascended (set.each at ∙ ap (λ (here : Bool). cond here None (membership_in before at)) (ap is_eq (tied_itself endpoint_group_order-total at)))
    (λ other. sym (cond_by (same_endpoint_group at other) (Some membership) (membership_in after other) (membership_in before other)
    (λ same. sym (ap (membership_in before) (sym (same_endpoint_group-exact at other same)) ∙ some))
    (λ apart. set.each other ∙ ap (λ (here : Bool). cond here None (membership_in before other)) apart)))

pub sum_by-with : (f : Membership → ℕ) (membership : Membership) (before after : List Membership) → IsWith membership before after → sum_by f after ≡ f membership + sum_by f before
sum_by-with f membership before after with_it =
    let at = endpoint_group_of membership in
    let whole = sum_by-filter_both (λ (other : Membership). same_endpoint_group at (endpoint_group_of other)) (is_not_at at) (λ (other : Membership). refl) f after in
    let mine = ap (sum_by f) with_it.one in
    let others = ap (sum_by f) with_it.others in
    let single = sum_by-cons f membership [] in
    omega arith

pub length-with : (membership : Membership) (before after : List Membership) → IsWith membership before after → length before < length after
length-with membership before after with_it =
    let at = endpoint_group_of membership in
    let whole = length-filter_both (λ (other : Membership). same_endpoint_group at (endpoint_group_of other)) (is_not_at at) (λ (other : Membership). refl) after in
    let mine = ap (λ (rows : List Membership). length rows) with_it.one in
    let others = ap (λ (rows : List Membership). length rows) with_it.others in
    omega arith

-- taking away what is not there changes nothing
pub none_taken : (before after : List Membership) (at : EndpointGroup) → membership_in before at ≡ None → IsSetAt at None before after → after ≡ before
none_taken before after at none taken =
    same_rows after before taken.ascends taken.ascended
    (λ other. taken.each other ∙ cond_by (same_endpoint_group at other) None (membership_in before other) (membership_in before other) (λ same. sym (none_at before at other none same)) (λ apart. refl))

-- what was put in and taken out again
pub gone_again : {A : Type 0} (same : Bool) (now had : Option A) → (same ≡ true → had ≡ None) → cond same None (cond same now had) ≡ had
gone_again true now had none = sym (none refl)
gone_again false now had none = refl

-- neither does taking away what was put in
pub put_and_taken : (before middle after : List Membership) (at : EndpointGroup) (now : Option Membership) → membership_in before at ≡ None → IsSetAt at now before middle → IsSetAt at None middle after → after ≡ before
put_and_taken before middle after at now none put taken =
    same_rows after before taken.ascends put.ascended
    (λ other. taken.each other ∙ ap (cond (same_endpoint_group at other) None) (put.each other) ∙ gone_again (same_endpoint_group at other) now (membership_in before other) (none_at before at other none))

left_by : (same : Bool) (test : Membership → Bool) (had : Option Membership) → (same ≡ true → only test had ≡ None) → only test (cond same None had) ≡ only test had
left_by true test had fails = sym (fails refl)
left_by false test had fails = refl

-- a filter gives the same where a membership is taken away that does not pass
pub filter-taken : (test : Membership → Bool) (before after : List Membership) (at : EndpointGroup) → only test (membership_in before at) ≡ None → IsSetAt at None before after → filter test after ≡ filter test before
filter-taken test before after at fails taken =
    same_rows (filter test after) (filter test before) (IsAscending-filter membership_order test after taken.ascends) (IsAscending-filter membership_order test before taken.ascended)
    (λ other. membership_in-filter test after other taken.ascends ∙ ap (only test) (taken.each other)
    ∙ left_by (same_endpoint_group at other) test (membership_in before other) (λ same. ap (λ (one : EndpointGroup). only test (membership_in before one)) (sym (same_endpoint_group-exact at other same)) ∙ fails)
    ∙ sym (membership_in-filter test before other taken.ascended))

fewer_by : (found : Option Membership) (before after : List Membership) (at : EndpointGroup) → membership_in before at ≡ found → IsSome found → IsSetAt at None before after → length after < length before
fewer_by None before after at is some taken = cc
fewer_by (Some membership) before after at is some taken =
    let its : endpoint_group_of membership ≡ at = GivesItsEndpointGroup-membership_in before at membership is in
    length-with membership after before (IsWith-taken membership before after (ap (membership_in before) its ∙ is) (subst (λ (one : EndpointGroup). IsSetAt one None before after) (sym its) taken))

-- there are fewer memberships after one of them is taken away
pub length-taken : (before after : List Membership) (at : EndpointGroup) → IsSome (membership_in before at) → IsSetAt at None before after → length after < length before
length-taken before after at some taken = fewer_by (membership_in before at) before after at refl some taken

-- ---- several memberships, one after another

-- no pair of the memberships has one
abbrev pub AreAbsent : List Membership → List Membership → Type 0
AreAbsent old memberships = AllByRecursion (λ membership. membership_in old (endpoint_group_of membership) ≡ None) memberships

-- no later membership is of a pair that was just set
pub absent_still : (membership : Membership) (rest before after : List Membership) → AreAfter (endpoint_group_of membership) rest → IsSetAt (endpoint_group_of membership) (Some membership) before after
    → AreAbsent before rest → AreAbsent after rest
absent_still membership [] before after later set absent = tt
absent_still membership (next ∷ rest) before after later set absent = (
  set.each (endpoint_group_of next) ∙ ap (λ (here : Bool). cond here (Some membership) (membership_in before (endpoint_group_of next))) (ap is_eq later.0) ∙ absent.0,
  absent_still membership rest before after later.1 set absent.1,
)

elsewhere : (here : Bool) (membership : Membership) (later : Option Membership) → cond here (Some membership) later ≡ None → (here ≡ false) × (later ≡ None)
elsewhere true membership later none = cc
elsewhere false membership later none = (refl, none)

-- a pair of none of the memberships has what it had
pub others_stay : (membership : Membership) (rest before after : List Membership) (at : EndpointGroup) (old : Option Membership) → IsSetAt (endpoint_group_of membership) (Some membership) before after
    → (membership_in (membership ∷ rest) at ≡ None) × (membership_in before at ≡ old) → (membership_in rest at ≡ None) × (membership_in after at ≡ old)
others_stay membership rest before after at old set stays =
    let both = elsewhere (same_endpoint_group at (endpoint_group_of membership)) membership (membership_in rest at) stays.0 in
    (both.1, set.each at ∙ ap (λ (here : Bool). cond here (Some membership) (membership_in before at)) (same_back (endpoint_group_of membership) at ∙ both.0) ∙ stays.1)

set_by : {X : Type 0} (earlier here : Bool) (now old : X) → cond here now (cond earlier now old) ≡ cond (earlier || (here || false)) now old
set_by true true now old = refl
set_by true false now old = refl
set_by false true now old = refl
set_by false false now old = refl

-- what several pairs have, one pair more has
pub one_more_set : {X : Type 0} (done : List EndpointGroup) (key at : EndpointGroup) (now old : X)
    → (if same_endpoint_group key at then now else (if has endpoint_group_order done at then now else old)) ≡ (if has endpoint_group_order (done ++ key ∷ []) at then now else old)
one_more_set done key at now old =
    ap (λ (here : Bool). cond here now (cond (has endpoint_group_order done at) now old)) (same_back key at)
    ∙ set_by (has endpoint_group_order done at) (same_endpoint_group at key) now old
    ∙ ap (λ (test : Bool). cond test now old) (sym (list_any-append (same_endpoint_group at) done (key ∷ [])))

-- one of several pairs more has none
pub one_more_removed : (done : List EndpointGroup) (key at : EndpointGroup) (old : Option Membership)
    → (if same_endpoint_group key at then None else (if has endpoint_group_order done at then None else old)) ≡ (if has endpoint_group_order (done ++ key ∷ []) at then None else old)
one_more_removed done key at old = one_more_set done key at None old

not_known : (found : Option Membership) → not (is_some found) ≡ true → found ≡ None
not_known None is = refl
not_known (Some membership) is = cc

-- those of no known pair have none
pub All-absent : (old rows : List Membership) → AllByRecursion (λ membership. membership_in old (endpoint_group_of membership) ≡ None) (filter (λ membership. not (is_known old membership)) rows)
All-absent old rows = All-passing (λ (membership : Membership). membership_in old (endpoint_group_of membership) ≡ None) (λ (membership : Membership). not (is_known old membership))
    (λ membership. not_known (membership_in old (endpoint_group_of membership))) rows

-- memberships of known pairs and of others, together, are all of them
pub parted_again : (test : Membership → Bool) (rows : List Membership) (old : Option Membership) (at : EndpointGroup) → IsAscending membership_order rows
    → option_or (membership_in (filter test rows) at) (option_or (membership_in (filter (λ membership. not (test membership)) rows) at) old) ≡ option_or (membership_in rows at) old
parted_again test rows old at ascends = rw (membership_in-filter test rows at ascends, membership_in-filter (λ membership. not (test membership)) rows at ascends) (by (membership_in rows at))
  where
    either : (passes : Bool) (membership : Membership) → option_or (cond passes (Some membership) None) (option_or (cond (not passes) (Some membership) None) old) ≡ Some membership
    either true membership = refl
    either false membership = refl

    by : (found : Option Membership) → option_or (only test found) (option_or (only (λ membership. not (test membership)) found) old) ≡ option_or found old
    by None = refl
    by (Some membership) = either (test membership) membership

-- what holds of each pair's membership before
absent_at : (old rows : List Membership) (at : EndpointGroup) (membership : Membership) → AreAbsent old rows → membership_in rows at ≡ Some membership → membership_in old at ≡ None
absent_at old rows at membership absent found =
    ap (membership_in old) (sym (GivesItsEndpointGroup-membership_in rows at membership found)) ∙ All-at (λ (one : Membership). membership_in old (endpoint_group_of one) ≡ None) rows at membership absent found

undone_by : (added now old : List Membership) (at : EndpointGroup) (found : Option Membership) → membership_in added at ≡ found → AllByRecursion (λ membership. membership_in old (endpoint_group_of membership) ≡ None) added
    → (membership_in added at ≡ None → membership_in now at ≡ membership_in old at) → cond (is_some found) None (membership_in now at) ≡ membership_in old at
undone_by added now old at None found absent others = others found
undone_by added now old at (Some membership) found absent others = sym (absent_at old added at membership absent found)

-- once added pairs are taken away again, all is as before
pub undone : (added now after old : List Membership) → IsAscending membership_order after → IsAscending membership_order old
    → AllByRecursion (λ membership. membership_in old (endpoint_group_of membership) ≡ None) added
    → ((at : EndpointGroup) → membership_in added at ≡ None → membership_in now at ≡ membership_in old at)
    → ((at : EndpointGroup) → membership_in after at ≡ (if has endpoint_group_order (map endpoint_group_of added) at then None else membership_in now at)) → after ≡ old
undone added now after old ascends before absent others each =
    same_rows after old ascends before (λ at. each at ∙ ap (λ (test : Bool). cond test None (membership_in now at)) (has-pairs added at)
    ∙ undone_by added now old at (membership_in added at) refl absent (others at))
