-- Renewals that go in together, and out again where one is refused; memberships that take the place of those of their pairs.
use Rattle.std.proofs.{Common.{◌≡◌, ℕ, Bool, true, false, cond, not, ◌&&◌, ◌||◌, List, [], ◌∷◌, ◌++◌, take, drop, refl, sym, ap, subst, ◌∙◌, ◌==◌, ◌+◌, map, Option, Some, None, is_some}, lemmas.{Cmp.{eq_by_cmp_equiv}, List.{Folds.{list_any-append, fold-map}, take-append-drop}, Map.{Views.{tells_apart}, Keys.{sorted_head}}, Bool.{and_right, eqb-true, ne_eqb}}}
use Rattle.std.specs.{BTreeSet.{BTreeSet}, Ordering.{eq_by_cmp, is_eq, nat_cmp}, declared.cmp.Ordering.{Ordering}, BTreeMap.{BTreeMap}, Cmp.{tied_then, unsigned_ties}, List.{Sorted.{IsStrictlySortedBy}, AllByRecursion, count_by}, Option.{option_or}}
use Rattle.endpoint_membership.specs.{Membership.{Membership, endpoint_group_of, membership_order}, Parts.{AreRenewalsOf, is_renewal_in, is_stored, renewal_of, renewal_order, AreAgreed, is_renewed_at, some_unless_zero}, declared.keys.LastRenewal.{LastRenewal}, EndpointGroup.{EndpointGroup, endpoint_group_order, same_endpoint, same_endpoint_group}}
use Rattle.std.specs.BTreeSet as sorted
use Rattle.endpoint_membership.specs.contracts.keys.LastRenewalOrd as renewals
use Rattle.endpoint_membership.specs.{Filters.{IsSetAt}, Limits.{group_count}, Memberships.{membership_in}}
use Rattle.endpoint_membership.proofs.{PartOrders.{renewal_order-exact, renewal_order-total, renewals_compared, renewal_at}, MembershipIn.{has-pairs, IsAscending-pairs, AreAfter, membership_in-after, same_endpoint_group-exact}, SetAt.{IsAscending-from_pairs, same_back}}
use Rattle.amt_values.specs.{EndpointValue.{EndpointValue}, Ascending.{IsAscending, has}}

-- both say the same
abbrev pub same_renewal : LastRenewal → LastRenewal → Bool
same_renewal one other = eq_by_cmp renewal_order one other

-- an insertion into a set of renewals, or a removal, by the order of the definitions
pub renewals_updated : (before after : BTreeSet LastRenewal) (key : LastRenewal) (there : Bool) → sorted.Updates (renewals.TheImpl.ghosts).cmp before after key there
    → (renewal : LastRenewal) → sorted.contains renewal_order after renewal ≡ cond (same_renewal key renewal) there (sorted.contains renewal_order before renewal)
renewals_updated before after key there updates =
    (subst (λ (order : LastRenewal → LastRenewal → Ordering). sorted.Updates order before after key there) renewals_compared updates).0

is_renewal_in-push : (done : List Membership) (membership : Membership) (renewal : LastRenewal)
    → is_renewal_in (done ++ membership ∷ []) renewal ≡ (is_renewal_in done renewal || (same_renewal (renewal_of membership) renewal || false))
is_renewal_in-push done membership renewal =
    list_any-append (λ (one : Membership). same_renewal renewal (renewal_of one)) done (membership ∷ [])
    ∙ ap (λ (here : Bool). is_renewal_in done renewal || (here || false)) ((eq_by_cmp_equiv renewal_order-total).symm renewal (renewal_of membership))

one_in : (here done old : Bool) → cond here true (done || old) ≡ ((done || (here || false)) || old)
one_in true true old = refl
one_in true false old = refl
one_in false true old = refl
one_in false false old = refl

-- one renewal more is in
pub one_more_in : (done : List Membership) (membership : Membership) (key renewal : LastRenewal) (old before after : Bool) → key ≡ renewal_of membership → before ≡ (is_renewal_in done renewal || old)
    → after ≡ cond (same_renewal key renewal) true before → after ≡ (is_renewal_in (done ++ membership ∷ []) renewal || old)
one_more_in done membership key renewal old before after its so_far now =
    let here = same_renewal (renewal_of membership) renewal in
    now ∙ ap (λ (one : LastRenewal). cond (same_renewal one renewal) true before) its ∙ ap (cond here true) so_far ∙ one_in here (is_renewal_in done renewal) old ∙ ap (λ (some : Bool). some || old) (sym (is_renewal_in-push done membership renewal))

some_in : (done more old : Bool) → (done || old) ≡ (((done || more) && (done || old)) || old)
some_in true more old = refl
some_in false true true = refl
some_in false true false = refl
some_in false false old = refl

-- what is in at a refusal was there, or is one of the renewals
pub refused_in : (k : ℕ) (memberships : List Membership) (renewal : LastRenewal) (old after : Bool) → after ≡ (is_renewal_in (take k memberships) renewal || old) → after ≡ ((is_renewal_in memberships renewal && after) || old)
refused_in k memberships renewal old after is =
    let done = is_renewal_in (take k memberships) renewal in
    let more = is_renewal_in (drop k memberships) renewal in
    let whole = ap (λ (all : List Membership). is_renewal_in all renewal) (sym (take-append-drop k memberships)) ∙ list_any-append (λ (one : Membership). same_renewal renewal (renewal_of one)) (take k memberships) (drop k memberships) in
    is ∙ some_in done more old ∙ ap (λ (some : Bool). (some && (done || old)) || old) (sym whole) ∙ ap (λ (some : Bool). (is_renewal_in memberships renewal && some) || old) (sym is)

one_out : (here stored done old : Bool) → cond (here && not stored) false (old && not (done && not stored)) ≡ (old && not ((done || (here || false)) && not stored))
one_out true true true old = refl
one_out true true false old = refl
one_out true false true true = refl
one_out true false true false = refl
one_out true false false true = refl
one_out true false false false = refl
one_out false stored true old = refl
one_out false stored false old = refl

-- one renewal more is out, unless a filter has it
pub one_more_out : (done : List Membership) (membership : Membership) (key renewal : LastRenewal) (stored old before after : Bool) → key ≡ renewal_of membership → before ≡ (old && not (is_renewal_in done renewal && not stored))
    → after ≡ cond (same_renewal key renewal && not stored) false before → after ≡ (old && not (is_renewal_in (done ++ membership ∷ []) renewal && not stored))
one_more_out done membership key renewal stored old before after its so_far now =
    let here = same_renewal (renewal_of membership) renewal in
    now ∙ ap (λ (one : LastRenewal). cond (same_renewal one renewal && not stored) false before) its ∙ ap (cond (here && not stored) false) so_far ∙ one_out here stored (is_renewal_in done renewal) old ∙ ap (λ (some : Bool). old && not (some && not stored)) (sym (is_renewal_in-push done membership renewal))

taken_by : (its here stored before : Bool) → (here ≡ true → its ≡ stored) → cond its before (cond here false before) ≡ cond (here && not stored) false before
taken_by true true true before same = refl
taken_by true true false before same = let is = same refl in cc
taken_by true false stored before same = refl
taken_by false true true before same = let is = same refl in cc
taken_by false true false before same = refl
taken_by false false stored before same = refl

-- a renewal is taken out where no filter has it
pub taken_out : (filters : List Membership) (key renewal : LastRenewal) (its before after : Bool) → is_stored filters key ≡ its
    → after ≡ cond its before (cond (same_renewal key renewal) false before) → after ≡ cond (same_renewal key renewal && not (is_stored filters renewal)) false before
taken_out filters key renewal its before after is now =
    now ∙ taken_by its (same_renewal key renewal) (is_stored filters renewal) before (λ here. sym is ∙ ap (is_stored filters) (tells_apart renewal_order-exact key renewal here))

undone_by : (among put stored : Bool) → put ≡ ((among && put) || stored) → (put && not (among && not stored)) ≡ stored
undone_by true true true is = refl
undone_by true true false is = refl
undone_by true false true is = is
undone_by true false false is = refl
undone_by false true stored is = is
undone_by false false stored is = is

-- a refusal is undone
pub undone : (filters : List Membership) (memberships : List Membership) (before put after : BTreeSet LastRenewal) → AreRenewalsOf [] filters before
    → ((renewal : LastRenewal) → sorted.contains renewal_order put renewal ≡ ((is_renewal_in memberships renewal && sorted.contains renewal_order put renewal) || sorted.contains renewal_order before renewal))
    → ((renewal : LastRenewal) → sorted.contains renewal_order after renewal ≡ (sorted.contains renewal_order put renewal && not (is_renewal_in memberships renewal && not (is_stored filters renewal))))
    → AreRenewalsOf [] filters after
undone filters memberships before put after are some taken renewal =
    let among = is_renewal_in memberships renewal in
    let there = sorted.contains renewal_order put renewal in
    taken renewal ∙ undone_by among there (is_stored filters renewal) (some renewal ∙ ap (λ (old : Bool). (among && there) || old) (are renewal))

same_renewal-is : (one other : LastRenewal) → same_renewal one other ≡ ((one.renewed == other.renewed) && same_endpoint_group one.at other.at)
same_renewal-is one other =
    sym (ap (λ (same : Bool). same && same_endpoint_group one.at other.at) (unsigned_ties one.renewed other.renewed) ∙ tied_then (nat_cmp one.renewed other.renewed) (endpoint_group_order one.at other.at))

is_renewed_at-put : (here : Bool) (moment : ℕ) (membership : Membership) (old : Option Membership) → is_renewed_at moment (cond here (Some membership) old) ≡ cond here (membership.renewed == moment) (is_renewed_at moment old)
is_renewed_at-put true moment membership old = refl
is_renewed_at-put false moment membership old = refl

is_stored-put : (before after : List Membership) (key : EndpointGroup) (membership : Membership) (renewal : LastRenewal) → IsSetAt key (Some membership) before after
    → is_stored after renewal ≡ cond (same_endpoint_group key renewal.at) (membership.renewed == renewal.renewed) (is_stored before renewal)
is_stored-put before after key membership renewal put =
    ap (is_renewed_at renewal.renewed) (put.each renewal.at) ∙ is_renewed_at-put (same_endpoint_group key renewal.at) renewal.renewed membership (membership_in before renewal.at)

is_stored-here : (rows : List Membership) (key : EndpointGroup) (membership : Membership) (renewal : LastRenewal) → membership_in rows key ≡ Some membership
    → same_endpoint_group key renewal.at ≡ true → is_stored rows renewal ≡ (membership.renewed == renewal.renewed)
is_stored-here rows key membership renewal is here =
    ap (λ (at : EndpointGroup). is_renewed_at renewal.renewed (membership_in rows at)) (sym (same_endpoint_group-exact key renewal.at here)) ∙ ap (is_renewed_at renewal.renewed) is

not_both : (test : Bool) → (test && not test) ≡ false
not_both true = refl
not_both false = refl

outlived : (here was now old : Bool) → (here ≡ true → old ≡ was) → (was ≡ true → now ≡ false) → (old && not (cond here now old)) ≡ (was && here)
outlived true true now old is apart = rw (is refl, apart refl) refl
outlived true false now old is apart = rw (is refl) refl
outlived false true now old is apart = not_both old
outlived false false now old is apart = not_both old

none_outlived : (here now old : Bool) → (here ≡ true → old ≡ now) → (old && not (cond here now old)) ≡ false
none_outlived true now old is = ap (λ (test : Bool). test && not now) (is refl) ∙ not_both now
none_outlived false now old is = not_both old

without : (gone there : Bool) → cond gone false there ≡ (there && not gone)
without true true = refl
without true false = refl
without false true = refl
without false false = refl

-- the old renewal of the pair is out
pub old_renewal_out : (before after : List Membership) (key : EndpointGroup) (was now : Membership) (renewal : LastRenewal) (there left : Bool)
    → membership_in before key ≡ Some was → IsSetAt key (Some now) before after → (was.renewed ≡ now.renewed → ⊥)
    → left ≡ cond (same_renewal (renewal_at was.renewed key) renewal) false there → left ≡ (there && not (is_stored before renewal && not (is_stored after renewal)))
old_renewal_out before after key was now renewal there left is put apart out =
    let old = renewal_at was.renewed key in
    let here = same_endpoint_group key renewal.at in
    let same = was.renewed == renewal.renewed in
    out ∙ without (same_renewal old renewal) there
    ∙ ap (λ (gone : Bool). there && not gone)
    (same_renewal-is old renewal
    ∙ sym (outlived here same (now.renewed == renewal.renewed) (is_stored before renewal) (is_stored-here before key was renewal is)
    (λ equal. ne_eqb now.renewed renewal.renewed (λ also. apart (eqb-true was.renewed renewal.renewed equal ∙ sym also))))
    ∙ ap (λ (test : Bool). is_stored before renewal && not test) (sym (is_stored-put before after key now renewal put)))

-- where the moment stays, the renewal does
pub same_renewal_stays : (before after : List Membership) (key : EndpointGroup) (was now : Membership) (renewal : LastRenewal) (there : Bool)
    → membership_in before key ≡ Some was → IsSetAt key (Some now) before after → was.renewed ≡ now.renewed → there ≡ (there && not (is_stored before renewal && not (is_stored after renewal)))
same_renewal_stays before after key was now renewal there is put same =
    without false there
    ∙ ap (λ (gone : Bool). there && not gone)
    (sym (none_outlived (same_endpoint_group key renewal.at) (now.renewed == renewal.renewed) (is_stored before renewal)
    (λ here. is_stored-here before key was renewal is here ∙ ap (λ (moment : ℕ). moment == renewal.renewed) same))
    ∙ ap (λ (test : Bool). is_stored before renewal && not test) (sym (is_stored-put before after key now renewal put)))

-- each membership's pair has one
abbrev pub ArePresent : List Membership → List Membership → Type 0
ArePresent rows memberships = AllByRecursion (λ membership. is_some (membership_in rows (endpoint_group_of membership)) ≡ true) memberships

-- the same pairs are found where the pairs are the same
pub same_found : (before after : List Membership) → map endpoint_group_of after ≡ map endpoint_group_of before → (at : EndpointGroup) → is_some (membership_in after at) ≡ is_some (membership_in before at)
same_found before after same at = sym (has-pairs after at) ∙ ap (λ (pairs : List EndpointGroup). has endpoint_group_order pairs at) same ∙ has-pairs before at

put_first : (here : Bool) (membership : Membership) (later old : Option Membership) → (here ≡ true → later ≡ None) → option_or later (cond here (Some membership) old) ≡ option_or (cond here (Some membership) later) old
put_first true membership later old none = rw (none refl) refl
put_first false membership later old none = refl

-- putting the first membership in leaves what the others are to make of the rows
pub first_put : (membership : Membership) (rest : List Membership) (before after : List Membership) (at : EndpointGroup) → IsAscending membership_order (membership ∷ rest)
    → IsSetAt (endpoint_group_of membership) (Some membership) before after
    → option_or (membership_in rest at) (membership_in after at) ≡ option_or (membership_in (membership ∷ rest) at) (membership_in before at)
first_put membership rest before after at ascends put =
    let key = endpoint_group_of membership in
    let later = membership_in rest at in
    let old = membership_in before at in
    ap (option_or later) (put.each at ∙ ap (λ (here : Bool). cond here (Some membership) old) (same_back key at))
    ∙ put_first (same_endpoint_group at key) membership later old
    (λ here. ap (membership_in rest) (same_endpoint_group-exact at key here) ∙ membership_in-after key rest (sorted_head membership_order membership rest ascends))

is_renewal_in-after : (renewal : LastRenewal) (rows : List Membership) → AreAfter renewal.at rows → is_renewal_in rows renewal ≡ false
is_renewal_in-after renewal [] after = refl
is_renewal_in-after renewal (membership ∷ rest) after =
    let apart = same_renewal-is renewal (renewal_of membership) ∙ and_right (renewal.renewed == membership.renewed) (same_endpoint_group renewal.at (endpoint_group_of membership)) (ap is_eq after.0) in
    ap (λ (here : Bool). here || is_renewal_in rest renewal) apart ∙ is_renewal_in-after renewal rest after.1

settled_by : (here its old later : Bool) → (here ≡ true → later ≡ false) → ((((its && here) || later) || old) && not (old && not (cond here its old))) ≡ (later || cond here its old)
settled_by true true true later none = rw (none refl) refl
settled_by true true false later none = rw (none refl) refl
settled_by true false true later none = rw (none refl) refl
settled_by true false false later none = rw (none refl) refl
settled_by false true old later none = rw (not_both old) (sym (without false (later || old)))
settled_by false false old later none = rw (not_both old) (sym (without false (later || old)))

-- the renewals are those of the rows and of the memberships that are left
pub first_settled : (membership : Membership) (rest : List Membership) (before after : List Membership) (renewals left : BTreeSet LastRenewal) → IsAscending membership_order (membership ∷ rest)
    → IsSetAt (endpoint_group_of membership) (Some membership) before after → AreRenewalsOf (membership ∷ rest) before renewals
    → ((renewal : LastRenewal) → sorted.contains renewal_order left renewal ≡ (sorted.contains renewal_order renewals renewal && not (is_stored before renewal && not (is_stored after renewal))))
    → AreRenewalsOf rest after left
first_settled membership rest before after renewals left ascends put are out renewal =
    let key = endpoint_group_of membership in
    let here = same_endpoint_group key renewal.at in
    let its = membership.renewed == renewal.renewed in
    let old = is_stored before renewal in
    let later = is_renewal_in rest renewal in
    let stored = is_stored-put before after key membership renewal put in
    out renewal
    ∙ ap (λ (there : Bool). there && not (old && not (is_stored after renewal))) (are renewal
    ∙ ap (λ (first : Bool). (first || later) || old) ((eq_by_cmp_equiv renewal_order-total).symm renewal (renewal_of membership) ∙ same_renewal-is (renewal_of membership) renewal))
    ∙ ap (λ (test : Bool). (((its && here) || later) || old) && not (old && not test)) stored
    ∙ settled_by here its old later
    (λ same. is_renewal_in-after renewal rest (subst (λ (at : EndpointGroup). AreAfter at rest) (same_endpoint_group-exact key renewal.at same) (sorted_head membership_order membership rest ascends)))
    ∙ ap (λ (test : Bool). later || test) (sym stored)

group_count-pairs : (endpoint : EndpointValue) (rows : List Membership) → group_count endpoint rows ≡ count_by (λ (at : EndpointGroup). same_endpoint at.endpoint endpoint) (map endpoint_group_of rows)
group_count-pairs endpoint rows = sym (fold-map (λ (count : ℕ) (at : EndpointGroup). count + cond (same_endpoint at.endpoint endpoint) 1 0) endpoint_group_of 0 rows)

-- the parts agree after memberships were put at pairs that had one, with their renewals
pub AreAgreed-put : (before after : List Membership) (renewals left : BTreeSet LastRenewal) (counts : BTreeMap EndpointValue ℕ) → AreAgreed before renewals counts
    → map endpoint_group_of after ≡ map endpoint_group_of before → AreRenewalsOf [] after left → AreAgreed after left counts
AreAgreed-put before after renewals left counts agreed same are = record {
  ascends = IsAscending-from_pairs after (subst (IsStrictlySortedBy endpoint_group_order) (sym same) (IsAscending-pairs before agreed.ascends));
  renewed = are;
  counted = λ endpoint. agreed.counted endpoint ∙ ap some_unless_zero (group_count-pairs endpoint before
      ∙ ap (count_by (λ (at : EndpointGroup). same_endpoint at.endpoint endpoint)) (sym same) ∙ sym (group_count-pairs endpoint after));
}
