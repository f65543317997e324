-- What is left at pairs after an entry of the log.
use Rattle.std.proofs.{Common.{◌≡◌, ℕ, Bool, true, false, not, cond, if◌then◌else◌, List, ◌∷◌, filter, Option, Some, None, is_some, unwrap_or, refl, sym, ap, subst, ◌∙◌}, lemmas.Map.Keys.{sorted_head}}
use Rattle.std.specs.{BTreeMap.{BTreeMap}, Option.{option_map, option_or}}
use Rattle.amt_values.{specs.{declared.address.Ip.{Ip}, EndpointValue.{EndpointValue}, Ascending.{IsAscending, has}}, proofs.AscendingLaws.{IsAscending-filter}}
use Rattle.source_filter.specs.{Filter.{FilterValue}, declared.record.Record.{Record}}
use Rattle.endpoint_membership.specs.{EndpointGroup.{EndpointGroup, endpoint_group_order, same_endpoint, same_endpoint_group}, EndpointMemberships.{AreGone, AreOwn}, FiltersAfter.{AreFiltersAfter, cleared_at, expired_left, left_at, left_of}, Membership.{Membership, endpoint_group_of, is_fresh, membership_order}, Memberships.{membership_in}, MembershipChanges.{filter_at}, Stored.{is_of_another, only}, declared.keys.GroupMember.{GroupMember}}
use Rattle.endpoint_membership.proofs.{AfterEntries.{membership_in-of, same_endpoint-exact}, AfterReport.{AreAfterReport}, MembershipIn.{membership_in-after, membership_in-filter, membership_in-where, same_endpoint_group-exact}, OwnFilters.{pair}, SetAt.{same_back}}

-- what is left at a pair, if the entry may change its filter
abbrev Left : Type 0
Left = Option (Option FilterValue)

first_by : (here : Bool) (membership : Membership) (later : Option Membership) (old : Left) → (here ≡ true → later ≡ None)
    → option_or (left_of later) (cond here (Some (Some membership.filter)) old) ≡ option_or (left_of (cond here (Some membership) later)) old
first_by true membership later old none = rw (none refl) refl
first_by false membership later old none = refl

-- leaving the filter of the first membership leaves what the others are to leave
pub first_left : (membership : Membership) (rest : List Membership) (at : EndpointGroup) (old now : Left) → IsAscending membership_order (membership ∷ rest)
    → now ≡ (if same_endpoint_group (endpoint_group_of membership) at then Some (Some membership.filter) else old)
    → option_or (left_of (membership_in rest at)) now ≡ option_or (left_of (membership_in (membership ∷ rest) at)) old
first_left membership rest at old now ascends set =
    let key = endpoint_group_of membership in
    let later = membership_in rest at in
    ap (option_or (left_of later)) (set ∙ ap (λ (here : Bool). cond here (Some (Some membership.filter)) old) (same_back key at))
    ∙ first_by (same_endpoint_group at key) membership later old
    (λ here. ap (membership_in rest) (same_endpoint_group-exact at key here) ∙ membership_in-after key rest (sorted_head membership_order membership rest ascends))

-- ---- what an entry leaves, by pairs

-- the filter of a membership
abbrev wanted : Option Membership → Option FilterValue
wanted found = option_map (λ membership. membership.filter) found

fresh_by : (fresh : Bool) (membership : Membership) → unwrap_or (if not fresh then Some None else None) (Some membership.filter) ≡ wanted (cond fresh (Some membership) None)
fresh_by true membership = refl
fresh_by false membership = refl

-- what a moment leaves is the filter of a membership that is fresh then
left_fresh : (lifetime moment : ℕ) (found : Option Membership) → unwrap_or (expired_left lifetime moment found) (wanted found) ≡ wanted (only (is_fresh lifetime moment) found)
left_fresh lifetime moment None = refl
left_fresh lifetime moment (Some membership) = fresh_by (is_fresh lifetime moment membership) membership

-- and nothing, where none is fresh then
left_none : (lifetime moment : ℕ) (found : Option Membership) → only (is_fresh lifetime moment) found ≡ None → unwrap_or (expired_left lifetime moment found) (wanted found) ≡ None
left_none lifetime moment found none = left_fresh lifetime moment found ∙ ap wanted none

its_pair : (endpoint : EndpointValue) (at : EndpointGroup) → same_endpoint at.endpoint endpoint ≡ true → at ≡ pair endpoint at.group
its_pair endpoint at same = ap (λ (one : EndpointValue). pair one at.group) (same_endpoint-exact at.endpoint endpoint same)

module _ (lifetime moment : ℕ) (rows : List Membership) (ascends : IsAscending membership_order rows) where
  abbrev fresh : List Membership
  fresh = filter (is_fresh lifetime moment) rows

  -- the filters that a moment leaves
  pub AreFiltersAfter-mark : (filters : BTreeMap GroupMember (Option FilterValue)) → ((at : EndpointGroup) → left_at filters at ≡ expired_left lifetime moment (membership_in rows at)) → AreFiltersAfter rows fresh filters
  AreFiltersAfter-mark filters left at =
      ap (λ (one : Left). unwrap_or one (filter_at rows at)) (left at) ∙ left_fresh lifetime moment (membership_in rows at) ∙ sym (ap wanted (membership_in-filter (is_fresh lifetime moment) rows at ascends))

  clear_by : (listed same : Bool) (found : Option Membership) → (listed ≡ true → same ≡ true) → (same ≡ true → listed ≡ is_some found)
      → unwrap_or (if listed then Some None else expired_left lifetime moment found) (wanted found) ≡ wanted (cond (not same) (only (is_fresh lifetime moment) found) None)
  clear_by true true found of all = refl
  clear_by true false found of all = let wrong = of refl in cc
  clear_by false true None of all = refl
  clear_by false true (Some membership) of all = let wrong = all refl in cc
  clear_by false false found of all = left_fresh lifetime moment found

  -- the filters that a clearing leaves
  pub AreFiltersAfter-clear : (endpoint : EndpointValue) (pairs : List EndpointGroup) (filters : BTreeMap GroupMember (Option FilterValue)) → ((at : EndpointGroup) → has endpoint_group_order pairs at ≡ true → same_endpoint at.endpoint endpoint ≡ true)
      → ((group : Ip) → has endpoint_group_order pairs (record { endpoint = endpoint; group = group }) ≡ is_some (membership_in rows (record { endpoint = endpoint; group = group })))
      → ((at : EndpointGroup) → left_at filters at ≡ cleared_at pairs at (expired_left lifetime moment (membership_in rows at))) → AreFiltersAfter rows (filter (is_of_another endpoint) fresh) filters
  AreFiltersAfter-clear endpoint pairs filters of all left at =
      let same = same_endpoint at.endpoint endpoint in
      ap (λ (one : Left). unwrap_or one (filter_at rows at)) (left at)
      ∙ clear_by (has endpoint_group_order pairs at) same (membership_in rows at) (of at)
      (λ here. subst (λ (one : EndpointGroup). has endpoint_group_order pairs one ≡ is_some (membership_in rows one)) (sym (its_pair endpoint at here)) (all at.group))
      ∙ sym (ap wanted (membership_in-where (λ (one : EndpointGroup). not (same_endpoint one.endpoint endpoint)) fresh at (IsAscending-filter membership_order (is_fresh lifetime moment) rows ascends)
      ∙ ap (λ (found : Option Membership). cond (not same) found None) (membership_in-filter (is_fresh lifetime moment) rows at ascends)))

  report_by : (listed same : Bool) (own found : Option Membership) → (listed ≡ true → same ≡ true) → (listed ≡ true → own ≡ None) → (same ≡ false → own ≡ None)
      → (same ≡ true → own ≡ None → listed ≡ false → only (is_fresh lifetime moment) found ≡ None)
      → unwrap_or (option_or (left_of own) (if listed then Some None else expired_left lifetime moment found)) (wanted found) ≡ wanted (if same then own else only (is_fresh lifetime moment) found)
  report_by listed true (Some membership) found of gone other none = refl
  report_by true true None found of gone other none = refl
  report_by false true None found of gone other none = left_none lifetime moment found (none refl refl refl)
  report_by true false own found of gone other none = let wrong = of refl in cc
  report_by false false None found of gone other none = left_fresh lifetime moment found
  report_by false false (Some membership) found of gone other none = let wrong = other refl in cc

  -- the filters that a report leaves
  pub AreFiltersAfter-report : (endpoint : EndpointValue) (records : List Record) (own after : List Membership) (gone : List EndpointGroup) (filters : BTreeMap GroupMember (Option FilterValue))
      → AreOwn lifetime moment endpoint records rows own → AreGone lifetime moment endpoint rows own gone → AreAfterReport lifetime moment endpoint rows own after
      → ((at : EndpointGroup) → left_at filters at ≡ option_or (left_of (membership_in own at)) (cleared_at gone at (expired_left lifetime moment (membership_in rows at)))) → AreFiltersAfter rows after filters
  AreFiltersAfter-report endpoint records own after gone filters owned are put left at =
      ap (λ (one : Left). unwrap_or one (filter_at rows at)) (left at)
      ∙ report_by (has endpoint_group_order gone at) (same_endpoint at.endpoint endpoint) (membership_in own at) (membership_in rows at) (are.of at) (are.none at)
      (λ apart. membership_in-of endpoint own at owned.ascends owned.of apart)
      (λ here none listed. let exact = its_pair endpoint at here in
      ap (λ (one : EndpointGroup). only (is_fresh lifetime moment) (membership_in rows one)) exact ∙ are.all at.group (ap (membership_in own) (sym exact) ∙ none) (ap (has endpoint_group_order gone) (sym exact) ∙ listed))
      ∙ sym (ap wanted (put.each at))
