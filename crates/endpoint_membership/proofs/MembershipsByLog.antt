-- The list of memberships by the log has exactly the membership of each pair.
use Rattle.std.{proofs.{Common.{◌≡◌, ℕ, ◌+◌, Bool, true, false, cond, ltb, not, ◌&&◌, ◌||◌, List, [], ◌∷◌, ◌++◌, reverse, Option, Some, None, unwrap_or, refl, sym, ap, ◌∙◌, inl, inr}, lemmas.Bool.{cases_Bool, or_parts}}, specs.{List.{AllByRecursion, cons_option, filter_map, Sorted.{IsStrictlySortedBy}}, Option.{option_or}, declared.cmp.Ordering.TheVariants.{Less}}}
use Rattle.amt_values.{specs.{EndpointValue.{EndpointValue}, Ascending.{IsAscending, has, ascending}}, proofs.AscendingLaws.{IsAscending-ascending, has-append, has-ascending}}
use Rattle.source_filter.specs.{Filter.{FilterValue, nothing}, declared.record.Record.{Record}}
use Rattle.endpoint_membership.specs.{declared.change.Change.{Change, TheVariants.{Reported, Clear, Mark}}, Membership.{Membership, membership_order, endpoint_group_of}, Log.{is_empty, latest, leaving, live_chain, on_group, records_at, renewed_at}, EndpointGroup.{EndpointGroup, endpoint_group_order, same_endpoint, same_group, same_endpoint_group}}
use Rattle.endpoint_membership.{specs.{Memberships.{membership_of, endpoint_groups_in, endpoint_groups_of, membership_in, membership_at, memberships_at}, Table.{AreMembershipsAt}}, proofs.{MembershipIn.{AreAfter, GivesItsEndpointGroup, same_endpoint_group-exact, same_rows}, EndpointGroupOrder.{endpoint_group_order-total, same_endpoint_group-is}, MembershipAt.{membership_at-is}, FilterByRecords.{filter_by_records}}}

pub membership_by : (test : Bool) (one other : Membership) → cond test (Some one) None ≡ Some other → one ≡ other
membership_by true one other same = ap (λ (found : Option Membership). unwrap_or found one) same
membership_by false one other same = cc

pub GivesItsEndpointGroup-membership_at : (lifetime moment : ℕ) (past : List Change) → GivesItsEndpointGroup (membership_at lifetime moment past)
GivesItsEndpointGroup-membership_at lifetime moment past endpoint_group membership given =
    ap endpoint_group_of (sym (membership_by _ _ membership given))

either_way : (found : Option Membership) (test : Bool) → found ≡ cond test (option_or None found) found
either_way found true = refl
either_way found false = refl

twice : (found : Option Membership) → option_or found found ≡ found
twice None = refl
twice (Some membership) = refl

or_none : (found : Option Membership) → option_or found None ≡ found
or_none None = refl
or_none (Some membership) = refl

pub membership_in-cons_option : (one : Option Membership) (rest : List Membership) (at endpoint_group : EndpointGroup) → ((membership : Membership) → one ≡ Some membership → endpoint_group_of membership ≡ at)
    → membership_in (cons_option one rest) endpoint_group ≡ cond (same_endpoint_group endpoint_group at) (option_or one (membership_in rest endpoint_group)) (membership_in rest endpoint_group)
membership_in-cons_option None rest at endpoint_group its = either_way (membership_in rest endpoint_group) (same_endpoint_group endpoint_group at)
membership_in-cons_option (Some membership) rest at endpoint_group its =
    ap (λ (here : EndpointGroup). cond (same_endpoint_group endpoint_group here) (Some membership) (membership_in rest endpoint_group)) (its membership refl)

endpoint_group_by : (here listed : Bool) (given : EndpointGroup → Option Membership) (at endpoint_group : EndpointGroup) → (here ≡ true → endpoint_group ≡ at)
    → cond here (option_or (given at) (cond listed (given endpoint_group) None)) (cond listed (given endpoint_group) None) ≡ cond (here || listed) (given endpoint_group) None
endpoint_group_by true true given at endpoint_group same = rw (same refl) (twice (given at))
endpoint_group_by true false given at endpoint_group same = rw (same refl) (or_none (given at))
endpoint_group_by false listed given at endpoint_group same = refl

-- the membership of a pair is what the function gives of it, where it is one of the pairs
pub membership_in-filter_map : (given : EndpointGroup → Option Membership) → GivesItsEndpointGroup given → (endpoint_groups : List EndpointGroup) (endpoint_group : EndpointGroup)
    → membership_in (filter_map given endpoint_groups) endpoint_group ≡ cond (has endpoint_group_order endpoint_groups endpoint_group) (given endpoint_group) None
membership_in-filter_map given its [] endpoint_group = refl
membership_in-filter_map given its (at ∷ endpoint_groups) endpoint_group =
    membership_in-cons_option (given at) (filter_map given endpoint_groups) at endpoint_group (its at)
    ∙ ap (λ (later : Option Membership). cond (same_endpoint_group endpoint_group at) (option_or (given at) later) later) (membership_in-filter_map given its endpoint_groups endpoint_group)
    ∙ endpoint_group_by (same_endpoint_group endpoint_group at) (has endpoint_group_order endpoint_groups endpoint_group) given at endpoint_group (same_endpoint_group-exact endpoint_group at)

pub AreAfter-cons_option : (endpoint_group at : EndpointGroup) (one : Option Membership) (rest : List Membership) → ((membership : Membership) → one ≡ Some membership → endpoint_group_of membership ≡ at)
    → endpoint_group_order endpoint_group at ≡ Less → AreAfter endpoint_group rest → AreAfter endpoint_group (cons_option one rest)
AreAfter-cons_option endpoint_group at None rest its before after = after
AreAfter-cons_option endpoint_group at (Some membership) rest its before after = (ap (endpoint_group_order endpoint_group) (its membership refl) ∙ before, after)

AreAfter-filter_map : (given : EndpointGroup → Option Membership) → GivesItsEndpointGroup given → (endpoint_group : EndpointGroup) (endpoint_groups : List EndpointGroup) → AllByRecursion (λ later. endpoint_group_order endpoint_group later ≡ Less) endpoint_groups
    → AreAfter endpoint_group (filter_map given endpoint_groups)
AreAfter-filter_map given its endpoint_group [] before = tt
AreAfter-filter_map given its endpoint_group (at ∷ endpoint_groups) before =
    AreAfter-cons_option endpoint_group at (given at) (filter_map given endpoint_groups) (its at) before.0 (AreAfter-filter_map given its endpoint_group endpoint_groups before.1)

pub IsAscending-cons_option : (at : EndpointGroup) (one : Option Membership) (rest : List Membership) → ((membership : Membership) → one ≡ Some membership → endpoint_group_of membership ≡ at) → AreAfter at rest → IsAscending membership_order rest
    → IsAscending membership_order (cons_option one rest)
unfolding IsStrictlySortedBy
IsAscending-cons_option at None rest its after ascends = ascends
IsAscending-cons_option at (Some membership) rest its after ascends =
    (rw (sym (its membership refl)) at after, ascends)

pub IsAscending-filter_map : (given : EndpointGroup → Option Membership) → GivesItsEndpointGroup given → (endpoint_groups : List EndpointGroup) → IsAscending endpoint_group_order endpoint_groups → IsAscending membership_order (filter_map given endpoint_groups)
unfolding IsStrictlySortedBy
IsAscending-filter_map given its [] ascends = tt
IsAscending-filter_map given its (at ∷ endpoint_groups) ascends =
    IsAscending-cons_option at (given at) (filter_map given endpoint_groups) (its at) (AreAfter-filter_map given its at endpoint_groups ascends.0) (IsAscending-filter_map given its endpoint_groups ascends.1)

-- no record is on the group of a pair that none names
pub on_group-none : (endpoint : EndpointValue) (records : List Record) (endpoint_group : EndpointGroup) → same_endpoint endpoint_group.endpoint endpoint ≡ true → has endpoint_group_order (endpoint_groups_of endpoint records) endpoint_group ≡ false
    → on_group endpoint_group.group records ≡ []
on_group-none endpoint [] endpoint_group same none = refl
on_group-none endpoint (first ∷ later) endpoint_group same none =
    let both = or_parts _ _ none in
    let apart : same_group endpoint_group.group first.group ≡ false =
    ap (λ (test : Bool). test && same_group endpoint_group.group first.group) (sym same) ∙ sym (same_endpoint_group-is endpoint_group (record { endpoint = endpoint; group = first.group })) ∙ both.0 in
    rw apart (on_group-none endpoint later endpoint_group same both.1)

records_at-none : (endpoint : EndpointValue) (records : List Record) (at : ℕ) (endpoint_group : EndpointGroup) → has endpoint_group_order (endpoint_groups_of endpoint records) endpoint_group ≡ false
    → records_at endpoint_group (Reported endpoint records at) ≡ []
records_at-none endpoint records at endpoint_group none = elim (cases_Bool (same_endpoint endpoint_group.endpoint endpoint)) [
  | inl same ↦ rw (same, on_group-none endpoint records endpoint_group same none) refl
  | inr apart ↦ rw apart refl
]

cleared_by : (here fresh : Bool) (endpoint_group : EndpointGroup) (chained other : List Record) → filter_by_records other ≡ nothing
    → filter_by_records (cond (not (is_empty (cond here (leaving endpoint_group.group ∷ []) []))) (cond fresh (cond here (leaving endpoint_group.group ∷ []) [] ++ chained) []) other) ≡ nothing
cleared_by true true endpoint_group chained other none = refl
cleared_by true false endpoint_group chained other none = refl
cleared_by false fresh endpoint_group chained other none = none

-- nothing is wanted where no report names the pair
unnamed : (lifetime moment : ℕ) (past : List Change) (endpoint_group : EndpointGroup) → has endpoint_group_order (endpoint_groups_in past) endpoint_group ≡ false → filter_by_records (live_chain lifetime endpoint_group moment past) ≡ nothing
unnamed lifetime moment [] endpoint_group none = refl
unnamed lifetime moment (Reported endpoint records at ∷ older) endpoint_group none =
    let both = or_parts (has endpoint_group_order (endpoint_groups_of endpoint records) endpoint_group) (has endpoint_group_order (endpoint_groups_in older) endpoint_group)
    (sym (has-append endpoint_group_order (endpoint_groups_of endpoint records) (endpoint_groups_in older) endpoint_group) ∙ none) in
    rw (records_at-none endpoint records at endpoint_group both.0) (unnamed lifetime moment older endpoint_group both.1)
unnamed lifetime moment (Clear endpoint at ∷ older) endpoint_group none =
    cleared_by (same_endpoint endpoint_group.endpoint endpoint) (ltb moment (latest (Clear endpoint at ∷ older) + lifetime)) endpoint_group
    (live_chain lifetime endpoint_group (latest (Clear endpoint at ∷ older)) older) (live_chain lifetime endpoint_group moment older) (unnamed lifetime moment older endpoint_group none)
unnamed lifetime moment (Mark at ∷ older) endpoint_group none = unnamed lifetime moment older endpoint_group none

-- there is no membership where no report names the pair
pub bare : (lifetime moment : ℕ) (past : List Change) (endpoint_group : EndpointGroup) → has endpoint_group_order (endpoint_groups_in past) endpoint_group ≡ false → membership_at lifetime moment past endpoint_group ≡ None
bare lifetime moment past endpoint_group none =
    membership_at-is lifetime moment past endpoint_group ∙ ap (λ (filter : FilterValue). membership_of endpoint_group filter (renewed_at endpoint_group past)) (unnamed lifetime moment past endpoint_group none)

listed_by : (listed : Bool) (found : Option Membership) → (listed ≡ false → found ≡ None) → cond listed found None ≡ found
listed_by true found none = refl
listed_by false found none = sym (none refl)

pub AreMembershipsAt-memberships_at : (lifetime moment : ℕ) (log : List Change) → AreMembershipsAt lifetime moment (reverse log) (memberships_at lifetime moment log)
AreMembershipsAt-memberships_at lifetime moment log =
    let past = reverse log in
    let endpoint_groups = endpoint_groups_in past in
    let its = GivesItsEndpointGroup-membership_at lifetime moment past in record {
      ascend = IsAscending-filter_map (membership_at lifetime moment past) its (ascending endpoint_group_order endpoint_groups) (IsAscending-ascending endpoint_group_order-total endpoint_groups);
      each = λ endpoint_group. membership_in-filter_map (membership_at lifetime moment past) its (ascending endpoint_group_order endpoint_groups) endpoint_group
          ∙ ap (λ (listed : Bool). cond listed (membership_at lifetime moment past endpoint_group) None) (has-ascending endpoint_group_order-total endpoint_groups endpoint_group)
          ∙ listed_by (has endpoint_group_order endpoint_groups endpoint_group) (membership_at lifetime moment past endpoint_group) (bare lifetime moment past endpoint_group);
    }

-- memberships that are those of each pair are the memberships by the log
pub rows_are : (lifetime moment : ℕ) (log : List Change) (rows : List Membership) → AreMembershipsAt lifetime moment (reverse log) rows → rows ≡ memberships_at lifetime moment log
rows_are lifetime moment log rows are =
    let by_log = AreMembershipsAt-memberships_at lifetime moment log in
    same_rows rows (memberships_at lifetime moment log) are.ascend by_log.ascend (λ endpoint_group. are.each endpoint_group ∙ sym (by_log.each endpoint_group))
