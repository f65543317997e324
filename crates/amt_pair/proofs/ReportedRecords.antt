-- The records of a full report, and those of a change, by group.
use Rattle.std.{proofs.{Common.{◌≡◌, ◌≢◌, ℕ, ◌&&◌, Bool, false, List, [], ◌∷◌, ◌++◌, refl, sym, ap, ◌∙◌, append-nil, inl, inr}, lemmas.{Bool.{and_cases, false_from_ne_true, or_parts}, Cmp.{eq_by_cmp_equiv}, List.Elements.{filter-append}}}, specs.List.{All, flat_map}}
use Rattle.amt_values.{specs.{Order.{ip_order}, declared.address.Ip.{Ip}, Ascending.{IsAscending, ascending, has}}, proofs.{Orders.{ip_order-exact, ip_order-total}, AscendingLaws.{IsAscending-ascending, IsAscending-filter, flat_map-same, has-ascending, has-filter}}}
use Rattle.source_filter.{specs.{Changes.{changes_on}, Filter.{FilterValue}, declared.record.Record.{Record}}, proofs.{AppliedChanges.{changes-applied}, Unchanged.{changes_on-itself}}}
use Rattle.group_records.specs.{Written.{is_of_family}, declared.family.Family.{Family}}
use Rattle.endpoint_membership.specs.Log.{on_group}
use Rattle.socket_merge.{specs.{Changes.{change_records}, FullReport.{farewell, full_on, full_report_of, groups_of, is_recent, states}, History.{AcceptedCall, groups_opened}, Interface.{interface, is_wanted, left_at, same_group}}, proofs.{ByGroup.{never_left, unwanted}, Changed.{All-changes_by}, Reports.{all_by}, Wanted.{same_group-itself}}}
use Rattle.amt_pair.proofs.{Alone.{filter_every, filter_none}, Histories.{IsGroupOf, IsHistoryOf, has-such}, InterfaceFilters.{interface-ascends, interface-unopened, unopened-before}, MadeGood.{changes-none, unsaid}, Tunnel.{IsChanged, IsFull}}

-- ---- records by group

-- the record is on the group
abbrev IsOn : Ip → Record → Type 0
IsOn group group_record = group_record.group ≡ group

-- the records of a group are all of those on it
on-own : (group : Ip) (records : List Record) → All (IsOn group) records → on_group group records ≡ records
on-own group records all = filter_every (λ one. same_group group one.group) records (λ k one below. ap (same_group group) (all k one below) ∙ same_group-itself group)

on-other : (group other : Ip) (records : List Record) → same_group group other ≡ false → All (IsOn other) records → on_group group records ≡ []
on-other group other records apart all = filter_none (λ one. same_group group one.group) records (λ k one below. ap (same_group group) (all k one below) ∙ apart)

on-flat_map : (group : Ip) (f : Ip → List Record) (groups : List Ip) → on_group group (flat_map f groups) ≡ flat_map (λ one. on_group group (f one)) groups
on-flat_map group f [] = refl
on-flat_map group f (first ∷ more) =
    filter-append (λ (one : Record). same_group group one.group) (f first) (flat_map f more)
    ∙ ap (λ (rest : List Record). on_group group (f first) ++ rest) (on-flat_map group f more)

-- what is said group by group has on a group what is said of it
on-said : (f : Ip → List Record) (groups : List Ip) → IsAscending ip_order groups → ((group : Ip) → All (IsOn group) (f group))
    → ((group : Ip) → has ip_order groups group ≡ false → f group ≡ []) → (group : Ip) → on_group group (flat_map f groups) ≡ f group
on-said f groups ascends on unsaid group =
    let here : Ip → List Record = λ one. on_group group (f one) in
    on-flat_map group f groups
    ∙ flat_map-same ip_order-total ip_order-exact here groups (group ∷ []) ascends (IsAscending-ascending ip_order-total (group ∷ [])) (λ one none. ap (on_group group) (unsaid one none))
    (λ one none. on-other group one (f one) ((eq_by_cmp_equiv ip_order-total).symm group one ∙ (or_parts (same_group one group) false none).0) (on one))
    ∙ append-nil (here group)
    ∙ on-own group (f group) (on group)

module _ (family : Family) where
  groups-ascend : (history : List AcceptedCall) → IsAscending ip_order (groups_of family history)
  groups-ascend history =
      IsAscending-filter ip_order (is_of_family family) (ascending ip_order (groups_opened history)) (IsAscending-ascending ip_order-total (groups_opened history))

  -- a group that isn't among those of the family was never opened
  unopened-of : (history : List AcceptedCall) (group : Ip) → IsHistoryOf family history → has ip_order (groups_of family history) group ≡ false
      → has ip_order (groups_opened history) group ≡ false
  unopened-of history group of none =
      let opened = groups_opened history in
      let listed = ap (λ (here : Bool). here && is_of_family family group) (sym (has-ascending ip_order-total opened group)) in
      let both = sym (has-filter ip_order-exact (is_of_family family) (ascending ip_order opened) group) ∙ none in
      elim (and_cases (has ip_order opened group) (is_of_family family group) (listed ∙ both)) [
        | inl unopened ↦ unopened
        | inr other ↦ false_from_ne_true (has ip_order opened group) (λ is. let own = (has-such (IsGroupOf family) opened group of.groups is).own in cc)
      ]

  -- the records of a full report are those of each group
  pub full-is : (history : List AcceptedCall) (at keep : ℕ) → IsHistoryOf family history → IsFull history at keep (full_report_of family history at keep)
  unfolding full_report_of
  full-is history at keep of group =
      on-said (full_on history at keep) (groups_of family history) (groups-ascend history)
      (λ one. all_by (IsOn one) (is_wanted history one) (is_recent at keep (left_at history one)) one (interface history one) refl refl)
      (λ one none. let unopened = unopened-of history one of none in
      unsaid (is_wanted history one) (is_recent at keep (left_at history one)) (states one (interface history one) ∷ []) (farewell one ∷ [])
      (unwanted history one unopened) (ap (is_recent at keep) (never_left history one unopened))) group

  -- ---- what a call changed

  module _ (newest : AcceptedCall) (older : List AcceptedCall) (of : IsHistoryOf family (newest ∷ older)) where
    -- the change records are those of each group
    pub changed-is : (group : Ip) → on_group group (change_records family older (newest ∷ older)) ≡ changes_on (interface older group) (interface (newest ∷ older) group) group
    unfolding change_records
    changed-is group =
        on-said (λ one. changes_on (interface older one) (interface (newest ∷ older) one) one) (groups_of family (newest ∷ older)) (groups-ascend (newest ∷ older))
        (λ one. let before = interface older one in
        let after = interface (newest ∷ older) one in
        All-changes_by (IsOn one) one (λ source. source ≡ source) (λ kind sources all. refl) before.mode after.mode before.sources after.sources
        (λ k source below. refl) (λ k source below. refl))
        (λ one none. let unopened = unopened-of (newest ∷ older) one of none in
        changes-none (interface older one) (interface (newest ∷ older) one) one (interface-unopened older one (unopened-before newest older one unopened))
        (interface-unopened (newest ∷ older) one unopened)) group

    -- where there is none, no filter is another one
    pub unchanged : IsHistoryOf family older → change_records family older (newest ∷ older) ≡ [] → (group : Ip) → interface older group ≡ interface (newest ∷ older) group
    unchanged before none group =
        changes-applied (interface older group) (interface (newest ∷ older) group) group (interface-ascends family older before group)
        (interface-ascends family (newest ∷ older) of group) [] (sym (sym (changed-is group) ∙ ap (on_group group) none))

some-said_by : (f : Ip → List Record) (group : Ip) (here rest : List Record) (first : Record) (more : List Record) → f group ≡ here
    → (rest ≡ first ∷ more → (one : Ip) × (f one ≢ [])) → here ++ rest ≡ first ∷ more → (one : Ip) × (f one ≢ [])
some-said_by f group [] rest first more is later some = later some
some-said_by f group (one ∷ others) rest first more is later some = (group, λ none. cc)

some-said : (f : Ip → List Record) (groups : List Ip) (first : Record) (more : List Record) → flat_map f groups ≡ first ∷ more → (group : Ip) × (f group ≢ [])
some-said f [] first more some = absurd cc
some-said f (group ∷ groups) first more some =
    some-said_by f group (f group) (flat_map f groups) first more refl (some-said f groups first more) some

-- where there is one, some filter is another one
pub changed-some : (family : Family) (older newer : List AcceptedCall) (first : Record) (more : List Record) → change_records family older newer ≡ first ∷ more → IsChanged older newer
unfolding change_records
changed-some family older newer first more some =
    let found = some-said (λ group. changes_on (interface older group) (interface newer group) group) (groups_of family newer) first more some in
    let group = found.0 in
    (group, λ same. found.1 (ap (λ (filter : FilterValue). changes_on filter (interface newer group) group) same ∙ changes_on-itself (interface newer group) group))
