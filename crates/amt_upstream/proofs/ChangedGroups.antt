-- Only groups that change have records, and what a group's changes name is all that may differ of its filter.
use Rattle.std.{proofs.{Common.{◌≡◌, Bool, true, false, cond, List, [], ◌∷◌, ◌++◌, filter, map, All, refl, sym, ap, ◌∙◌}, lemmas.{Bool.{and_right, or_from, or_parts, true≢false}, Cmp.{tied_itself}, List.{map-append, Elements.{All-head, All-tail}}, Map.Views.{tells_apart}}}, specs.{List.{flat_map}, Ordering.{is_eq}}}
use Rattle.amt_values.{specs.{declared.address.Ip.{Ip}, Order.{ip_order}, Ascending.{IsAscending, has}}, proofs.{Orders.{ip_order-exact, ip_order-total}, AscendingLaws.{IsAscending-ascending, flat_map-same, has-append, has-ascending}}}
use Rattle.source_filter.{specs.{Changes.{changes_on}, Merging.{merged}, Record.{lists}, declared.mode.Mode.TheVariants.{Include}}, proofs.Unchanged.{changes_on-itself}}
use Rattle.endpoint_membership.{specs.{EndpointGroup.{EndpointGroup, same_endpoint, same_endpoint_group, same_group}, Membership.{Membership, membership_order}, MembershipChanges.{AreChanges, IsChange, changed_pair, changes_pair, filter_at}, declared.membership_change.MembershipChange.{MembershipChange}}, proofs.EndpointGroupOrder.{endpoint_group_order-exact, same_endpoint_group-is}}
use Rattle.amt_upstream.{specs.{Looking.{changed_groups, changes_on_group, named_by, seen, seen_after, sources_if}, Upstream.{records_on, records_between, filters_in, groups_in, joined}}, proofs.{GroupFilters.{IsUnion-merged, filters_in-none, filters_in-same, some_lists-same}, Narrowed.{Agree, changes_on-seen}}}

-- ---- a filter that stays has no record

none_of : (rows : List Membership) (groups : List Ip) → flat_map (records_on rows rows) groups ≡ []
none_of rows [] = refl
none_of rows (group ∷ more) = let filter = joined rows group in rw (changes_on-itself filter group) (none_of rows more)

-- memberships that stay as they are bring no record
pub records_between-itself : (rows : List Membership) → records_between rows rows ≡ []
unfolding records_between
records_between-itself rows = none_of rows (groups_in (rows ++ rows))

-- ---- what the changes of a group leave as it was

unnamed_by : (here : Bool) (first : MembershipChange) (rest : List MembershipChange) (source : Ip) → lists (named_by (cond here (first ∷ rest) rest)) source ≡ false
    → (lists (named_by rest) source ≡ false) × (here ≡ true → (lists (sources_if first.before) source ≡ false) × (lists (sources_if first.after) source ≡ false))
unnamed_by true first rest source unnamed =
    let both = or_parts (lists (sources_if first.before ++ sources_if first.after) source) _ (sym (has-append ip_order (sources_if first.before ++ sources_if first.after) (named_by rest) source) ∙ unnamed) in
    let its = or_parts (lists (sources_if first.before) source) _ (sym (has-append ip_order (sources_if first.before) (sources_if first.after) source) ∙ both.0) in
    (both.1, λ here. its)
unnamed_by false first rest source unnamed = (unnamed, λ here. absurd (true≢false (sym here)))

not_changed : (at : EndpointGroup) (changes : List MembershipChange) → has ip_order (map (λ change. change.group) changes) at.group ≡ false → changes_pair changes at ≡ false
not_changed at [] apart = refl
not_changed at (first ∷ rest) apart =
    let parts = or_parts (same_group at.group first.group) (has ip_order (map (λ (change : MembershipChange). change.group) rest) at.group) apart in
    or_from (same_endpoint_group at (changed_pair first)) (changes_pair rest at)
    (same_endpoint_group-is at (changed_pair first) ∙ and_right (same_endpoint at.endpoint first.endpoint) (same_group at.group first.group) parts.0) (not_changed at rest parts.1)

module _ (before after : List Membership) where
  abbrev ListsAlike : Ip → EndpointGroup → Type 0
  ListsAlike source at = lists (sources_if (filter_at before at)) source ≡ lists (sources_if (filter_at after at)) source

  alike_by : (here : Bool) (at : EndpointGroup) (source : Ip) (change : MembershipChange) → IsChange before after change → (here ≡ true → at ≡ changed_pair change)
      → (here ≡ true → (lists (sources_if change.before) source ≡ false) × (lists (sources_if change.after) source ≡ false)) → (here ≡ false → ListsAlike source at) → ListsAlike source at
  alike_by true at source change is same none later =
      let both = none refl in
      rw (same refl) (sym (ap (λ wanted. lists (sources_if wanted) source) is.was) ∙ both.0 ∙ sym both.1 ∙ ap (λ wanted. lists (sources_if wanted) source) is.is)
  alike_by false at source change is same none later = later refl

  -- a source that the changes don't name is listed by a pair's filter before where it is by the one after
  alike : (changes : List MembershipChange) (source : Ip) (at : EndpointGroup) → All (IsChange before after) changes → lists (named_by (changes_on_group at.group changes)) source ≡ false
      → (changes_pair changes at ≡ false → ListsAlike source at) → ListsAlike source at
  alike [] source at all unnamed others = others refl
  alike (first ∷ rest) source at all unnamed others =
      let parts = unnamed_by (same_group at.group first.group) first (changes_on_group at.group rest) source unnamed in
      let same = tells_apart endpoint_group_order-exact at (changed_pair first) in
      let is_here = λ (here : same_endpoint_group at (changed_pair first) ≡ true). ap (λ (one : EndpointGroup). same_group at.group one.group) (sym (same here)) ∙ ap is_eq (tied_itself ip_order-total at.group) in
      alike_by (same_endpoint_group at (changed_pair first)) at source first (All-head (IsChange before after) first rest all) same (λ here. parts.1 (is_here here))
      (λ apart. alike rest source at (All-tail (IsChange before after) first rest all) parts.0 (λ more. others (or_from (same_endpoint_group at (changed_pair first)) (changes_pair rest at) apart more)))

  module _ (changes : List MembershipChange) (first : IsAscending membership_order before) (second : IsAscending membership_order after) (are : AreChanges before after changes) where
    -- a group without a change has the same filter
    filters_in-unchanged : (group : Ip) → has ip_order (changed_groups changes) group ≡ false → filters_in group before ≡ filters_in group after
    filters_in-unchanged group apart =
        filters_in-same group before after first second (λ at here. are.others at (not_changed at changes
        (ap (has ip_order (map (λ (change : MembershipChange). change.group) changes)) (sym (tells_apart ip_order-exact group at.group here)) ∙ sym (has-ascending ip_order-total (map (λ (change : MembershipChange). change.group) changes) group) ∙ apart)))

    same_records : (group : Ip) → filters_in group before ≡ filters_in group after → records_on before after group ≡ []
    same_records group same =
        ap (λ filters. changes_on (joined before group) (merged filters) group) (sym same) ∙ changes_on-itself (joined before group) group

    -- the records are those of the groups that change
    pub records_between-changed : records_between before after ≡ flat_map (records_on before after) (changed_groups changes)
    unfolding records_between
    records_between-changed =
        let groups = map (λ (membership : Membership). membership.group) in
        flat_map-same ip_order-total ip_order-exact (records_on before after) (groups_in (before ++ after)) (changed_groups changes) (IsAscending-ascending ip_order-total (groups (before ++ after)))
        (IsAscending-ascending ip_order-total (map (λ (change : MembershipChange). change.group) changes))
        (λ group apart.
        let parts = or_parts (has ip_order (groups before) group) (has ip_order (groups after) group)
        (sym (has-append ip_order (groups before) (groups after) group) ∙ ap (λ all. has ip_order all group) (sym (map-append (λ (membership : Membership). membership.group) before after)) ∙ sym (has-ascending ip_order-total (groups (before ++ after)) group) ∙ apart) in
        same_records group (filters_in-none group before parts.0 ∙ sym (filters_in-none group after parts.1)))
        (λ group apart. same_records group (filters_in-unchanged group apart))

    agree : (group : Ip) → (joined before group).mode ≡ Include → (joined after group).mode ≡ Include
        → Agree (named_by (changes_on_group group changes)) (joined before group).sources (joined after group).sources
    agree group included includes =
        let old = IsUnion-merged (filters_in group before) included in
        let new = IsUnion-merged (filters_in group after) includes in
        record {
          old_ascends = old.ascends;
          new_ascends = new.ascends;
          each = λ source unnamed. old.each source
              ∙ some_lists-same group source before after first second
              (λ at here. alike changes source at are.each (ap (λ one. lists (named_by (changes_on_group one changes)) source) (sym (tells_apart ip_order-exact group at.group here)) ∙ unnamed)
              (λ apart. ap (λ wanted. lists (sources_if wanted) source) (are.others at apart)))
              ∙ sym (new.each source);
        }

    -- the records of a group by what is looked at of its filters
    pub records_on-seen : (group : Ip) (named : List Ip) → named ≡ named_by (changes_on_group group changes)
        → changes_on (seen named (joined before group)) (seen_after (joined before group).mode named (joined after group)) group ≡ records_on before after group
    records_on-seen group named are_named =
        rw are_named (changes_on-seen (named_by (changes_on_group group changes)) (joined before group) (joined after group) group (agree group))
