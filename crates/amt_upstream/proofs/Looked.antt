-- What is looked at of filters is found by the numbers, and is enough for the records.
use Rattle.std.proofs.Common.{◌≡◌, ◌≤◌, List, [], Option, refl, sym, ap, ◌∙◌}
use Rattle.std.{proofs.lemmas.List.Elements.{All-nil}, specs.{List.{filter}, List.Sorted.{IsStrictlySortedBy}}}
use Rattle.amt_values.specs.{declared.address.Ip.{Ip}, EndpointValue.{EndpointValue}, Ascending.{IsAscending}}
use Rattle.source_filter.{specs.{Changes.{changes_on}, Filter.{FilterValue, ascending_sources}, declared.mode.Mode.{Mode, TheVariants.{Include, Exclude}}}, proofs.SourceSets.{listing}}
use Rattle.endpoint_membership.specs.{Membership.{Membership, membership_order}, MembershipChanges.{IsChange, filter_at}, declared.membership_change.MembershipChange.{MembershipChange}}
use Rattle.endpoint_membership.proofs.OwnFilters.{pair}
use Rattle.amt_upstream.{specs.{Counting.{AreInOrder, AreNumbers, Numbers, number}, Looking.{IsAfter, IsChangedGroupOf, is_common, is_included, seen, seen_after, seen_by, sources_if}, Upstream.{records_on, joined}, declared.{count_key.Counted.TheVariants.{Excluder}, changed_group.ChangedGroup.{ChangedGroup}}}, proofs.{ChangedGroups.{records_on-seen}, JoinedByNumbers.{excluder-found, excludes-none, joined-common, seen-included}}}

whole_by : (mode : Mode) (named sources : List Ip) → listing Exclude sources ≡ seen_after mode named (listing Exclude sources)
whole_by Include named sources = refl
whole_by Exclude named sources = refl

mode-seen_by : (mode : Mode) (named sources : List Ip) → (seen_by mode named (listing mode sources)).mode ≡ mode
mode-seen_by Include named sources = refl
mode-seen_by Exclude named sources = refl

module _ (before : List Membership) (changes : List MembershipChange) (tally : Numbers) (after : List Membership) (is : IsAfter before changes tally after) (group : Ip) where
  -- by the list of one that excludes
  pub look-common : (endpoint : EndpointValue) (its : Option FilterValue) (mode : Mode) (named : List Ip) → 1 ≤ number tally (record { group = group; counted = Excluder endpoint })
      → its ≡ filter_at after (pair endpoint group) → listing Exclude (filter (is_common tally group) (sources_if its)) ≡ seen_after mode named (joined after group)
  look-common endpoint its mode named counted same =
      let excluding = excluder-found after tally is.numbers group is.in_order is.ascends endpoint counted in
      let found : listing Exclude (filter (is_common tally group) (sources_if its)) ≡ joined after group =
      ap (λ (one : Option FilterValue). listing Exclude (filter (is_common tally group) (sources_if one))) (same ∙ excluding.found)
      ∙ sym (joined-common after tally is.numbers group is.in_order endpoint excluding.filter excluding.found excluding.excludes) in
      rw (← found) (whole_by mode named (filter (is_common tally group) (sources_if its)))

  -- where none excludes, the named sources that some includes
  pub look-included : (named : List Ip) → ((endpoint : EndpointValue) → number tally (record { group = group; counted = Excluder endpoint }) ≡ 0)
      → listing Include (filter (is_included tally group) (ascending_sources named)) ≡ seen named (joined after group)
  look-included named none = sym (seen-included after tally is.numbers group is.in_order (excludes-none after tally is.numbers group is.in_order none) named)

-- nothing changes by no change
pub IsAfter-none : (rows : List Membership) (tally : Numbers) → IsAscending membership_order rows → AreNumbers rows tally → AreInOrder rows → IsAfter rows [] tally rows
unfolding IsStrictlySortedBy
IsAfter-none rows tally ascends numbers in_order = record {
  ascended = ascends;
  ascends = ascends;
  are_changes = record { ascend = tt; each = All-nil (IsChange rows rows); others = λ at none. refl };
  numbers = numbers;
  in_order = in_order;
}

-- the records of a side and what is looked at after it
pub changed-side : (before : List Membership) (changes : List MembershipChange) (tally : Numbers) (after : List Membership) (side : ChangedGroup) (mode : Mode) (found : FilterValue) → IsChangedGroupOf before changes side
    → IsAfter before changes tally after → mode ≡ side.before.mode → found ≡ seen_after mode side.named.items (joined after side.group)
    → changes_on side.before found side.group ≡ records_on before after side.group
changed-side before changes tally after side mode found side_is is same looked =
    let old = joined before side.group in
    let its_mode : mode ≡ old.mode = same ∙ ap (λ (one : FilterValue). one.mode) side_is.before ∙ mode-seen_by old.mode side.named.items old.sources in
    ap (λ (one : FilterValue). changes_on one found side.group) side_is.before
    ∙ ap (λ (one : FilterValue). changes_on (seen side.named.items old) one side.group) (looked ∙ ap (λ (one : Mode). seen_after one side.named.items (joined after side.group)) its_mode)
    ∙ records_on-seen before after changes is.ascended is.ascends is.are_changes side.group side.named.items side_is.named
