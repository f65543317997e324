-- The filter of a group for all sockets: its sources are such as those of the sockets are.
use Rattle.std.{proofs.{Common.{◌≡◌, not, false, List, [], ◌∷◌, ◌++◌, sym, ◌∙◌}, lemmas.{Bool.{or_parts}, List.Elements.{All-cons, All-filter, All-head, All-map, All-nil, All-tail}}}, specs.List.{All}}
use Rattle.amt_values.{specs.{Order.{ip_order}, declared.address.Ip.{Ip}, Ascending.{IsAscending, has, intersection}}, proofs.{Orders.{ip_order-total}, AscendingLaws.{IsAscending-ascending, IsAscending-filter, has-append}}}
use Rattle.source_filter.{specs.{Filter.{FilterValue, nothing}, Merging.{all_sources, common_sources, exclude_list, exclude_lists, include_lists, intersection_of, merged, merged_by, union_of}, declared.mode.Mode.{Mode, TheVariants.{Include, Exclude}}}}
use Rattle.group_records.specs.declared.family.Family.{Family}
use Rattle.socket_merge.{specs.{History.{AcceptedCall, group_opened, groups_opened, open_sockets}, declared.stored.Socket.{Socket}, Interface.{filters_on, interface, on_group, same_group}}, proofs.ByGroup.{unwanted}}
use Rattle.amt_pair.proofs.{Histories.{IsFilterOf, IsHistoryOf, IsSocketOf}, MadeGood.{unwanted-nothing}}

-- ---- merged filters ascend

abbrev Ascends : List Ip → Type 0
Ascends sources = IsAscending ip_order sources

abbrev HasAscending : FilterValue → Type 0
HasAscending filter = Ascends filter.sources

ascending-common : (first : List Ip) (more : List (List Ip)) → Ascends first → Ascends (common_sources first more)
ascending-common first [] ascends = ascends
ascending-common first (next ∷ more) ascends =
    ascending-common (intersection ip_order first next) more (IsAscending-filter ip_order (λ source. has ip_order next source) first ascends)

ascending-first : (mode : Mode) (sources : List Ip) (more : List (List Ip)) → Ascends sources → All Ascends more → All Ascends (exclude_list mode sources ++ more)
ascending-first Include sources more here all = all
ascending-first Exclude sources more here all = All-cons Ascends sources more here all

ascending-excluded : (filters : List FilterValue) → All HasAscending filters → All Ascends (exclude_lists filters)
ascending-excluded [] all = All-nil Ascends
ascending-excluded (first ∷ more) all =
    ascending-first first.mode first.sources (exclude_lists more) (All-head HasAscending first more all) (ascending-excluded more (All-tail HasAscending first more all))

ascending-by : (excluded included : List (List Ip)) → All Ascends excluded → HasAscending (merged_by (intersection_of excluded) (union_of included))
ascending-by [] included all = IsAscending-ascending ip_order-total (all_sources included)
ascending-by (first ∷ more) included all =
    IsAscending-filter ip_order (λ source. not (has ip_order (union_of included) source)) (common_sources first more)
    (ascending-common first more (All-head Ascends first more all))

ascending-merged : (filters : List FilterValue) → All HasAscending filters → HasAscending (merged filters)
ascending-merged filters all = ascending-by (exclude_lists filters) (include_lists filters) (ascending-excluded filters all)

-- ---- the filters of a group's sockets

module _ (family : Family) (history : List AcceptedCall) (is : IsHistoryOf family history) where
  -- the filters of a group's sockets are such as sockets have
  pub filters-of : (group : Ip) → All (IsFilterOf family) (filters_on group (open_sockets history))
  filters-of group =
      let own = All-filter (λ (socket : Socket). same_group group socket.group) (IsSocketOf family) (open_sockets history) is.sockets in
      All-map (IsFilterOf family) (λ (socket : Socket). socket.filter) (on_group group (open_sockets history)) (λ k socket below. (own k socket below).filter)

  pub interface-ascends : (group : Ip) → Ascends (interface history group).sources
  interface-ascends group =
      ascending-merged (filters_on group (open_sockets history)) (λ k filter below. (filters-of group k filter below).is.ascending)

-- ---- a group that was never opened

-- nothing is wanted of a group that no socket was opened of
pub interface-unopened : (history : List AcceptedCall) (group : Ip) → has ip_order (groups_opened history) group ≡ false → interface history group ≡ nothing
interface-unopened history group none = unwanted-nothing (interface history group) (unwanted history group none)

-- and none before
pub unopened-before : (newest : AcceptedCall) (older : List AcceptedCall) (group : Ip) → has ip_order (groups_opened (newest ∷ older)) group ≡ false
    → has ip_order (groups_opened older) group ≡ false
unopened-before newest older group none =
    (or_parts (has ip_order (group_opened newest.call) group) (has ip_order (groups_opened older) group)
    (sym (has-append ip_order (group_opened newest.call) (groups_opened older) group) ∙ none)).1
