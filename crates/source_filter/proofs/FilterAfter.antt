-- What a filter admits after a record, and that its sources ascend.
use Rattle.std.proofs.Common.{◌≡◌, Bool, true, false, not, ◌&&◌, ◌||◌, if◌then◌else◌, List, ◌++◌, refl, ap, ◌∙◌}
use Rattle.amt_values.{specs.{declared.address.Ip.{Ip}, Order.{ip_order}, Ascending.{IsAscending, has}}, proofs.{Orders.{ip_order-total, ip_order-exact}, AscendingLaws.{has-ascending, has-union, has-difference, IsAscending-ascending, IsAscending-filter}}}
use Rattle.source_filter.specs.{Filter.{FilterValue, admits, admits_by, filter_after, mode_after, ascending_sources, sources_after}, Record.{is_full, lists, says, says_by, speaks}, declared.mode.Mode.{Mode, TheVariants.{Include, Exclude}}, declared.record.{Record.{Record}, RecordKind.{RecordKind, TheVariants.{IsIn, IsEx, ToIn, ToEx, Allow, Block}}}}

IsAscending-sources_after : (kind : RecordKind) (mode : Mode) (old listed : List Ip) → IsAscending ip_order old → IsAscending ip_order (sources_after kind mode old listed)
IsAscending-sources_after Allow Include old listed ascends = IsAscending-ascending ip_order-total (old ++ listed)
IsAscending-sources_after Allow Exclude old listed ascends = IsAscending-filter ip_order (λ x. not (has ip_order listed x)) old ascends
IsAscending-sources_after Block Include old listed ascends = IsAscending-filter ip_order (λ x. not (has ip_order listed x)) old ascends
IsAscending-sources_after Block Exclude old listed ascends = IsAscending-ascending ip_order-total (old ++ listed)
IsAscending-sources_after full mode old listed ascends = IsAscending-ascending ip_order-total listed

pub IsAscending-filter_after : (filter : FilterValue) (change : Record) → IsAscending ip_order filter.sources → IsAscending ip_order (filter_after filter change).sources
IsAscending-filter_after filter change ascends = IsAscending-sources_after change.kind filter.mode filter.sources change.sources ascends

added : (was listed : Bool) → (was || listed) ≡ (if listed then true else was)
added true true = refl
added true false = refl
added false true = refl
added false false = refl

removed : (was listed : Bool) → (was && not listed) ≡ (if listed then false else was)
removed true true = refl
removed true false = refl
removed false true = refl
removed false false = refl

readmitted : (was listed : Bool) → not (was && not listed) ≡ (if listed then true else not was)
readmitted true true = refl
readmitted true false = refl
readmitted false true = refl
readmitted false false = refl

excluded : (was listed : Bool) → not (was || listed) ≡ (if listed then false else not was)
excluded true true = refl
excluded true false = refl
excluded false true = refl
excluded false false = refl

-- the list loses only repeats
pub lists-ascending : (listed : List Ip) (source : Ip) → lists (ascending_sources listed) source ≡ lists listed source
lists-ascending listed source = has-ascending ip_order-total listed source

admitted : (kind : RecordKind) (mode : Mode) (old listed : List Ip) (source : Ip) → admits_by (mode_after kind mode) (lists (sources_after kind mode old listed) source)
    ≡ (if is_full kind || lists listed source then says_by kind (lists listed source) else admits_by mode (lists old source))
admitted IsIn mode old listed source = lists-ascending listed source
admitted IsEx mode old listed source = ap not (lists-ascending listed source)
admitted ToIn mode old listed source = lists-ascending listed source
admitted ToEx mode old listed source = ap not (lists-ascending listed source)
admitted Allow Include old listed source = has-union ip_order-total old listed source ∙ added (lists old source) (lists listed source)
admitted Allow Exclude old listed source = ap not (has-difference ip_order-exact old listed source) ∙ readmitted (lists old source) (lists listed source)
admitted Block Include old listed source = has-difference ip_order-exact old listed source ∙ removed (lists old source) (lists listed source)
admitted Block Exclude old listed source = ap not (has-union ip_order-total old listed source) ∙ excluded (lists old source) (lists listed source)

pub admits-filter_after : (filter : FilterValue) (change : Record) (source : Ip) → admits (filter_after filter change) source ≡ (if speaks change source then says change source else admits filter source)
admits-filter_after filter change source = admitted change.kind filter.mode filter.sources change.sources source

pub admits-named : (filter : FilterValue) (change : Record) (after : FilterValue) → after ≡ filter_after filter change → (source : Ip) → speaks change source ≡ true
    → admits after source ≡ says change source
admits-named filter change after is source told =
    ap (λ (f : FilterValue). admits f source) is ∙ admits-filter_after filter change source
    ∙ ap (λ t. if t then says change source else admits filter source) told

pub admits-others : (filter : FilterValue) (change : Record) (after : FilterValue) → after ≡ filter_after filter change → (source : Ip) → speaks change source ≡ false
    → admits after source ≡ admits filter source
admits-others filter change after is source untold =
    ap (λ (f : FilterValue). admits f source) is ∙ admits-filter_after filter change source
    ∙ ap (λ t. if t then says change source else admits filter source) untold
