-- A filter that stays has no record.
use Rattle.std.proofs.Common.{◌≡◌, List, [], ◌++◌, ap}
use Rattle.amt_values.{specs.{declared.address.Ip.{Ip}}, proofs.{Orders.{ip_order-exact, ip_order-total}, AscendingLaws.{difference-itself}}}
use Rattle.source_filter.specs.{Changes.{changes_by, changes_on, record_of_some}, Filter.{FilterValue}, declared.mode.Mode.{Mode, TheVariants.{Include, Exclude}}, declared.record.RecordKind.TheVariants.{Allow, Block}}

by_mode : (mode : Mode) (sources : List Ip) (group : Ip) → changes_by mode mode group sources sources ≡ []
by_mode Include sources group = ap (λ (left : List Ip). record_of_some Allow group left ++ record_of_some Block group left) (difference-itself ip_order-total ip_order-exact sources)
by_mode Exclude sources group = ap (λ (left : List Ip). record_of_some Allow group left ++ record_of_some Block group left) (difference-itself ip_order-total ip_order-exact sources)

pub changes_on-itself : (filter : FilterValue) (group : Ip) → changes_on filter filter group ≡ []
changes_on-itself filter group = by_mode filter.mode filter.sources group
