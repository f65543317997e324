use Rattle.std.{proofs.Common.{◌≡◌, take}, specs.Option.{IfSome}}
use Rattle.amt_values.specs.{Order.{ip_order}, Ascending.{IsAscending}}
use Rattle.source_filter.specs.Merging.{exclude_lists, intersection_of}
use Rattle.source_filter.proofs.merging.excluded_sources.Given as goal

abbrev pub invariant-loop-filter : goal.invariant-loop-filter
invariant-loop-filter l = record {
  value : l.excluded ≡ intersection_of (exclude_lists (take l.filter-index l.filters));
  ascending : IfSome l.excluded (IsAscending ip_order);
}
