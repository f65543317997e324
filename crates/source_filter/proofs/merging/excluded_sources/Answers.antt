use Rattle.std.{proofs.Common.{List, Option, ◌++◌, ap, ◌∙◌}, specs.Option.{option_to_list}}
use Rattle.amt_values.specs.declared.address.Ip.{Ip}
use Rattle.source_filter.{specs.Merging.{exclude_list, intersection_of}, proofs.MergedFilters.{intersection_of-more}}
use Rattle.source_filter.proofs.merging.excluded_sources.Goals as goal

pub loop-filter-preserved : goal.loop-filter-preserved
loop-filter-preserved c =
    let next = c.filter-item.result in
    record {
      value = c.in_ok-excluded.ensures.value
          ∙ ap (λ (before : Option (List Ip)). intersection_of (option_to_list before ++ exclude_list next.mode next.sources)) c.loop-filter.invariant.value
          ∙ intersection_of-more c.args.filters.now c.loop-filter.filter-index next c.loop-filter-test.true c.filter-item.is;
      ascending = c.in_ok-excluded.ensures.ascending;
    }
