use Rattle.std.proofs.Common.{List, ◌++◌, ap, ◌∙◌}
use Rattle.amt_values.specs.declared.address.Ip.{Ip}
use Rattle.source_filter.{specs.Merging.{include_list, all_sources}, proofs.MergedFilters.{all_sources-more}}
use Rattle.source_filter.proofs.merging.included_sources.Goals as goal

pub loop-filter-preserved : goal.loop-filter-preserved
loop-filter-preserved c =
    let next = c.filter-item.result in
    c.in_ok-append_included.ensures
    ∙ ap (λ (before : List Ip). before ++ all_sources (include_list next.mode next.sources)) c.loop-filter.invariant
    ∙ all_sources-more c.args.filters.now c.loop-filter.filter-index next c.loop-filter-test.true c.filter-item.is
