use Rattle.std.proofs.{Common.{rules, ap, ◌∙◌}, lemmas.Fn.{filter_same}}
use Rattle.std.specs.List.{filter}
use Rattle.amt_values.{specs.{Order.{ip_order}}, proofs.{Orders.{ip_order-exact, ip_order-total}, AscendingLaws.{IsAscending-filter, ascending-fixed}}}
use Rattle.source_filter.specs.{Filter.{ascending_sources}, declared.mode.Mode.TheVariants.{Exclude}}
use Rattle.amt_upstream.{specs.Looking.{is_common}, proofs.GroupRange.{made}}
use Rattle.amt_upstream.proofs.tally.Tally.common.Goals as goal

pub returns : goal.returns
returns c =
    let test = is_common c.args.self.now.numbers c.args.group.now in
    let sources = c.args.sources.now in
    let kept = c.as_slice.ensures.value ∙ filter_same _ test _ (λ x b f' k. search rules) _ _ c.retain.ensures.filtered ∙ ap (filter test) c.in_ok-common.ensures.items in
    made c.new.result Exclude c.as_slice.result.now (filter test sources) c.new.ensures.mode c.new.ensures.sources
    (ap ascending_sources kept ∙ ascending-fixed ip_order-total ip_order-exact (filter test sources) (IsAscending-filter ip_order test sources c.requires))
