use Rattle.std.proofs.{Common.{rules, ap, ◌∙◌}, lemmas.Fn.{filter_same}}
use Rattle.std.specs.List.{filter}
use Rattle.source_filter.specs.{Filter.{ascending_sources}, declared.mode.Mode.TheVariants.{Include}}
use Rattle.amt_upstream.{specs.Looking.{is_included}, proofs.GroupRange.{ascending-filter, made}}
use Rattle.amt_upstream.proofs.tally.Tally.included_among.Goals as goal

pub returns : goal.returns
returns c =
    let test = is_included c.args.self.now.numbers c.args.group.now in
    let sources = c.args.sources.now in
    let kept = c.as_slice.ensures.value ∙ filter_same _ test _ (λ x b f' k. search rules) _ _ c.retain.ensures.filtered ∙ ap (filter test) c.in_ok-included.ensures.items in
    made c.new.result Include c.as_slice.result.now (filter test (ascending_sources sources)) c.new.ensures.mode c.new.ensures.sources (ap ascending_sources kept ∙ ascending-filter test sources)
