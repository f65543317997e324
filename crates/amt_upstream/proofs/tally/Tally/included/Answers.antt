use Rattle.std.proofs.Common.{ap, ◌∙◌}
use Rattle.amt_values.specs.{Order.{ip_order}, Ascending.{has}}
use Rattle.amt_upstream.proofs.GroupRange.{included_filter}
use Rattle.amt_upstream.proofs.tally.Tally.included.Goals as goal

pub returns : goal.returns
returns c rows numbers in_order none =
    included_filter rows c.args.self.now.numbers c.args.group.now c.as_slice.result.now c.new.result numbers in_order none
    (λ source. ap (λ sources. has ip_order sources source) c.as_slice.ensures.value ∙ c.in_ok-sources.ensures source) c.new.ensures.mode c.new.ensures.ascending c.new.ensures.listed
