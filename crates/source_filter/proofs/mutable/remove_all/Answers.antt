use Rattle.std.proofs.Common.{false, ap, take, ◌∙◌, take_all}
use Rattle.amt_values.specs.{Order.{ip_order}, Ascending.{difference}}
use Rattle.source_filter.proofs.{Compared.{compared}, SourceSets.{IsHeld-more, taken_out, one_out, difference_held}}
use Rattle.source_filter.proofs.mutable.remove_all.Goals as goal

pub loop-source-preserved : goal.loop-source-preserved
loop-source-preserved c =
    IsHeld-more taken_out false one_out _ c.args.sources.now.keys c.args.listed.now c.loop-source.source-index c.loop-source.sources c.remove.new.self compared
    c.remove.ensures.ordered c.remove.ensures.updates c.loop-source-test.true c.loop-source.invariant

pub returns-clause-listed : goal.returns-clause-listed
returns-clause-listed c =
    difference_held c.args.sources.now.keys (take c.loop-source.source-index c.args.listed.now) c.loop-source.sources.keys c.requires c.loop-source.invariant
    ∙ ap (difference ip_order c.args.sources.now.keys) (take_all c.loop-source.source-index c.args.listed.now c.loop-source-test.false)
