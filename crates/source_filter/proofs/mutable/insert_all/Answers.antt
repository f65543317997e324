use Rattle.std.proofs.Common.{true, ap, take, ◌∙◌, take_all}
use Rattle.amt_values.specs.{Order.{ip_order}, Ascending.{union}}
use Rattle.source_filter.proofs.{Compared.{compared}, SourceSets.{IsHeld-more, put_in, one_in, union_held}}
use Rattle.source_filter.proofs.mutable.insert_all.Goals as goal

pub loop-source-preserved : goal.loop-source-preserved
loop-source-preserved c =
    IsHeld-more put_in true one_in _ c.args.sources.now.keys c.args.listed.now c.loop-source.source-index c.loop-source.sources c.insert.new.self compared
    c.insert.ensures.ordered c.in-Ok.ensures.updates c.loop-source-test.true c.loop-source.invariant

pub returns-clause-listed : goal.returns-clause-listed
returns-clause-listed c =
    union_held c.args.sources.now.keys (take c.loop-source.source-index c.args.listed.now) c.loop-source.sources.keys c.loop-source.invariant
    ∙ ap (union ip_order c.args.sources.now.keys) (take_all c.loop-source.source-index c.args.listed.now c.loop-source-test.false)
