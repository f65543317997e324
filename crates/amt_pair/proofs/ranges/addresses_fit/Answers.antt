use Rattle.std.proofs.lemmas.List.Elements.{All-more}
use Rattle.amt_values.specs.Address.{IsAddress}
use Rattle.amt_pair.proofs.ranges.addresses_fit.Goals as goal

pub loop-source-preserved : goal.loop-source-preserved
loop-source-preserved c = record {
  fit = All-more IsAddress c.args.sources.now c.loop-source.source-index _ c.loop-source-test.true c.loop-source.invariant.fit c.wire16-address.ensures.address;
}
