use Rattle.std.proofs.{lemmas.{Grind.{common_steps}, List.Elements.{All-more}}, Common.{arith}}
use Rattle.group_records.specs.Written.{FitsOctets}
use Rattle.group_records.proofs.writing.append_sources.Goals as goal

pub loop-source-preserved : goal.loop-source-preserved
loop-source-preserved c = record {
  fit = All-more FitsOctets c.args.sources.now c.loop-source.source-index _ c.loop-source-test.true c.loop-source.invariant.fit c.in_ok-append_address.ensures.fits;
  written = grind (arith, common_steps);
}
