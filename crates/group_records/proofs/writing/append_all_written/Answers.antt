use Rattle.std.proofs.{Common.{subst, arith}, lemmas.{Grind.{common_steps}, List.Elements.{All-more}}}
use Rattle.group_records.specs.Written.{HasFittingAddresses}
use Rattle.group_records.proofs.writing.append_all_written.Goals as goal

pub loop-group_record-preserved : goal.loop-group_record-preserved
loop-group_record-preserved c =
    let here = subst HasFittingAddresses c.group_record-item.is c.in_ok-append_written.ensures.fit in
    record {
      fit = All-more HasFittingAddresses c.args.records.now c.loop-group_record.group_record-index c.group_record-item.result c.loop-group_record-test.true c.loop-group_record.invariant.fit here;
      written = grind (arith, common_steps);
    }
