use Rattle.std.proofs.Common.{◌≤◌, length, arith}
use Rattle.relay_load.proofs.ReportLengths.{short-datagram, short-report}
use Rattle.relay_load.proofs.record.write_report.Goals as goal

pub write_inner4-requires : goal.write_inner4-requires
write_inner4-requires c =
    let short = short-report c.args.excludes c.args.group _ _ _ _ c.in_ok-records.ensures c.in_ok-record_with.ensures c.in_ok-push.ensures.ok c.in_ok-report.ensures.length in
    rw c.as_slice.ensures (omega (arith, short))

pub returns-clause-short : goal.returns-clause-short
returns-clause-short c =
    let short = short-report c.args.excludes c.args.group _ _ _ _ c.in_ok-records.ensures c.in_ok-record_with.ensures c.in_ok-push.ensures.ok c.in_ok-report.ensures.length in
    let carried : length c.as_slice.result.now ≤ 20 = rw c.as_slice.ensures short in
    short-datagram _ _ c.as_slice.result.now c.write_inner4.result carried c.write_inner4.ensures.written
