use Rattle.std.proofs.Common.{arith}
use Rattle.group_records.proofs.WrittenReport.{octets-few}
use Rattle.group_records.proofs.writing.report_length.Goals as goal

pub overflow_add-octets-in-loop-group_record-2 : goal.overflow_add-octets-in-loop-group_record-2
overflow_add-octets-in-loop-group_record-2 c =
    let octets = octets-few c.args.family c.args.records.now c.as_slice-group_record-items.result.now c.loop-group_record.group_record-index c.group_record-item.result
    c.loop-group_record.octets c.requires c.as_slice-group_record-items.ensures c.loop-group_record-test.true c.group_record-item.is c.loop-group_record.invariant in
    rw (c.len.ensures, c.width-width.ensures.value) (omega (arith, octets))
