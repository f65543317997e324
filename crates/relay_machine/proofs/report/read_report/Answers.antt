use Rattle.std.proofs.Common.{◌∙◌}
use Rattle.relay_machine.proofs.Reports.{fault-carried, records-carried, report_in-carried, report_in-inner}
use Rattle.relay_machine.proofs.report.read_report.Goals as goal

pub returns-in-Err-clause-value : goal.returns-in-Err-clause-value
returns-in-Err-clause-value c = report_in-inner c.args.inner.now c.in-Err.fault c.in-Err.ensures.refused

pub returns-in-Ok-read_carried-clause-value : goal.returns-in-Ok-read_carried-clause-value
returns-in-Ok-read_carried-clause-value c =
    report_in-carried c.args.inner.now _ c.in-Ok.place c.in-Ok.ensures.refused c.in-Ok.ensures.value c.in-Ok.ensures.start c.split_at.ensures.back
    ∙ records-carried _ c.in-Ok-read_carried.records c.in-Ok-read_carried.ensures.value

pub returns-in-Err-Report-clause-value : goal.returns-in-Err-Report-clause-value
returns-in-Err-Report-clause-value c =
    let read = rw c.in-Err-Report.field-0-is at c.in-Err-Report.ensures.value in
    report_in-carried c.args.inner.now _ c.in-Ok.place c.in-Ok.ensures.refused c.in-Ok.ensures.value c.in-Ok.ensures.start c.split_at.ensures.back
    ∙ fault-carried _ c.in-Err-Report.fault read
