use Rattle.group_records.proofs.ReportReadings.{first_report_fault-none, report_of-report, IsReport_once}
use Rattle.group_records.proofs.laws.payloads_are_read_as_their_reports.Goals as goal

pub returns-clause-one : goal.returns-clause-one
returns-clause-one c = IsReport_once

pub returns-clause-spelled : goal.returns-clause-spelled
returns-clause-spelled c = first_report_fault-none

pub returns-clause-reading : goal.returns-clause-reading
returns-clause-reading c = λ family pseudo_header payload records small. report_of-report family pseudo_header payload small records
