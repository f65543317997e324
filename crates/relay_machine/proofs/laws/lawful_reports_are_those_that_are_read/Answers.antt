use Rattle.relay_machine.proofs.Lawful.{lawful-report_in, report_in-lawful}
use Rattle.relay_machine.proofs.laws.lawful_reports_are_those_that_are_read.Goals as goal

pub returns : goal.returns
returns c inner records octets = (lawful-report_in inner records octets, report_in-lawful inner records)
