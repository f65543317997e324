use Rattle.std.proofs.Common.{arith}
use Rattle.relay_load.proofs.ReportLists.{copied_report, copied_short, length-reports}
use Rattle.relay_load.proofs.reports.Reports.chosen.Goals as goal

pub bounds-reports-choice : goal.bounds-reports-choice
bounds-reports-choice c = let all = length-reports _ _ c.of_kind-reports.ensures in omega (arith, all, c.requires.group)

pub returns-clause-datagram : goal.returns-clause-datagram
returns-clause-datagram c = copied_report _ _ _ _ _ _ c.of_kind-reports.ensures c.requires.group c.index-reports-choice.is c.as_slice.ensures c.copied.ensures

pub returns-clause-short : goal.returns-clause-short
returns-clause-short c = copied_short _ _ _ _ _ _ c.of_kind-reports.ensures c.requires.group c.index-reports-choice.is c.as_slice.ensures c.copied.ensures
