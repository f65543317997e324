use Rattle.amt_command.proofs.Lines.{prefix_of_line}
use Rattle.amt_command.proofs.top.report.Goals as goal

pub returns-in-Err-clause-prefix : goal.returns-in-Err-clause-prefix
returns-in-Err-clause-prefix g c =
    let prefix = prefix_of_line c.write_all_own.result _ _ _ c.write_all_own.ensures.all c.write_all_own.ensures.prefix in
    rw (c.in-Err.is, ← c.line.ensures) prefix
