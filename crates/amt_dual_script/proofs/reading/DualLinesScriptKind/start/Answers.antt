use Rattle.amt_dual_script.proofs.Lawful.{dual_kind_lawful}
use Rattle.amt_dual_script.proofs.reading.DualLinesScriptKind.start.Goals as goal

pub returns-clause-lawful : goal.returns-clause-lawful
returns-clause-lawful c = dual_kind_lawful
