use Rattle.amt_script.proofs.Lawful.{relay_kind_lawful}
use Rattle.amt_script.proofs.reading.RelayLinesScriptKind.start.Goals as goal

pub returns-clause-lawful : goal.returns-clause-lawful
returns-clause-lawful c = relay_kind_lawful
