use Rattle.pair_script.proofs.Lawful.{pair_kind_lawful}
use Rattle.pair_script.proofs.reading.PairLinesScriptKind.start.Goals as goal

pub returns-clause-lawful : goal.returns-clause-lawful
returns-clause-lawful c = pair_kind_lawful
