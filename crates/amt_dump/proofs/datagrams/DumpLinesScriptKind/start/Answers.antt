use Rattle.amt_dump.proofs.Lawful.{dump_kind_lawful}
use Rattle.amt_dump.proofs.datagrams.DumpLinesScriptKind.start.Goals as goal

pub returns-clause-lawful : goal.returns-clause-lawful
returns-clause-lawful c = dump_kind_lawful
