use Rattle.amt_vectors.proofs.Lawful.{vector_kind_lawful}
use Rattle.amt_vectors.proofs.reading.VectorLinesScriptKind.start.Goals as goal

pub returns-clause-lawful : goal.returns-clause-lawful
returns-clause-lawful c = vector_kind_lawful
