use Rattle.std.proofs.lemmas.Result.{IfOk-weaker}
use Rattle.amt_vectors.proofs.Asking.{rows_ask, rows_count}
use Rattle.amt_vectors.proofs.reading.read_rows.Goals as goal

pub returns-clause-asks : goal.returns-clause-asks
returns-clause-asks c = IfOk-weaker c.read_script.result _ _ (λ rows h. rows_ask rows c.args.bytes.now h) c.read_script.ensures.found

pub returns-clause-count : goal.returns-clause-count
returns-clause-count c = IfOk-weaker c.read_script.result _ _ (λ rows h. rows_count rows c.args.bytes.now h) c.read_script.ensures.found
