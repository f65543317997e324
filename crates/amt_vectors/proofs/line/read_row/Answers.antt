use Rattle.script_lines.specs.Lines.{fields}
use Rattle.amt_vectors.proofs.Failures.{row_failed}
use Rattle.amt_vectors.proofs.line.read_row.Goals as goal

pub returns-in-Err-clause-reason : goal.returns-in-Err-clause-reason
returns-in-Err-clause-reason c =
    row_failed c.in-Some.kind c.args.word.now (fields c.args.values.now) c.in-Err.error c.in-Some.ensures.found c.in-Err.ensures.reason
