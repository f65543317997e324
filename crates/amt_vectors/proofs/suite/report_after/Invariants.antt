use Rattle.amt_vectors.proofs.Reports.{ArePassed}
use Rattle.amt_vectors.proofs.suite.report_after.Given as goal

abbrev pub invariant-loop-row : goal.invariant-loop-row
invariant-loop-row l = ArePassed l.fn.count l.rows l.row-index l.passed
