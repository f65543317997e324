use Rattle.amt_vectors.proofs.Reports.{report_unique}
use Rattle.amt_vectors.proofs.suite.run_suite.Goals as goal

pub returns-in-Err-clause-one_report : goal.returns-in-Err-clause-one_report
returns-in-Err-clause-one_report c = λ one other h k. report_unique c.args.rows.now one other h k

pub returns-in_default-clause-one_report : goal.returns-in_default-clause-one_report
returns-in_default-clause-one_report c = λ one other h k. report_unique c.args.rows.now one other h k

pub returns-in-Ok-report_of_both-clause-one_report : goal.returns-in-Ok-report_of_both-clause-one_report
returns-in-Ok-report_of_both-clause-one_report c = λ one other h k. report_unique c.args.rows.now one other h k

pub returns-clause-one_report : goal.returns-clause-one_report
returns-clause-one_report c = λ one other h k. report_unique c.args.rows.now one other h k
