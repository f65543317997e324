use Rattle.std.proofs.{Common.{arith}, lemmas.Result.{IfOk-weaker}}
use Rattle.amt_vectors.proofs.Reports.{both_pass, first_fails, first_passed}
use Rattle.amt_vectors.proofs.suite.report_of_both.Goals as goal

pub report_after-requires-in-None-clause-few : goal.report_after-requires-in-None-clause-few
report_after-requires-in-None-clause-few c =
    let passed = first_passed c.args.given.now c.in_ok-report.report c.in-None.is c.in_ok-report.ensures in
    omega (arith, passed, c.requires.given_few, c.requires.few)

pub returns-in-Some : goal.returns-in-Some
returns-in-Some c = first_fails c.args.given.now c.args.rows.now c.in_ok-report.report c.in-Some.field-0 c.in-Some.is c.in_ok-report.ensures

pub returns-in-None : goal.returns-in-None
returns-in-None c =
    IfOk-weaker c.report_after-in-None.result _ _
    (λ report after. both_pass c.args.given.now c.args.rows.now c.in_ok-report.report report c.in-None.is c.in_ok-report.ensures after) c.report_after-in-None.ensures
