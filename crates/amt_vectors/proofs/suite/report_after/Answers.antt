use Rattle.std.proofs.Common.{arith}
use Rattle.amt_vectors.proofs.Reports.{bad_after, passed_all, passed_more, passes_of}
use Rattle.amt_vectors.proofs.suite.report_after.Goals as goal

pub returns-in-Some : goal.returns-in-Some
returns-in-Some c =
    bad_after c.args.count c.args.rows.now c.loop-row.row-index c.loop-row.passed c.row-item.result c.in_ok-bad-in-Some.bad c.loop-row-test.true c.row-item.is
    c.loop-row.invariant c.in_ok-bad-in-Some.ensures

pub loop-row-preserved : goal.loop-row-preserved
loop-row-preserved c =
    passed_more c.args.count c.args.rows.now c.loop-row.row-index c.loop-row.passed c.row-item.result c.loop-row-test.true c.row-item.is c.loop-row.invariant
    (passes_of c.row-item.result c.in_ok-other_answer.field-0 c.in-None.is c.in_ok-other_answer.ensures)

pub returns : goal.returns
returns c =
    passed_all c.args.count c.args.rows.now c.loop-row.row-index c.loop-row.passed c.loop-row-test.false (omega (arith, c.loop-row.auto.row-index-end)) c.loop-row.invariant
