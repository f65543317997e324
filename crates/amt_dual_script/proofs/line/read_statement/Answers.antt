use Rattle.script_lines.specs.Lines.{fields}
use Rattle.amt_dual_script.proofs.Judging.{opened_judged}
use Rattle.amt_dual_script.proofs.line.read_statement.Goals as goal

pub returns-in-Err-clause-reason : goal.returns-in-Err-clause-reason
returns-in-Err-clause-reason c =
    opened_judged c.args.given.now c.args.gateways.now c.args.items.now c.in-Some.opening c.args.word.now (fields c.args.rest.now) c.in-Err.error c.in-Some.ensures.found
    c.in-Err.ensures.reason

pub returns-in-Err-read_call-clause-reason : goal.returns-in-Err-read_call-clause-reason
returns-in-Err-read_call-clause-reason c = c.in-Err-read_call.ensures.reason c.args.given.now c.args.items.now
