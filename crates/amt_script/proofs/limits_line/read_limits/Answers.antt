use Rattle.script_lines.specs.Lines.{fields}
use Rattle.amt_script.proofs.LimitLines.{more_first, shape_first}
use Rattle.amt_script.proofs.limits_line.read_limits.Goals as goal

pub returns-in-Err-clause-reason : goal.returns-in-Err-clause-reason
returns-in-Err-clause-reason c =
    shape_first c.args.given.now (fields c.args.values.now) _ c.in-Err.reason c.in-Some.ensures.found c.in-Err.ensures.reason

pub returns-then-not-allow-clause-reason : goal.returns-then-not-allow-clause-reason
returns-then-not-allow-clause-reason c =
    more_first c.args.given.now c.in-Ok.limits (fields c.args.values.now) c.in-Some.endpoints.now c.in-Some.groups.now c.in-Some.sources.now c.in-Some.ensures.found
    c.in-Ok.ensures.found (λ within. let told = c.allow.ensures.1 within in let not_told = c.if-not-allow.true in cc (told, not_told))
