use Rattle.script_lines.specs.Lines.{fields}
use Rattle.amt_script.proofs.{Heard.{allowed_by_line}, SetLines.{key_judged}}
use Rattle.amt_script.proofs.set_line.read_set_line.Goals as goal

pub returns-in-Ok-read_set-clause-allowed : goal.returns-in-Ok-read_set-clause-allowed
returns-in-Ok-read_set-clause-allowed g c = allowed_by_line c.in-Ok-read_set.setting _ c.in-Ok-read_set.ensures.found

pub returns-in-Err-clause-reason : goal.returns-in-Err-clause-reason
returns-in-Err-clause-reason g c =
    key_judged c.args.given.now c.args.items.now c.in-Ok.key (fields c.in-Ok.values.now) (fields c.args.rest.now) c.in-Err.reason c.in-Ok.ensures.found c.in-Err.ensures.reason
