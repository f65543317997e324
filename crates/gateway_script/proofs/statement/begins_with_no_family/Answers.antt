use Rattle.script_lines.specs.Lines.{fields}
use Rattle.gateway_script.proofs.Failures.{bad_family}
use Rattle.gateway_script.proofs.statement.begins_with_no_family.Goals as goal

pub returns-in-Some : goal.returns-in-Some
returns-in-Some c =
    bad_family (fields c.args.values.now) c.in-Some.text.now (fields c.in-Some.field-0-1.now) c.read_family.result c.is_none.result c.in-Some.ensures.parts
    c.is_none.ensures c.read_family.ensures.found c.read_family.ensures.none
