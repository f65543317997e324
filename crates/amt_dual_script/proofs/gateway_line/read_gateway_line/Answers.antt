use Rattle.std.proofs.Common.{rules}
use Rattle.script_lines.specs.Lines.{fields}
use Rattle.pair_script.proofs.GatewayLines.{none_there}
use Rattle.amt_dual_script.proofs.GatewayLines.{late_first, may_add, twice_first, value_first}
use Rattle.amt_dual_script.proofs.gateway_line.read_gateway_line.Goals as goal

pub returns-then-not-is_empty-clause-reason : goal.returns-then-not-is_empty-clause-reason
returns-then-not-is_empty-clause-reason c = late_first c.args.gateways.now c.args.items.now (fields c.args.values.now) (search rules)

pub returns-then-is_given_twice-clause-reason : goal.returns-then-is_given_twice-clause-reason
returns-then-is_given_twice-clause-reason c =
    twice_first c.args.gateways.now c.args.items.now (fields c.args.values.now) (none_there c.args.items.now (search rules)) (search rules)

pub returns-in-Err-clause-reason : goal.returns-in-Err-clause-reason
returns-in-Err-clause-reason c =
    value_first c.args.gateways.now c.args.items.now (fields c.args.values.now) c.in-Err.error (none_there c.args.items.now (search rules)) (search rules) c.in-Err.ensures.reason

pub returns-in-Ok-clause-may : goal.returns-in-Ok-clause-may
returns-in-Ok-clause-may c =
    may_add c.args.gateways.now c.args.items.now (fields c.args.values.now) c.in-Ok.gateway (none_there c.args.items.now (search rules)) (search rules) c.in-Ok.ensures.found
