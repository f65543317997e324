use Rattle.std.proofs.Common.{sym, subst}
use Rattle.amt_values.specs.Conditions.{First}
use Rattle.script_lines.specs.{Lines.{fields}, Reading.{FailsFirst}}
use Rattle.pair_script.{specs.{Fault.{order_of_reasons}, declared.opening.Opening.{Opening}}, proofs.Orders.{set_judged}}
use Rattle.amt_dual_script.{specs.Fault.{FailsAfterOpening}, proofs.SharedLines.{shared_fails}}
use Rattle.amt_dual_script.proofs.line.read_opened.Goals as goal

pub returns-in-Err-clause-reason : goal.returns-in-Err-clause-reason
returns-in-Err-clause-reason c =
    let values = fields c.args.values.now in
    subst (λ (opening : Opening). First (FailsAfterOpening c.args.given.now c.args.gateways.now c.args.items.now opening values) order_of_reasons c.in-Err.reason) (sym c.in-Set.is)
    (set_judged c.args.given.now c.args.items.now values c.in-Err.reason c.in-Err.ensures.reason)

pub returns-in-Err-read_gateway_line-clause-reason : goal.returns-in-Err-read_gateway_line-clause-reason
returns-in-Err-read_gateway_line-clause-reason c =
    let values = fields c.args.values.now in
    let error = c.in-Err-read_gateway_line.error in
    subst (λ (opening : Opening). FailsFirst (FailsAfterOpening c.args.given.now c.args.gateways.now c.args.items.now opening values) order_of_reasons error) (sym c.in-Gateway.is)
    c.in-Err-read_gateway_line.ensures.reason

pub returns-in-Err-read_item-clause-reason : goal.returns-in-Err-read_item-clause-reason
returns-in-Err-read_item-clause-reason c =
    shared_fails c.args.given.now c.args.gateways.now c.args.items.now c.args.opening (fields c.args.values.now) c.in-Err-read_item.error
    c.in_default.not-Set c.in_default.not-Gateway c.in-Err-read_item.ensures.reason
