use Rattle.std.proofs.Common.{List, ◌∷◌, subst}
use Rattle.amt_script.{specs.declared.setting.Setting.{Setting}, proofs.Heard.{allowed_by_line}}
use Rattle.script_lines.specs.{Lines.{fields}, Reading.{FailsFirst}}
use Rattle.pair_script.specs.Fault.{order_of_reasons}
use Rattle.amt_dual_script.{specs.{Fault.{FailsAfter}, declared.script.{DualGateway.{DualGateway}, DualItem.{DualItem}}}, proofs.Heard.{fails_after, heard_gateway, heard_item, heard_setting, says_after}}
use Rattle.amt_dual_script.specs.declared.statement.DualStatement.TheVariants as statements
use Rattle.amt_dual_script.proofs.reading.DualLinesScriptKind.take.Goals as goal

pub returns-in-Ok-clause-heard : goal.returns-in-Ok-clause-heard
returns-in-Ok-clause-heard c = λ past those.
    let lines = c.args.self.now in
    let setting = c.in-Ok-Setting.setting in
    let line = c.args.first.now ∷ fields c.args.rest.now in
    let says = rw (c.in-Ok-Setting.field-0-is, c.as_slice.ensures.value, c.as_slice-3.ensures) at c.in-Ok-Setting.ensures.found in (
      statements.Setting setting,
      says_after lines.given.items lines.gateways lines.items past (statements.Setting setting) line those says,
      rw c.in-Ok.ensures.items (heard_setting lines.given.items lines.gateways lines.items past setting those (allowed_by_line setting line says.1)),
    )

pub returns-in-Ok-push-clause-heard : goal.returns-in-Ok-push-clause-heard
returns-in-Ok-push-clause-heard c = λ past those.
    let lines = c.args.self.now in
    let gateway = c.in-Ok-Gateway.gateway in
    let line = c.args.first.now ∷ fields c.args.rest.now in
    let says = rw (c.in-Ok-Gateway.field-0-is, c.as_slice-2.ensures, c.as_slice-3.ensures) at c.in-Ok-Gateway.ensures.found in (
      statements.Gateway gateway,
      says_after lines.given.items lines.gateways lines.items past (statements.Gateway gateway) line those says,
      rw c.in-Ok-push.ensures.ok (heard_gateway lines.given.items lines.gateways lines.items past gateway those),
    )

pub returns-in-Ok-push-2-clause-heard : goal.returns-in-Ok-push-2-clause-heard
returns-in-Ok-push-2-clause-heard c = λ past those.
    let lines = c.args.self.now in
    let item = c.in-Ok-Item.item in
    let line = c.args.first.now ∷ fields c.args.rest.now in
    let says = rw (c.in-Ok-Item.field-0-is, c.as_slice-2.ensures) at c.in-Ok-Item.ensures.found in (
      statements.Item item,
      says_after lines.given.items lines.gateways lines.items past (statements.Item item) line those says,
      rw c.in-Ok-push-2.ensures.ok (heard_item lines.given.items lines.gateways lines.items past item those),
    )

pub returns-in-Err-clause-bad : goal.returns-in-Err-clause-bad
returns-in-Err-clause-bad c = λ past those.
    let lines = c.args.self.now in
    let line = c.args.first.now ∷ fields c.args.rest.now in
    let error = c.in-Err.error in
    let fails = subst (λ (items : List DualItem). FailsFirst (FailsAfter lines.given.items lines.gateways items line) order_of_reasons error) c.as_slice-3.ensures
    (subst (λ (gateways : List DualGateway). FailsFirst (FailsAfter lines.given.items gateways c.as_slice-3.result.now line) order_of_reasons error) c.as_slice-2.ensures
    (subst (λ (given : List Setting). FailsFirst (FailsAfter given c.as_slice-2.result.now c.as_slice-3.result.now line) order_of_reasons error) c.as_slice.ensures.value
    c.in-Err.ensures.reason)) in
    fails_after lines.given.items lines.gateways lines.items past line error those fails
