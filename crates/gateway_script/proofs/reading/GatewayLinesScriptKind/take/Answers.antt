use Rattle.std.proofs.Common.{◌∷◌}
use Rattle.script_lines.specs.Lines.{fields}
use Rattle.gateway_script.specs.declared.line.GatewayStatement.TheVariants as statements
use Rattle.gateway_script.proofs.Heard.{fails_after, heard_event, heard_setting, says_after}
use Rattle.gateway_script.proofs.reading.GatewayLinesScriptKind.take.Goals as goal

pub returns-in-Ok-clause-heard : goal.returns-in-Ok-clause-heard
returns-in-Ok-clause-heard c = λ past those.
    let lines = c.args.self.now in
    let setting = c.in-Ok-Setting.setting in
    let line = c.args.first.now ∷ fields c.args.rest.now in
    let says = rw (c.in-Ok-Setting.field-0-is, c.as_slice.ensures.value, c.as_slice-2.ensures) at c.in-Ok-Setting.ensures.found in (
      statements.Setting setting,
      says_after lines.given.items lines.items past (statements.Setting setting) line those says,
      rw c.in-Ok.ensures.items (heard_setting lines.given.items lines.items past setting those),
    )

pub returns-in-Ok-push-clause-heard : goal.returns-in-Ok-push-clause-heard
returns-in-Ok-push-clause-heard c = λ past those.
    let lines = c.args.self.now in
    let event = c.in-Ok-Event.event in
    let line = c.args.first.now ∷ fields c.args.rest.now in
    let says = rw (c.in-Ok-Event.field-0-is, c.as_slice.ensures.value) at c.in-Ok-Event.ensures.found in (
      statements.Event event,
      says_after lines.given.items lines.items past (statements.Event event) line those says,
      rw c.in-Ok-push.ensures.ok (heard_event lines.given.items lines.items past event those),
    )

pub returns-in-Err-clause-bad : goal.returns-in-Err-clause-bad
returns-in-Err-clause-bad c = λ past those.
    let lines = c.args.self.now in
    let line = c.args.first.now ∷ fields c.args.rest.now in
    fails_after lines.given.items c.as_slice.result.now lines.items c.as_slice-2.result.now past line c.in-Err.error c.as_slice.ensures.value c.as_slice-2.ensures those
    c.in-Err.ensures.reason
