use Rattle.std.proofs.Common.{◌∷◌}
use Rattle.script_lines.specs.Lines.{fields}
use Rattle.amt_script.specs.declared.line.RelayStatement.TheVariants as statements
use Rattle.amt_script.proofs.Heard.{allowed_by_line, says_after, fails_after, heard_setting, heard_item}
use Rattle.amt_script.proofs.reading.RelayLinesScriptKind.take.Goals as goal

pub returns-in-Ok-clause-heard : goal.returns-in-Ok-clause-heard
returns-in-Ok-clause-heard c = λ past those.
    let lines = c.args.self.now in
    let setting = c.in-Ok-Setting.setting in
    let line = c.args.first.now ∷ fields c.args.rest.now in
    let says = (rw (c.in-Ok-Setting.field-0-is, c.as_slice.ensures.value, c.as_slice-2.ensures) at c.in-Ok-Setting.ensures.found) those.allowed in (
      statements.Setting setting,
      says_after lines.given.items lines.items past (statements.Setting setting) line those says,
      rw c.in-Ok.ensures.items (heard_setting lines.given.items lines.items past setting those (allowed_by_line setting line says.1)),
    )

pub returns-in-Ok-push-clause-heard : goal.returns-in-Ok-push-clause-heard
returns-in-Ok-push-clause-heard c = λ past those.
    let lines = c.args.self.now in
    let item = c.in-Ok-Item.item in
    let line = c.args.first.now ∷ fields c.args.rest.now in
    let says = (rw (c.in-Ok-Item.field-0-is, c.as_slice.ensures.value) at c.in-Ok-Item.ensures.found) those.allowed in (
      statements.Item item,
      says_after lines.given.items lines.items past (statements.Item item) line those says,
      rw c.in-Ok-push.ensures.ok (heard_item lines.given.items lines.items past item those),
    )

pub returns-in-Err-clause-bad : goal.returns-in-Err-clause-bad
returns-in-Err-clause-bad c = λ past those.
    let lines = c.args.self.now in
    let line = c.args.first.now ∷ fields c.args.rest.now in
    fails_after lines.given.items lines.items past line c.in-Err.error those
    ((rw (c.as_slice.ensures.value, c.as_slice-2.ensures) at c.in-Err.ensures.reason) those.allowed)
