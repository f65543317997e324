use Rattle.std.proofs.Common.{◌≡◌, ◌∷◌, ◌++◌, rules}
use Rattle.script_lines.specs.Lines.{fields}
use Rattle.gateway_script.specs.declared.kind.LineKind.TheVariants as kinds
use Rattle.gateway_script.{specs.{Reading.{IsEventKind}, Row.{words_of}}, proofs.Judging.{event_failed, setting_judged}}
use Rattle.gateway_script.proofs.line.read_statement.Goals as goal

pub returns-in-Err-clause-reason : goal.returns-in-Err-clause-reason
returns-in-Err-clause-reason c =
    let key = c.in-Ok-Set-default.key in
    let values = fields c.in-Ok-Set-default.values.now in
    let line = c.args.word.now ∷ fields c.args.rest.now in
    let parts : line ≡ words_of (kinds.Set key) ++ values = search rules in
    setting_judged c.args.given.now c.args.events.now line key values c.in-Err.reason parts c.in-Err.ensures.reason

pub returns-in-Err-read_event : goal.returns-in-Err-read_event
returns-in-Err-read_event c =
    let line = c.args.word.now ∷ fields c.args.rest.now in
    let event : IsEventKind c.in-Ok.kind = search rules in record {
      found = tt;
      reason = event_failed c.args.given.now c.args.events.now c.family_of.result line c.in-Ok.kind (fields c.in-Ok.values.now) c.in-Err-read_event.error event
          c.in-Ok.ensures.found c.family_of.ensures c.in-Err-read_event.ensures.reason;
    }
