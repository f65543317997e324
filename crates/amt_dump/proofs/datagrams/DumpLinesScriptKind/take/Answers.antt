use Rattle.std.proofs.Common.{List, ℕ, ◌∷◌, ◌++◌, [], Err, ap}
use Rattle.script_lines.specs.{declared.values.OctetsError.{OctetsError}, Lines.{fields}}
use Rattle.amt_dump.proofs.Lawful.{says_datagram, fails_by_count, fails_by_digits}
use Rattle.amt_dump.proofs.datagrams.DumpLinesScriptKind.take.Goals as goal

pub returns-in-Ok-push-clause-heard : goal.returns-in-Ok-push-clause-heard
returns-in-Ok-push-clause-heard c = λ past heard. (
  c.in-Ok.octets,
  says_datagram c.in-Ok.octets c.args.first.now (fields c.args.rest.now) c.in-None.ensures.parts c.in-Ok.ensures.found,
  rw c.in-Ok-push.ensures.ok (ap (λ (ds : List (List ℕ)). ds ++ c.in-Ok.octets ∷ []) heard),
)

pub returns-in-Some-clause-bad : goal.returns-in-Some-clause-bad
returns-in-Some-clause-bad c = λ past heard.
    fails_by_count c.args.first.now c.in-Some.field-0.0.now (fields c.in-Some.field-0.1.now) (fields c.args.rest.now) c.in-Some.ensures.parts

pub returns-in-Err-NotHex-clause-bad : goal.returns-in-Err-NotHex-clause-bad
returns-in-Err-NotHex-clause-bad c = λ past heard.
    fails_by_digits c.args.first.now (fields c.args.rest.now) c.in-None.ensures.parts
    (c.in-Err-NotHex.ensures.none (ap (λ (e : OctetsError). Err e) c.in-Err-NotHex.field-0-is))
