use Rattle.std.proofs.Common.{Err, ap}
use Rattle.script_lines.{specs.declared.values.OctetsError.{OctetsError}, proofs.Forms.{hex_sized}}
use Rattle.amt_script.proofs.Failures.{bad_octets}
use Rattle.amt_script.proofs.statement.read_packet.Goals as goal

pub returns-in-Ok-clause-sized : goal.returns-in-Ok-clause-sized
returns-in-Ok-clause-sized c = λ settings. hex_sized c.in-Ok.bytes c.in-Some.octets.now c.in-Ok.ensures.found

pub returns-in-Err-NotHex-clause-reason : goal.returns-in-Err-NotHex-clause-reason
returns-in-Err-NotHex-clause-reason c =
    bad_octets _ c.in-Some.octets.now c.in-Some.ensures.found
    (c.in-Err-NotHex.ensures.none (ap (λ (e : OctetsError). Err e) c.in-Err-NotHex.field-0-is))
