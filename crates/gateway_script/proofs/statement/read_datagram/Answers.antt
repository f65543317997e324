use Rattle.std.proofs.Common.{Err, ap}
use Rattle.script_lines.{specs.declared.values.OctetsError.{OctetsError}, proofs.Forms.{hex_sized}}
use Rattle.gateway_script.proofs.Failures.{bad_hex, bad_peer}
use Rattle.gateway_script.proofs.statement.read_datagram.Goals as goal

pub returns-in-Err-NotHex-clause-reason : goal.returns-in-Err-NotHex-clause-reason
returns-in-Err-NotHex-clause-reason c = λ family.
    bad_hex family _ c.in-Some.peer.now c.in-Some.octets.now c.in-Some.ensures.found
    (c.in-Err-NotHex.ensures.none (ap (λ (e : OctetsError). Err e) c.in-Err-NotHex.field-0-is))

pub returns-in-Some-parse_peer-clause-may : goal.returns-in-Some-parse_peer-clause-may
returns-in-Some-parse_peer-clause-may c = λ family. hex_sized c.in-Ok.bytes c.in-Some.octets.now c.in-Ok.ensures.found

pub returns-in-None-clause-reason : goal.returns-in-None-clause-reason
returns-in-None-clause-reason c = λ family.
    bad_peer family _ c.in-Some.peer.now c.in-Some.octets.now _ c.in-Some.ensures.found c.in-Ok.ensures.found
    (λ from names. let read = c.in-None.ensures.only from names in cc read)
