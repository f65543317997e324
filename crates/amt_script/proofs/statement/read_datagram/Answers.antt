use Rattle.std.proofs.Common.{Err, ap}
use Rattle.script_lines.specs.declared.values.OctetsError.{OctetsError}
use Rattle.amt_script.proofs.Failures.{bad_hex, bad_peer}
use Rattle.amt_script.proofs.statement.read_datagram.Goals as goal

pub returns-in-Err-NotHex-clause-reason : goal.returns-in-Err-NotHex-clause-reason
returns-in-Err-NotHex-clause-reason c =
    bad_hex _ c.in-Some.peer.now c.in-Some.octets.now c.in-Some.ensures.found
    (c.in-Err-NotHex.ensures.none (ap (λ (e : OctetsError). Err e) c.in-Err-NotHex.field-0-is))

pub returns-in-None-clause-reason : goal.returns-in-None-clause-reason
returns-in-None-clause-reason c =
    bad_peer _ c.in-Some.peer.now c.in-Some.octets.now _ c.in-Some.ensures.found c.in-Ok.ensures.found
    (λ from names. let read = c.in-None.ensures.only from names in cc read)
