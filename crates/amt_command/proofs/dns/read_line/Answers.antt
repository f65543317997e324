use Rattle.std.proofs.Common.{[], ◌∷◌, codes}
use Rattle.amt_command.{specs.Dns.{input}, proofs.Lookups.{fault_told, not_one}}
use Rattle.amt_command.proofs.dns.read_line.Goals as goal

pub returns-in-Err-Fault-clause-fault : goal.returns-in-Err-Fault-clause-fault
returns-in-Err-Fault-clause-fault c = λ word names some.
    let none = rw c.in-Err-Fault.field-0-is at c.in-Err-Fault.ensures.none in
    fault_told word c.args.bytes.now (codes "input") c.prefixed_fault.result c.prefixed_fault.ensures
    (input c.args.source.now names some (λ octets line. none (octets ∷ []) line))

pub returns-in_default-clause-fault : goal.returns-in_default-clause-fault
returns-in_default-clause-fault c = λ word names some.
    fault_told word c.args.bytes.now (codes "input") c.prefixed_fault-in_default.result c.prefixed_fault-in_default.ensures
    (input c.args.source.now names some (not_one c.args.bytes.now c.in-Ok.datagrams c.in-Ok.ensures.found (rw (← c.as_slice.ensures) c.in_default.ensures.none)))
