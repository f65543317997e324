use Rattle.std.proofs.Common.{append_assoc, refl}
use Rattle.amt_messages.proofs.head.append_gateway.Goals as goal

pub returns-clause-appended : goal.returns-clause-appended
returns-clause-appended c = rw (c.in_ok-append-2.ensures.ok, c.in_ok-append.ensures.ok, c.octets_of_address.ensures.octets, c.octets_of_port.ensures, c.port.ensures, c.address.ensures.value, append_assoc) refl
