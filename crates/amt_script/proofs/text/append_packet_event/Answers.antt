use Rattle.std.proofs.{Common.{rules}, lemmas.Result.{on_ok_weaker}}
use Rattle.amt_values.specs.{Octets.{AreOctets}}
use Rattle.relay_machine.specs.declared.event.Event.TheVariants.{Packet}
use Rattle.amt_script.proofs.Printed.{line_of, packet_said}
use Rattle.amt_script.proofs.text.append_packet_event.Goals as goal

pub returns-clause-back : goal.returns-clause-back
returns-clause-back c =
    let bytes = c.args.bytes.now in
    let octets : AreOctets bytes = search rules in
    on_ok_weaker c.append-2.result (λ same. line_of (Packet bytes) (packet_said bytes octets c.requires)) c.append-2.ensures.ok
