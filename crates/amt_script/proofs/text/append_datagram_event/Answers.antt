use Rattle.std.proofs.{Common.{refl, rules}, lemmas.Result.{on_ok_weaker}}
use Rattle.amt_values.specs.{Octets.{AreOctets}, Text.{IsPeerText, ip_text, peer_text}}
use Rattle.relay_machine.specs.declared.event.Event.TheVariants.{Datagram}
use Rattle.amt_script.proofs.Printed.{datagram_said, line_of}
use Rattle.amt_script.proofs.text.append_datagram_event.Goals as goal

pub returns-clause-back : goal.returns-clause-back
returns-clause-back c =
    let bytes = c.args.bytes.now in
    let from = c.args.from.now in
    let octets : AreOctets bytes = search rules in
    let names : IsPeerText from (peer_text from) = record { address = ip_text from.ip; names = c.ip_text_names.ensures; port = search rules; spelled = refl } in
    on_ok_weaker c.append-3.result (λ same. line_of (Datagram bytes from) (datagram_said from bytes octets c.requires names)) c.append-3.ensures.ok
