use Rattle.std.{proofs.{Common.{◌≡◌, ◌++◌, [], ◌∷◌, Option, Some, All, sym, subst}, lemmas.Result.{on_ok_weaker}}}
use Rattle.amt_pcap.{specs.{Texts.{HasDumpLine, tunnel_payloads_if}, Udp.{Datagram, datagram_of}}, proofs.DumpLines.{datagram_said, payload_short}}
use Rattle.amt_pcap.proofs.lines.append_packet.Goals as goal

pub returns-clause-said : goal.returns-clause-said
returns-clause-said c =
    let packet = c.args.packet.now in
    let datagram : Datagram = record { ends = c.in-Some.ends; payload = c.in-Some.payload.now } in
    let found : datagram_of packet ≡ Some datagram = sym c.in-Some.ensures in
    let said : HasDumpLine datagram.payload = record { octets = c.append_hex.ensures.octets; short = payload_short packet datagram found c.requires } in
    let all = subst (λ (datagram : Option Datagram). All HasDumpLine (tunnel_payloads_if datagram)) (sym found) (datagram_said datagram said) in
    on_ok_weaker c.append.result (λ (same : c.append.new.self ≡ c.append_hex.new.text ++ 10 ∷ []). all) c.append.ensures.ok
