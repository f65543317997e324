use Rattle.std.proofs.Common.{◌≡◌, Some, ap, sym, ◌∙◌}
use Rattle.amt_values.{specs.declared.{address.Ip.TheVariants.{V4}, peer.Peer.{Peer}}, proofs.PeerTexts.{plain_parts, no_plain_peer, same_peer}}
use Rattle.amt_values.proofs.text.parse_plain_peer.Goals as goal

pub returns-in_default-clause-only : goal.returns-in_default-clause-only
returns-in_default-clause-only c = λ peer h.
    absurd (no_plain_peer c.args.text.now peer.ip peer.port c.in_default.ensures.none c.requires h)

pub returns-in_default-parse_v4-clause-only : goal.returns-in_default-parse_v4-clause-only
returns-in_default-parse_v4-clause-only c = λ peer h.
    let parts = plain_parts c.args.text.now c.in-Some.address.now c.in-Some.port.now peer.ip peer.port c.in-Some.ensures.first c.in-Some.ensures.found c.requires h in
    let found = c.in_default-parse_v4.ensures.only parts.number parts.names in
    cc found

pub returns-in_default-parse_port-clause-only : goal.returns-in_default-parse_port-clause-only
returns-in_default-parse_port-clause-only c = λ peer h.
    let parts = plain_parts c.args.text.now c.in-Some.address.now c.in-Some.port.now peer.ip peer.port c.in-Some.ensures.first c.in-Some.ensures.found c.requires h in
    let found = c.in_default-parse_port.ensures.only peer.port parts.small parts.digits in
    cc found

pub returns-clause-only : goal.returns-clause-only
returns-clause-only c = λ peer h.
    let parts = plain_parts c.args.text.now c.in-Some.address.now c.in-Some.port.now peer.ip peer.port c.in-Some.ensures.first c.in-Some.ensures.found c.requires h in
    let number = c.in-Some-parse_v4.ensures.only parts.number parts.names in
    let port = c.in-Some-parse_port.ensures.only peer.port parts.small parts.digits in
    let same_number : c.in-Some-parse_v4.number ≡ parts.number = cc number in
    let same_port : c.in-Some-parse_port.port ≡ peer.port = cc port in
    let read : Peer = record { ip = V4 c.in-Some-parse_v4.number; port = c.in-Some-parse_port.port } in
    ap (λ (p : Peer). Some p) (same_peer read peer (ap V4 same_number ∙ sym parts.family) same_port)
