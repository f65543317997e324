use Rattle.std.proofs.Common.{◌≡◌, decimal, Some, ap, sym, ◌∙◌}
use Rattle.amt_values.{specs.declared.{address.Ip.TheVariants.{V6}, peer.Peer.{Peer}}, proofs.PeerTexts.{bracketed_parts, no_bracketed_peer, same_peer}}
use Rattle.amt_values.proofs.text.parse_bracketed_peer.Goals as goal

pub returns-in_default-clause-only : goal.returns-in_default-clause-only
returns-in_default-clause-only c = λ peer h.
    absurd (no_bracketed_peer c.args.text.now peer.ip peer.port c.in_default.ensures.none h)

pub returns-in_default-after_octet-clause-only : goal.returns-in_default-after_octet-clause-only
returns-in_default-after_octet-clause-only c = λ peer h.
    let parts = bracketed_parts c.args.text.now c.in-Some.address.now c.in-Some.rest.now peer.ip peer.port c.in-Some.ensures.first c.in-Some.ensures.found h in
    absurd (c.in_default-after_octet.ensures.none (decimal peer.port) parts.digits)

pub returns-in_default-parse_v6-clause-only : goal.returns-in_default-parse_v6-clause-only
returns-in_default-parse_v6-clause-only c = λ peer h.
    let parts = bracketed_parts c.args.text.now c.in-Some.address.now c.in-Some.rest.now peer.ip peer.port c.in-Some.ensures.first c.in-Some.ensures.found h in
    let found = c.in_default-parse_v6.ensures.only parts.number parts.names in
    cc found

pub returns-in_default-parse_port-clause-only : goal.returns-in_default-parse_port-clause-only
returns-in_default-parse_port-clause-only c = λ peer h.
    let parts = bracketed_parts c.args.text.now c.in-Some.address.now c.in-Some.rest.now peer.ip peer.port c.in-Some.ensures.first c.in-Some.ensures.found h in
    let digits : c.in-Some-after_octet.port.now ≡ decimal peer.port = cc (c.in-Some-after_octet.ensures.found, parts.digits) in
    let found = c.in_default-parse_port.ensures.only peer.port parts.small digits in
    cc found

pub returns-clause-only : goal.returns-clause-only
returns-clause-only c = λ peer h.
    let parts = bracketed_parts c.args.text.now c.in-Some.address.now c.in-Some.rest.now peer.ip peer.port c.in-Some.ensures.first c.in-Some.ensures.found h in
    let digits : c.in-Some-after_octet.port.now ≡ decimal peer.port = cc (c.in-Some-after_octet.ensures.found, parts.digits) in
    let number = c.in-Some-parse_v6.ensures.only parts.number parts.names in
    let port = c.in-Some-parse_port.ensures.only peer.port parts.small digits in
    let same_number : c.in-Some-parse_v6.number ≡ parts.number = cc number in
    let same_port : c.in-Some-parse_port.port ≡ peer.port = cc port in
    let read : Peer = record { ip = V6 c.in-Some-parse_v6.number; port = c.in-Some-parse_port.port } in
    ap (λ (p : Peer). Some p) (same_peer read peer (ap V6 same_number ∙ sym parts.family) same_port)
