use Rattle.std.proofs.Common.{sym, ◌∙◌}
use Rattle.amt_values.proofs.OnePeer.{endpoint_is, one_peer, peer_again}
use Rattle.amt_values.proofs.endpoint.Endpoint.of.Goals as goal

pub returns-clause-back : goal.returns-clause-back
returns-clause-back c =
    let peer = c.args.peer.now in
    let apart = sym c.has_ipv4_prefix.ensures ∙ c.if-has_ipv4_prefix.false in
    peer_again peer _ c.wire16.ensures.address (endpoint_is peer c.wire16.result apart c.wire16.ensures.value)

pub returns-clause-one_peer : goal.returns-clause-one_peer
returns-clause-one_peer c =
    let peer = c.args.peer.now in
    let apart = sym c.has_ipv4_prefix.ensures ∙ c.if-has_ipv4_prefix.false in
    λ other small same. one_peer peer other _ c.wire16.ensures.address small (endpoint_is peer c.wire16.result apart c.wire16.ensures.value) same
