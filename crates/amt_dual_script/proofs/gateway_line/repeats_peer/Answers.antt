use Rattle.script_lines.specs.Lines.{fields}
use Rattle.amt_dual_script.proofs.GatewayLines.{no_peer_repeated, peer_repeated}
use Rattle.amt_dual_script.proofs.gateway_line.repeats_peer.Goals as goal

pub returns-in-Some-parse_peer : goal.returns-in-Some-parse_peer
returns-in-Some-parse_peer c =
    peer_repeated c.args.gateways.now (fields c.args.values.now) _ c.in-Some.text.now c.in-Some-parse_peer.peer c.is_peer_given.result c.in-Some.ensures.parts
    c.in-Some-parse_peer.ensures.found c.is_peer_given.ensures

pub returns-in-None : goal.returns-in-None
returns-in-None c =
    no_peer_repeated c.args.gateways.now (fields c.args.values.now) _ c.in-Some.text.now c.in-Some.ensures.parts
    (λ peer names. let read = c.in-None.ensures.only peer names in cc read)
