use Rattle.std.proofs.Common.{rules}
use Rattle.script_lines.specs.Lines.{fields}
use Rattle.pair_script.proofs.GatewayLines.{name_first, peer_first}
use Rattle.pair_script.proofs.gateway_line.read_gateway.Goals as goal

pub returns-in_default-parse_peer-clause-reason : goal.returns-in_default-parse_peer-clause-reason
returns-in_default-parse_peer-clause-reason c =
    peer_first (fields c.args.values.now) _ _ _ _ c.in-Some-read_family.family c.in-Some-read_address.source c.in-Some.ensures.found c.in-Some-read_family.ensures.found
    c.in-Some-read_address.ensures.found (λ peer names. let read = c.in_default-parse_peer.ensures.only peer names in cc read)

pub returns-then-not-is_gateway_name-clause-reason : goal.returns-then-not-is_gateway_name-clause-reason
returns-then-not-is_gateway_name-clause-reason c =
    name_first (fields c.args.values.now) _ _ _ _ c.in-Some-read_family.family c.in-Some-read_address.source c.in-Some-parse_peer.peer c.in-Some.ensures.found
    c.in-Some-read_family.ensures.found c.in-Some-read_address.ensures.found c.in-Some-parse_peer.ensures.found (search rules)
