use Rattle.std.proofs.Common.{rules}
use Rattle.script_lines.specs.Lines.{fields}
use Rattle.amt_dual_script.proofs.GatewayLines.{address_first, name_first, peer_first}
use Rattle.amt_dual_script.proofs.gateway_line.read_gateway.Goals as goal

pub returns-in_default-read_sources-clause-reason : goal.returns-in_default-read_sources-clause-reason
returns-in_default-read_sources-clause-reason c =
    address_first (fields c.args.values.now) _ _ _ _ c.in-Some.ensures.found c.in_default-read_sources.ensures.none

pub returns-in_default-parse_peer-clause-reason : goal.returns-in_default-parse_peer-clause-reason
returns-in_default-parse_peer-clause-reason c =
    peer_first (fields c.args.values.now) _ _ _ _ c.in-Some-read_sources.source4 c.in-Some-read_sources.source6 c.in-Some.ensures.found c.in-Some-read_sources.ensures.found4
    c.in-Some-read_sources.ensures.found6 (λ peer names. let read = c.in_default-parse_peer.ensures.only peer names in cc read)

pub returns-then-not-is_gateway_name-clause-reason : goal.returns-then-not-is_gateway_name-clause-reason
returns-then-not-is_gateway_name-clause-reason c =
    name_first (fields c.args.values.now) _ _ _ _ c.in-Some-read_sources.source4 c.in-Some-read_sources.source6 c.in-Some-parse_peer.peer c.in-Some.ensures.found
    c.in-Some-read_sources.ensures.found4 c.in-Some-read_sources.ensures.found6 c.in-Some-parse_peer.ensures.found (search rules)
