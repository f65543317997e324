use Rattle.std.proofs.Common.{◌∙◌}
use Rattle.endpoint_membership.{specs.Stored.{is_of_another}, proofs.{EndpointRange.{not_another}, SetAt.{filter-taken, length-taken}}}
use Rattle.endpoint_membership.proofs.parts.StoredMemberships.drop_endpoint.Goals as goal

pub loop-at-smaller : goal.loop-at-smaller
loop-at-smaller c = length-taken c.loop-at.self c.remove.new.self c.in-Some.at c.in-Some.ensures.some.1 c.remove.ensures

pub loop-at-preserved : goal.loop-at-preserved
loop-at-preserved c =
    filter-taken (is_of_another c.args.endpoint.now) c.loop-at.self c.remove.new.self c.in-Some.at (not_another c.args.endpoint.now c.in-Some.at c.loop-at.self c.in-Some.ensures.some.0) c.remove.ensures ∙ c.loop-at.invariant
