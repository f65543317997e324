use Rattle.std.proofs.Common.{is_some, sym, ap, ◌∙◌}
use Rattle.endpoint_membership.{specs.Memberships.{is_live}, proofs.CountedParts.{is_live-count}}
use Rattle.endpoint_membership.proofs.parts.StoredMemberships.is_live.Goals as goal

pub returns : goal.returns
returns c =
    c.contains_key.ensures ∙ ap is_some (c.self.invariant.counted c.args.endpoint.now) ∙ sym (is_live-count c.args.endpoint.now c.self.inside.filters) ∙ ap (is_live c.args.endpoint.now) c.self.view_is
