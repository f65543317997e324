use Rattle.std.proofs.Common.{is_some, List, ap, ◌∙◌}
use Rattle.endpoint_membership.specs.{Membership.{Membership}, Memberships.{membership_in}}
use Rattle.endpoint_membership.proofs.parts.StoredMemberships.has.Goals as goal

pub returns : goal.returns
returns c = c.contains_key.ensures ∙ ap (λ (rows : List Membership). is_some (membership_in rows c.args.at.now)) c.self.view_is
