use Rattle.std.proofs.Common.{None, Option, Some, is_some, sym, ap, ◌∙◌}
use Rattle.endpoint_membership.{specs.{Membership.{Membership}, Filters.{stored_membership}, Stored.{is_counted, only}}, proofs.PairsWalked.{is_some-only, stored_at}}
use Rattle.endpoint_membership.proofs.parts.StoredMemberships.counts_at.Goals as goal

pub returns-in-Some : goal.returns-in-Some
returns-in-Some c =
    let at = c.args.at.now in
    let stored = c.in-Some.stored.now in
    let test = is_counted c.args.lifetime_ms c.args.moment c.args.besides.now in
    c.is_counted.ensures
    ∙ sym (is_some-only test (stored_membership (at, stored)) _ (stored_at c.self.inside.filters c.args.self.now at (Some stored) c.self.view_is c.in-Some.ensures.value))

pub returns-in-None : goal.returns-in-None
returns-in-None c =
    let test = is_counted c.args.lifetime_ms c.args.moment c.args.besides.now in
    sym (ap (λ (found : Option Membership). is_some (only test found)) (stored_at c.self.inside.filters c.args.self.now c.args.at.now None c.self.view_is c.in-None.ensures.value))
