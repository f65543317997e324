use Rattle.std.{proofs.Common.{◌≡◌, List, true, is_some, sym, ap, subst, ◌∙◌}, specs.{List.{AllByRecursion}, Option.{option_or}}}
use Rattle.endpoint_membership.{specs.{Membership.{Membership, endpoint_group_of}, Memberships.{membership_in}}, proofs.RenewedTogether.{AreAgreed-put}}
use Rattle.endpoint_membership.proofs.parts.StoredMemberships.renew.Goals as goal

pub returns-in_err-stage-clause-ascends : goal.returns-in_err-stage-clause-ascends
returns-in_err-stage-clause-ascends c = c.self.invariant.ascends

pub settle-requires-clause-present : goal.settle-requires-clause-present
settle-requires-clause-present c =
    subst (λ (rows : List Membership). AllByRecursion (λ membership. is_some (membership_in rows (endpoint_group_of membership)) ≡ true) c.args.memberships.items) (sym c.self.view_is) c.requires.present

pub invariant_of-self-2 : goal.invariant_of-self-2
invariant_of-self-2 c =
    AreAgreed-put c.self.inside.filters c.settle.new.filters c.self.inside.renewals c.settle.new.renewals c.self.inside.counts c.self.invariant c.settle.ensures.pairs c.settle.ensures.renewals

pub returns-clause-ok : goal.returns-clause-ok
returns-clause-ok c at =
    c.settle.ensures.new at ∙ ap (λ (rows : List Membership). option_or (membership_in c.args.memberships.items at) (membership_in rows at)) c.self.view_is

pub returns-clause-ascends : goal.returns-clause-ascends
returns-clause-ascends c = (invariant_of-self-2 c).ascends
