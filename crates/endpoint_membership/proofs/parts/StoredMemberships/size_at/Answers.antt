use Rattle.std.proofs.Common.{◌≡◌, Bool, true, false, cond, if◌then◌else◌, None, Some, refl, sym, ap, subst, ◌∙◌}
use Rattle.amt_values.specs.Ascending.{IsAscending}
use Rattle.endpoint_membership.{specs.{Filters.{stored_membership}, Limits.{size, size_of}, Membership.{Membership, is_fresh, membership_order}, Stored.{only}}, proofs.{MembershipIn.{membership_in-filter}, PairsWalked.{stored_at}}}
use Rattle.endpoint_membership.proofs.parts.StoredMemberships.size_at.Goals as goal

size_by : (fresh : Bool) (membership : Membership) → (if fresh then size membership else 0) ≡ size_of (cond fresh (Some membership) None)
size_by true membership = refl
size_by false membership = refl

pub returns-in-Some : goal.returns-in-Some
returns-in-Some c =
    let at = c.args.at.now in
    let stored = c.in-Some.stored.now in
    let test = is_fresh c.args.lifetime_ms c.args.moment in
    c.size_of.ensures ∙ size_by (test (stored_membership (at, stored))) (stored_membership (at, stored))
    ∙ sym (ap size_of (membership_in-filter test c.args.self.now at (subst (IsAscending membership_order) c.self.view_is c.self.invariant.ascends)
    ∙ ap (only test) (stored_at c.self.inside.filters c.args.self.now at (Some stored) c.self.view_is c.in-Some.ensures.value)))

pub returns-in-None : goal.returns-in-None
returns-in-None c =
    let at = c.args.at.now in
    let test = is_fresh c.args.lifetime_ms c.args.moment in
    sym (ap size_of (membership_in-filter test c.args.self.now at (subst (IsAscending membership_order) c.self.view_is c.self.invariant.ascends)
    ∙ ap (only test) (stored_at c.self.inside.filters c.args.self.now at None c.self.view_is c.in-None.ensures.value)))
