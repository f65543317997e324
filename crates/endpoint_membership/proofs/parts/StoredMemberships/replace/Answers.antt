use Rattle.std.{proofs.Common.{◌≡◌, true, not, filter, Option, None, if◌then◌else◌, List, sym, ap, subst, ◌∙◌}, specs.{List.{AllByRecursion}, Option.{option_or}}}
use Rattle.amt_values.{specs.Ascending.{IsAscending, has}, proofs.AscendingLaws.{IsAscending-filter}}
use Rattle.endpoint_membership.{specs.{EndpointGroup.{endpoint_group_order}, Membership.{Membership, endpoint_group_of, membership_order}, Memberships.{membership_in}, Stored.{is_known}}, proofs.{KeysTogether.{All-passing}, SetAt.{All-absent, parted_again}}}
use Rattle.endpoint_membership.proofs.parts.StoredMemberships.replace.Goals as goal

pub set_all-requires-clause-added : goal.set_all-requires-clause-added
set_all-requires-clause-added c =
    subst (IsAscending membership_order) (sym c.in_ok-parted.ensures.added) (IsAscending-filter membership_order (λ membership. not (is_known c.args.self.now membership)) c.args.memberships.items c.requires.ascend)

pub set_all-requires-clause-kept : goal.set_all-requires-clause-kept
set_all-requires-clause-kept c = subst (IsAscending membership_order) (sym c.in_ok-parted.ensures.kept) (IsAscending-filter membership_order (is_known c.args.self.now) c.args.memberships.items c.requires.ascend)

pub set_all-requires-clause-absent : goal.set_all-requires-clause-absent
set_all-requires-clause-absent c =
    subst (AllByRecursion (λ membership. membership_in c.args.self.now (endpoint_group_of membership) ≡ None)) (sym c.in_ok-parted.ensures.added) (All-absent c.args.self.now c.args.memberships.items)

pub set_all-requires-clause-known : goal.set_all-requires-clause-known
set_all-requires-clause-known c = subst (AllByRecursion (λ membership. is_known c.args.self.now membership ≡ true)) (sym c.in_ok-parted.ensures.kept) (All-passing (λ (membership : Membership). is_known c.args.self.now membership ≡ true) (is_known c.args.self.now) (λ membership passes. passes) c.args.memberships.items)

pub returns-clause-ok : goal.returns-clause-ok
returns-clause-ok c at =
    let known = is_known c.args.self.now in
    let unknown = λ (membership : Membership). not (is_known c.args.self.now membership) in
    c.remove_all.ensures.each at ∙ ap (λ (found : Option Membership). if has endpoint_group_order c.args.gone.now at then None else found) (c.in_ok-set_all.ensures.ok at
    ∙ ap (λ (kept : List Membership). option_or (membership_in kept at) (option_or (membership_in c.in_ok-parted.parted.added.items at) (membership_in c.args.self.now at))) c.in_ok-parted.ensures.kept
    ∙ ap (λ (added : List Membership). option_or (membership_in (filter known c.args.memberships.items) at) (option_or (membership_in added at) (membership_in c.args.self.now at))) c.in_ok-parted.ensures.added
    ∙ parted_again known c.args.memberships.items (membership_in c.args.self.now at) at c.requires.ascend)
