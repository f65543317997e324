use Rattle.std.proofs.Common.{List, ℕ, arith, rules, sym, subst, ◌≡◌, []}
use Rattle.amt_values.specs.Ascending.{IsAscending}
use Rattle.endpoint_membership.specs.{Membership.{Membership, membership_order}, Table.{Holds}}
use Rattle.endpoint_membership.proofs.{HoldsAfter.{Holds-new}, MembershipIn.{IsAscending-none}}
use Rattle.endpoint_membership.proofs.table.Table.new.Goals as goal

pub invariant_of-result : goal.invariant_of-result
invariant_of-result c = (
  c.requires,
  subst (IsAscending membership_order) (sym c.new-2.ensures) IsAscending-none,
  record { endpoints = omega arith; groups = omega arith; sources = omega arith },
)

pub returns-clause-stands : goal.returns-clause-stands
returns-clause-stands c =
    let limits = c.args.limits in
    let lifetime = c.args.lifetime_ms in
    let start : c.unwrap.result ≡ 0 = search rules in
    subst (λ (moment : ℕ). Holds (record { limits = limits; lifetime = lifetime }) (record { moment = moment; limits = limits; in_force = limits; lifetime = lifetime; rows = c.new-2.result }) []) (sym start)
    (subst (λ (rows : List Membership). Holds (record { limits = limits; lifetime = lifetime }) (record { moment = 0; limits = limits; in_force = limits; lifetime = lifetime; rows = rows }) []) (sym c.new-2.ensures) (Holds-new limits lifetime))
