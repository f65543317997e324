-- The derived orders of a table's keys are those of the definitions, total, and tell all keys apart.
use Rattle.std.{proofs.{Common.{◌≡◌, ℕ, ap, ◌∙◌}, lemmas.{Cmp.{on_total, then_total}, Map.Lookups.{CmpEqualImpliesEq, exact_unsigned}}}, specs.{Cmp.{IsTotalOrder, nat_cmp_total}, Ordering.{nat_cmp, on, then_cmp}, declared.cmp.Ordering.{Ordering}}}
use Rattle.amt_values.{specs.{declared.address.Ip.{Ip}, Order.{endpoint_order}}, proofs.Orders.{both_tied}}
use Rattle.source_filter.proofs.Compared.{compared}
use Rattle.endpoint_membership.{specs.{EndpointGroup.{EndpointGroup, endpoint_group_order}, Filters.{group_member_order}, Parts.{renewal_order}, declared.keys.{GroupMember.{GroupMember}, LastRenewal.{LastRenewal}}}, proofs.EndpointGroupOrder.{endpoint_group_order-exact, endpoint_group_order-total}}
use Rattle.endpoint_membership.specs.contracts.keys.EndpointGroupOrd as pairs
use Rattle.endpoint_membership.specs.contracts.keys.GroupMemberOrd as members
use Rattle.endpoint_membership.specs.contracts.keys.LastRenewalOrd as renewals

pub pairs_compared : (pairs.TheImpl.ghosts).cmp ≡ endpoint_group_order
pairs_compared = ap (λ (groups : Ip → Ip → Ordering). then_cmp (on (λ (one : EndpointGroup). one.endpoint) endpoint_order) (on (λ (one : EndpointGroup). one.group) groups)) compared

pub renewals_compared : (renewals.TheImpl.ghosts).cmp ≡ renewal_order
renewals_compared = ap (λ (order : EndpointGroup → EndpointGroup → Ordering). then_cmp (on (λ (renewal : LastRenewal). renewal.renewed) nat_cmp) (on (λ (renewal : LastRenewal). renewal.at) order)) pairs_compared

pub members_compared : (members.TheImpl.ghosts).cmp ≡ group_member_order
members_compared = ap (λ (groups : Ip → Ip → Ordering). then_cmp (on (λ (member : GroupMember). member.group) groups) (on (λ (member : GroupMember). member.endpoint) endpoint_order)) compared

pub renewal_order-total : IsTotalOrder renewal_order
renewal_order-total = then_total (on_total (λ (renewal : LastRenewal). renewal.renewed) nat_cmp_total) (on_total (λ (renewal : LastRenewal). renewal.at) endpoint_group_order-total)

-- the renewal of the pair at the moment
abbrev pub renewal_at : ℕ → EndpointGroup → LastRenewal
renewal_at moment at = record { renewed = moment; at = at }

-- renewals that the order ties are one
pub renewal_order-exact : CmpEqualImpliesEq renewal_order
renewal_order-exact one other same =
    let both = both_tied (nat_cmp one.renewed other.renewed) (endpoint_group_order one.at other.at) same in
    ap (λ (moment : ℕ). renewal_at moment one.at) (exact_unsigned one.renewed other.renewed both.0)
    ∙ ap (λ (at : EndpointGroup). renewal_at other.renewed at) (endpoint_group_order-exact one.at other.at both.1)
