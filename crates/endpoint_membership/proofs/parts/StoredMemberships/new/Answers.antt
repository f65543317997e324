use Rattle.std.{proofs.Common.{List, ℕ, sym, ap, subst}, specs.{BTreeMap.{is_at}, List.{list_any}, Map.{lookup}}}
use Rattle.amt_values.specs.{EndpointValue.{EndpointValue}, Order.{endpoint_order}}
use Rattle.endpoint_membership.{specs.{Membership.{Membership}, Parts.{AreAgreed, renewal_order}, declared.keys.LastRenewal.{LastRenewal}}, proofs.MembershipIn.{IsAscending-none}}
use Rattle.endpoint_membership.proofs.parts.StoredMemberships.new.Goals as goal

pub invariant_of-result : goal.invariant_of-result
invariant_of-result c = subst (λ (rows : List Membership). AreAgreed rows c.new-2.result c.new-3.result) (sym c.new.ensures) (record {
  ascends = IsAscending-none;
  renewed = λ renewal. ap (λ (keys : List LastRenewal). list_any (is_at (renewal_order renewal)) keys) c.new-2.ensures.empty;
  counted = λ endpoint. ap (λ (entries : List (EndpointValue × ℕ)). lookup (is_at (endpoint_order endpoint)) entries) c.new-3.ensures.empty;
})
