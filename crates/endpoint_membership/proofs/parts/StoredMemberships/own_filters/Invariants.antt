use Rattle.std.{proofs.Common.{◌≡◌}, specs.BTreeMap.{get}}
use Rattle.amt_values.specs.{declared.address.Ip.{Ip}, Order.{ip_order}}
use Rattle.endpoint_membership.{specs.Effective.{IsInOrder}, proofs.OwnFilters.{seen_filter}}
use Rattle.endpoint_membership.proofs.parts.StoredMemberships.own_filters.Given as goal

abbrev pub invariant-loop-at : goal.invariant-loop-at
invariant-loop-at l =
    ((group : Ip) → get ip_order l.filters group ≡ seen_filter l.lifetime_ms l.moment l.endpoint l.self l.yielded group)
    × ((group : Ip) → IsInOrder (get ip_order l.filters group))
