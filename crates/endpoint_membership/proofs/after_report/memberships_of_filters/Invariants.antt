use Rattle.std.{proofs.Common.{◌≡◌}, specs.List.{filter_map}}
use Rattle.endpoint_membership.specs.EndpointMemberships.{gone_of_entry, membership_of_entry}
use Rattle.endpoint_membership.proofs.after_report.memberships_of_filters.Given as goal

abbrev pub invariant-loop-group : goal.invariant-loop-group
invariant-loop-group l = record {
  rows : l.memberships.items ≡ filter_map (membership_of_entry l.endpoint) l.yielded;
  gone : l.gone.items ≡ filter_map (gone_of_entry l.endpoint) l.yielded;
}
