use Rattle.std.proofs.Common.{◌≡◌}
use Rattle.endpoint_membership.proofs.GroupMembers.{seen_members, targets_among}
use Rattle.endpoint_membership.proofs.parts.StoredMemberships.collect_targets.Given as goal

abbrev pub invariant-loop-member : goal.invariant-loop-member
invariant-loop-member l = record {
  endpoints : l.out.endpoints ≡ targets_among l.lifetime_ms l.moment l.group l.source l.self (seen_members l.yielded);
  room : l.out.room ≡ l.initial.out.room;
}
