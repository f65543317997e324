use Rattle.std.{proofs.Common.{◌≡◌, ◌||◌, take}, specs.BTreeSet.{contains}}
use Rattle.endpoint_membership.specs.{Parts.{is_renewal_in, renewal_order}, declared.keys.LastRenewal.{LastRenewal}}
use Rattle.endpoint_membership.proofs.parts.renew.put_renewals.Given as goal

abbrev pub invariant-loop-membership : goal.invariant-loop-membership
invariant-loop-membership l = (renewal : LastRenewal) → contains renewal_order l.renewals renewal
    ≡ (is_renewal_in (take l.membership-index l.memberships) renewal || contains renewal_order l.initial.renewals renewal)
