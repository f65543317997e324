use Rattle.std.{proofs.Common.{◌≡◌, not, ◌&&◌, take}, specs.BTreeSet.{contains}}
use Rattle.endpoint_membership.specs.{Parts.{is_renewal_in, is_stored, renewal_order}, declared.keys.LastRenewal.{LastRenewal}}
use Rattle.endpoint_membership.proofs.parts.renew.take_renewals.Given as goal

abbrev pub invariant-loop-membership : goal.invariant-loop-membership
invariant-loop-membership l = (renewal : LastRenewal) → contains renewal_order l.renewals renewal
    ≡ (contains renewal_order l.initial.renewals renewal
    && not (is_renewal_in (take l.membership-index l.memberships) renewal && not (is_stored l.filters renewal)))
