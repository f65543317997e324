use Rattle.std.proofs.Common.{◌≡◌, take}
use Rattle.endpoint_membership.specs.{EndpointGroup.{EndpointGroup}, FiltersAfter.{cleared_at, left_at}}
use Rattle.endpoint_membership.proofs.filters_after.clear_each.Given as goal

abbrev pub invariant-loop-at : goal.invariant-loop-at
invariant-loop-at l = (at : EndpointGroup) → left_at l.filters at ≡ cleared_at (take l.at-index l.pairs) at (left_at l.initial.filters at)
