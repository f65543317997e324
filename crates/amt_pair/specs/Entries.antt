-- Whose memberships an entry of the accepted log changes.
use Rattle.std.specs.Prelude.{Bool, false}
use Rattle.amt_values.specs.EndpointValue.{EndpointValue}
use Rattle.endpoint_membership.specs.{EndpointGroup.{same_endpoint}, declared.change.Change.{Change, TheVariants.{Clear, Mark, Reported}}}

-- the change is one of the endpoint's memberships
abbrev pub is_change_of : EndpointValue → Change → Bool
is_change_of endpoint (Reported other records at) = same_endpoint endpoint other
is_change_of endpoint (Clear other at) = same_endpoint endpoint other
is_change_of endpoint (Mark at) = false
