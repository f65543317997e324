-- Which tunnel endpoints get a copy of a packet, by the log alone (RFC 7450, section 5.3.3).
use Rattle.std.specs.{Prelude.{ℕ, List, [], ◌∷◌}, List.{filter}}
use Rattle.amt_values.specs.{declared.address.Ip.{Ip}, Order.{endpoint_order}, EndpointValue.{EndpointValue}, Ascending.{ascending}}
use Rattle.endpoint_membership.specs.{Admission.{is_admitted}, declared.change.Change.{Change, TheVariants.{Reported, Clear, Mark}}}

-- the endpoints whose reports are in the log, with repeats
abbrev pub endpoints_in : List Change → List EndpointValue
endpoints_in [] = []
endpoints_in (Reported endpoint records at ∷ rest) = endpoint ∷ endpoints_in rest
endpoints_in (Clear endpoint at ∷ rest) = endpoints_in rest
endpoints_in (Mark at ∷ rest) = endpoints_in rest

-- the different endpoints that want the source of the group at a moment, ascending; no moment is
-- before the latest one of the log
unfoldable pub targets_of : ℕ → List Change → Ip → Ip → ℕ → List EndpointValue
targets_of lifetime log group source moment =
    filter (λ endpoint. is_admitted lifetime log (record { endpoint = endpoint; group = group }) source moment) (ascending endpoint_order (endpoints_in log))

-- what contracts see of targets: how many endpoints there is room for, and those that are in
pub record TargetsValue : Type 0 where
  pub room : ℕ
  pub endpoints : List EndpointValue
