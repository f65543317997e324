-- What the inner octets of a Query are read as.
use Rattle.std.proofs.Common.{◌≡◌, ℕ, Bool, List, drop, Some, None, Ok, Err, refl, sym, ap, ◌∙◌}
use Rattle.amt_values.specs.Conditions.{unless}
use Rattle.inner_datagrams.specs.{Fault.{first_inner_fault}, Reading.{inner_at, payload_in, payload_start}, declared.inner.{Inner.{Inner as InnerPlace}, InnerFault.{InnerFault}}}
use Rattle.gateway_machine.specs.{declared.outcome.Ignored.TheVariants.{Inner}, General.{carried_query, general_query_in, unless_fault}}

pub general_query-inner : (v6 : Bool) (inner : List ℕ) (fault : InnerFault) → first_inner_fault inner ≡ Some fault → Err (Inner fault) ≡ general_query_in v6 inner
unfolding general_query_in
general_query-inner v6 inner fault first = rw first refl

-- in a datagram without fault, what it carries is read
pub general_query-carried : (v6 : Bool) (inner payload : List ℕ) (place : InnerPlace) → first_inner_fault inner ≡ None
    → Ok place ≡ unless (first_inner_fault inner) (inner_at inner) → place.start ≡ payload_start inner → payload ≡ drop place.start inner
    → carried_query v6 place.source place.destination payload ≡ general_query_in v6 inner
unfolding general_query_in
general_query-carried v6 inner payload place none whole starts same =
    let at : place ≡ inner_at inner = let read = rw none at whole in cc read in
    let carried : payload ≡ payload_in inner = same ∙ ap (λ (start : ℕ). drop start inner) starts in
    rw (none, sym carried) (ap (λ (found : InnerPlace). unless_fault None (carried_query v6 found.source found.destination payload)) at)
