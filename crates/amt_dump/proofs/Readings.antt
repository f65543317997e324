-- What a datagram, and the inner octets of a Query, are read as.
use Rattle.std.proofs.Common.{◌≡◌, ◌<◌, ℕ, List, drop, Some, None, Ok, Err, refl, sym, ap, subst, ◌∙◌, slice_index}
use Rattle.amt_values.specs.{declared.address.Ip.{Ip}, Conditions.{unless}}
use Rattle.inner_datagrams.specs.{Fault.{first_inner_fault}, Reading.{inner_at, payload_in, payload_start}, declared.inner.{Inner.{Inner as InnerPlace}, InnerFault.{InnerFault}}}
use Rattle.source_filter.specs.declared.{fault.ReportFault.{ReportFault}, query.QueryRead.{QueryRead}}
use Rattle.relay_machine.specs.declared.outcome.Unlawful.TheVariants.{Inner, Report}
use Rattle.group_records.specs.Code.{code_count}
use Rattle.igmp_records.specs.Query.{IsQuery4}
use Rattle.mld_records.specs.Query.{IsQuery6}
use Rattle.socket_merge.specs.Refusal.{family_of}
use Rattle.amt_dump.specs.Queries.{carried_query, query_by, query_in}

-- the code of the response time is one of its family's
pub code_of_query4 : (query : QueryRead) (payload : List ℕ) → slice_index payload 1 < 256 → IsQuery4 query payload
    → query.fields.max_code < code_count (family_of query.group)
code_of_query4 query payload small is =
    subst (λ (group : Ip). query.fields.max_code < code_count (family_of group)) is.group (subst (λ (code : ℕ). code < 256) is.max_code small)

pub code_of_query6 : (source destination : ℕ) (query : QueryRead) (payload : List ℕ) → query.fields.max_code < 65536 → IsQuery6 source destination query payload
    → query.fields.max_code < code_count (family_of query.group)
code_of_query6 source destination query payload small is =
    subst (λ (group : Ip). query.fields.max_code < code_count (family_of group)) is.group small

pub query_in-inner : (inner : List ℕ) (fault : InnerFault) → first_inner_fault inner ≡ Some fault → Err (Inner fault) ≡ query_in inner
unfolding query_in
query_in-inner inner fault first = rw first refl

-- in a datagram without fault, what it carries is read
query_in-carried : (inner payload : List ℕ) (place : InnerPlace) → first_inner_fault inner ≡ None
    → Ok place ≡ unless (first_inner_fault inner) (inner_at inner) → place.start ≡ payload_start inner → payload ≡ drop place.start inner
    → query_by None (carried_query place.source place.destination payload) ≡ query_in inner
unfolding query_in
query_in-carried inner payload place none whole starts same =
    let at : place ≡ inner_at inner = let read = rw none at whole in cc read in
    let carried : payload ≡ payload_in inner = same ∙ ap (λ (start : ℕ). drop start inner) starts in
    rw (none, sym carried) (ap (λ (found : InnerPlace). query_by None (carried_query found.source found.destination payload)) at)

pub query_in-query : (inner payload : List ℕ) (place : InnerPlace) (query : QueryRead) → first_inner_fault inner ≡ None
    → Ok place ≡ unless (first_inner_fault inner) (inner_at inner) → place.start ≡ payload_start inner → payload ≡ drop place.start inner
    → Ok query ≡ carried_query place.source place.destination payload → Ok query ≡ query_in inner
query_in-query inner payload place query none whole starts same read =
    ap (query_by None) read ∙ query_in-carried inner payload place none whole starts same

pub query_in-fault : (inner payload : List ℕ) (place : InnerPlace) (fault : ReportFault) → first_inner_fault inner ≡ None
    → Ok place ≡ unless (first_inner_fault inner) (inner_at inner) → place.start ≡ payload_start inner → payload ≡ drop place.start inner
    → Err fault ≡ carried_query place.source place.destination payload → Err (Report fault) ≡ query_in inner
query_in-fault inner payload place fault none whole starts same read =
    ap (query_by None) read ∙ query_in-carried inner payload place none whole starts same
