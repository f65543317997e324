-- The datagrams of General Queries: how long they are, and that no limit is in them.
use Rattle.std.proofs.{Common.{◌≡◌, ℕ, ◌+◌, ◌≤◌, Bool, true, false, List, [], length, Option, Some, if◌then◌else◌, refl, arith}, lemmas.Bool.{cond_both}}
use Rattle.amt_values.specs.EndpointValue.{EndpointValue}
use Rattle.amt_messages.specs.{Layout.{named_gateway_octets}, StatedLength.{inner_length_of}}
use Rattle.group_records.{specs.{declared.family.Family.TheVariants.{V4}, Query.{written_query}}, proofs.WrittenQuery.{length-written_query}}
use Rattle.igmp_records.specs.Query.{written_query4}
use Rattle.source_filter.specs.declared.query.QueryFields.{QueryFields}
use Rattle.inner_datagrams.specs.Written.{written_inner4, written_inner6}
use Rattle.endpoint_membership.specs.declared.limits.Limits.{Limits}
use Rattle.relay_machine.specs.{declared.settings.Settings.{Settings}, Queries.{gateway_named, general_query}}

pub length-written_query4 : (fields : QueryFields) → length (written_query4 fields) ≡ 12
length-written_query4 fields = length-written_query V4 [] fields

length-general_query : (settings : Settings) (v6 : Bool) → length (general_query settings v6) ≡ (if v6 then 76 else 36)
unfolding general_query written_inner4 written_inner6 written_query
length-general_query settings false = refl
length-general_query settings true = refl

-- each is as long as its own header says
inner_length_of-general_query : (settings : Settings) (v6 : Bool) → inner_length_of (general_query settings v6) ≡ Some (if v6 then 76 else 36)
unfolding general_query written_inner4 written_inner6 written_query inner_length_of
inner_length_of-general_query settings false = refl
inner_length_of-general_query settings true = refl

-- so a Query may carry it, with as many octets after it as an endpoint takes
pub query_may_carry : (inner : List ℕ) (settings : Settings) (v6 : Bool) (trailing : ℕ) → trailing ≤ 18 → inner ≡ general_query settings v6
    → (inner_length_of inner ≡ Some (length inner)) × (12 + length inner + trailing ≤ 65535)
query_may_carry inner settings false trailing few same =
    let size = length-general_query settings false in
    rw same (rw size (inner_length_of-general_query settings false), rw size (omega arith))
query_may_carry inner settings true trailing few same =
    let size = length-general_query settings true in
    rw same (rw size (inner_length_of-general_query settings true), rw size (omega arith))

-- the gateway that it names takes no more than these
pub named-few : (settings : Settings) (source : EndpointValue) → length (named_gateway_octets (gateway_named settings source)) ≤ 18
named-few settings source = cond_both settings.linux_gateways _ _ (λ (seen : Option EndpointValue). length (named_gateway_octets seen) ≤ 18) (λ _. omega arith) (λ _. omega arith)

-- other limits give the same General Query
pub general_query-limits : (settings : Settings) (limits : Limits) (v6 : Bool) → general_query settings v6 ≡ general_query (record settings { limits = limits }) v6
unfolding general_query
general_query-limits settings limits false = refl
general_query-limits settings limits true = refl
