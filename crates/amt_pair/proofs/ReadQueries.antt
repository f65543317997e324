-- A General Query that a relay writes is read as the fields that it wrote.
use Rattle.std.proofs.{Common.{◌≡◌, ℕ, ◌*◌, ◌%◌, ◌<◌, ◌≤◌, Bool, true, false, List, [], length, Option, Ok, refl, sym, ap, ◌∙◌, arith, rules}, lemmas.Bool.{le-ltb}}
use Rattle.amt_values.{specs.{Conditions.{unless}, Octets.{AreOctets}, declared.address.Ip.{Ip, TheVariants.{V4, V6}}}, proofs.ConditionLaws.{first_holding-none, skips_same}}
use Rattle.source_filter.specs.declared.{fault.ReportFault.{ReportFault}, query.{QueryFields.{QueryFields}, QueryRead.{QueryRead}}}
use Rattle.inner_datagrams.{specs.{Inner.{IsInner}, Reading.{inner_at, payload_in}, declared.inner.InnerFault.{InnerFault}}, proofs.{Faults.{IsLawful-inner}, Octets.{AreOctets-from_each}, Parts.{AreOctets-append}, ReadBack.{IsInner4-written_inner4, IsInner6-written_inner6}, Readings.{answer_payload}}}
use Rattle.group_records.{specs.{declared.family.Family.{Family, TheVariants.{V4 as Igmp, V6 as Mld}}, Query.{IsQuery, first_query_fault, general_query as general_query_with, greatest_code, least_query_length, query_faults, query_of, query_values, query_with_sum, written_query}}, proofs.WrittenQuery.{IsGeneralQuery-written_query, length-written_query}}
use Rattle.mld_records.specs.PseudoHeader.{pseudo_header}
use Rattle.socket_merge.specs.FullReport.{family_by}
use Rattle.gateway_machine.specs.General.{carried_query, general_fields, general_query_in}
use Rattle.relay_machine.specs.{declared.{number_key.NumberKey.TheVariants.{Robustness}, settings.Settings.{Settings}}, Queries.{all_nodes, all_systems, general_query, query_fields}, Settings.{AreLawfulSettings}}
use Rattle.amt_pair.{specs.Queries.{HasQuerySources}, proofs.QueryTimes.{code_of-is, mld_code_of-is}}

-- a query of these values has no fault, and is read as them
query-read : (family : Family) (before payload : List ℕ) (query : QueryRead) → IsQuery family before query payload → query_of family before payload ≡ Ok query
unfolding query_of first_query_fault
query-read family before payload query is =
    let least : least_query_length family ≤ length payload = let whole = is.whole in omega arith in
    let none = first_holding-none (query_faults family before payload)
    (le-ltb _ _ least, (skips_same _ _ is.kind, (skips_same _ _ is.right_sum, (le-ltb _ _ is.whole, tt)))) in
    let values : query_values family payload ≡ query = λ i. record {
      fields = record { max_code = is.max_code i; robustness = is.robustness i; interval_code = is.interval_code i };
      suppress = is.suppress i;
      group = is.group i;
      sources = is.sources i;
    } in
    ap (λ (fault : Option ReportFault). unless fault (query_values family payload)) none ∙ ap (λ (read : QueryRead). Ok read) values

-- a datagram that carries a General Query is read as its fields
inner-read : (v6 : Bool) (source destination : Ip) (payload inner : List ℕ) (fields : QueryFields) → IsInner source destination payload inner
    → carried_query v6 source destination payload ≡ Ok fields → general_query_in v6 inner ≡ Ok fields
unfolding general_query_in
inner-read v6 source destination payload inner fields is carried =
    let found = IsLawful-inner source destination payload inner is in
    let reading = ap (λ (fault : Option InnerFault). unless fault (inner_at inner)) (sym found.none) in
    let carries : payload_in inner ≡ payload = sym (answer_payload (Ok (inner_at inner)) inner reading) ∙ found.parts.carries in
    rw (found.none, found.parts.comes_from, found.parts.goes_to, carries, carried) refl

pub AreOctets-pseudo_header : (source destination message_length : ℕ) → AreOctets (pseudo_header source destination message_length)
unfolding pseudo_header
AreOctets-pseudo_header source destination message_length =
    AreOctets-from_each (pseudo_header source destination message_length) (search rules)

pub even-pseudo_header : (source destination message_length : ℕ) → length (pseudo_header source destination message_length) % 2 ≡ 0
unfolding pseudo_header
even-pseudo_header source destination message_length = refl

-- the fields fit those of the family's query
record AreSmall (family : Family) (fields : QueryFields) : Type 0 where
  max_code : fields.max_code ≤ greatest_code family
  robustness : fields.robustness ≤ 7
  interval_code : fields.interval_code < 256

AreSmall-query_fields : (settings : Settings) (v6 : Bool) → AreLawfulSettings settings → AreSmall (family_by v6) (query_fields settings v6)
AreSmall-query_fields settings v6 lawful = record {
  max_code = greatest v6;
  robustness = (lawful.numbers Robustness).most;
  interval_code = (code_of-is settings.query_seconds lawful.times.interval).0;
}
  where
    greatest : (v6 : Bool) → (query_fields settings v6).max_code ≤ greatest_code (family_by v6)
    greatest false = omega (arith, (code_of-is settings.response_tenths lawful.times.response).0)
    greatest true = omega (arith, (mld_code_of-is (settings.response_tenths * 100) lawful.times.mld_response).0)

AreOctets-query : (family : Family) (fields : QueryFields) → fields.max_code ≤ greatest_code family → fields.robustness ≤ 7 → fields.interval_code < 256
    → AreOctets (query_with_sum 0 family fields)
AreOctets-query Igmp fields max_code robustness interval_code = AreOctets-from_each (query_with_sum 0 Igmp fields) (search rules)
AreOctets-query Mld fields max_code robustness interval_code = AreOctets-from_each (query_with_sum 0 Mld fields) (search rules)

-- what is written of them is read as them
written-read : (family : Family) (before : List ℕ) (fields : QueryFields) → AreSmall family fields → length before % 2 ≡ 0 → AreOctets before
    → query_of family before (written_query family before fields) ≡ Ok (general_query_with family fields)
written-read family before fields small even octets =
    let own = AreOctets-query family fields small.max_code small.robustness small.interval_code in
    query-read family before (written_query family before fields) (general_query_with family fields)
    (IsGeneralQuery-written_query family before fields even (AreOctets-append before (query_with_sum 0 family fields) octets own) small.max_code small.robustness)

-- a relay's General Query is read as its fields
pub general_query_in-general_query : (settings : Settings) (v6 : Bool) → AreLawfulSettings settings → HasQuerySources settings
    → general_query_in v6 (general_query settings v6) ≡ Ok (query_fields settings v6)
unfolding general_query
general_query_in-general_query settings false lawful sources =
    let fields = query_fields settings false in
    let payload = written_query Igmp [] fields in
    let size = length-written_query Igmp [] fields in
    inner-read false (V4 settings.query4) (V4 all_systems) payload _ fields (IsInner4-written_inner4 settings.query4 all_systems payload sources.ipv4 (omega arith) (omega arith))
    (ap general_fields (written-read Igmp [] fields (AreSmall-query_fields settings false lawful) refl (λ k. omega arith)))
general_query_in-general_query settings true lawful sources =
    let fields = query_fields settings true in
    let source = settings.query6 in
    let before = pseudo_header source all_nodes 28 in
    let payload = written_query Mld before fields in
    let size = length-written_query Mld before fields in
    inner-read true (V6 source) (V6 all_nodes) payload _ fields (IsInner6-written_inner6 source all_nodes payload sources.ipv6 (omega arith) (omega arith))
    (ap (λ (octets : ℕ). general_fields (query_of Mld (pseudo_header source all_nodes octets) payload)) size
    ∙ ap general_fields (written-read Mld before fields (AreSmall-query_fields settings true lawful) (even-pseudo_header source all_nodes 28) (AreOctets-pseudo_header source all_nodes 28)))
