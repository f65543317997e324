-- The membership query that the inner octets of a Query carry (RFC 7450, section 5.1.4), of either family.
use Rattle.std.specs.Prelude.{ℕ, List, Option, Some, None, Result, Ok, Err}
use Rattle.amt_values.specs.{Address.{number_of}, declared.address.Ip.{Ip, TheVariants.{V4, V6}}}
use Rattle.inner_datagrams.specs.{Fault.{first_inner_fault}, Reading.{inner_at, payload_in}, declared.inner.InnerFault.{InnerFault}}
use Rattle.source_filter.specs.declared.{fault.ReportFault.{ReportFault}, query.QueryRead.{QueryRead}}
use Rattle.igmp_records.specs.Query.{query4_of}
use Rattle.mld_records.specs.Query.{query6_of}
use Rattle.relay_machine.specs.declared.outcome.Unlawful.{Unlawful, TheVariants.{Inner, Report}}

-- the query in a datagram, unless the one or the other has a fault
abbrev pub query_by : Option InnerFault → Result QueryRead ReportFault → Result QueryRead Unlawful
query_by (Some fault) reading = Err (Inner fault)
query_by None (Err fault) = Err (Report fault)
query_by None (Ok query) = Ok query

-- what a datagram between these addresses carries: over IPv6 a query of MLDv2, which is summed with them
-- (RFC 3810, section 5.1), and over IPv4 one of IGMPv3 (RFC 3376, section 4.1)
abbrev pub carried_query : Ip → Ip → List ℕ → Result QueryRead ReportFault
carried_query (V4 source) destination payload = query4_of payload
carried_query (V6 source) destination payload = query6_of source (number_of destination) payload

-- the query that inner octets carry
unfoldable pub query_in : List ℕ → Result QueryRead Unlawful
query_in inner =
    query_by (first_inner_fault inner)
    (carried_query (inner_at inner).source (inner_at inner).destination (payload_in inner))
