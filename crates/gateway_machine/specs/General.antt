-- The General Query that a Query carries (RFC 7450, section 5.1.4), as a gateway of one family reads it.
use Rattle.std.specs.Prelude.{ℕ, ◌==◌, Bool, true, false, List, Option, Some, None, Result, Ok, Err, if◌then◌else◌}
use Rattle.amt_values.specs.{Address.{number_of}, declared.address.Ip.{Ip, TheVariants.{V4, V6}}}
use Rattle.inner_datagrams.specs.{Fault.{first_inner_fault}, Reading.{inner_at, payload_in}, declared.inner.InnerFault.{InnerFault}}
use Rattle.source_filter.specs.declared.{fault.ReportFault.{ReportFault}, query.{QueryFields.{QueryFields}, QueryRead.{QueryRead}}}
use Rattle.igmp_records.specs.Query.{query4_of}
use Rattle.mld_records.specs.Query.{query6_of}
use Rattle.gateway_machine.specs.declared.outcome.Ignored.{Ignored, TheVariants.{Body, Family, Inner, NotGeneral}}

-- the fields of a query of all groups (RFC 3376, section 4.1.11; RFC 3810, section 5.1.13)
abbrev pub general_fields : Result QueryRead ReportFault → Result QueryFields Ignored
general_fields (Err fault) = Err (Body fault)
general_fields (Ok query) = if number_of query.group == 0 then Ok query.fields else Err (NotGeneral query.group)

-- the fields of the query in a payload between these addresses: a query of MLDv2 over IPv6, or of IGMPv3
-- over IPv4
abbrev pub carried_query : Bool → Ip → Ip → List ℕ → Result QueryFields Ignored
carried_query false (V4 source) destination payload = general_fields (query4_of payload)
carried_query false (V6 source) destination payload = Err Family
carried_query true (V4 source) destination payload = Err Family
carried_query true (V6 source) destination payload = general_fields (query6_of source (number_of destination) payload)

-- the reading, unless the datagram has a fault
abbrev pub unless_fault : Option InnerFault → Result QueryFields Ignored → Result QueryFields Ignored
unless_fault None reading = reading
unless_fault (Some fault) reading = Err (Inner fault)

-- the fields of the General Query that inner octets carry, or why a gateway of the family ignores them
unfoldable pub general_query_in : Bool → List ℕ → Result QueryFields Ignored
general_query_in v6 inner =
    unless_fault (first_inner_fault inner)
    (carried_query v6 (inner_at inner).source (inner_at inner).destination (payload_in inner))
