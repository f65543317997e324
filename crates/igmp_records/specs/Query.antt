-- Membership queries of IGMPv3 (RFC 3376, section 4.1).
use Rattle.std.specs.Prelude.{ℕ, List, [], Option, Result}
use Rattle.source_filter.specs.declared.{fault.ReportFault.{ReportFault}, query.{QueryFields.{QueryFields}, QueryRead.{QueryRead}}}
use Rattle.group_records.specs.{declared.family.Family.TheVariants.{V4}, Query.{IsQuery, first_query_fault, general_query, query_of, written_query}}

-- a query of these values, whose checksum has no pseudo-header
abbrev pub IsQuery4 : QueryRead → List ℕ → Type 0
IsQuery4 query payload = IsQuery V4 [] query payload

-- a query of every group and no source that suppresses nothing. The reserved bits, and what follows
-- the first 12 octets, may be any.
abbrev pub IsGeneralQuery : QueryFields → List ℕ → Type 0
IsGeneralQuery fields payload = IsQuery4 (general_query V4 fields) payload

-- the one spelling in which it is written
abbrev pub written_query4 : QueryFields → List ℕ
written_query4 fields = written_query V4 [] fields

-- the first fault of a payload, if any
abbrev pub first_query_fault4 : List ℕ → Option ReportFault
first_query_fault4 payload = first_query_fault V4 [] payload

-- the values of the query that the payload is, or its first fault
abbrev pub query4_of : List ℕ → Result QueryRead ReportFault
query4_of payload = query_of V4 [] payload
