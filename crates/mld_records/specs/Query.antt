-- Membership queries of MLDv2 between two addresses (RFC 3810, section 5.1).
use Rattle.std.specs.Prelude.{ℕ, List, length, Option, Result}
use Rattle.source_filter.specs.declared.{fault.ReportFault.{ReportFault}, query.{QueryFields.{QueryFields}, QueryRead.{QueryRead}}}
use Rattle.group_records.specs.{declared.family.Family.TheVariants.{V6}, Query.{IsQuery, first_query_fault, general_query, query_of, written_query}}
use Rattle.mld_records.specs.PseudoHeader.{pseudo_header}

-- a query of these values
abbrev pub IsQuery6 : ℕ → ℕ → QueryRead → List ℕ → Type 0
IsQuery6 source destination query payload =
    IsQuery V6 (pseudo_header source destination (length payload)) query payload

-- a query of every group and no source that suppresses nothing. The reserved octets and bits, and
-- what follows the first 28 octets, may be any.
abbrev pub IsGeneralQuery6 : ℕ → ℕ → QueryFields → List ℕ → Type 0
IsGeneralQuery6 source destination fields payload = IsQuery6 source destination (general_query V6 fields) payload

-- the one spelling in which it is written, of 28 octets
abbrev pub written_query6 : ℕ → ℕ → QueryFields → List ℕ
written_query6 source destination fields = written_query V6 (pseudo_header source destination 28) fields

-- the first fault of a payload, if any
abbrev pub first_query_fault6 : ℕ → ℕ → List ℕ → Option ReportFault
first_query_fault6 source destination payload =
    first_query_fault V6 (pseudo_header source destination (length payload)) payload

-- the values of the query that the payload is, or its first fault
abbrev pub query6_of : ℕ → ℕ → List ℕ → Result QueryRead ReportFault
query6_of source destination payload =
    query_of V6 (pseudo_header source destination (length payload)) payload
