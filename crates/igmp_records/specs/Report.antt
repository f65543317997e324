-- Membership reports of IGMP, whose checksum has no pseudo-header (RFC 3376, sections 4.2 and 7.3.2).
use Rattle.std.specs.Prelude.{ℕ, List, [], All, Option, Result}
use Rattle.source_filter.specs.{declared.record.Record.{Record}, declared.fault.ReportFault.{ReportFault}}
use Rattle.group_records.specs.{declared.family.Family.TheVariants.{V4}, Report.{IsReport}, Reading.{AsksMemory, first_report_fault, report_of}, Written.{IsOfFamily, report_length, written_report}}

-- a report of these records
abbrev pub IsReport4 : List Record → List ℕ → Type 0
IsReport4 records payload = IsReport V4 [] records payload

-- the first fault of a payload, if any
abbrev pub first_report_fault4 : List ℕ → Option ReportFault
first_report_fault4 payload = first_report_fault V4 [] payload

-- the records of the report that the payload is, or its first fault
abbrev pub report4_of : List ℕ → Result (List Record) ReportFault
report4_of payload = report_of V4 [] payload

-- a record is kept before any fault, so memory is asked for it
abbrev pub AsksMemory4 : List ℕ → Type 0
AsksMemory4 payload = AsksMemory V4 [] payload

-- all addresses of the records are IPv4 addresses
abbrev pub AreRecords4 : List Record → Type 0
AreRecords4 records = All (IsOfFamily V4) records

-- the one spelling of their report
abbrev pub written_report4 : List Record → List ℕ
written_report4 records = written_report V4 [] records

-- and its octets
abbrev pub report_length4 : List Record → ℕ
report_length4 records = report_length V4 records
