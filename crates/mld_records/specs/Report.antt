-- Membership reports of MLD between two addresses (RFC 3810, sections 5.2 and 8.3.2).
use Rattle.std.specs.Prelude.{ℕ, List, length, All, Option, Result}
use Rattle.source_filter.specs.{declared.record.Record.{Record}, declared.fault.ReportFault.{ReportFault}}
use Rattle.group_records.specs.{declared.family.Family.TheVariants.{V6}, Report.{IsReport}, Reading.{AsksMemory, first_report_fault, report_of}, Written.{IsOfFamily, report_length, written_report}}
use Rattle.mld_records.specs.PseudoHeader.{pseudo_header}

-- a report of these records
abbrev pub IsReport6 : ℕ → ℕ → List Record → List ℕ → Type 0
IsReport6 source destination records payload =
    IsReport V6 (pseudo_header source destination (length payload)) records payload

-- the first fault of a payload, if any
abbrev pub first_report_fault6 : ℕ → ℕ → List ℕ → Option ReportFault
first_report_fault6 source destination payload =
    first_report_fault V6 (pseudo_header source destination (length payload)) payload

-- the records of the report that the payload is, or its first fault
abbrev pub report6_of : ℕ → ℕ → List ℕ → Result (List Record) ReportFault
report6_of source destination payload =
    report_of V6 (pseudo_header source destination (length payload)) payload

-- a record is kept before any fault, so memory is asked for it
abbrev pub AsksMemory6 : ℕ → ℕ → List ℕ → Type 0
AsksMemory6 source destination payload =
    AsksMemory V6 (pseudo_header source destination (length payload)) payload

-- all addresses of the records are IPv6 addresses
abbrev pub AreRecords6 : List Record → Type 0
AreRecords6 records = All (IsOfFamily V6) records

-- the octets of their report
abbrev pub report_length6 : List Record → ℕ
report_length6 records = report_length V6 records

-- and its one spelling
abbrev pub written_report6 : ℕ → ℕ → List Record → List ℕ
written_report6 source destination records =
    written_report V6 (pseudo_header source destination (report_length6 records)) records
