-- What an Update carries (RFC 7450, section 5.1.5).
use Rattle.std.specs.{Prelude.{ℕ, List, Option, Some, None, Result, Ok, Err}, List.{filter}}
use Rattle.amt_values.specs.{Address.{number_of}, Group.{is_forwardable}, declared.address.Ip.{Ip, TheVariants.{V4, V6}}}
use Rattle.source_filter.specs.{declared.record.Record.{Record}, declared.fault.ReportFault.{ReportFault}}
use Rattle.inner_datagrams.specs.{Fault.{first_inner_fault}, Reading.{inner_at, payload_in}, declared.inner.InnerFault.{InnerFault}}
use Rattle.igmp_records.specs.Report.{report4_of}
use Rattle.mld_records.specs.Report.{report6_of}
use Rattle.relay_machine.specs.declared.outcome.Unlawful.{Unlawful as Fault, TheVariants.{Inner, Report}}

-- the records of the report in a datagram, unless the one or the other has a fault
abbrev pub report_by : Option InnerFault → Result (List Record) ReportFault → Result (List Record) Fault
report_by (Some fault) reading = Err (Inner fault)
report_by None (Err fault) = Err (Report fault)
report_by None (Ok records) = Ok records

-- what a datagram between these addresses carries: over IPv6 a report of MLD, which is summed with
-- them (RFC 3810, section 5.2), and over IPv4 one of IGMP
abbrev pub carried_report : Ip → Ip → List ℕ → Result (List Record) ReportFault
carried_report (V4 source) destination payload = report4_of payload
carried_report (V6 source) destination payload = report6_of source (number_of destination) payload

-- the records of the membership report that the inner octets of an Update carry
unfoldable pub report_in : List ℕ → Result (List Record) Fault
report_in inner =
    report_by (first_inner_fault inner)
    (carried_report (inner_at inner).source (inner_at inner).destination (payload_in inner))

-- the records on groups that are forwarded; the others are skipped
abbrev pub forwardable_records : List Record → List Record
forwardable_records records = filter (λ group_record. is_forwardable group_record.group) records
