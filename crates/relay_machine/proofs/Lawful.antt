-- A lawful report is what the inner octets are read as, and what they are read as is one.
use Rattle.std.proofs.Common.{◌≡◌, ℕ, List, [], length, Option, Some, None, Result, Ok, Err, refl, sym, ap, subst, ◌∙◌}
use Rattle.amt_values.{specs.{Address.{number_of}, Octets.{AreOctets}, declared.address.Ip.{Ip, TheVariants.{V4, V6}}, Conditions.{unless}}, proofs.NetworkOrder.{AreOctets-drop}}
use Rattle.source_filter.specs.{declared.record.Record.{Record}, declared.fault.{ReadFault.{ReadFault, TheVariants.{Report}}, ReportFault.{ReportFault}}}
use Rattle.inner_datagrams.{specs.{Fault.{first_inner_fault}, Inner.{IsInner}, Reading.{inner_at, payload_in, payload_start}, declared.inner.InnerFault.{InnerFault}}, proofs.{Faults.{IsLawful-inner}, Readings.{IsReading, answer_found, answer_payload}}}
use Rattle.group_records.{specs.{declared.family.Family.{Family, TheVariants.{V4 as Igmp, V6 as Mld}}, Reading.{GivesRecords, report_of}, Report.{IsReport}}, proofs.ReportReadings.{answer_found as report_found, answer_only as report_only}}
use Rattle.mld_records.specs.PseudoHeader.{pseudo_header}
use Rattle.relay_machine.specs.{Lawful.{IsLawful, IsReportBetween}, Updates.{carried_report, report_by, report_in}}

-- a reading, as a call answers it
answer_of : Result (List Record) ReportFault → Result (List Record) ReadFault
answer_of (Ok records) = Ok records
answer_of (Err fault) = Err (Report fault)

answer_of-gives : (reading : Result (List Record) ReportFault) → GivesRecords (answer_of reading) reading
unfolding answer_of
answer_of-gives (Ok records) = refl
answer_of-gives (Err fault) = refl

answer_of-only : (reading : Result (List Record) ReportFault) (records : List Record) → GivesRecords (answer_of reading) (Ok records) → reading ≡ Ok records
unfolding answer_of
answer_of-only (Ok found) records gives = sym gives
answer_of-only (Err fault) records gives = sym gives

-- a report of these records is read as them
report-read : (family : Family) (before payload : List ℕ) (records : List Record) → IsReport family before records payload → report_of family before payload ≡ Ok records
report-read family before payload records report =
    let reading = report_of family before payload in
    answer_of-only reading records (report_only family before payload (answer_of reading) (answer_of-gives reading) records report)

carried-read : (source destination : Ip) (payload : List ℕ) (records : List Record) → IsReportBetween source destination records payload
    → carried_report source destination payload ≡ Ok records
carried-read (V4 source) destination payload records report = report-read Igmp [] payload records report
carried-read (V6 source) destination payload records report =
    report-read Mld (pseudo_header source (number_of destination) (length payload)) payload records report

read-carried : (source destination : Ip) (payload : List ℕ) (records : List Record) → AreOctets payload → carried_report source destination payload ≡ Ok records
    → IsReportBetween source destination records payload
read-carried (V4 source) destination payload records small read = report_found Igmp [] payload (Ok records) small read
read-carried (V6 source) destination payload records small read =
    report_found Mld (pseudo_header source (number_of destination) (length payload)) payload (Ok records) small read

-- the parts of a datagram without fault
parts_read : (inner : List ℕ) → first_inner_fault inner ≡ None → IsReading (Ok (inner_at inner)) inner
parts_read inner none = ap (λ (fault : Option InnerFault). unless fault (inner_at inner)) (sym none)

-- a lawful report is read
pub report_in-lawful : (inner : List ℕ) (records : List Record) → IsLawful inner records → report_in inner ≡ Ok records
unfolding report_in
report_in-lawful inner records lawful =
    let found = IsLawful-inner lawful.source lawful.destination lawful.payload inner lawful.datagram in
    let carries : payload_in inner ≡ lawful.payload = sym (answer_payload (Ok (inner_at inner)) inner (parts_read inner found.none)) ∙ found.parts.carries in
    rw (found.none, found.parts.comes_from, found.parts.goes_to, carries, carried-read lawful.source lawful.destination lawful.payload records lawful.report) refl

report_by-ok : (fault : Option InnerFault) (reading : Result (List Record) ReportFault) (records : List Record) → report_by fault reading ≡ Ok records
    → (fault ≡ None) × (reading ≡ Ok records)
report_by-ok None (Ok found) records same = (refl, let is : found ≡ records = cc in ap (λ (all : List Record). Ok all) is)
report_by-ok None (Err fault) records same = cc
report_by-ok (Some fault) reading records same = cc

-- what is read is a lawful report
pub lawful-report_in : (inner : List ℕ) (records : List Record) → AreOctets inner → report_in inner ≡ Ok records → IsLawful inner records
unfolding report_in
lawful-report_in inner records small read =
    let place = inner_at inner in
    let parts = report_by-ok (first_inner_fault inner) (carried_report place.source place.destination (payload_in inner)) records read in
    let reading = parts_read inner parts.0 in record {
      source = place.source;
      destination = place.destination;
      payload = payload_in inner;
      datagram = subst (λ (payload : List ℕ). IsInner place.source place.destination payload inner) (answer_payload (Ok place) inner reading) (answer_found (Ok place) inner reading);
      report = read-carried place.source place.destination (payload_in inner) records (AreOctets-drop (payload_start inner) inner small) parts.1;
    }
