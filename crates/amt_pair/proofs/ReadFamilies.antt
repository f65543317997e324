-- What is read of a report that a gateway wrote is of the family of the gateway's source.
use Rattle.std.{proofs.{Common.{◌≡◌, ℕ, true, List, [], ◌∷◌, drop, length, map, Option, Some, None, Result, Ok, Err, refl, sym, ap, subst}, lemmas.List.Elements.{All-append, All-cons, All-nil}}, specs.List.{All}}
use Rattle.amt_values.{specs.{Address.{number_of}, declared.address.Ip.{Ip, TheVariants.{V4, V6}}}, proofs.ConditionLaws.{unless-ok}}
use Rattle.source_filter.specs.{declared.record.{Record.{Record}, RecordKind.{RecordKind}}, declared.fault.ReportFault.{ReportFault}}
use Rattle.inner_datagrams.specs.{Fault.{first_inner_fault}, Reading.{inner_at, payload_in}, Written.{written_inner4, written_inner6}, declared.inner.InnerFault.{InnerFault}}
use Rattle.group_records.specs.{declared.family.Family.{Family, TheVariants.{V4 as Igmp, V6 as Mld}}, CarriedRecord.{CarriedRecord, known_record, known_records, record_of_kind}, Family.{address_in, group_number, kind_of}, Reading.{carried_records_at, first_report_fault, older_kind_in, record_count, records_by, records_in, report_of}, Report.{older_record}, Written.{is_of_family}}
use Rattle.mld_records.specs.PseudoHeader.{pseudo_header}
use Rattle.socket_merge.specs.Refusal.{family_of}
use Rattle.gateway_machine.specs.Reports.{report_datagram}
use Rattle.relay_machine.specs.Updates.{carried_report, report_by, report_in}

-- a record on a group of the family
abbrev IsOn : Family → Record → Type 0
IsOn family one = is_of_family family one.group ≡ true

address_in-family : (family : Family) (number : ℕ) → is_of_family family (address_in family number) ≡ true
address_in-family Igmp number = refl
address_in-family Mld number = refl

kind-family : (kind : Option RecordKind) (family : Family) (carried : CarriedRecord) → All (IsOn family) (record_of_kind kind family carried)
kind-family None family carried = All-nil (IsOn family)
kind-family (Some kind) family carried =
    let one : Record = record { kind = kind; group = address_in family carried.group; sources = map (address_in family) carried.sources } in
    All-cons (IsOn family) one [] (address_in-family family carried.group) (All-nil (IsOn family))

known-family : (family : Family) (carried : List CarriedRecord) → All (IsOn family) (known_records family carried)
known-family family [] = All-nil (IsOn family)
known-family family (one ∷ more) =
    All-append (IsOn family) (known_record family one) (known_records family more) (kind-family (kind_of one.kind) family one) (known-family family more)

records-family : (older : Option RecordKind) (family : Family) (payload : List ℕ) → All (IsOn family) (records_by older family payload)
records-family None family payload = known-family family (carried_records_at family (record_count payload) (drop 8 payload))
records-family (Some older) family payload =
    All-cons (IsOn family) (older_record family older payload) [] (address_in-family family (group_number family payload)) (All-nil (IsOn family))

-- what is read of a payload for a family is of that family, whatever the payload is
pub report_of-family : (family : Family) (before payload : List ℕ) (records : List Record) → report_of family before payload ≡ Ok records
    → All (λ (one : Record). is_of_family family one.group ≡ true) records
unfolding report_of
report_of-family family before payload records read =
    let same = unless-ok (first_report_fault family before payload) (records_in family payload) records (sym read) in
    subst (All (IsOn family)) (sym same.1) (records-family (older_kind_in family payload) family payload)

carried-family : (source destination : Ip) (payload : List ℕ) (records : List Record) → carried_report source destination payload ≡ Ok records
    → All (IsOn (family_of source)) records
carried-family (V4 source) destination payload records read = report_of-family Igmp [] payload records read
carried-family (V6 source) destination payload records read =
    report_of-family Mld (pseudo_header source (number_of destination) (length payload)) payload records read

report_by-reading : (fault : Option InnerFault) (reading : Result (List Record) ReportFault) (records : List Record) → report_by fault reading ≡ Ok records
    → reading ≡ Ok records
report_by-reading None (Ok found) records read = let same : found ≡ records = cc in ap (λ (all : List Record). Ok all) same
report_by-reading None (Err fault) records read = absurd cc
report_by-reading (Some fault) reading records read = absurd cc

-- the version in the first octet is that of the source
version-family : (source : Ip) (written : List Record) → family_of (inner_at (report_datagram source written)).source ≡ family_of source
unfolding report_datagram written_inner4 written_inner6
version-family (V4 source) written = refl
version-family (V6 source) written = refl

-- whatever the source and the records are: no address has to fit its octets
pub read-family : (source : Ip) (written records : List Record) → report_in (report_datagram source written) ≡ Ok records
    → All (λ (one : Record). is_of_family (family_of source) one.group ≡ true) records
unfolding report_in
read-family source written records read =
    let inner = report_datagram source written in
    let place = inner_at inner in
    let reading = report_by-reading (first_inner_fault inner) (carried_report place.source place.destination (payload_in inner)) records read in
    subst (λ (family : Family). All (IsOn family) records) (version-family source written)
    (carried-family place.source place.destination (payload_in inner) records reading)
