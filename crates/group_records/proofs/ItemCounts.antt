-- A report names no more records and sources than it has octets.
use Rattle.std.proofs.Common.{◌≡◌, ℕ, zero, suc, ◌+◌, ◌*◌, ◌≤◌, List, ◌++◌, length, length-append, length-drop, drop, Option, Some, None, Result, Ok, Err, sym, subst, arith}
use Rattle.std.{proofs.lemmas.{Bool.{ltb-false}, List.{length-map, Sums.{sum_by-append}}}, specs.Result.{IfOk}}
use Rattle.amt_values.{specs.Conditions.{first_holding}, proofs.ConditionLaws.{NoneHolds-of, first_holding-both_none, unless-ok}}
use Rattle.source_filter.specs.{declared.record.{Record.{Record}, RecordKind.{RecordKind}}, declared.fault.ReadFault.{ReadFault}, Record.{item_count}}
use Rattle.group_records.specs.{declared.family.Family.{Family, TheVariants.{V4, V6}}, CarriedRecord.{CarriedRecord, record_of_kind, known_record, known_records}, Family.{address_in, kind_of, width}}
use Rattle.group_records.{specs.Reading.{GivesRecords, carried_records_at, all_record_faults, carried_record_at, first_report_fault, head_length, later_record_faults, older_kind_in, record_count, record_faults, record_length, records_by, records_in, report_head_faults, report_of, source_count}, proofs.{Numbers.{length-numbers_at}, RecordOctets.{whole_record}, RecordLists.{later_faults}}}

item_count-append : (some others : List Record) → item_count (some ++ others) ≡ item_count some + item_count others
item_count-append some others =
    let records = length-append some others in
    let sources = sum_by-append (λ (group_record : Record). length group_record.sources) some others in omega arith

record_of_kind-few : (kind : Option RecordKind) (family : Family) (carried : CarriedRecord) → item_count (record_of_kind kind family carried) ≤ 1 + length carried.sources
record_of_kind-few None family carried = omega arith
record_of_kind-few (Some kind) family carried = let same = length-map carried.sources (address_in family) in omega arith

pub width-some : (family : Family) (count : ℕ) → count ≤ count * width family
width-some V4 count = omega arith
width-some V6 count = omega arith

-- a record and its sources take at least as many octets
carried_record_at-few : (family : Family) (bytes : List ℕ) → item_count (known_record family (carried_record_at family bytes)) ≤ record_length family bytes
carried_record_at-few family bytes =
    let carried = carried_record_at family bytes in
    let few = record_of_kind-few (kind_of carried.kind) family carried in
    let count = length-numbers_at (width family) (source_count bytes) (drop (head_length family) bytes) in
    let some = width-some family (source_count bytes) in omega arith

known_records-few : (family : Family) (index count : ℕ) (bytes : List ℕ) → first_holding (all_record_faults family index count bytes) ≡ None
    → item_count (known_records family (carried_records_at family count bytes)) ≤ length bytes
known_records-few family index zero bytes none = omega arith
known_records-few family index (suc count) bytes none =
    let both = first_holding-both_none (record_faults family index bytes) (later_faults family index count bytes) none in
    let whole = whole_record family index bytes both.0 in
    let left = drop (record_length family bytes) bytes in
    let later = known_records-few family (suc index) count left both.1 in
    let first = carried_record_at-few family bytes in
    let after = length-drop (record_length family bytes) bytes in
    let all = item_count-append (known_record family (carried_record_at family bytes)) (known_records family (carried_records_at family count left)) in omega arith

records_by-few : (older : Option RecordKind) (family : Family) (payload : List ℕ) → 8 ≤ length payload
    → first_holding (later_record_faults older family payload) ≡ None → item_count (records_by older family payload) ≤ length payload
records_by-few None family payload whole none =
    let few = known_records-few family 0 (record_count payload) (drop 8 payload) none in
    let after = length-drop 8 payload in omega arith
records_by-few (Some kind) family payload whole none = omega (arith, whole)

read-few : (family : Family) (pseudo_header payload : List ℕ) (records : List Record) → report_of family pseudo_header payload ≡ Ok records
    → item_count records ≤ length payload
unfolding first_report_fault report_of
read-few family pseudo_header payload records same =
    let read = unless-ok (first_report_fault family pseudo_header payload) (records_in family payload) records (sym same) in
    let both = first_holding-both_none (report_head_faults family pseudo_header payload)
    (later_record_faults (older_kind_in family payload) family payload) read.0 in
    let whole = ltb-false (length payload) 8 (NoneHolds-of (report_head_faults family pseudo_header payload) both.0).0 in
    let fits = records_by-few (older_kind_in family payload) family payload whole both.1 in
    subst (λ (all : List Record). item_count all ≤ length payload) (sym read.1) fits

pub answer_few : (family : Family) (pseudo_header payload : List ℕ) (answer : Result (List Record) ReadFault)
    → GivesRecords answer (report_of family pseudo_header payload) → IfOk answer (λ records. item_count records ≤ length payload)
answer_few family pseudo_header payload (Ok records) gives = read-few family pseudo_header payload records gives
answer_few family pseudo_header payload (Err fault) gives = tt
