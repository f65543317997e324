-- The first fault of a payload, its records where there is none, and what may be answered.
use Rattle.std.specs.Prelude.{◌≡◌, ℕ, zero, suc, ◌+◌, ◌*◌, ◌==◌, nat_lt, nat_le, not, ◌&&◌, ◌||◌, Bool, true, false, is_some, List, [], ◌∷◌, ◌++◌, length, drop, take, slice_index, Option, Some, None, Result}
use Rattle.byteorder.specs.Endian.{big_number}
use Rattle.amt_values.specs.{Answer.{Gives}, Conditions.{Conditions, first_holding, unless}}
use Rattle.inner_datagrams.specs.Checksum.{internet_sum_of, has_right_sum}
use Rattle.source_filter.specs.{declared.record.{Record.{Record}, RecordKind.{RecordKind}}, declared.fault.{ReportFault.{ReportFault, TheVariants.{Short, Kind, Sum, RecordShort, SourceShort}}, ReadFault.{ReadFault, TheVariants.{Report, Memory}}}}
use Rattle.group_records.specs.{declared.family.Family.{Family}, CarriedRecord.{CarriedRecord, known_records}, Family.{width, group_end, kind_of, older_kind, report_type}, Report.{older_record}}

-- so many numbers of so many octets each, one after another
abbrev pub numbers_at : ℕ → ℕ → List ℕ → List ℕ
numbers_at octets zero bytes = []
numbers_at octets (suc count) bytes = big_number octets bytes ∷ numbers_at octets count (drop octets bytes)

-- a record's head: type, number of auxiliary words, number of sources, and group
abbrev pub head_length : Family → ℕ
head_length family = 4 + width family

-- the number of sources that is stated after two octets, as in that head and after a query's group
abbrev pub source_count : List ℕ → ℕ
source_count bytes = big_number 2 (drop 2 bytes)

-- what the record at the head of the octets takes of them
abbrev pub record_length : Family → List ℕ → ℕ
record_length family bytes = head_length family + source_count bytes * width family + slice_index bytes 1 * 4

-- that record
abbrev pub carried_record_at : Family → List ℕ → CarriedRecord
carried_record_at family bytes = record {
  kind = slice_index bytes 0;
  group = big_number (width family) (drop 4 bytes);
  sources = numbers_at (width family) (source_count bytes) (drop (head_length family) bytes);
  auxiliary = take (slice_index bytes 1 * 4) (drop (head_length family + source_count bytes * width family) bytes);
}

-- so many records, one after another
abbrev pub carried_records_at : Family → ℕ → List ℕ → List CarriedRecord
carried_records_at family zero bytes = []
carried_records_at family (suc count) bytes =
    carried_record_at family bytes ∷ carried_records_at family count (drop (record_length family bytes) bytes)

-- what is wrong with the record at the head of the octets, which has this number: fewer octets are left than
-- its own head has, or than all of it takes (RFC 3376, section 4.2.4; RFC 3810, section 5.2.4)
abbrev pub record_faults : Family → ℕ → List ℕ → Conditions ReportFault
record_faults family index bytes =
    (nat_lt (length bytes) (head_length family), RecordShort index)
    ∷ (nat_lt (length bytes) (record_length family bytes), SourceShort index)
    ∷ []

-- that of so many records, one after another, of which the first has this number
abbrev pub all_record_faults : Family → ℕ → ℕ → List ℕ → Conditions ReportFault
all_record_faults family index zero bytes = []
all_record_faults family index (suc count) bytes =
    record_faults family index bytes ++ all_record_faults family (suc index) count (drop (record_length family bytes) bytes)

-- the checksum that is wanted is taken with a zero in its field
abbrev pub wanted_sum : List ℕ → List ℕ → ℕ
wanted_sum pseudo_header payload = internet_sum_of (pseudo_header ++ take 2 payload ++ 0 ∷ 0 ∷ drop 4 payload)

-- pseudo-header and payload don't add up (RFC 3376, sections 4.1.2 and 4.2.2; RFC 8200, section 8.1)
abbrev pub wrong_sum : List ℕ → List ℕ → Bool × ReportFault
wrong_sum pseudo_header payload =
    (not (has_right_sum (pseudo_header ++ payload)), Sum (wanted_sum pseudo_header payload) (big_number 2 (drop 2 payload)))

-- what an older message says of its group, and nothing of another payload
abbrev pub older_kind_in : Family → List ℕ → Option RecordKind
older_kind_in family payload = older_kind family (slice_index payload 0)

-- a type that is no report's of any version (RFC 3376, section 4; RFC 3810, section 5)
abbrev pub unknown_type : Family → List ℕ → Bool × ReportFault
unknown_type family payload =
    (not (is_some (older_kind_in family payload) || (slice_index payload 0 == report_type family)), Kind (slice_index payload 0))

-- an older message without its whole group
abbrev pub missing_group : Family → List ℕ → Bool × ReportFault
missing_group family payload =
    (is_some (older_kind_in family payload) && nat_lt (length payload) (group_end family), Short (group_end family) (length payload))

-- what is wrong with a report's head: too few octets, another type, an older group that isn't all there, a wrong sum
abbrev pub report_head_faults : Family → List ℕ → List ℕ → Conditions ReportFault
report_head_faults family pseudo_header payload =
    (nat_lt (length payload) 8, Short 8 (length payload))
    ∷ unknown_type family payload
    ∷ missing_group family payload
    ∷ wrong_sum pseudo_header payload
    ∷ []

-- how many records the head states (RFC 3376, section 4.2.3; RFC 3810, section 5.2.3)
abbrev pub record_count : List ℕ → ℕ
record_count payload = big_number 2 (drop 6 payload)

-- what is wrong with its records, one after another; those of an older message have no fault
abbrev pub later_record_faults : Option RecordKind → Family → List ℕ → Conditions ReportFault
later_record_faults None family payload = all_record_faults family 0 (record_count payload) (drop 8 payload)
later_record_faults (Some older) family payload = []

-- what is wrong with a report, in order: its head, and then its records
abbrev pub report_faults : Family → List ℕ → List ℕ → Conditions ReportFault
report_faults family pseudo_header payload =
    report_head_faults family pseudo_header payload ++ later_record_faults (older_kind_in family payload) family payload

-- the first of these that holds
unfoldable pub first_report_fault : Family → List ℕ → List ℕ → Option ReportFault
first_report_fault family pseudo_header payload = first_holding (report_faults family pseudo_header payload)

-- a record of known type comes before any fault: memory is asked for it
abbrev pub asks_memory : Family → ℕ → List ℕ → Bool
asks_memory family zero bytes = false
asks_memory family (suc count) bytes =
    nat_le (record_length family bytes) (length bytes)
    && (is_some (kind_of (slice_index bytes 0)) || asks_memory family count (drop (record_length family bytes) bytes))

-- an older message's one record is always kept
abbrev pub keeps_one : Option RecordKind → Family → List ℕ → Bool
keeps_one None family payload = asks_memory family (record_count payload) (drop 8 payload)
keeps_one (Some older) family payload = true

-- the head has no fault, and a record is kept before one has
pub record AsksMemory (family : Family) (pseudo_header payload : List ℕ) : Type 0 where
  pub head : first_holding (report_head_faults family pseudo_header payload) ≡ None
  pub kept : keeps_one (older_kind_in family payload) family payload ≡ true

-- the known ones of so many records, unless there is a first fault
unfoldable pub records_reading : Family → ℕ → List ℕ → Result (List Record) ReportFault
records_reading family count bytes =
    unless (first_holding (all_record_faults family 0 count bytes)) (known_records family (carried_records_at family count bytes))

-- the known records that a payload carries, or the one that an older message stands for
abbrev pub records_by : Option RecordKind → Family → List ℕ → List Record
records_by None family payload = known_records family (carried_records_at family (record_count payload) (drop 8 payload))
records_by (Some older) family payload = older_record family older payload ∷ []

-- the records of a payload
abbrev pub records_in : Family → List ℕ → List Record
records_in family payload = records_by (older_kind_in family payload) family payload

-- the records of the report that the payload is, unless there is a first fault
unfoldable pub report_of : Family → List ℕ → List ℕ → Result (List Record) ReportFault
report_of family pseudo_header payload =
    unless (first_report_fault family pseudo_header payload) (records_in family payload)

-- the fault of a report that is told; out of memory tells none
abbrev pub report_fault_in : ReadFault → Option ReportFault
report_fault_in (Report fault) = Some fault
report_fault_in Memory = None

-- what was answered is this reading of the octets, or there was no memory for the records
abbrev pub GivesRecords : Result (List Record) ReadFault → Result (List Record) ReportFault → Type 0
GivesRecords answer reading = Gives report_fault_in (λ _. Unit {0}) answer reading
