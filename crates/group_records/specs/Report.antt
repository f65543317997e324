-- Which octets are a membership report: one of IGMPv3 or MLDv2 (RFC 3376, section 4.2; RFC 3810, section 5.2), or
-- a message of an older version, which stands for one record (RFC 3376, section 7.3.2; RFC 3810, section 8.3.2).
use Rattle.std.specs.{Prelude.{◌≡◌, ◌⊎◌, ℕ, ◌≤◌, List, [], ◌∷◌, ◌++◌, length, drop, slice_index, All, Some}, List.{flat_map}}
use Rattle.byteorder.specs.Endian.{big_number}
use Rattle.inner_datagrams.specs.Checksum.{IsRight}
use Rattle.source_filter.specs.declared.record.{Record.{Record}, RecordKind.{RecordKind}}
use Rattle.group_records.specs.{declared.family.Family.{Family}, CarriedRecord.{CarriedRecord, IsCarriedRecord, record_octets, known_records}, Family.{address_in, group_end, group_number, older_kind, report_type}}

-- so many records, one after another; what follows the last may be any
pub record AreRecords (family : Family) (count : ℕ) (records : List Record) (bytes : List ℕ) : Type 0 where
  pub carried : List CarriedRecord
  pub rest : List ℕ
  pub number : length carried ≡ count
  pub lawful : All (IsCarriedRecord family) carried
  pub spelled : bytes ≡ flat_map (record_octets family) carried ++ rest
  pub known : records ≡ known_records family carried

-- a report of IGMPv3 or MLDv2 of these records; the reserved octets 1, 4 and 5 may be any
pub record IsCurrentReport (family : Family) (pseudo_header : List ℕ) (records : List Record) (payload : List ℕ) : Type 0 where
  pub whole : 8 ≤ length payload
  pub kind : slice_index payload 0 ≡ report_type family
  pub right_sum : IsRight (pseudo_header ++ payload)
  pub carries : AreRecords family (big_number 2 (drop 6 payload)) records (drop 8 payload)

-- the record without sources on the group of an older message
abbrev pub older_record : Family → RecordKind → List ℕ → Record
older_record family kind payload = record { kind = kind; group = address_in family (group_number family payload); sources = [] }

-- a report, leave or done of IGMPv1, IGMPv2 or MLDv1; octet 1, MLD's octets 4 to 7 and what follows the group
-- may be any
pub record IsOlderReport (family : Family) (pseudo_header : List ℕ) (records : List Record) (payload : List ℕ) : Type 0 where
  pub kind : RecordKind
  pub whole : group_end family ≤ length payload
  pub older : older_kind family (slice_index payload 0) ≡ Some kind
  pub right_sum : IsRight (pseudo_header ++ payload)
  pub one : records ≡ older_record family kind payload ∷ []

-- a report of these records
abbrev pub IsReport : Family → List ℕ → List Record → List ℕ → Type 0
IsReport family pseudo_header records payload =
    IsCurrentReport family pseudo_header records payload ⊎ IsOlderReport family pseudo_header records payload

-- a report of some records
pub record IsSomeReport (family : Family) (pseudo_header payload : List ℕ) : Type 0 where
  pub records : List Record
  pub report : IsReport family pseudo_header records payload
