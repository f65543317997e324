-- The one spelling in which a report is written (RFC 3376, section 4.2; RFC 3810, section 5.2).
use Rattle.std.specs.Prelude.{◌≡◌, ℕ, ◌+◌, ◌*◌, ◌^◌, ◌<◌, Bool, true, false, List, ◌∷◌, ◌++◌, length, sum_by, All}
use Rattle.std.specs.List.{flat_map}
use Rattle.byteorder.specs.Endian.{big_bytes}
use Rattle.amt_values.specs.declared.address.Ip.{Ip, TheVariants.{V4 as Address4, V6 as Address6}}
use Rattle.inner_datagrams.specs.Checksum.{internet_sum_of}
use Rattle.source_filter.specs.declared.record.{Record.{Record}, RecordKind.{RecordKind, TheVariants.{IsIn, IsEx, ToIn, ToEx, Allow, Block}}}
use Rattle.group_records.specs.{declared.family.Family.{Family, TheVariants.{V4, V6}}, Family.{width, report_type}, Reading.{head_length}}

-- the type of a record (RFC 3376, section 4.2.12; RFC 3810, section 5.2.12)
abbrev pub kind_number : RecordKind → ℕ
kind_number IsIn = 1
kind_number IsEx = 2
kind_number ToIn = 3
kind_number ToEx = 4
kind_number Allow = 5
kind_number Block = 6

-- the octets of an address
abbrev pub address_octets : Ip → List ℕ
address_octets (Address4 number) = big_bytes 4 number
address_octets (Address6 number) = big_bytes 16 number

-- a record without auxiliary data
abbrev pub written_record : Record → List ℕ
written_record group_record =
    kind_number group_record.kind ∷ 0 ∷ big_bytes 2 (length group_record.sources)
    ++ address_octets group_record.group
    ++ flat_map address_octets group_record.sources

-- the report with this checksum; its reserved octets are zero
abbrev pub report_with_sum : ℕ → Family → List Record → List ℕ
report_with_sum checksum family records =
    report_type family ∷ 0 ∷ big_bytes 2 checksum ++ 0 ∷ 0 ∷ big_bytes 2 (length records) ++ flat_map written_record records

-- the report with its own checksum, which is taken with a zero in its place
unfoldable pub written_report : Family → List ℕ → List Record → List ℕ
written_report family pseudo_header records =
    report_with_sum (internet_sum_of (pseudo_header ++ report_with_sum 0 family records)) family records

-- the address is of this family
abbrev pub is_of_family : Family → Ip → Bool
is_of_family V4 (Address4 number) = true
is_of_family V4 (Address6 number) = false
is_of_family V6 (Address4 number) = false
is_of_family V6 (Address6 number) = true

-- and so are all addresses of a record
pub record IsOfFamily (family : Family) (group_record : Record) : Type 0 where
  pub group : is_of_family family group_record.group ≡ true
  pub sources : All (λ source. is_of_family family source ≡ true) group_record.sources

-- the octets of a report of such records
abbrev pub report_length : Family → List Record → ℕ
report_length family records =
    8 + sum_by (λ group_record. head_length family + length group_record.sources * width family) records

-- the number of an address fits its octets
abbrev pub FitsOctets : Ip → Type 0
FitsOctets (Address4 number) = number < 256 ^ 4
FitsOctets (Address6 number) = number < 256 ^ 16

-- and so do those of all addresses of a record
pub record HasFittingAddresses (group_record : Record) : Type 0 where
  pub group : FitsOctets group_record.group
  pub sources : All FitsOctets group_record.sources
