-- Group records as a report carries them (RFC 3376, sections 4.2.4 to 4.2.11; RFC 3810, sections
-- 5.2.4 to 5.2.11).
use Rattle.std.specs.{Prelude.{◌≡◌, ℕ, ◌<◌, ◌/◌, ◌%◌, ◌^◌, List, [], ◌∷◌, ◌++◌, length, map, All, Option, Some, None}, List.{flat_map}}
use Rattle.byteorder.specs.Endian.{big_bytes}
use Rattle.amt_values.specs.Octets.{AreOctets}
use Rattle.source_filter.specs.declared.record.{Record.{Record}, RecordKind.{RecordKind}}
use Rattle.group_records.specs.{declared.family.Family.{Family}, Family.{width, address_in, kind_of}}

-- the fields of a record, with addresses as numbers
pub record CarriedRecord : Type 0 where
  pub kind : ℕ
  pub group : ℕ
  pub sources : List ℕ
  pub auxiliary : List ℕ

-- each field fits its octets, and the auxiliary data is whole words of 32 bits
pub record IsCarriedRecord (family : Family) (carried : CarriedRecord) : Type 0 where
  pub kind : carried.kind < 256
  pub group : carried.group < 256 ^ width family
  pub sources : All (λ source. source < 256 ^ width family) carried.sources
  pub source_count : length carried.sources < 65536
  pub auxiliary_words : length carried.auxiliary % 4 ≡ 0
  pub word_count : length carried.auxiliary / 4 < 256
  pub auxiliary_octets : AreOctets carried.auxiliary

-- its octets
abbrev pub record_octets : Family → CarriedRecord → List ℕ
record_octets family carried =
    carried.kind ∷ length carried.auxiliary / 4 ∷ big_bytes 2 (length carried.sources)
    ++ big_bytes (width family) carried.group
    ++ flat_map (big_bytes (width family)) carried.sources
    ++ carried.auxiliary

-- the record that is about this, or nothing
abbrev pub record_of_kind : Option RecordKind → Family → CarriedRecord → List Record
record_of_kind None family carried = []
record_of_kind (Some kind) family carried =
    record { kind = kind; group = address_in family carried.group; sources = map (address_in family) carried.sources } ∷ []

-- the record, or nothing where its type isn't known
abbrev pub known_record : Family → CarriedRecord → List Record
known_record family carried = record_of_kind (kind_of carried.kind) family carried

-- records of unknown type are left out (RFC 3376, section 4.2.12; RFC 3810, section 5.2.12)
abbrev pub known_records : Family → List CarriedRecord → List Record
known_records family carried = flat_map (known_record family) carried
