-- What the two address families differ in, and the types of records that both share.
use Rattle.std.specs.Prelude.{ℕ, ◌+◌, ◌==◌, List, drop, Option, Some, None, if◌then◌else◌}
use Rattle.byteorder.specs.Endian.{big_number}
use Rattle.amt_values.specs.declared.address.Ip.{Ip, TheVariants.{V4 as Address4, V6 as Address6}}
use Rattle.source_filter.specs.declared.record.RecordKind.{RecordKind, TheVariants.{IsIn, IsEx, ToIn, ToEx, Allow, Block}}
use Rattle.group_records.specs.declared.family.Family.{Family, TheVariants.{V4, V6}}

-- the octets of an address
abbrev pub width : Family → ℕ
width V4 = 4
width V6 = 16

-- the address that has this number
abbrev pub address_in : Family → ℕ → Ip
address_in V4 number = Address4 number
address_in V6 number = Address6 number

-- the type of a membership report of IGMPv3 or MLDv2 (RFC 3376, section 4; RFC 3810, section 5.2)
abbrev pub report_type : Family → ℕ
report_type V4 = 0x22
report_type V6 = 0x8f

-- what a message of this type says of its group, where it is one of IGMPv1, IGMPv2 or MLDv1: a report that
-- nothing is excluded, a leave or a done that nothing is included (RFC 3376, section 7.3.2; RFC 3810, section 8.3.2)
abbrev pub older_kind : Family → ℕ → Option RecordKind
older_kind V4 kind =
    if kind == 0x12 then Some IsEx
    else (if kind == 0x16 then Some IsEx
    else (if kind == 0x17 then Some ToIn else None))
older_kind V6 kind =
    if kind == 0x83 then Some IsEx
    else (if kind == 0x84 then Some ToIn else None)

-- the octets before the group, in a query and in such a message (RFC 2236, section 2; RFC 2710, section 3)
abbrev pub group_offset : Family → ℕ
group_offset V4 = 4
group_offset V6 = 8

-- the group's address as a number
abbrev pub group_number : Family → List ℕ → ℕ
group_number family payload = big_number (width family) (drop (group_offset family) payload)

-- the octets up to the end of the group
abbrev pub group_end : Family → ℕ
group_end family = group_offset family + width family

-- what a record of this type is about; nothing is known of another type (RFC 3376, section 4.2.12;
-- RFC 3810, section 5.2.12)
abbrev pub kind_of : ℕ → Option RecordKind
kind_of kind =
    if kind == 1 then Some IsIn
    else (if kind == 2 then Some IsEx
    else (if kind == 3 then Some ToIn
    else (if kind == 4 then Some ToEx
    else (if kind == 5 then Some Allow
    else (if kind == 6 then Some Block else None)))))
