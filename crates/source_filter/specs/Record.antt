-- What one group record says of a source (RFC 3376, section 4.2.12).
use Rattle.std.specs.Prelude.{ℕ, ◌+◌, Bool, true, false, not, List, length, sum_by, ◌||◌}
use Rattle.amt_values.specs.{declared.address.Ip.{Ip}, Order.{ip_order}, Ascending.{has}}
use Rattle.source_filter.specs.declared.record.{RecordKind.{RecordKind, TheVariants.{IsIn, IsEx, ToIn, ToEx, Allow, Block}}, Record.{Record}}

-- the source is one of these
abbrev pub lists : List Ip → Ip → Bool
lists sources source = has ip_order sources source

-- these name a whole filter, and so decide every source
abbrev pub is_full : RecordKind → Bool
is_full IsIn = true
is_full IsEx = true
is_full ToIn = true
is_full ToEx = true
is_full Allow = false
is_full Block = false

-- the record decides the source; a change of sources decides only those that it names
abbrev pub speaks : Record → Ip → Bool
speaks group_record source = is_full group_record.kind || lists group_record.sources source

-- what a record says of a source of which it speaks, by whether it lists it: wanted or not
abbrev pub says_by : RecordKind → Bool → Bool
says_by IsIn listed = listed
says_by ToIn listed = listed
says_by IsEx listed = not listed
says_by ToEx listed = not listed
says_by Allow listed = true
says_by Block listed = false

-- what a record says of a source of which it speaks
abbrev pub says : Record → Ip → Bool
says group_record source = says_by group_record.kind (lists group_record.sources source)

-- the number of records and of their sources
abbrev pub item_count : List Record → ℕ
item_count records = length records + sum_by (λ group_record. length group_record.sources) records
