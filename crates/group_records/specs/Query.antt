-- Which octets are a query, and the first fault of those that are none (RFC 3376, section 4.1;
-- RFC 3810, section 5.1).
use Rattle.std.specs.Prelude.{◌≡◌, ℕ, ◌+◌, ◌*◌, ◌/◌, ◌%◌, ◌≤◌, ◌==◌, nat_lt, not, ⊤, Bool, false, List, [], ◌∷◌, ◌++◌, length, drop, slice_index, Option, Result}
use Rattle.byteorder.specs.Endian.{big_bytes, big_number}
use Rattle.amt_values.specs.Conditions.{Conditions, first_holding, unless}
use Rattle.inner_datagrams.specs.Checksum.{internet_sum_of, IsRight}
use Rattle.source_filter.specs.declared.{fault.ReportFault.{ReportFault, TheVariants.{Short, Kind, Sum, RecordShort, SourceShort}}, query.{QueryFields.{QueryFields}, QueryRead.{QueryRead}}}
use Rattle.group_records.specs.{declared.family.Family.{Family, TheVariants.{V4, V6}}, Family.{width, address_in, group_end, group_number}, Reading.{source_count, wrong_sum}}

-- the type of a membership query
abbrev pub query_type : Family → ℕ
query_type V4 = 0x11
query_type V6 = 0x82

-- the time within which a listener answers, as its code
abbrev pub max_code_of : Family → List ℕ → ℕ
max_code_of V4 payload = slice_index payload 1
max_code_of V6 payload = big_number 2 (drop 4 payload)

-- what follows the group: four reserved bits, the flag S and the robustness variable of three bits,
-- the interval's code, the number of sources, and the sources
abbrev pub after_group : Family → List ℕ → List ℕ
after_group family payload = drop (group_end family) payload

-- the octet with the flag and the robustness variable
abbrev pub robustness_octet : Family → List ℕ → ℕ
robustness_octet family payload = slice_index (after_group family payload) 0

-- of that octet the robustness variable (RFC 3376, section 4.1.6)
abbrev pub robustness_in : ℕ → ℕ
robustness_in flags = flags % 8

-- and whether the flag S is set, to suppress router-side processing (RFC 3376, section 4.1.5)
abbrev pub suppresses : ℕ → Bool
suppresses flags = flags / 8 % 2 == 1

-- the number of sources that are asked for (RFC 3376, section 4.1.8)
abbrev pub query_source_count : Family → List ℕ → ℕ
query_source_count family payload = source_count (after_group family payload)

-- the octets of a query without sources
abbrev pub least_query_length : Family → ℕ
least_query_length family = group_end family + 4

-- and with as many as the payload states
abbrev pub stated_query_length : Family → List ℕ → ℕ
stated_query_length family payload = least_query_length family + query_source_count family payload * width family

-- a query of these values, with all of its sources. These, reserved octets and bits, and what
-- follows the last source may be any.
pub record IsQuery (family : Family) (pseudo_header : List ℕ) (query : QueryRead) (payload : List ℕ) : Type 0 where
  pub whole : stated_query_length family payload ≤ length payload
  pub kind : slice_index payload 0 ≡ query_type family
  pub right_sum : IsRight (pseudo_header ++ payload)
  pub max_code : max_code_of family payload ≡ query.fields.max_code
  pub group : address_in family (group_number family payload) ≡ query.group
  pub suppress : suppresses (robustness_octet family payload) ≡ query.suppress
  pub robustness : robustness_in (robustness_octet family payload) ≡ query.fields.robustness
  pub interval_code : slice_index (after_group family payload) 1 ≡ query.fields.interval_code
  pub sources : query_source_count family payload ≡ query.sources

-- that query
abbrev pub query_values : Family → List ℕ → QueryRead
query_values family payload = record {
  fields = record {
    max_code = max_code_of family payload;
    robustness = robustness_in (robustness_octet family payload);
    interval_code = slice_index (after_group family payload) 1;
  };
  suppress = suppresses (robustness_octet family payload);
  group = address_in family (group_number family payload);
  sources = query_source_count family payload;
}

-- a General Query: of every group and no source, and it suppresses nothing
abbrev pub general_query : Family → QueryFields → QueryRead
general_query family fields = record { fields = fields; suppress = false; group = address_in family 0; sources = 0 }

-- octets that are one
abbrev pub IsGeneralQuery : Family → List ℕ → QueryFields → List ℕ → Type 0
IsGeneralQuery family pseudo_header fields payload = IsQuery family pseudo_header (general_query family fields) payload

-- the greatest code of the time within which a listener answers: it has 8 bits in IGMP, and 16 in MLD
abbrev pub greatest_code : Family → ℕ
greatest_code V4 = 255
greatest_code V6 = 65535

-- the end of the General Query that is written: every group, no flag beside the robustness, and no sources
abbrev pub every_group : Family → QueryFields → List ℕ
every_group family fields = big_bytes (width family) 0 ++ fields.robustness ∷ fields.interval_code ∷ 0 ∷ 0 ∷ []

-- that query with this checksum; its reserved octets are zero
abbrev pub query_with_sum : ℕ → Family → QueryFields → List ℕ
query_with_sum checksum V4 fields =
    query_type V4 ∷ fields.max_code ∷ big_bytes 2 checksum ++ every_group V4 fields
query_with_sum checksum V6 fields =
    query_type V6 ∷ 0 ∷ big_bytes 2 checksum ++ big_bytes 2 fields.max_code ++ 0 ∷ 0 ∷ every_group V6 fields

-- the query with its own checksum, which is taken with a zero in its place
unfoldable pub written_query : Family → List ℕ → QueryFields → List ℕ
written_query family pseudo_header fields =
    query_with_sum (internet_sum_of (pseudo_header ++ query_with_sum 0 family fields)) family fields

-- fewer octets than the query takes with its sources
abbrev pub missing_sources : Family → List ℕ → Bool × ReportFault
missing_sources family payload = (nat_lt (length payload) (stated_query_length family payload), SourceShort 0)

-- what is wrong with a query, in order: too few octets, another type, a wrong sum, sources that aren't all
-- there (RFC 3376, section 4.1; RFC 3810, section 5.1)
abbrev pub query_faults : Family → List ℕ → List ℕ → Conditions ReportFault
query_faults family pseudo_header payload =
    (nat_lt (length payload) (least_query_length family), Short (least_query_length family) (length payload))
    ∷ (not (slice_index payload 0 == query_type family), Kind (slice_index payload 0))
    ∷ wrong_sum pseudo_header payload
    ∷ missing_sources family payload
    ∷ []

-- the first of these that holds
unfoldable pub first_query_fault : Family → List ℕ → List ℕ → Option ReportFault
first_query_fault family pseudo_header payload = first_holding (query_faults family pseudo_header payload)

-- the values of the query that the payload is, unless there is a first fault
unfoldable pub query_of : Family → List ℕ → List ℕ → Result QueryRead ReportFault
query_of family pseudo_header payload = unless (first_query_fault family pseudo_header payload) (query_values family payload)

-- a fault that a query may have: it has no records but one list of sources
abbrev pub IsQueryFault : ReportFault → Type 0
IsQueryFault (Short need have) = ⊤
IsQueryFault (Kind kind) = ⊤
IsQueryFault (Sum wanted given) = ⊤
IsQueryFault (RecordShort index) = ⊥
IsQueryFault (SourceShort index) = index ≡ 0
