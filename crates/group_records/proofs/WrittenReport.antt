-- A written report is read back, and its length.
use Rattle.std.proofs.Common.{◌≡◌, ℕ, ◌+◌, ◌*◌, ◌%◌, ◌^◌, ◌<◌, ◌≤◌, inl, List, [], ◌∷◌, ◌++◌, length, take, get_or, length-append, map, true, Option, Some, refl, sym, subst, ap, ◌∙◌, arith}
use Rattle.std.{proofs.{Math.Nat.{suc-mul}, lemmas.List.{append-nil, length-map, Elements.{All-cons, All-head, All-nil, All-tail}, Sums.{sum_by-cons, sum_by_more_le}}}, specs.List.{All, flat_map, sum_by}}
use Rattle.byteorder.specs.{Endian.{big_bytes}, Numbers.{big_number-reads_back, length-bytes_high_first}}
use Rattle.amt_values.specs.{Octets.{AreOctets}, Address.{number_of}, declared.address.Ip.{Ip, TheVariants.{V4 as Address4, V6 as Address6}}}
use Rattle.inner_datagrams.specs.Checksum.{internet_sum_of, IsRight}
use Rattle.source_filter.specs.{declared.record.{Record.{Record}, RecordKind.{RecordKind, TheVariants.{IsIn, IsEx, ToIn, ToEx, Allow, Block}}}, Record.{item_count}}
use Rattle.group_records.specs.{declared.family.Family.{Family, TheVariants.{V4, V6}}, CarriedRecord.{CarriedRecord, IsCarriedRecord, record_octets, record_of_kind, known_record, known_records}, Family.{address_in, kind_of, report_type, width}, Reading.{head_length}}
use Rattle.group_records.{specs.{Report.{AreRecords, IsReport}, Written.{FitsOctets, HasFittingAddresses, IsOfFamily, address_octets, is_of_family, kind_number, report_length, report_with_sum, written_record, written_report}}, proofs.{ItemCounts.{width-some}, MessageSums.{IsRight-summed}}}

abbrev IsOf : Family → Ip → Type 0
IsOf family address = is_of_family family address ≡ true

-- the octets, the number and the length of an address of the family
octets-of_family : (family : Family) (address : Ip) → IsOf family address → address_octets address ≡ big_bytes (width family) (number_of address)
octets-of_family V4 (Address4 number) is_of = refl
octets-of_family V4 (Address6 number) is_of = cc
octets-of_family V6 (Address4 number) is_of = cc
octets-of_family V6 (Address6 number) is_of = refl

address_in-number_of : (family : Family) (address : Ip) → IsOf family address → address_in family (number_of address) ≡ address
address_in-number_of V4 (Address4 number) is_of = refl
address_in-number_of V4 (Address6 number) is_of = cc
address_in-number_of V6 (Address4 number) is_of = cc
address_in-number_of V6 (Address6 number) is_of = refl

number_of-fits : (family : Family) (address : Ip) → IsOf family address → FitsOctets address → number_of address < 256 ^ width family
number_of-fits V4 (Address4 number) is_of fits = fits
number_of-fits V4 (Address6 number) is_of fits = absurd cc
number_of-fits V6 (Address4 number) is_of fits = absurd cc
number_of-fits V6 (Address6 number) is_of fits = fits

-- the same of the sources of a record
sources-octets : (family : Family) (sources : List Ip) → All (IsOf family) sources
    → flat_map address_octets sources ≡ flat_map (big_bytes (width family)) (map number_of sources)
sources-octets family [] are_of = refl
sources-octets family (source ∷ sources) are_of =
    let first = octets-of_family family source (All-head (IsOf family) source sources are_of) in
    let others = sources-octets family sources (All-tail (IsOf family) source sources are_of) in
    rw (first, others) refl

sources-read : (family : Family) (sources : List Ip) → All (IsOf family) sources → map (address_in family) (map number_of sources) ≡ sources
sources-read family [] are_of = refl
sources-read family (source ∷ sources) are_of =
    let first = address_in-number_of family source (All-head (IsOf family) source sources are_of) in
    let others = sources-read family sources (All-tail (IsOf family) source sources are_of) in
    rw (first, others) refl

abbrev IsBelow : Family → ℕ → Type 0
IsBelow family number = number < 256 ^ width family

sources-fit : (family : Family) (sources : List Ip) → All (IsOf family) sources → All FitsOctets sources → All (IsBelow family) (map number_of sources)
sources-fit family [] are_of fit = All-nil (IsBelow family)
sources-fit family (source ∷ sources) are_of fit =
    All-cons (IsBelow family) (number_of source) (map number_of sources)
    (number_of-fits family source (All-head (IsOf family) source sources are_of) (All-head FitsOctets source sources fit))
    (sources-fit family sources (All-tail (IsOf family) source sources are_of) (All-tail FitsOctets source sources fit))

length-sources : (family : Family) (sources : List Ip) → All (IsOf family) sources → length (flat_map address_octets sources) ≡ length sources * width family
length-sources family [] are_of = omega arith
length-sources family (source ∷ sources) are_of =
    let octets = octets-of_family family source (All-head (IsOf family) source sources are_of) in
    let first = ap (λ (xs : List ℕ). length xs) octets ∙ length-bytes_high_first (width family) (number_of source) in
    let others = length-sources family sources (All-tail (IsOf family) source sources are_of) in
    let both = length-append (address_octets source) (flat_map address_octets sources) in
    let product = suc-mul (length sources) (width family) in
    rw product (omega (arith, both))

-- the record as it is carried
abbrev carried_of : Record → CarriedRecord
carried_of group_record = record {
  kind = kind_number group_record.kind;
  group = number_of group_record.group;
  sources = map number_of group_record.sources;
  auxiliary = [];
}

written_record-carried : (family : Family) (group_record : Record) → IsOfFamily family group_record
    → written_record group_record ≡ record_octets family (carried_of group_record)
written_record-carried family group_record of_family =
    let kind = kind_number group_record.kind in
    let count = length-map group_record.sources number_of in
    let group = octets-of_family family group_record.group of_family.group in
    let sources = sources-octets family group_record.sources of_family.sources in
    let after = flat_map (big_bytes (width family)) (map number_of group_record.sources) in
    let first = big_bytes (width family) (number_of group_record.group) in
    ap (λ (xs : List ℕ). (kind ∷ 0 ∷ big_bytes 2 (length group_record.sources) ++ xs) ++ flat_map address_octets group_record.sources) group
    ∙ (ap (λ (xs : List ℕ). (kind ∷ 0 ∷ big_bytes 2 (length group_record.sources) ++ first) ++ xs) sources
    ∙ (ap (λ (n : ℕ). (kind ∷ 0 ∷ big_bytes 2 n ++ first) ++ after) (sym count)
    ∙ sym (append-nil ((kind ∷ 0 ∷ big_bytes 2 (length (map number_of group_record.sources)) ++ first) ++ after))))

kind_of-kind_number : (kind : RecordKind) → kind_of (kind_number kind) ≡ Some kind
kind_of-kind_number IsIn = refl
kind_of-kind_number IsEx = refl
kind_of-kind_number ToIn = refl
kind_of-kind_number ToEx = refl
kind_of-kind_number Allow = refl
kind_of-kind_number Block = refl

kind_number-fits : (kind : RecordKind) → kind_number kind < 256
kind_number-fits IsIn = omega arith
kind_number-fits IsEx = omega arith
kind_number-fits ToIn = omega arith
kind_number-fits ToEx = omega arith
kind_number-fits Allow = omega arith
kind_number-fits Block = omega arith

same_record : (kind : RecordKind) (group other : Ip) (sources others : List Ip) → group ≡ other → sources ≡ others
    → Path Record (record { kind = kind; group = group; sources = sources }) (record { kind = kind; group = other; sources = others })
same_record kind group other sources others same_group same_sources = rw (same_group, same_sources) refl

known_record-written : (family : Family) (group_record : Record) → IsOfFamily family group_record
    → known_record family (carried_of group_record) ≡ group_record ∷ []
known_record-written family group_record of_family =
    let group = address_in-number_of family group_record.group of_family.group in
    let sources = sources-read family group_record.sources of_family.sources in
    ap (λ (kind : Option RecordKind). record_of_kind kind family (carried_of group_record)) (kind_of-kind_number group_record.kind)
    ∙ ap (λ (r : Record). r ∷ []) (same_record group_record.kind _ group_record.group _ group_record.sources group sources)

IsCarriedRecord-written : (family : Family) (group_record : Record) → IsOfFamily family group_record → HasFittingAddresses group_record
    → length group_record.sources < 65536 → IsCarriedRecord family (carried_of group_record)
IsCarriedRecord-written family group_record of_family fitting few = record {
  kind = kind_number-fits group_record.kind;
  group = number_of-fits family group_record.group of_family.group fitting.group;
  sources = sources-fit family group_record.sources of_family.sources fitting.sources;
  source_count = rw (length-map group_record.sources number_of) few;
  auxiliary_words = refl;
  word_count = omega arith;
  auxiliary_octets = λ k. omega arith;
}

length-written_record : (family : Family) (group_record : Record) → IsOfFamily family group_record
    → length (written_record group_record) ≡ head_length family + length group_record.sources * width family
length-written_record family group_record of_family =
    let octets = octets-of_family family group_record.group of_family.group in
    let group = ap (λ (xs : List ℕ). length xs) octets ∙ length-bytes_high_first (width family) (number_of group_record.group) in
    let sources = length-sources family group_record.sources of_family.sources in
    let both = length-append (address_octets group_record.group) (flat_map address_octets group_record.sources) in
    omega (arith, both)

-- the same of all records
records-octets : (family : Family) (records : List Record) → All (IsOfFamily family) records
    → flat_map written_record records ≡ flat_map (record_octets family) (map carried_of records)
records-octets family [] of_family = refl
records-octets family (first ∷ others) of_family =
    let here = written_record-carried family first (All-head (IsOfFamily family) first others of_family) in
    let later = records-octets family others (All-tail (IsOfFamily family) first others of_family) in
    ap (λ (xs : List ℕ). xs ++ flat_map written_record others) here
    ∙ ap (λ (xs : List ℕ). record_octets family (carried_of first) ++ xs) later

records-read : (family : Family) (records : List Record) → All (IsOfFamily family) records
    → known_records family (map carried_of records) ≡ records
records-read family [] of_family = refl
records-read family (first ∷ others) of_family =
    let here = known_record-written family first (All-head (IsOfFamily family) first others of_family) in
    let later = records-read family others (All-tail (IsOfFamily family) first others of_family) in
    ap (λ (rs : List Record). rs ++ known_records family (map carried_of others)) here
    ∙ ap (λ (rs : List Record). first ∷ rs) later

abbrev pub HasFewSources : Record → Type 0
HasFewSources group_record = length group_record.sources < 65536

records-lawful : (family : Family) (records : List Record) → All (IsOfFamily family) records → All HasFittingAddresses records
    → All HasFewSources records → All (IsCarriedRecord family) (map carried_of records)
records-lawful family [] of_family fitting few = All-nil (IsCarriedRecord family)
records-lawful family (first ∷ others) of_family fitting few =
    All-cons (IsCarriedRecord family) (carried_of first) (map carried_of others)
    (IsCarriedRecord-written family first (All-head (IsOfFamily family) first others of_family) (All-head HasFittingAddresses first others fitting)
    (All-head HasFewSources first others few))
    (records-lawful family others (All-tail (IsOfFamily family) first others of_family) (All-tail HasFittingAddresses first others fitting)
    (All-tail HasFewSources first others few))

abbrev pub written_length : Family → Record → ℕ
written_length family group_record = head_length family + length group_record.sources * width family

length-written_records : (family : Family) (records : List Record) → All (IsOfFamily family) records
    → length (flat_map written_record records) ≡ sum_by (written_length family) records
length-written_records family [] of_family = refl
length-written_records family (first ∷ others) of_family =
    let here = length-written_record family first (All-head (IsOfFamily family) first others of_family) in
    let later = length-written_records family others (All-tail (IsOfFamily family) first others of_family) in
    let both = length-append (written_record first) (flat_map written_record others) in
    rw (sum_by-cons (written_length family) first others) (omega (arith, both))

width-most : (family : Family) (count : ℕ) → width family + count * width family ≤ 16 + 16 * count
width-most V4 count = omega arith
width-most V6 count = omega arith

-- a record and its sources take at most 20 octets each
pub written_length-most : (family : Family) (records : List Record) → sum_by (written_length family) records ≤ 20 * item_count records
written_length-most family [] = omega arith
written_length-most family (first ∷ others) =
    let here = width-most family (length first.sources) in
    let later = written_length-most family others in
    let items = sum_by-cons (λ (one : Record). length one.sources) first others in
    rw (sum_by-cons (written_length family) first others) (omega arith)

-- so the records up to one of few take few octets
pub octets-few : (family : Family) (records items : List Record) (k : ℕ) (next : Record) (octets : ℕ) → item_count records ≤ 16777216 → items ≡ records
    → k < length items → next ≡ get_or items k next → octets ≡ 8 + sum_by (written_length family) (take k records) → octets + written_length family next < 400000000
octets-few family records items k next octets few same more is so_far =
    let most = written_length-most family records in
    let within = subst (λ (all : List Record). k < length all) same more in
    let part = sum_by_more_le (written_length family) records k next within in
    let here = ap (written_length family) (is ∙ ap (λ (all : List Record). get_or all k next) same) in omega arith

few_by : (family : Family) (records : List Record) (limit : ℕ) → sum_by (written_length family) records ≤ limit → limit < 65536 → All HasFewSources records
few_by family [] limit short small = All-nil HasFewSources
few_by family (first ∷ others) limit short small =
    let apart = rw (sum_by-cons (written_length family) first others) at short in
    let some = width-some family (length first.sources) in
    All-cons HasFewSources first others (omega arith) (few_by family others limit (omega arith) small)

count_by : (family : Family) (records : List Record) → length records ≤ sum_by (written_length family) records
count_by family [] = omega arith
count_by family (first ∷ others) =
    let later = count_by family others in rw (sum_by-cons (written_length family) first others) (omega arith)

items_by : (family : Family) (records : List Record) → item_count records ≤ sum_by (written_length family) records
items_by family [] = omega arith
items_by family (first ∷ others) =
    let here = width-some family (length first.sources) in
    let later = items_by family others in
    let items = sum_by-cons (λ (one : Record). length one.sources) first others in
    rw (sum_by-cons (written_length family) first others) (omega arith)

-- a short report has few records, and each of them few sources
pub short-few_sources : (family : Family) (records : List Record) → report_length family records ≤ 1400 → All HasFewSources records
short-few_sources family records short = few_by family records 1400 (omega arith) (omega arith)

pub short-few_records : (family : Family) (records : List Record) → report_length family records ≤ 1400 → length records < 65536
short-few_records family records short = let count = count_by family records in omega arith

-- nor many of both together
pub short-few_items : (family : Family) (records : List Record) → report_length family records ≤ 1400 → item_count records ≤ 16777216
short-few_items family records short = let few = items_by family records in omega arith

pub length-report_with_sum : (family : Family) (checksum : ℕ) (records : List Record) → All (IsOfFamily family) records
    → length (report_with_sum checksum family records) ≡ report_length family records
length-report_with_sum family checksum records of_family = let octets = length-written_records family records of_family in omega arith

pub length-written_report : (family : Family) (pseudo_header : List ℕ) (records : List Record) → All (IsOfFamily family) records
    → length (written_report family pseudo_header records) ≡ report_length family records
unfolding written_report
length-written_report family pseudo_header records of_family =
    length-report_with_sum family (internet_sum_of (pseudo_header ++ report_with_sum 0 family records)) records of_family

AreRecords-written : (family : Family) (records : List Record) → All (IsOfFamily family) records → All HasFittingAddresses records
    → All HasFewSources records → AreRecords family (length records) records (flat_map written_record records)
AreRecords-written family records of_family fitting few = record {
  carried = map carried_of records;
  rest = [];
  number = length-map records carried_of;
  lawful = records-lawful family records of_family fitting few;
  spelled = records-octets family records of_family ∙ sym (append-nil (flat_map (record_octets family) (map carried_of records)));
  known = sym (records-read family records of_family);
}

IsRight-written_report : (family : Family) (pseudo_header : List ℕ) (records : List Record) → length pseudo_header % 2 ≡ 0
    → AreOctets (pseudo_header ++ report_with_sum 0 family records) → IsRight (pseudo_header ++ written_report family pseudo_header records)
unfolding written_report
IsRight-written_report family pseudo_header records even small =
    IsRight-summed pseudo_header (report_type family) 0 (0 ∷ 0 ∷ big_bytes 2 (length records) ++ flat_map written_record records) even small

-- each field of a written report stands at its place
pub IsReport-written_report : (family : Family) (pseudo_header : List ℕ) (records : List Record) → length pseudo_header % 2 ≡ 0
    → AreOctets (pseudo_header ++ report_with_sum 0 family records) → All (IsOfFamily family) records → All HasFittingAddresses records
    → report_length family records ≤ 1400 → IsReport family pseudo_header records (written_report family pseudo_header records)
unfolding written_report
IsReport-written_report family pseudo_header records even small of_family fitting short =
    let few_records = short-few_records family records short in
    let carries = AreRecords-written family records of_family fitting (short-few_sources family records short) in
    let count = big_number-reads_back 2 (length records) (flat_map written_record records) (omega arith) in
    inl (record {
      whole = omega arith;
      kind = refl;
      right_sum = IsRight-written_report family pseudo_header records even small;
      carries = subst (λ (n : ℕ). AreRecords family n records (flat_map written_record records)) (sym count) carries;
    })
