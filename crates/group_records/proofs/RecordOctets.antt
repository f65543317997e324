-- One record: its octets are read as it, and octets that are no fault are those of what is read.
use Rattle.std.proofs.Common.{◌≡◌, ℕ, ◌+◌, ◌*◌, ◌/◌, ◌≤◌, List, [], ◌∷◌, ◌++◌, length, length-append, length-drop, take, drop, slice_index, None, refl, sym, ap, ◌∙◌, arith, append_assoc, take-append-drop}
use Rattle.std.{proofs.lemmas.{Bool.{ltb-false, le-ltb}, List.{drop-drop, length-take-le}}, specs.List.{flat_map}}
use Rattle.byteorder.specs.{Endian.{big_number, big_bytes}, Numbers.{big_from-lt, big_number-reads_back, length-bytes_high_first}}
use Rattle.amt_values.{specs.{Octets.{AreOctets}, Conditions.{first_holding}}, proofs.{NetworkOrder.{AreOctets-drop, AreOctets-take, bytes_high_first-take}, ConditionLaws.{NoneHolds-of, first_holding-none}}}
use Rattle.group_records.{specs.{declared.family.Family.{Family}, CarriedRecord.{CarriedRecord, IsCarriedRecord, record_octets}, Family.{width}, Reading.{carried_record_at, head_length, numbers_at, record_faults, record_length, source_count}}, proofs.Numbers.{drop-past, take-part, length-numbers_at, length-spelled_numbers, numbers_at-fit, numbers_at-spelled, spelled-numbers_at}}

same_carried : (one other : CarriedRecord) → one.kind ≡ other.kind → one.group ≡ other.group → one.sources ≡ other.sources
    → one.auxiliary ≡ other.auxiliary → one ≡ other
same_carried one other kind group sources auxiliary =
    rw (kind, group, sources, auxiliary) refl

-- the octets of a record, part by part, with what follows it
abbrev parts : Family → CarriedRecord → List ℕ → List ℕ
parts family carried rest =
    big_bytes (width family) carried.group ++ (flat_map (big_bytes (width family)) carried.sources ++ (carried.auxiliary ++ rest))

parts-apart : (family : Family) (carried : CarriedRecord) (rest : List ℕ)
    → drop 4 (record_octets family carried ++ rest) ≡ parts family carried rest
parts-apart family carried rest =
    let group = big_bytes (width family) carried.group in
    let sources = flat_map (big_bytes (width family)) carried.sources in
    append_assoc (group ++ sources) carried.auxiliary rest ∙ append_assoc group sources (carried.auxiliary ++ rest)

source_count-spelled : (family : Family) (carried : CarriedRecord) (rest : List ℕ) → IsCarriedRecord family carried
    → source_count (record_octets family carried ++ rest) ≡ length carried.sources
source_count-spelled family carried rest lawful =
    big_number-reads_back 2 (length carried.sources) (drop 4 (record_octets family carried ++ rest)) (omega (arith, lawful.source_count))

-- the auxiliary data is as many octets as its words say
auxiliary-octets : (family : Family) (carried : CarriedRecord) → IsCarriedRecord family carried
    → length carried.auxiliary / 4 * 4 ≡ length carried.auxiliary
auxiliary-octets family carried lawful = let words = lawful.auxiliary_words in omega arith

pub length-record_octets : (family : Family) (carried : CarriedRecord) (rest : List ℕ) → IsCarriedRecord family carried
    → length (record_octets family carried) ≡ record_length family (record_octets family carried ++ rest)
length-record_octets family carried rest lawful =
    let count = source_count-spelled family carried rest lawful in
    let group = length-bytes_high_first (width family) carried.group in
    let sources = length-spelled_numbers (width family) carried.sources in
    let auxiliary = auxiliary-octets family carried lawful in
    let first = length-append (big_bytes (width family) carried.group) (flat_map (big_bytes (width family)) carried.sources) in
    let second = length-append (big_bytes (width family) carried.group ++ flat_map (big_bytes (width family)) carried.sources) carried.auxiliary in
    rw count (omega arith)

past_group : (family : Family) (carried : CarriedRecord) (rest : List ℕ)
    → drop (head_length family) (record_octets family carried ++ rest)
    ≡ flat_map (big_bytes (width family)) carried.sources ++ (carried.auxiliary ++ rest)
past_group family carried rest =
    sym (drop-drop (width family) 4 (record_octets family carried ++ rest))
    ∙ (ap (λ (xs : List ℕ). drop (width family) xs) (parts-apart family carried rest)
    ∙ drop-past (width family) (big_bytes (width family) carried.group) _ (length-bytes_high_first (width family) carried.group))

past_sources : (family : Family) (carried : CarriedRecord) (rest : List ℕ)
    → drop (head_length family + length carried.sources * width family) (record_octets family carried ++ rest)
    ≡ carried.auxiliary ++ rest
past_sources family carried rest =
    let octets = length carried.sources * width family in
    sym (drop-drop octets (head_length family) (record_octets family carried ++ rest))
    ∙ (ap (λ (xs : List ℕ). drop octets xs) (past_group family carried rest)
    ∙ drop-past octets (flat_map (big_bytes (width family)) carried.sources) _ (length-spelled_numbers (width family) carried.sources))

-- a record's octets are read as the record
pub carried_record_at-spelled : (family : Family) (carried : CarriedRecord) (rest : List ℕ) → IsCarriedRecord family carried
    → carried_record_at family (record_octets family carried ++ rest) ≡ carried
carried_record_at-spelled family carried rest lawful =
    let bytes = record_octets family carried ++ rest in
    let count = source_count-spelled family carried rest lawful in
    let group : big_number (width family) (drop 4 bytes) ≡ carried.group =
    ap (λ (xs : List ℕ). big_number (width family) xs) (parts-apart family carried rest)
    ∙ big_number-reads_back (width family) carried.group _ lawful.group in
    let sources : numbers_at (width family) (source_count bytes) (drop (head_length family) bytes) ≡ carried.sources =
    ap (λ (n : ℕ). numbers_at (width family) n (drop (head_length family) bytes)) count
    ∙ (ap (λ (xs : List ℕ). numbers_at (width family) (length carried.sources) xs) (past_group family carried rest)
    ∙ numbers_at-spelled (width family) carried.sources (carried.auxiliary ++ rest) lawful.sources) in
    let auxiliary : take (length carried.auxiliary / 4 * 4) (drop (head_length family + source_count bytes * width family) bytes) ≡ carried.auxiliary =
    ap (λ (n : ℕ). take (length carried.auxiliary / 4 * 4) (drop (head_length family + n * width family) bytes)) count
    ∙ (ap (λ (xs : List ℕ). take (length carried.auxiliary / 4 * 4) xs) (past_sources family carried rest)
    ∙ take-part (length carried.auxiliary / 4 * 4) carried.auxiliary rest (sym (auxiliary-octets family carried lawful))) in
    same_carried (carried_record_at family bytes) carried refl group sources auxiliary

pub past_record : (family : Family) (carried : CarriedRecord) (rest : List ℕ) → IsCarriedRecord family carried
    → drop (record_length family (record_octets family carried ++ rest)) (record_octets family carried ++ rest) ≡ rest
past_record family carried rest lawful =
    drop-past _ (record_octets family carried) rest (length-record_octets family carried rest lawful)

-- a record that is there in full has no fault
pub record_faults-none : (family : Family) (index : ℕ) (bytes : List ℕ) → record_length family bytes ≤ length bytes
    → first_holding (record_faults family index bytes) ≡ None
record_faults-none family index bytes whole =
    let head = le-ltb (length bytes) (head_length family) (omega arith) in
    let all = le-ltb (length bytes) (record_length family bytes) whole in
    first_holding-none (record_faults family index bytes) (head, (all, tt))

pub record_faults-spelled : (family : Family) (index : ℕ) (carried : CarriedRecord) (rest : List ℕ) → IsCarriedRecord family carried
    → first_holding (record_faults family index (record_octets family carried ++ rest)) ≡ None
record_faults-spelled family index carried rest lawful =
    let same = length-record_octets family carried rest lawful in
    let both = length-append (record_octets family carried) rest in
    record_faults-none family index (record_octets family carried ++ rest) (omega arith)

-- where no fault is, the record is there in full
pub whole_record : (family : Family) (index : ℕ) (bytes : List ℕ) → first_holding (record_faults family index bytes) ≡ None → record_length family bytes ≤ length bytes
whole_record family index bytes none =
    let all = NoneHolds-of (record_faults family index bytes) none in ltb-false (length bytes) (record_length family bytes) all.1.0

-- the first two octets, and the rest
first_two : (bytes : List ℕ) → 2 ≤ length bytes → bytes ≡ slice_index bytes 0 ∷ slice_index bytes 1 ∷ drop 2 bytes
first_two [] enough = absurd (omega arith)
first_two (a ∷ []) enough = absurd (omega arith)
first_two (a ∷ b ∷ rest) enough = refl

-- octets from a place on are a part of them and those from its end on
cut : (n place : ℕ) (bytes : List ℕ) → drop place bytes ≡ take n (drop place bytes) ++ drop (place + n) bytes
cut n place bytes = sym (take-append-drop n (drop place bytes)) ∙ ap (λ (xs : List ℕ). take n (drop place bytes) ++ xs) (drop-drop n place bytes)

auxiliary_at-length : (family : Family) (bytes : List ℕ) → record_length family bytes ≤ length bytes
    → length (carried_record_at family bytes).auxiliary ≡ slice_index bytes 1 * 4
auxiliary_at-length family bytes whole =
    let place = head_length family + source_count bytes * width family in
    length-take-le (slice_index bytes 1 * 4) (drop place bytes) (omega (arith, length-drop place bytes))

pub carried_record_at-lawful : (family : Family) (bytes : List ℕ) → AreOctets bytes → record_length family bytes ≤ length bytes
    → IsCarriedRecord family (carried_record_at family bytes)
carried_record_at-lawful family bytes small whole =
    let auxiliary = auxiliary_at-length family bytes whole in
    let words = small 1 in
    let place = head_length family + source_count bytes * width family in
    record {
      kind = small 0;
      group = big_from-lt 0 (width family) (drop 4 bytes) (AreOctets-drop 4 bytes small);
      sources = numbers_at-fit (width family) (source_count bytes) (drop (head_length family) bytes) (AreOctets-drop (head_length family) bytes small);
      source_count = rw (length-numbers_at (width family) (source_count bytes) (drop (head_length family) bytes))
          (big_from-lt 0 2 (drop 2 bytes) (AreOctets-drop 2 bytes small));
      auxiliary_words = rw auxiliary (omega arith);
      word_count = rw auxiliary (omega arith);
      auxiliary_octets = AreOctets-take (slice_index bytes 1 * 4) (drop place bytes) (AreOctets-drop place bytes small);
    }

-- octets that hold a record in full are its octets, and the rest
pub spelled-carried_record_at : (family : Family) (bytes : List ℕ) → AreOctets bytes → record_length family bytes ≤ length bytes
    → bytes ≡ record_octets family (carried_record_at family bytes) ++ drop (record_length family bytes) bytes
spelled-carried_record_at family bytes small whole =
    let octets = width family in
    let count = source_count bytes in
    let words = slice_index bytes 1 in
    let head = head_length family in
    let place = head + count * octets in
    let rest = drop (record_length family bytes) bytes in
    let after_two : 2 ≤ length (drop 2 bytes) = omega (arith, length-drop 2 bytes) in
    let after_four : octets ≤ length (drop 4 bytes) = omega (arith, length-drop 4 bytes) in
    let after_head : count * octets ≤ length (drop head bytes) = omega (arith, length-drop head bytes) in
    let count_octets = bytes_high_first-take 2 (drop 2 bytes) after_two (AreOctets-drop 2 bytes small) in
    let group_octets = bytes_high_first-take octets (drop 4 bytes) after_four (AreOctets-drop 4 bytes small) in
    let sources_octets = spelled-numbers_at octets count (drop head bytes) (AreOctets-drop head bytes small) after_head in
    let carried = carried_record_at family bytes in
    let auxiliary_cut : drop place bytes ≡ carried.auxiliary ++ rest = cut (words * 4) place bytes in
    let sources_cut : drop head bytes ≡ flat_map (big_bytes octets) carried.sources ++ (carried.auxiliary ++ rest) =
    sources_octets ∙ ap (λ (xs : List ℕ). flat_map (big_bytes octets) carried.sources ++ xs) (drop-drop (count * octets) head bytes ∙ auxiliary_cut) in
    let group_cut : drop 4 bytes ≡ parts family carried rest =
    cut octets 4 bytes ∙ (ap (λ (xs : List ℕ). xs ++ drop head bytes) (sym group_octets)
    ∙ ap (λ (xs : List ℕ). big_bytes octets carried.group ++ xs) sources_cut) in
    let count_cut : drop 2 bytes ≡ big_bytes 2 count ++ drop 4 bytes =
    cut 2 2 bytes ∙ ap (λ (xs : List ℕ). xs ++ drop 4 bytes) (sym count_octets) in
    let len = length-numbers_at octets count (drop head bytes) in
    let auxiliary = auxiliary_at-length family bytes whole in
    let stated : length carried.auxiliary / 4 ≡ words = omega arith in
    let tail : drop 4 (record_octets family carried ++ rest) ≡ parts family carried rest = parts-apart family carried rest in
    first_two bytes (omega arith)
    ∙ (ap (λ (xs : List ℕ). slice_index bytes 0 ∷ words ∷ xs)
    (count_cut ∙ ap (λ (xs : List ℕ). big_bytes 2 count ++ xs) (group_cut ∙ sym tail))
    ∙ (ap (λ (n : ℕ). slice_index bytes 0 ∷ n ∷ (big_bytes 2 count ++ drop 4 (record_octets family carried ++ rest))) (sym stated)
    ∙ ap (λ (n : ℕ). slice_index bytes 0 ∷ length carried.auxiliary / 4 ∷ (big_bytes 2 n ++ drop 4 (record_octets family carried ++ rest))) (sym len)))
