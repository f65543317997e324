-- Records one after another: their octets are read as them, and octets without fault are theirs.
use Rattle.std.{proofs.{Common.{◌≡◌, ℕ, zero, suc, List, [], ◌∷◌, ◌++◌, length, drop, None, refl, sym, subst, ap, ◌∙◌, arith, append_assoc}, lemmas.List.Elements.{All-cons, All-head, All-tail}}, specs.List.{All, flat_map}}
use Rattle.amt_values.{specs.{Octets.{AreOctets}, Conditions.{Conditions, first_holding}}, proofs.{NetworkOrder.{AreOctets-drop}, ConditionLaws.{first_holding-both_none, first_holding-later}}}
use Rattle.source_filter.specs.{declared.record.Record.{Record}, declared.fault.ReportFault.{ReportFault}}
use Rattle.group_records.specs.{declared.family.Family.{Family}, CarriedRecord.{CarriedRecord, IsCarriedRecord, record_octets, known_record, known_records}, Report.{AreRecords}}
use Rattle.group_records.{specs.Reading.{carried_records_at, all_record_faults, carried_record_at, record_faults, record_length}, proofs.RecordOctets.{carried_record_at-lawful, carried_record_at-spelled, past_record, record_faults-spelled, spelled-carried_record_at, whole_record}}

-- what is wrong with the records after the one at the head
abbrev pub later_faults : Family → ℕ → ℕ → List ℕ → Conditions ReportFault
later_faults family index count bytes = all_record_faults family (suc index) count (drop (record_length family bytes) bytes)

pub all_record_faults-spelled : (family : Family) (index : ℕ) (carried : List CarriedRecord) (rest : List ℕ) → All (IsCarriedRecord family) carried
    → first_holding (all_record_faults family index (length carried) (flat_map (record_octets family) carried ++ rest)) ≡ None
all_record_faults-spelled family index [] rest lawful = refl
all_record_faults-spelled family index (first ∷ others) rest lawful =
    let here = All-head (IsCarriedRecord family) first others lawful in
    let after = flat_map (record_octets family) others ++ rest in
    let apart = append_assoc (record_octets family first) (flat_map (record_octets family) others) rest in
    let bytes = record_octets family first ++ after in
    let later = all_record_faults-spelled family (suc index) others rest (All-tail (IsCarriedRecord family) first others lawful) in
    let IsUnfaulted : List ℕ → Type 0 = λ (xs : List ℕ). first_holding (all_record_faults family index (suc (length others)) xs) ≡ None in
    let AreUnfaulted : List ℕ → Type 0 = λ (xs : List ℕ). first_holding (all_record_faults family (suc index) (length others) xs) ≡ None in
    subst IsUnfaulted (sym apart)
    (first_holding-later (record_faults family index bytes) (later_faults family index (length others) bytes) (record_faults-spelled family index first after here)
    ∙ subst AreUnfaulted (sym (past_record family first after here)) later)

pub carried_records_at-spelled : (family : Family) (carried : List CarriedRecord) (rest : List ℕ) → All (IsCarriedRecord family) carried
    → carried_records_at family (length carried) (flat_map (record_octets family) carried ++ rest) ≡ carried
carried_records_at-spelled family [] rest lawful = refl
carried_records_at-spelled family (first ∷ others) rest lawful =
    let here = All-head (IsCarriedRecord family) first others lawful in
    let after = flat_map (record_octets family) others ++ rest in
    let apart = append_assoc (record_octets family first) (flat_map (record_octets family) others) rest in
    let later = carried_records_at-spelled family others rest (All-tail (IsCarriedRecord family) first others lawful) in
    ap (λ (xs : List ℕ). carried_records_at family (suc (length others)) xs) apart
    ∙ (ap (λ (xs : List ℕ). carried_record_at family (record_octets family first ++ after) ∷ carried_records_at family (length others) xs)
    (past_record family first after here)
    ∙ (ap (λ (xs : List CarriedRecord). carried_record_at family (record_octets family first ++ after) ∷ xs) later
    ∙ ap (λ (x : CarriedRecord). x ∷ others) (carried_record_at-spelled family first after here)))

pub AreRecords-read : (family : Family) (index count : ℕ) (bytes : List ℕ) → AreOctets bytes
    → first_holding (all_record_faults family index count bytes) ≡ None
    → AreRecords family count (known_records family (carried_records_at family count bytes)) bytes
AreRecords-read family index zero bytes small none =
    record { carried = []; rest = bytes; number = refl; lawful = λ k d below. absurd (omega arith); spelled = refl; known = refl }
AreRecords-read family index (suc count) bytes small none =
    let both = first_holding-both_none (record_faults family index bytes) (later_faults family index count bytes) none in
    let whole = whole_record family index bytes both.0 in
    let left = drop (record_length family bytes) bytes in
    let later = AreRecords-read family (suc index) count left (AreOctets-drop (record_length family bytes) bytes small) both.1 in
    let first = carried_record_at family bytes in
    record {
      carried = first ∷ later.carried;
      rest = later.rest;
      number = ap suc later.number;
      lawful = All-cons (IsCarriedRecord family) first later.carried (carried_record_at-lawful family bytes small whole) later.lawful;
      spelled = spelled-carried_record_at family bytes small whole
          ∙ (ap (λ (xs : List ℕ). record_octets family first ++ xs) later.spelled
          ∙ sym (append_assoc (record_octets family first) (flat_map (record_octets family) later.carried) later.rest));
      known = ap (λ (records : List Record). known_record family first ++ records) later.known;
    }

-- octets are so many records of one list
pub AreRecords-once : (family : Family) (index count : ℕ) (records : List Record) (bytes : List ℕ) → AreRecords family count records bytes
    → (first_holding (all_record_faults family index count bytes) ≡ None) × (known_records family (carried_records_at family count bytes) ≡ records)
AreRecords-once family index count records bytes are =
    let none = all_record_faults-spelled family index are.carried are.rest are.lawful in
    let read = carried_records_at-spelled family are.carried are.rest are.lawful in
    let read_here : carried_records_at family count bytes ≡ are.carried = rw (are.spelled, sym are.number) read in
    (rw (are.spelled, sym are.number) none, ap (λ (carried : List CarriedRecord). known_records family carried) read_here ∙ sym are.known)
