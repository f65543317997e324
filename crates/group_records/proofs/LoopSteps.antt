-- The sum of a report's head, and one step of each of the two loops.
use Rattle.std.proofs.Common.{◌≡◌, ℕ, suc, ◌+◌, ◌-◌, ◌*◌, ◌%◌, ◌<◌, ◌≤◌, List, [], ◌∷◌, ◌++◌, length, length-drop, slice_index, Bool, true, false, ◌||◌, is_some, drop, map, Option, Some, None, Ok, Err, refl, sym, subst, ap, ◌∙◌, arith, append_assoc}
use Rattle.std.proofs.{Math.Nat.{suc-mul}, lemmas.{Bool.{eq-eqb, le-leb, ne_eqb}, List.{append-nil}}}
use Rattle.byteorder.specs.Endian.{big_number}
use Rattle.amt_values.{specs.{Octets.{AreOctets}, declared.address.Ip.{Ip}, Conditions.{first_holding, unless}}, proofs.ConditionLaws.{first_holding-here, first_holding-later}}
use Rattle.inner_datagrams.{specs.Checksum.{words, ones_sum, internet_sum_of}, proofs.Parts.{AreOctets-append, internet_sum_of-all_after, ones_sum-fits}}
use Rattle.source_filter.specs.{declared.record.Record.{Record}, declared.fault.ReportFault.{ReportFault, TheVariants.{Sum}}}
use Rattle.group_records.{specs.{declared.family.Family.{Family}, CarriedRecord.{known_record, known_records}, Family.{address_in, kind_of, width}, Reading.{carried_records_at, all_record_faults, asks_memory, carried_record_at, numbers_at, record_faults, record_length, records_reading, wanted_sum, wrong_sum}}, proofs.RecordLists.{later_faults}}

pub wrong_sum-none : (pseudo_header payload : List ℕ) → length pseudo_header % 2 ≡ 0 → AreOctets pseudo_header → AreOctets payload
    → internet_sum_of (pseudo_header ++ [] ++ 0 ∷ 0 ∷ payload) ≡ 0 → first_holding (wrong_sum pseudo_header payload ∷ []) ≡ None
wrong_sum-none pseudo_header payload even pseudo_small small zero_sum =
    let all = internet_sum_of-all_after pseudo_header payload even pseudo_small small in
    let fits = ones_sum-fits (pseudo_header ++ payload) (AreOctets-append pseudo_header payload pseudo_small small) in
    let right = eq-eqb (ones_sum (words (pseudo_header ++ payload))) 65535 (omega arith) in
    rw right refl

pub wrong_sum-some : (pseudo_header payload : List ℕ) → length pseudo_header % 2 ≡ 0 → AreOctets pseudo_header → AreOctets payload
    → (internet_sum_of (pseudo_header ++ [] ++ 0 ∷ 0 ∷ payload) ≡ 0 → ⊥)
    → first_holding (wrong_sum pseudo_header payload ∷ []) ≡ Some (Sum (wanted_sum pseudo_header payload) (big_number 2 (drop 2 payload)))
wrong_sum-some pseudo_header payload even pseudo_small small some_sum =
    let all = internet_sum_of-all_after pseudo_header payload even pseudo_small small in
    let wrong = ne_eqb (ones_sum (words (pseudo_header ++ payload))) 65535 (λ same. some_sum (omega arith)) in
    rw wrong refl

-- one of the numbers that are left is read, and the rest is left
pub sources_step : (family : Family) (count counter : ℕ) (sources whole : List Ip) (left rest : List ℕ) → counter < count
    → rest ≡ drop (width family) left
    → sources ++ map (address_in family) (numbers_at (width family) (count - counter) left) ≡ whole
    → (sources ++ address_in family (big_number (width family) left) ∷ [])
    ++ map (address_in family) (numbers_at (width family) (count - (counter + 1)) rest)
    ≡ whole
sources_step family count counter sources whole left rest below after same =
    let next : suc (count - (counter + 1)) ≡ count - counter = omega arith in
    let address = address_in family (big_number (width family) left) in
    append_assoc sources (address ∷ []) (map (address_in family) (numbers_at (width family) (count - (counter + 1)) rest))
    ∙ (ap (λ (xs : List ℕ). sources ++ address ∷ map (address_in family) (numbers_at (width family) (count - (counter + 1)) xs)) after
    ∙ (ap (λ (n : ℕ). sources ++ map (address_in family) (numbers_at (width family) n left)) next ∙ same))

pub enough_step : (octets count counter : ℕ) (left rest : List ℕ) → counter < count → rest ≡ drop octets left
    → (count - counter) * octets ≤ length left → (count - (counter + 1)) * octets ≤ length rest
enough_step octets count counter left rest below after enough =
    let next : count - counter ≡ suc (count - (counter + 1)) = omega arith in
    let product = suc-mul (count - (counter + 1)) octets in
    let more = rw (next, product) at enough in
    rw after (omega (arith, length-drop octets left))

-- a fault of the next record is the first
pub fault_here : (family : Family) (count index : ℕ) (left : List ℕ) (fault : ReportFault) (first : Option ReportFault) → index < count
    → first_holding (record_faults family index left) ≡ Some fault → first_holding (all_record_faults family index (count - index) left) ≡ first
    → first ≡ Some fault
fault_here family count index left fault first below here same =
    let next : count - index ≡ suc (count - (index + 1)) = omega arith in
    let unfolded = rw next at same in
    sym unfolded ∙ first_holding-here (record_faults family index left) (later_faults family index (count - (index + 1)) left) fault here

pub fault_step : (family : Family) (count index : ℕ) (left rest : List ℕ) (first : Option ReportFault) → index < count
    → first_holding (record_faults family index left) ≡ None → rest ≡ drop (record_length family left) left
    → first_holding (all_record_faults family index (count - index) left) ≡ first
    → first_holding (all_record_faults family (index + 1) (count - (index + 1)) rest) ≡ first
fault_step family count index left rest first below none after same =
    let next : count - index ≡ suc (count - (index + 1)) = omega arith in
    let place : index + 1 ≡ suc index = omega arith in
    let unfolded = rw next at same in
    let left_of : ℕ → List ℕ → Option ReportFault = λ (n : ℕ) (xs : List ℕ). first_holding (all_record_faults family n (count - (index + 1)) xs) in
    let moved : left_of (suc index) (drop (record_length family left) left) ≡ first =
    sym (first_holding-later (record_faults family index left) (later_faults family index (count - (index + 1)) left) none) ∙ unfolded in
    ap (left_of (index + 1)) after ∙ (ap (λ (n : ℕ). left_of n (drop (record_length family left) left)) place ∙ moved)

pub known_step : (family : Family) (count index : ℕ) (records whole : List Record) (left rest : List ℕ) → index < count
    → rest ≡ drop (record_length family left) left
    → records ++ known_records family (carried_records_at family (count - index) left) ≡ whole
    → (records ++ known_record family (carried_record_at family left)) ++ known_records family (carried_records_at family (count - (index + 1)) rest) ≡ whole
known_step family count index records whole left rest below after same =
    let next : suc (count - (index + 1)) ≡ count - index = omega arith in
    let known = known_record family (carried_record_at family left) in
    append_assoc records known (known_records family (carried_records_at family (count - (index + 1)) rest))
    ∙ (ap (λ (xs : List ℕ). records ++ (known ++ known_records family (carried_records_at family (count - (index + 1)) xs))) after
    ∙ (ap (λ (n : ℕ). records ++ known_records family (carried_records_at family n left)) next ∙ same))

-- what the whole walk reads, by its first fault
pub reading-err : (family : Family) (count : ℕ) (bytes : List ℕ) (fault : ReportFault)
    → first_holding (all_record_faults family 0 count bytes) ≡ Some fault
    → records_reading family count bytes ≡ Err fault
unfolding records_reading
reading-err family count bytes fault first =
    ap (λ (f : Option ReportFault). unless f (known_records family (carried_records_at family count bytes))) first

pub reading-ok : (family : Family) (count index : ℕ) (records : List Record) (left bytes : List ℕ) → count ≤ index
    → first_holding (all_record_faults family index (count - index) left) ≡ first_holding (all_record_faults family 0 count bytes)
    → records ++ known_records family (carried_records_at family (count - index) left) ≡ known_records family (carried_records_at family count bytes)
    → records_reading family count bytes ≡ Ok records
unfolding records_reading
reading-ok family count index records left bytes all fault known =
    let done : count - index ≡ 0 = omega arith in
    let faultless = rw done at fault in
    let kept = rw done at known in
    let ok : unless None (known_records family (carried_records_at family count bytes)) ≡ Ok records = ap Ok (sym kept ∙ append-nil records) in
    subst (λ (f : Option ReportFault). unless f (known_records family (carried_records_at family count bytes)) ≡ Ok records) faultless ok

-- a record that is there in full, and is kept, asks memory
pub asks_here : (family : Family) (count index : ℕ) (left : List ℕ) → index < count → record_length family left ≤ length left
    → is_some (kind_of (slice_index left 0)) ≡ true → asks_memory family (count - index) left ≡ true
asks_here family count index left below whole known =
    let next : count - index ≡ suc (count - (index + 1)) = omega arith in
    let there = le-leb (record_length family left) (length left) whole in
    rw (next, there, known) refl

either : (first second : Bool) → second ≡ true → (first || second) ≡ true
either true second holds = refl
either false second holds = holds

-- and so does a record after it
pub asks_later : (family : Family) (count index : ℕ) (left rest : List ℕ) → index < count → record_length family left ≤ length left
    → rest ≡ drop (record_length family left) left → asks_memory family (count - (index + 1)) rest ≡ true
    → asks_memory family (count - index) left ≡ true
asks_later family count index left rest below whole after later =
    let next : count - index ≡ suc (count - (index + 1)) = omega arith in
    let there = le-leb (record_length family left) (length left) whole in
    let moved = rw after at later in
    rw (next, there) (either (is_some (kind_of (slice_index left 0))) _ moved)
