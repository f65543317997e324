-- Numbers of one width, one after another, as octets.
use Rattle.std.proofs.Common.{◌≡◌, ℕ, zero, suc, ◌+◌, ◌*◌, ◌^◌, ◌<◌, ◌≤◌, List, [], ◌∷◌, ◌++◌, length, length-append, length-drop, take, drop, refl, sym, ap, ◌∙◌, arith, append_assoc, take-append-drop}
use Rattle.std.{proofs.{Math.{Nat.{suc-mul}, Seq.{drop-append_seam, take-append_seam}}, lemmas.List.{drop-drop, Elements.{All-cons, All-head, All-tail}}}, specs.List.{All, flat_map}}
use Rattle.byteorder.specs.{Endian.{big_number, big_bytes}, Numbers.{big_from-lt, big_number-reads_back, length-bytes_high_first}}
use Rattle.amt_values.{specs.Octets.{AreOctets}, proofs.NetworkOrder.{AreOctets-drop, bytes_high_first-take}}
use Rattle.group_records.specs.Reading.{numbers_at}

-- what follows a part of so many items
pub drop-past : {A : Type 0} (n : ℕ) (prefix back : List A) → length prefix ≡ n → drop n (prefix ++ back) ≡ back
drop-past n prefix back len = ap (λ (k : ℕ). drop k (prefix ++ back)) (sym len) ∙ drop-append_seam prefix back

pub take-part : {A : Type 0} (n : ℕ) (prefix back : List A) → length prefix ≡ n → take n (prefix ++ back) ≡ prefix
take-part n prefix back len = ap (λ (k : ℕ). take k (prefix ++ back)) (sym len) ∙ take-append_seam prefix back

-- each number fits so many octets
abbrev pub Fits : ℕ → ℕ → Type 0
Fits octets number = number < 256 ^ octets

-- spelled numbers are read
pub numbers_at-spelled : (octets : ℕ) (numbers rest : List ℕ) → All (Fits octets) numbers
    → numbers_at octets (length numbers) (flat_map (big_bytes octets) numbers ++ rest) ≡ numbers
numbers_at-spelled octets [] rest fit = refl
numbers_at-spelled octets (number ∷ numbers) rest fit =
    let after = flat_map (big_bytes octets) numbers ++ rest in
    let apart = append_assoc (big_bytes octets number) (flat_map (big_bytes octets) numbers) rest in
    let first = big_number-reads_back octets number after (All-head (Fits octets) number numbers fit) in
    let past = drop-past octets (big_bytes octets number) after (length-bytes_high_first octets number) in
    let others = numbers_at-spelled octets numbers rest (All-tail (Fits octets) number numbers fit) in
    rw (apart, first, past, others) refl

pub length-spelled_numbers : (octets : ℕ) (numbers : List ℕ) → length (flat_map (big_bytes octets) numbers) ≡ length numbers * octets
length-spelled_numbers octets [] = omega arith
length-spelled_numbers octets (number ∷ numbers) =
    let rest = length-spelled_numbers octets numbers in
    let first = length-bytes_high_first octets number in
    let both = length-append (big_bytes octets number) (flat_map (big_bytes octets) numbers) in
    let product = suc-mul (length numbers) octets in
    rw product (omega (arith, both))

pub length-numbers_at : (octets count : ℕ) (bytes : List ℕ) → length (numbers_at octets count bytes) ≡ count
length-numbers_at octets zero bytes = refl
length-numbers_at octets (suc count) bytes = ap suc (length-numbers_at octets count (drop octets bytes))

pub numbers_at-fit : (octets count : ℕ) (bytes : List ℕ) → AreOctets bytes → All (Fits octets) (numbers_at octets count bytes)
numbers_at-fit octets zero bytes small = λ k d below. absurd (omega arith)
numbers_at-fit octets (suc count) bytes small =
    All-cons (Fits octets) (big_number octets bytes) (numbers_at octets count (drop octets bytes)) (big_from-lt 0 octets bytes small)
    (numbers_at-fit octets count (drop octets bytes) (AreOctets-drop octets bytes small))

-- octets are those of the numbers that are read of them
pub spelled-numbers_at : (octets count : ℕ) (bytes : List ℕ) → AreOctets bytes → count * octets ≤ length bytes
    → bytes ≡ flat_map (big_bytes octets) (numbers_at octets count bytes) ++ drop (count * octets) bytes
spelled-numbers_at octets zero bytes small enough =
    let none : 0 ≡ 0 * octets = omega arith in ap (λ (n : ℕ). drop n bytes) none
spelled-numbers_at octets (suc count) bytes small enough =
    let product = suc-mul count octets in
    let there : octets ≤ length bytes = omega arith in
    let left : count * octets ≤ length (drop octets bytes) = omega (arith, length-drop octets bytes) in
    let first = bytes_high_first-take octets bytes there small in
    let others = spelled-numbers_at octets count (drop octets bytes) (AreOctets-drop octets bytes small) left in
    let place : octets + count * octets ≡ suc count * octets = omega arith in
    let after = drop-drop (count * octets) octets bytes ∙ ap (λ (n : ℕ). drop n bytes) place in
    let numbers = flat_map (big_bytes octets) (numbers_at octets count (drop octets bytes)) in
    sym (take-append-drop octets bytes)
    ∙ (ap (λ (xs : List ℕ). xs ++ drop octets bytes) (sym first)
    ∙ (ap (λ (xs : List ℕ). big_bytes octets (big_number octets bytes) ++ xs) (others ∙ ap (λ (xs : List ℕ). numbers ++ xs) after)
    ∙ sym (append_assoc (big_bytes octets (big_number octets bytes)) numbers (drop (suc count * octets) bytes))))
