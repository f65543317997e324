-- The one's complement sum of bytes in parts: an even number of octets is summed for itself.
use Rattle.std.proofs.{Common.{◌≡◌, ℕ, zero, suc, ◌+◌, ◌/◌, ◌%◌, ◌<◌, List, [], ◌∷◌, ◌++◌, length, length-append, sum, refl, arith}, lemmas.List.Sums.{sum_by-append}}
use Rattle.amt_values.specs.Octets.{AreOctets}
use Rattle.inner_datagrams.{specs.Checksum.{words, ones_add, ones_sum, internet_sum_of}, proofs.OnesComplement.{AreWords-words, StandsFor, StandsFor-ones_sum, same_word, words-append}}

pub AreOctets-append : (prefix suffix : List ℕ) → AreOctets prefix → AreOctets suffix → AreOctets (prefix ++ suffix)
AreOctets-append [] suffix prefix_small suffix_small k = suffix_small k
AreOctets-append (first ∷ prefix) suffix prefix_small suffix_small zero = prefix_small 0
AreOctets-append (first ∷ prefix) suffix prefix_small suffix_small (suc k) =
    AreOctets-append prefix suffix (λ j. prefix_small (suc j)) suffix_small k

StandsFor-both : (one other a b : ℕ) → StandsFor one a → StandsFor other b → StandsFor (one + other) (ones_add a b)
StandsFor-both one other a b left right =
    record { fits = omega arith; same_remainder = omega arith; both_zero = omega arith }

pub ones_sum-fits : (bytes : List ℕ) → AreOctets bytes → ones_sum (words bytes) < 65536
ones_sum-fits bytes small = (StandsFor-ones_sum (words bytes) (AreWords-words bytes small)).fits

pub ones_sum-append_even : (prefix suffix : List ℕ) → length prefix % 2 ≡ 0 → AreOctets prefix → AreOctets suffix
    → ones_sum (words (prefix ++ suffix)) ≡ ones_add (ones_sum (words prefix)) (ones_sum (words suffix))
ones_sum-append_even prefix suffix even prefix_small suffix_small =
    let parts = words-append prefix suffix (length prefix / 2) (omega arith) in
    let total = sum_by-append (λ (x : ℕ). x) (words prefix) (words suffix) in
    let left = StandsFor-ones_sum (words prefix) (AreWords-words prefix prefix_small) in
    let right = StandsFor-ones_sum (words suffix) (AreWords-words suffix suffix_small) in
    let small = AreWords-words (prefix ++ suffix) (AreOctets-append prefix suffix prefix_small suffix_small) in
    let whole = StandsFor-ones_sum (words (prefix ++ suffix)) small in
    let same : sum (words (prefix ++ suffix)) ≡ sum (words prefix) + sum (words suffix) = rw parts total in
    let both = StandsFor-both _ _ _ _ left right in
    same_word (sum (words (prefix ++ suffix))) _ _ whole (rw same both)

-- a field of zero adds nothing
ones_sum-zero_field : (suffix : List ℕ) → AreOctets suffix → ones_sum (words (0 ∷ 0 ∷ suffix)) ≡ ones_sum (words suffix)
ones_sum-zero_field suffix small = let fits = ones_sum-fits suffix small in omega arith

AreOctets-field : (suffix : List ℕ) → AreOctets suffix → AreOctets (0 ∷ 0 ∷ suffix)
AreOctets-field suffix small zero = omega arith
AreOctets-field suffix small (suc zero) = omega arith
AreOctets-field suffix small (suc (suc k)) = small k

-- the sum of three parts around a field of zero
pub ones_sum-around : (pseudo_header prefix suffix : List ℕ) → length pseudo_header % 2 ≡ 0 → length prefix % 2 ≡ 0
    → AreOctets pseudo_header → AreOctets prefix → AreOctets suffix
    → ones_sum (words (pseudo_header ++ prefix ++ 0 ∷ 0 ∷ suffix))
    ≡ ones_add (ones_add (ones_sum (words pseudo_header)) (ones_sum (words prefix))) (ones_sum (words suffix))
ones_sum-around pseudo_header prefix suffix pseudo_even prefix_even pseudo_small prefix_small suffix_small =
    let field_small : AreOctets (0 ∷ 0 ∷ suffix) = AreOctets-field suffix suffix_small in
    let before_even : length (pseudo_header ++ prefix) % 2 ≡ 0 = omega (arith, length-append pseudo_header prefix) in
    let before = ones_sum-append_even pseudo_header prefix pseudo_even pseudo_small prefix_small in
    let before_small = AreOctets-append pseudo_header prefix pseudo_small prefix_small in
    let whole = ones_sum-append_even (pseudo_header ++ prefix) (0 ∷ 0 ∷ suffix) before_even before_small field_small in
    rw (whole, before, ones_sum-zero_field suffix suffix_small) refl

-- with nothing before the field, the sum is that of what comes after it
pub internet_sum_of-all_after : (pseudo_header bytes : List ℕ) → length pseudo_header % 2 ≡ 0 → AreOctets pseudo_header → AreOctets bytes
    → internet_sum_of (pseudo_header ++ [] ++ 0 ∷ 0 ∷ bytes) ≡ internet_sum_of (pseudo_header ++ bytes)
internet_sum_of-all_after pseudo_header bytes even pseudo_small small =
    let around = ones_sum-around pseudo_header [] bytes even refl pseudo_small (λ k. omega arith) small in
    let plain = ones_sum-append_even pseudo_header bytes even pseudo_small small in
    let pseudo_fits = ones_sum-fits pseudo_header pseudo_small in
    rw (around, plain) (omega arith)
