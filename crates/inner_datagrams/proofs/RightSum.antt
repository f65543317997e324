-- Bytes whose checksum field holds the checksum of the same bytes with a zero there add up right.
use Rattle.std.proofs.Common.{◌≡◌, ℕ, zero, suc, ◌+◌, ◌-◌, ◌*◌, ◌/◌, ◌%◌, ◌<◌, List, [], ◌∷◌, ◌++◌, length, sum, eqb, arith}
use Rattle.std.proofs.lemmas.List.Sums.{sum_by-cons, sum_by-append}
use Rattle.byteorder.specs.Endian.{big_bytes}
use Rattle.amt_values.specs.Octets.{AreOctets}
use Rattle.inner_datagrams.{specs.Checksum.{words, ones_sum, internet_sum_of, IsRight, has_right_sum}, proofs.OnesComplement.{AreWords, AreWords-words, StandsFor, StandsFor-ones_sum, words-append}}

-- words stay words where one takes another's place
AreWords-between : (prefix suffix : List ℕ) (word other : ℕ) → AreWords (prefix ++ other ∷ suffix) → word < 65536 → AreWords (prefix ++ word ∷ suffix)
AreWords-between [] suffix word other small fits zero = fits
AreWords-between [] suffix word other small fits (suc k) = small (suc k)
AreWords-between (first ∷ prefix) suffix word other small fits zero = small 0
AreWords-between (first ∷ prefix) suffix word other small fits (suc k) =
    AreWords-between prefix suffix word other (λ j. small (suc j)) fits k

sum-between : (prefix suffix : List ℕ) (word : ℕ) → sum (prefix ++ word ∷ suffix) ≡ word + sum (prefix ++ suffix)
sum-between prefix suffix word =
    rw (sum_by-append (λ (x : ℕ). x) prefix (word ∷ suffix), sum_by-cons (λ (x : ℕ). x) word suffix, sum_by-append (λ (x : ℕ). x) prefix suffix) (omega arith)

complement_fills : (rest blank filled : ℕ) → StandsFor (0 + rest) blank → StandsFor (65535 - blank + rest) filled → filled ≡ 65535
complement_fills rest blank filled before after = omega arith

-- words add up to ffff where one is the complement of the sum with a zero in its place
pub ones_sum-complement : (prefix suffix : List ℕ) → AreWords (prefix ++ 0 ∷ suffix)
    → ones_sum (prefix ++ (65535 - ones_sum (prefix ++ 0 ∷ suffix)) ∷ suffix) ≡ 65535
ones_sum-complement prefix suffix small =
    let blank = ones_sum (prefix ++ 0 ∷ suffix) in
    let word = 65535 - blank in
    let filled = AreWords-between prefix suffix word 0 small (omega arith) in
    let before = rw (sum-between prefix suffix 0) at (StandsFor-ones_sum (prefix ++ 0 ∷ suffix) small) in
    let after = rw (sum-between prefix suffix word) at (StandsFor-ones_sum (prefix ++ word ∷ suffix) filled) in
    complement_fills (sum (prefix ++ suffix)) blank _ before after

word_of_octets : (word : ℕ) → word < 65536 → word / 256 % 256 * 256 + word % 256 ≡ word
word_of_octets word small = omega arith

-- bytes are right where the checksum field, at an even place, holds their checksum
pub IsRight-filled : (prefix suffix : List ℕ) (pairs : ℕ) → length prefix ≡ pairs * 2 → AreOctets (prefix ++ 0 ∷ 0 ∷ suffix)
    → IsRight (prefix ++ (big_bytes 2 (internet_sum_of (prefix ++ 0 ∷ 0 ∷ suffix)) ++ suffix))
IsRight-filled prefix suffix pairs even small =
    let blank = words-append prefix (0 ∷ 0 ∷ suffix) pairs even in
    let field = internet_sum_of (prefix ++ 0 ∷ 0 ∷ suffix) in
    let octets = word_of_octets field (omega arith) in
    let words_small = rw blank at (AreWords-words (prefix ++ 0 ∷ 0 ∷ suffix) small) in
    rw (words-append prefix (big_bytes 2 field ++ suffix) pairs even, octets, blank) (ones_sum-complement (words prefix) (words suffix) words_small)

zero_complement : (checksum sum : ℕ) → checksum ≡ 65535 - sum → sum < 65536 → eqb checksum 0 ≡ eqb sum 65535
zero_complement checksum sum checksum_is fits = grind arith

-- bytes are right where their checksum is zero
pub has_right_sum-zero : (bytes : List ℕ) (checksum : ℕ) → AreOctets bytes → checksum ≡ internet_sum_of bytes → eqb checksum 0 ≡ has_right_sum bytes
has_right_sum-zero bytes checksum small checksum_is =
    zero_complement checksum (ones_sum (words bytes)) checksum_is (StandsFor-ones_sum (words bytes) (AreWords-words bytes small)).fits
