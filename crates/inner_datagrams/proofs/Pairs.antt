-- The words of bytes as the pairs into which a slice is cut, and the octet that is left over.
use Rattle.std.proofs.Common.{◌≡◌, ℕ, zero, suc, ◌+◌, ◌*◌, ◌/◌, ◌≤◌, List, [], ◌∷◌, length, take, drop, slice_index, sum, refl, arith}
use Rattle.std.{specs.{Int.{w16, from_be_bytes}, Prelude.{sum_by}, Simd.{first_chunks}}, proofs.lemmas.List.{take_all, Sums.{sum_by-cons}}}
use Rattle.inner_datagrams.specs.Checksum.{words}

-- the number of a word of two octets
abbrev pub word_of : List ℕ → ℕ
word_of pair = from_be_bytes w16 pair

double-suc : (k : ℕ) → suc k * 2 ≡ suc (suc (k * 2))
double-suc k = omega arith

sum_by-pairs : (bytes : List ℕ) (k : ℕ) → k ≡ length bytes / 2
    → sum_by word_of (first_chunks 2 k bytes) + slice_index (drop (k * 2) bytes) 0 * 256 ≡ sum (words bytes)
sum_by-pairs [] zero half = refl
sum_by-pairs [] (suc k) half = absurd (omega arith)
sum_by-pairs (last ∷ []) zero half = refl
sum_by-pairs (last ∷ []) (suc k) half = absurd (omega arith)
sum_by-pairs (high ∷ low ∷ rest) zero half = absurd (omega arith)
sum_by-pairs (high ∷ low ∷ rest) (suc k) half =
    let shorter = sum_by-pairs rest k (omega arith) in
    rw (sum_by-cons word_of (high ∷ low ∷ []) (first_chunks 2 k rest), sum_by-cons (λ (x : ℕ). x) (high * 256 + low) (words rest), double-suc k) (omega arith)

-- the sum of all pairs and of the octet that is left over is the sum of the words
pub sum_of_pairs : (bytes : List ℕ) (pairs : List (List ℕ)) (odd : List ℕ) (n total : ℕ)
    → pairs ≡ first_chunks 2 (length bytes / 2) bytes → odd ≡ drop (length bytes / 2 * 2) bytes
    → length pairs ≤ n → total ≡ sum_by word_of (take n pairs) → total + slice_index odd 0 * 256 ≡ sum (words bytes)
sum_of_pairs bytes pairs odd n total prefix suffix all total_is =
    let whole = sum_by-pairs bytes (length bytes / 2) refl in rw (total_is, take_all n pairs all, prefix, suffix) whole
