-- The one's complement sum of words and their plain sum: they leave one remainder by 65535, and are
-- zero together.
use Rattle.std.proofs.Common.{◌≡◌, ℕ, zero, suc, ◌+◌, ◌*◌, ◌%◌, ◌↔◌, ◌<◌, List, [], ◌∷◌, ◌++◌, length, slice_index, sum, min, refl, ap, arith}
use Rattle.std.proofs.lemmas.List.Sums.{sum_by-cons}
use Rattle.amt_values.specs.Octets.{AreOctets}
use Rattle.inner_datagrams.specs.Checksum.{words, ones_add, ones_sum}

-- each word has 16 bits
abbrev pub AreWords : List ℕ → Type 0
AreWords ws = (k : ℕ) → slice_index ws k < 65536

pub AreWords-words : (bytes : List ℕ) → AreOctets bytes → AreWords (words bytes)
AreWords-words [] small k = omega arith
AreWords-words (last ∷ []) small zero = let octet = small 0 in omega arith
AreWords-words (last ∷ []) small (suc k) = omega arith
AreWords-words (high ∷ low ∷ rest) small zero = let octet = small 0 in let next = small 1 in omega arith
AreWords-words (high ∷ low ∷ rest) small (suc k) = AreWords-words rest (λ j. small (suc (suc j))) k

-- what is left of a total in 16 bits once its carries have come around
pub record StandsFor (total word : ℕ) : Type 0 where
  pub fits : word < 65536
  pub same_remainder : word % 65535 ≡ total % 65535
  pub both_zero : min word 1 ≡ min total 1

-- a total leaves one word
pub same_word : (total a b : ℕ) → StandsFor total a → StandsFor total b → a ≡ b
same_word total a b left right = omega arith

pub StandsFor-zero_alone : (total word : ℕ) → word < 65536 → word % 65535 ≡ total % 65535 → (word ≡ 0) ↔ (total ≡ 0) → StandsFor total word
StandsFor-zero_alone total word small same zeros =
    record { fits = small; same_remainder = same; both_zero = grind (arith, zeros) }

StandsFor-ones_add : (total word left : ℕ) → word < 65536 → StandsFor total left → StandsFor (word + total) (ones_add word left)
StandsFor-ones_add total word left small stands =
    record { fits = omega arith; same_remainder = omega arith; both_zero = omega arith }

pub StandsFor-ones_sum : (ws : List ℕ) → AreWords ws → StandsFor (sum ws) (ones_sum ws)
StandsFor-ones_sum [] small = record { fits = omega arith; same_remainder = omega arith; both_zero = omega arith }
StandsFor-ones_sum (word ∷ rest) small =
    rw (sum_by-cons (λ (x : ℕ). x) word rest) (StandsFor-ones_add (sum rest) word (ones_sum rest) (small 0) (StandsFor-ones_sum rest (λ k. small (suc k))))

-- an even number of octets before it are words of their own
pub words-append : (prefix suffix : List ℕ) (pairs : ℕ) → length prefix ≡ pairs * 2 → words (prefix ++ suffix) ≡ words prefix ++ words suffix
words-append [] suffix pairs even = refl
words-append (last ∷ []) suffix pairs even = absurd (omega arith)
words-append (high ∷ low ∷ prefix) suffix zero even = absurd (omega arith)
words-append (high ∷ low ∷ prefix) suffix (suc pairs) even =
    ap (λ (ws : List ℕ). (high * 256 + low) ∷ ws) (words-append prefix suffix pairs (omega arith))
