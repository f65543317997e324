-- The Internet checksum (RFC 1071, section 1).
use Rattle.std.specs.Prelude.{◌≡◌, ℕ, ◌+◌, ◌-◌, ◌*◌, ◌/◌, ◌%◌, ◌^◌, ◌==◌, Bool, List, [], ◌∷◌}

-- bytes as words of 16 bits, the high octet first; a zero follows an odd last octet
abbrev pub words : List ℕ → List ℕ
words [] = []
words (last ∷ []) = last * 256 ∷ []
words (high ∷ low ∷ rest) = (high * 256 + low) ∷ words rest

-- one's complement addition of two words: what is carried out at the high end is added at the low end
abbrev pub ones_add : ℕ → ℕ → ℕ
ones_add a b = (a + b) % 2 ^ 16 + (a + b) / 2 ^ 16

-- the one's complement sum of words
abbrev pub ones_sum : List ℕ → ℕ
ones_sum [] = 0
ones_sum (word ∷ rest) = ones_add word (ones_sum rest)

-- the checksum: the one's complement of that sum
abbrev pub internet_sum_of : List ℕ → ℕ
internet_sum_of bytes = 65535 - ones_sum (words bytes)

-- all words, the one with the checksum among them, add up to ffff
abbrev pub IsRight : List ℕ → Type 0
IsRight bytes = ones_sum (words bytes) ≡ 65535

-- that they do, as a test
abbrev pub has_right_sum : List ℕ → Bool
has_right_sum bytes = ones_sum (words bytes) == 65535
