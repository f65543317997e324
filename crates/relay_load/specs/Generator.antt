-- The generator of a load: a linear congruential generator modulo 2^64, of which words of 32 bits are drawn.
use Rattle.std.specs.Prelude.{ℕ, zero, suc, ◌+◌, ◌*◌, ◌/◌, ◌%◌, ◌^◌}

-- the number after this one
abbrev pub next_number : ℕ → ℕ
next_number number = (number * 6364136223846793005 + 1442695040888963407) % 2 ^ 64

-- the number after so many draws from this one
unfoldable pub number_after : ℕ → ℕ → ℕ
number_after first zero = first
number_after first (suc draws) = next_number (number_after first draws)

-- the word that is drawn after so many others: the high 32 bits of the number that it makes
abbrev pub word_after : ℕ → ℕ → ℕ
word_after first draws = number_after first (draws + 1) / 2 ^ 32
