-- The codes in which queries carry times: of 8 bits in IGMPv3 (RFC 3376, section 4.1.1), and of 16 in
-- MLDv2 (RFC 3810, section 5.1.3).
use Rattle.std.specs.Prelude.{ℕ, ◌+◌, ◌*◌, ◌/◌, ◌%◌, ◌^◌, ◌==◌, nat_lt, unwrap_or, if◌then◌else◌}
use Rattle.std.specs.List.{find, range_with_len}
use Rattle.group_records.specs.declared.family.Family.{Family, TheVariants.{V4, V6}}

-- how many codes there are
abbrev pub code_count : Family → ℕ
code_count V4 = 256
code_count V6 = 65536

-- the lower bits of a code, above which it has 3 of exponent and one more
abbrev pub mantissa_bits : Family → ℕ
mantissa_bits V4 = 4
mantissa_bits V6 = 12

-- those bits of a code
abbrev pub mantissa_of : Family → ℕ → ℕ
mantissa_of family code = code % 2 ^ mantissa_bits family

-- the three bits above them
abbrev pub exponent_of : Family → ℕ → ℕ
exponent_of family code = code / 2 ^ mantissa_bits family % 8

-- a code of the lower half stands for itself, and another for its mantissa, with a bit set above,
-- shifted by its exponent and 3
abbrev pub code_value : Family → ℕ → ℕ
code_value family code =
    if nat_lt code (code_count family / 2) then code
    else (2 ^ mantissa_bits family + mantissa_of family code) * 2 ^ (exponent_of family code + 3)

-- the code of the upper half that has this exponent and this mantissa
abbrev pub code_with : Family → ℕ → ℕ → ℕ
code_with family exponent mantissa = (8 + exponent) * 2 ^ mantissa_bits family + mantissa

-- the one code that stands for the time, and 0 where none does
unfoldable pub code_of : Family → ℕ → ℕ
code_of family time = unwrap_or (find (λ code. code_value family code == time) (range_with_len 0 (code_count family))) 0
