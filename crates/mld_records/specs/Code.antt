-- The codes in which MLDv2 carries its response delay (RFC 3810, section 5.1.3).
use Rattle.std.specs.Prelude.{ℕ}
use Rattle.group_records.specs.{declared.family.Family.TheVariants.{V6}, Code.{code_value as value_in, code_of as code_in}}

-- what a code stands for
abbrev pub code_value : ℕ → ℕ
code_value code = value_in V6 code

-- the one of the 65536 codes that stands for the time, and 0 where none does
abbrev pub code_of : ℕ → ℕ
code_of time = code_in V6 time
