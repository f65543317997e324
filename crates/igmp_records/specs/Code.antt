-- The codes in which IGMPv3 carries times (RFC 3376, section 4.1.1).
use Rattle.std.specs.Prelude.{ℕ}
use Rattle.group_records.specs.{declared.family.Family.TheVariants.{V4}, Code.{code_value as value_in, code_of as code_in}}

-- what a code stands for
abbrev pub code_value : ℕ → ℕ
code_value code = value_in V4 code

-- the one of the 256 codes that stands for the time, and 0 where none does
abbrev pub code_of : ℕ → ℕ
code_of time = code_in V4 time
