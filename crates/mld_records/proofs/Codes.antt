-- The codes of times.
use Rattle.std.proofs.Common.{◌≡◌, ℕ, ◌<◌}
use Rattle.group_records.{specs.declared.family.Family.TheVariants.{V6}, proofs.Codes.{code_of-code_value as code_in-value_in}}
use Rattle.mld_records.specs.Code.{code_value, code_of}

-- the code of a code's value is that code
pub code_of-code_value : (code : ℕ) → code < 65536 → code_of (code_value code) ≡ code
code_of-code_value code small = code_in-value_in V6 code small
