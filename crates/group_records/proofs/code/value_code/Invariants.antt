use Rattle.std.proofs.Common.{◌≡◌, ◌<◌, ◌≤◌, ℕ}
use Rattle.group_records.specs.Code.{code_count, code_value, code_with}
use Rattle.group_records.proofs.code.value_code.Given as goal

abbrev pub invariant-loop-exponent : goal.invariant-loop-exponent
invariant-loop-exponent l =
    (code : ℕ) → code < code_count l.family → code_value l.family code ≡ l.value → code_with l.family l.exponent 0 ≤ code
