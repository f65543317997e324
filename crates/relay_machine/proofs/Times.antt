-- Which times a General Query can carry.
use Rattle.std.{proofs.Common.{◌≡◌, ℕ, ◌<◌, ◌↔◌, Option, Some, None, IsTrue, is_some, refl, sym, ap, ◌∙◌}, specs.Option.{IfSome}}
use Rattle.igmp_records.{specs.Code.{code_value, code_of}, proofs.Codes.{code_of-code_value}}
use Rattle.mld_records.{specs.Code.{code_value as mld_code_value, code_of as mld_code_of}, proofs.Codes.{code_of-code_value as mld_code_of-mld_code_value}}
use Rattle.relay_machine.specs.Settings.{HasCode, HasMldCode}

-- the code that was found for a time is its code
pub found_code : (time code : ℕ) → code < 256 → code_value code ≡ time → code ≡ code_of time
found_code time code small stands = sym (code_of-code_value code small) ∙ ap code_of stands

-- a code was found exactly where the time has one
pub HasCode-from_answer : (time : ℕ) (answer : Option ℕ) → IfSome answer (λ code. code < 256) → IfSome answer (λ code. code_value code ≡ time)
    → ((code : ℕ) → code < 256 → code_value code ≡ time → answer ≡ Some code) → IsTrue (is_some answer) ↔ HasCode time
HasCode-from_answer time None small stands only =
    (λ found. cc, λ has_code. let found = only has_code.0 has_code.1 has_code.2 in cc)
HasCode-from_answer time (Some code) small stands only =
    (λ found. (code, small, stands), λ has_code. refl)

-- the same of the codes of MLD
pub found_mld_code : (time code : ℕ) → code < 65536 → mld_code_value code ≡ time → code ≡ mld_code_of time
found_mld_code time code small stands = sym (mld_code_of-mld_code_value code small) ∙ ap mld_code_of stands

pub HasMldCode-from_answer : (time : ℕ) (answer : Option ℕ) → IfSome answer (λ code. code < 65536) → IfSome answer (λ code. mld_code_value code ≡ time)
    → ((code : ℕ) → code < 65536 → mld_code_value code ≡ time → answer ≡ Some code) → IsTrue (is_some answer) ↔ HasMldCode time
HasMldCode-from_answer time None small stands only =
    (λ found. cc, λ has_code. let found = only has_code.0 has_code.1 has_code.2 in cc)
HasMldCode-from_answer time (Some code) small stands only =
    (λ found. (code, small, stands), λ has_code. refl)
