-- A relay's General Query states the times that the relay counts by.
use Rattle.std.proofs.Common.{◌≡◌, ℕ, ◌+◌, ◌*◌, ◌<◌, ◌≤◌, Bool, true, false, ap, subst, ◌∙◌, arith}
use Rattle.igmp_records.specs.Code.{code_of, code_value}
use Rattle.mld_records.specs.Code.{code_of as mld_code_of, code_value as mld_code_value}
use Rattle.socket_merge.specs.FullReport.{family_by}
use Rattle.gateway_machine.specs.Timing.{interval_of, lifetime_of, or_default, response_ms}
use Rattle.relay_machine.{specs.{declared.{number_key.NumberKey.TheVariants.{QuerySeconds, Robustness}, settings.Settings.{Settings}}, Queries.{query_fields}, Settings.{AreLawfulSettings, HasCode, HasMldCode, membership_interval_ms}}, proofs.Times.{found_code, found_mld_code}}

-- the code of a time that has one fits, and stands for it
pub code_of-is : (time : ℕ) → HasCode time → (code_of time < 256) × (code_value (code_of time) ≡ time)
code_of-is time (code, fits, stands) = subst (λ (one : ℕ). (one < 256) × (code_value one ≡ time)) (found_code time code fits stands) (fits, stands)

pub mld_code_of-is : (time : ℕ) → HasMldCode time → (mld_code_of time < 65536) × (mld_code_value (mld_code_of time) ≡ time)
mld_code_of-is time (code, fits, stands) = subst (λ (one : ℕ). (one < 65536) × (mld_code_value one ≡ time)) (found_mld_code time code fits stands) (fits, stands)

or_default-stated : (default stated : ℕ) → 1 ≤ stated → or_default default stated ≡ stated
or_default-stated default stated some = grind arith

-- the interval that is read is the relay's
pub interval_of-query_fields : (settings : Settings) (v6 : Bool) → AreLawfulSettings settings → interval_of (query_fields settings v6) ≡ settings.query_seconds
interval_of-query_fields settings v6 lawful =
    ap (or_default 125) (code_of-is settings.query_seconds lawful.times.interval).1 ∙ or_default-stated 125 settings.query_seconds (lawful.numbers QuerySeconds).least

response_ms-query_fields : (settings : Settings) (v6 : Bool) → AreLawfulSettings settings → response_ms (family_by v6) (query_fields settings v6) ≡ settings.response_tenths * 100
response_ms-query_fields settings false lawful = ap (λ (tenths : ℕ). tenths * 100) (code_of-is settings.response_tenths lawful.times.response).1
response_ms-query_fields settings true lawful = (mld_code_of-is (settings.response_tenths * 100) lawful.times.mld_response).1

-- and so is the lifetime of a report
pub lifetime_of-query_fields : (settings : Settings) (v6 : Bool) → AreLawfulSettings settings → lifetime_of (family_by v6) (query_fields settings v6) ≡ membership_interval_ms settings
lifetime_of-query_fields settings v6 lawful =
    let robustness = or_default-stated 2 settings.robustness (lawful.numbers Robustness).least in
    let interval = interval_of-query_fields settings v6 lawful in
    let response = response_ms-query_fields settings v6 lawful in λ i. robustness i * interval i * 1000 + response i
