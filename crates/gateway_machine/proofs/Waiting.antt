-- How long a gateway waits, and how long a report counts.
use Rattle.std.proofs.Common.{◌≡◌, ℕ, ◌+◌, ◌-◌, ◌*◌, ◌^◌, ◌≤◌, ◌<◌, sym, ap, arith}
use Rattle.std.proofs.{Math.{Nat.{min-eq_right}, Pow.{pow_mono}}, lemmas.Nat.{mul-le}}
use Rattle.gateway_machine.specs.Timing.{wait_ms}

-- two minutes from the eighth try on
pub wait_ms_late : (tries : ℕ) → 8 ≤ tries → 120 * 1000 ≡ wait_ms tries
wait_ms_late tries late =
    let long : 2 ^ 7 ≤ 2 ^ (tries - 1) = pow_mono {i = 7} {j = tries - 1} (omega arith) in
    ap (λ (seconds : ℕ). seconds * 1000) (sym (min-eq_right (omega (arith, long))))

-- a lifetime of numbers that a query can state is a number of 64 bits
pub lifetime_fits : (robustness interval response : ℕ) → robustness < 256 → interval < 2 ^ 32 → response < 2 ^ 40
    → robustness * (interval * 1000) + response < 2 ^ 64
lifetime_fits robustness interval response few short soon =
    let most : robustness * (interval * 1000) ≤ 255 * (4294967295 * 1000) = mul-le robustness (interval * 1000) 255 (4294967295 * 1000) (omega arith) (omega arith) in
    omega (arith, most)
