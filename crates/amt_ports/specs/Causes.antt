-- Why a call may fail: the count of faults of its device rose.
use Rattle.std.specs.Prelude.{◌≡◌, ℕ, ◌+◌, ◌-◌, ◌^◌, ◌≤◌, min, OnOk, OnErr, Result}

-- one more, but for the last value of a counter, which stays
abbrev pub next_count : ℕ → ℕ
next_count n = min (n + 1) (2 ^ 64 - 1)

-- one more fault was counted
abbrev pub Rose : ℕ → ℕ → Type 0
Rose before after = after ≡ next_count before

-- the count never falls: it rose by one where the call failed, and stood still where it didn't
pub record HasCause {T E : Type 0} (before after : ℕ) (result : Result T E) : Type 0 where
  pub later : before ≤ after
  pub failed : OnErr result (Rose before after)
  pub quiet : OnOk result (after ≡ before)
