-- Brief waits: none, and some after others.
use Rattle.std.proofs.{Common.{◌≡◌, ℕ, arith}, Math.Nat.{le-max_left, le-max_right, max-le}}
use Rattle.amt_ports.specs.Devices.{WaitsBriefly}

pub no_waits : (before after : ℕ) → after ≡ before → WaitsBriefly before after
no_waits before after same = rw same (le-max_left before 1)

pub waits_then : (before now after : ℕ) → WaitsBriefly before now → WaitsBriefly now after → WaitsBriefly before after
waits_then before now after first second = omega (arith, second, max-le first (le-max_right before 1))
