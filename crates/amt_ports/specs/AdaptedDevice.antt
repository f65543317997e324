-- What an adapter is seen as.
use Rattle.std.specs.Prelude.{ℕ}

-- a device of std, and how often it has failed
pub record AdaptedDevice (D : Type 0) : Type 0 where
  pub device : D
  pub faults : ℕ
