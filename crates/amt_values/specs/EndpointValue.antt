-- What contracts see of a tunnel endpoint.
use Rattle.std.specs.Prelude.{ℕ}

-- the address as 16 octets carry it, and the port
pub record EndpointValue : Type 0 where
  pub address : ℕ
  pub port : ℕ
