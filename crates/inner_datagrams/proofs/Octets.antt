-- Octets, one by one.
use Rattle.std.proofs.Common.{ℕ, zero, suc, ◌<◌, List, [], ◌∷◌, arith}
use Rattle.amt_values.specs.Octets.{AreOctets}

-- each item is an octet, as facts side by side
abbrev pub EachIsOctet : List ℕ → Type 0
EachIsOctet [] = Unit {0}
EachIsOctet (octet ∷ rest) = (octet < 256) × EachIsOctet rest

pub AreOctets-from_each : (bytes : List ℕ) → EachIsOctet bytes → AreOctets bytes
AreOctets-from_each [] each k = omega arith
AreOctets-from_each (octet ∷ rest) each zero = each.0
AreOctets-from_each (octet ∷ rest) each (suc k) = AreOctets-from_each rest each.1 k
