-- Lists of octets.
use Rattle.std.specs.Prelude.{ℕ, ◌<◌, List, slice_index}

-- each item is an octet
abbrev pub AreOctets : List ℕ → Type 0
AreOctets xs = (k : ℕ) → slice_index xs k < 256
