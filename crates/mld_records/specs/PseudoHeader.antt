-- What the checksum of an ICMPv6 message covers besides the message (RFC 8200, section 8.1).
use Rattle.std.specs.Prelude.{ℕ, List, [], ◌∷◌, ◌++◌}
use Rattle.byteorder.specs.Endian.{big_bytes}

-- source, destination, the message's length, three zero octets, and the number of ICMPv6
unfoldable pub pseudo_header : ℕ → ℕ → ℕ → List ℕ
pseudo_header source destination message_length =
    big_bytes 16 source ++ big_bytes 16 destination ++ big_bytes 4 message_length ++ 0 ∷ 0 ∷ 0 ∷ 58 ∷ []
