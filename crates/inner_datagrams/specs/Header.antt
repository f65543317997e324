-- The fields of an IPv4 header (RFC 791, section 3.1).
use Rattle.std.specs.Prelude.{ℕ, ◌*◌, ◌%◌, ◌^◌, List, ◌∷◌, ◌++◌, take, drop, slice_index}
use Rattle.byteorder.specs.Endian.{big_number}

-- the header's words of 32 bits, options included
abbrev pub header_words : List ℕ → ℕ
header_words bytes = slice_index bytes 0 % 16

-- its octets, 4 a word
abbrev pub header_octets : List ℕ → ℕ
header_octets bytes = 4 * header_words bytes

-- the octets of the header itself, options included
abbrev pub header_of : List ℕ → List ℕ
header_of bytes = take (header_octets bytes) bytes

-- the flag "more fragments" and the offset of a fragment: both zero where the datagram is whole
abbrev pub fragment_bits : List ℕ → ℕ
fragment_bits bytes = big_number 2 (drop 6 bytes) % 2 ^ 14

-- the protocol that the payload speaks
abbrev pub protocol_number : List ℕ → ℕ
protocol_number bytes = slice_index bytes 9

-- the checksum that the header states
abbrev pub header_sum : List ℕ → ℕ
header_sum bytes = big_number 2 (drop 10 bytes)

-- the header as its checksum is taken: with a zero in the checksum's place
abbrev pub with_zero_sum : List ℕ → List ℕ
with_zero_sum header = take 10 header ++ 0 ∷ 0 ∷ drop 12 header

-- the source's address as a number
abbrev pub source_number : List ℕ → ℕ
source_number bytes = big_number 4 (drop 12 bytes)

-- the destination's address as a number
abbrev pub destination_number : List ℕ → ℕ
destination_number bytes = big_number 4 (drop 16 bytes)
