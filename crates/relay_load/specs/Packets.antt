-- The native packets of a load.
use Rattle.std.specs.Prelude.{ℕ, ◌+◌, List, [], ◌∷◌, ◌++◌}
use Rattle.byteorder.specs.Endian.{big_bytes}
use Rattle.inner_datagrams.specs.Checksum.{internet_sum_of}
use Rattle.relay_machine.specs.declared.event.Event.{Event, TheVariants.{Packet}}
use Rattle.relay_load.specs.Updates.{group_base, load_source}

-- an IPv4 header with this checksum and nothing after it: 20 octets, time to live 4, protocol 17, which is
-- UDP, from 198.51.100.1 to a group (RFC 791, section 3.1)
abbrev pub packet_with_sum : ℕ → ℕ → List ℕ
packet_with_sum header_sum group =
    0x45 ∷ 0 ∷ big_bytes 2 20
    ++ 0 ∷ 0 ∷ 0 ∷ 0 ∷ []
    ++ 4 ∷ 17 ∷ big_bytes 2 header_sum
    ++ big_bytes 4 load_source
    ++ big_bytes 4 group

-- the packet with its own checksum, which is taken with a zero in its place
unfoldable pub packet_to : ℕ → List ℕ
packet_to group = packet_with_sum (internet_sum_of (packet_with_sum 0 group)) group

-- the packet with this place, from 1 on: each goes to a group of its own
abbrev pub packet_at : ℕ → Event
packet_at place = Packet (packet_to (group_base + place))
