-- What was read is the only capture, and its packets are as short as IP's are.
use Rattle.std.proofs.{Common.{ℕ, ◌+◌, ◌==◌, Bool, true, false, List, All, length, ap, Option, Some, None, Result, Ok, Err, if◌then◌else◌, is_none, nat_lt, arith}, lemmas.{Grind.{common_steps}, List.{length-take-le, Elements.{All-nil, All-push}}}}
use Rattle.amt_messages.specs.StatedLength.{inner_length_of}
use Rattle.inner_datagrams.specs.Head.{first_head_fault}
use Rattle.amt_pcap.specs.{declared.{capture.{Item.{Item}, Skip.{Skip, TheVariants.{Cut, Ip}}}, format.Format.{Format}}, Capture.{AreRecords, captured_at, item_at, link_type, number_at, packet_at_head, packet_in_frame, packet_of, payload_of, sized_packet}, Texts.{IsShortPacket}}
use Rattle.amt_pcap.proofs.Unique.{IsCapture-unique}
use Rattle.amt_pcap.proofs.reading.read_capture.Goals as goal

either : (test : Bool) (one other : Result (List ℕ) Skip) → IsShortPacket one → IsShortPacket other → IsShortPacket (if test then one else other)
either true one other first second = first
either false one other first second = second

short_sized : (octets : List ℕ) (size : Option ℕ) → IsShortPacket (sized_packet octets size)
short_sized octets None = tt
short_sized octets (Some size) = grind (arith, common_steps, length-take-le)

short_at_head : (octets : List ℕ) → IsShortPacket (packet_at_head octets)
short_at_head octets =
    either (is_none (first_head_fault octets)) (sized_packet octets (inner_length_of octets)) (Err Ip) (short_sized octets (inner_length_of octets)) tt

short_in_frame : (payload : Option (List ℕ)) → IsShortPacket (packet_in_frame payload)
short_in_frame None = tt
short_in_frame (Some octets) = short_at_head octets

short_packet : (link original : ℕ) (captured : List ℕ) → IsShortPacket (packet_of link original captured)
short_packet link original captured =
    let carried = either (link == 1) (packet_in_frame (payload_of captured)) (packet_at_head captured) (short_in_frame (payload_of captured)) (short_at_head captured) in
    either (nat_lt (length captured) original) (Err Cut) (if link == 1 then packet_in_frame (payload_of captured) else packet_at_head captured) tt carried

short_packets : (format : Format) (bytes : List ℕ) (items : List Item) (end : ℕ) → AreRecords format bytes items end
    → All (λ (item : Item). IsShortPacket item.packet) items
short_packets format bytes items end AreRecords.none = All-nil _
short_packets format bytes items end (AreRecords.more before at records _) =
    All-push (λ (item : Item). IsShortPacket item.packet) before (item_at format bytes at) (short_packets format bytes before at records)
    (short_packet (link_type format.order bytes) (number_at format.order 4 bytes (at + 12)) (captured_at format bytes at))

pub returns-in-Ok-read_records-clause-only : goal.returns-in-Ok-read_records-clause-only
returns-in-Ok-read_records-clause-only c = λ capture is _.
    ap Ok (IsCapture-unique c.args.bytes.now c.in-Ok-read_records.capture capture c.in-Ok-read_records.ensures is)

pub returns-in-Ok-read_records-clause-short : goal.returns-in-Ok-read_records-clause-short
returns-in-Ok-read_records-clause-short c =
    let is = c.in-Ok-read_records.ensures in
    short_packets is.format c.args.bytes.now c.in-Ok-read_records.capture.items is.end is.records
