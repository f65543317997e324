-- The relay script of a capture, and the lines of the tunnel's datagrams in it.
use Rattle.std.specs.Prelude.{ℕ, ◌+◌, ◌==◌, ◌&&◌, ◌||◌, ◌≤◌, Bool, false, List, [], ◌∷◌, ◌++◌, All, length, replicate, codes, decimal, flat_map, Option, Some, None, Result, Ok, Err, if◌then◌else◌, IfSome}
use Rattle.std.specs.Ordering.{eq_by_cmp}
use Rattle.amt_values.specs.{declared.{address.Ip.{Ip}, peer.{Peer.{Peer}, TheConstants.{AMT_PORT}}}, Group.{is_forwardable}, Octets.{AreOctets}, Order.{ip_order}, Text.{ip_text}}
use Rattle.inner_datagrams.specs.{Head.{head_of}, declared.head.{Head.{Head}, HeadFault.{HeadFault}}}
use Rattle.relay_machine.specs.{declared.event.Event.{Event}, EventSize.{IsPayload}, Settings.{default_settings}}
use Rattle.relay_machine.specs.declared.event.Event.TheVariants as events
use Rattle.script_lines.specs.Texts.{hex_text}
use Rattle.amt_script.specs.{declared.script.{RelayItem.{RelayItem}, RelayScript.{RelayScript}}, Printed.{IsLineOf}, Texts.{event_text}}
use Rattle.amt_script.specs.declared.script.RelayItem.TheVariants as items
use Rattle.amt_pcap.specs.{declared.{capture.{Capture.{Capture}, Item.{Item}, Skip.{Skip, TheVariants.{Cut, Frame, Ip as NoIp}}}, udp.Ends.{Ends}}, Udp.{Datagram, datagram_of}}

-- the datagram was sent to the relay, at AMT's port
abbrev pub is_to : Ip → Ends → Bool
is_to relay ends = eq_by_cmp ip_order ends.destination.ip relay && (ends.destination.port == AMT_PORT)

-- one of its ends has AMT's port
abbrev pub is_of_tunnel : Ends → Bool
is_of_tunnel ends = (ends.source.port == AMT_PORT) || (ends.destination.port == AMT_PORT)

-- octets are a datagram from a peer, or a packet that is from none
abbrev pub event_from : Option Peer → List ℕ → Event
event_from None bytes = events.Packet bytes
event_from (Some from) bytes = events.Datagram bytes from

-- a packet to a group that is forwarded is one that a relay would copy
abbrev pub is_to_group : Result Head HeadFault → Bool
is_to_group (Err fault) = false
is_to_group (Ok head) = is_forwardable head.group

abbrev pub event_of_packet : List ℕ → Option Event
event_of_packet packet = if is_to_group (head_of packet) then Some (event_from None packet) else None

-- a datagram to the relay is one that it gets; else it may be a packet to copy
abbrev pub event_of : Ip → List ℕ → Option Datagram → Option Event
event_of relay packet None = event_of_packet packet
event_of relay packet (Some datagram) =
    if is_to relay datagram.ends then Some (event_from (Some datagram.ends.source) datagram.payload) else event_of_packet packet

-- what a captured item is to the relay, if anything
abbrev pub event_in : Ip → Result (List ℕ) Skip → Option Event
event_in relay (Err skip) = None
event_in relay (Ok packet) = event_of relay packet (datagram_of packet)

-- why an item is none
abbrev pub reason_of : Result (List ℕ) Skip → List ℕ
reason_of (Err Cut) = codes "cut"
reason_of (Err Frame) = codes "frame"
reason_of (Err NoIp) = codes "ip"
reason_of (Ok packet) = codes "other"

-- `# TEXT`: a line that says nothing
abbrev pub comment : List ℕ → List ℕ
comment text = codes "# " ++ (text ++ (10 ∷ []))

-- `# I REASON`
abbrev pub reason_line : ℕ → Result (List ℕ) Skip → List ℕ
reason_line number packet = comment (decimal number ++ (codes " " ++ reason_of packet))

-- a line with its moment, and a line with the event; or why there is none
abbrev pub item_lines : ℕ → Item → Option Event → List ℕ
item_lines number item None = reason_line number item.packet
item_lines number item (Some event) = event_text (events.Moment item.at) ++ event_text event

-- of items that are numbered on from here
unfoldable pub lines_of_items : Ip → ℕ → List Item → List ℕ
lines_of_items relay number [] = []
lines_of_items relay number (item ∷ more) =
    item_lines number item (event_in relay item.packet) ++ lines_of_items relay (number + 1) more

-- `# tail N`, where the capture ends within a record
abbrev pub tail_line : ℕ → List ℕ
tail_line tail = if tail == 0 then [] else comment (codes "tail " ++ decimal tail)

-- `set relay ADDRESS`
abbrev pub relay_line : Ip → List ℕ
relay_line relay = codes "set relay " ++ (ip_text relay ++ (10 ∷ []))

-- it, the lines of all items, and of the tail
unfoldable pub capture_script_text : Ip → Capture → List ℕ
capture_script_text relay capture =
    relay_line relay ++ (lines_of_items relay 1 capture.items ++ tail_line capture.tail)

-- the line of an event, and that of its moment, are read back as them
pub record AreReadBack (at : ℕ) (event : Event) : Type 0 where
  pub moment : IsLineOf (events.Moment at) (event_text (events.Moment at))
  pub payload : IsPayload event
  pub line : IsLineOf event (event_text event)

abbrev pub IsReadBack : Ip → Item → Type 0
IsReadBack relay item = IfSome (event_in relay item.packet) (AreReadBack item.at)

-- the events of an item: its moment, and what it is
abbrev pub events_if : ℕ → Option Event → List RelayItem
events_if at None = []
events_if at (Some event) = items.Event (events.Moment at) ∷ items.Event event ∷ []

abbrev pub events_of_item : Ip → Item → List RelayItem
events_of_item relay item = events_if item.at (event_in relay item.packet)

-- the script of a relay at this address with all defaults, to which the capture's events happen in order
abbrev pub captured_script : Ip → Capture → RelayScript
captured_script relay capture = record {
  settings = default_settings relay;
  secret = record { 0 = replicate 32 0 };
  items = flat_map (events_of_item relay) capture.items;
}

-- the tunnel's datagram in an item, if there is one
abbrev pub tunnel_payloads_if : Option Datagram → List (List ℕ)
tunnel_payloads_if None = []
tunnel_payloads_if (Some datagram) = if is_of_tunnel datagram.ends then datagram.payload ∷ [] else []

abbrev pub tunnel_payloads_in : Result (List ℕ) Skip → List (List ℕ)
tunnel_payloads_in (Err skip) = []
tunnel_payloads_in (Ok packet) = tunnel_payloads_if (datagram_of packet)

-- those of a capture, in order
abbrev pub tunnel_payloads : Capture → List (List ℕ)
tunnel_payloads capture = flat_map (λ item. tunnel_payloads_in item.packet) capture.items

-- octets that a line of a dump can say
pub record HasDumpLine (payload : List ℕ) : Type 0 where
  pub octets : AreOctets payload
  pub short : length payload ≤ 65535

-- a line for each
abbrev pub payload_line : List ℕ → List ℕ
payload_line payload = hex_text payload ++ (10 ∷ [])

unfoldable pub capture_lines_text : Capture → List ℕ
capture_lines_text capture = flat_map payload_line (tunnel_payloads capture)

-- each packet is one that IP can carry
abbrev pub IsShortPacket : Result (List ℕ) Skip → Type 0
IsShortPacket (Err skip) = Unit {0}
IsShortPacket (Ok packet) = length packet ≤ 65535

abbrev pub HasShortPackets : Capture → Type 0
HasShortPackets capture = All (λ item. IsShortPacket item.packet) capture.items
