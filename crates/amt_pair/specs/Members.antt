-- What the gateways of a pair stand for, and the datagrams that are kept.
use Rattle.std.specs.{Prelude.{◌≡◌, ◌≤◌, ℕ, List, ◌++◌, drop, length, map, take, All}, List.{AllZip, flat_map}}
use Rattle.amt_values.specs.declared.peer.Peer.{Peer}
use Rattle.gateway_machine.specs.{Runs.{GatewayAt, settings_of}, Sends.{datagram_of}, declared.{event.GatewayEvent.TheVariants.{Moment as Passes}, step.PeerSend.{PeerSend}}}
use Rattle.relay_machine.specs.declared.sends.OneSend.{OneSend}
use Rattle.amt_pair.specs.{Parts.{gateway_parts}, Schedule.{Member, Upward, upwards_on, with_gateway_event}, Setup.{Host}, declared.{datagrams.UpDatagram.{UpDatagram}, gateways.NamedGateway.{NamedGateway}, step.Part.{Part}}}

-- the name, the peer and the settings of a gateway
abbrev pub host_of : NamedGateway → Host
host_of named = record { name = named.name; peer = named.peer; settings = settings_of named.gateway }

-- the gateway is where its events leave one of its settings
pub record IsMemberAt (named : NamedGateway) (member : Member) : Type 0 where
  pub name : named.name ≡ member.host.name
  pub peer : named.peer ≡ member.host.peer
  pub gateway : GatewayAt named.gateway member.host.settings member.first member.events

-- the same of each, in order
abbrev pub AreMembersAt : List NamedGateway → List Member → Type 0
AreMembersAt gateways members = AllZip IsMemberAt gateways members

-- a datagram to the relay as it is kept: who sent it, and its octets
abbrev pub kept_datagram : Peer → PeerSend → UpDatagram
kept_datagram from send = record { from = from; bytes = send.bytes }

abbrev pub kept_upward : Upward → UpDatagram
kept_upward upward = kept_datagram upward.from (datagram_of upward.sent.sending)

-- each datagram to the relay fits what UDP carries
abbrev pub AreShort : List UpDatagram → Type 0
AreShort datagrams = All (λ datagram. length datagram.bytes ≤ 65535) datagrams

-- each datagram of the relay fits what UDP carries
abbrev pub AreShortSends : List OneSend → Type 0
AreShortSends sends = All (λ send. length send.bytes ≤ 65535) sends

-- a moment has come to these gateways, and not to the rest: where they are, what they sent, and their parts
pub record HasCome (at : ℕ) (reached rest : List Member) (gateways : List NamedGateway) (up_before up_after : List UpDatagram) (parts_before parts_after : List Part) : Type 0 where
  pub gateways_are : AreMembersAt gateways (map (with_gateway_event (Passes at)) reached ++ rest)
  pub sent : up_after ≡ up_before ++ map kept_upward (flat_map (upwards_on (Passes at)) reached)
  pub parts : parts_after ≡ parts_before ++ gateway_parts (Passes at) reached

-- it has come to so many of these
abbrev pub HasComeTo : ℕ → ℕ → List Member → List NamedGateway → List UpDatagram → List UpDatagram → List Part → List Part → Type 0
HasComeTo at count members = HasCome at (take count members) (drop count members)
