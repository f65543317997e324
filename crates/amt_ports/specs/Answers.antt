-- One answer of a device.
use Rattle.std.specs.Prelude.{◌≤◌, Bool, true, false, Option, None, length}
use Rattle.amt_ports.specs.declared.{feed.FeedAnswer.{FeedAnswer, TheVariants.{Packet, Nothing as NothingFed, Closed as FeedClosed}}, link.LinkAnswer.{LinkAnswer, TheVariants.{Datagram, Nothing as NothingCame, Closed as LinkClosed}}}

-- a device's answer, and whether memory refused the event that it makes
pub record Taken (X : Type 0) : Type 0 where
  pub answer : X
  pub starved : Bool

abbrev pub taken : {X : Type 0} → X → Taken X
taken answer = record { answer = answer; starved = false }

abbrev pub refused : {X : Type 0} → X → Taken X
refused answer = record { answer = answer; starved = true }

-- an event that memory refused isn't one of the run
abbrev pub unless_starved : {X : Type 0} → Bool → Option X → Option X
unless_starved true made = None
unless_starved false made = made

-- something came: a link and a feed hand on at most 65,535 octets at a time
abbrev pub IsDatagram : LinkAnswer → Type 0
IsDatagram (Datagram from bytes) = length bytes ≤ 65535
IsDatagram NothingCame = ⊥
IsDatagram LinkClosed = ⊥

abbrev pub IsPacket : FeedAnswer → Type 0
IsPacket (Packet bytes) = length bytes ≤ 65535
IsPacket NothingFed = ⊥
IsPacket FeedClosed = ⊥
