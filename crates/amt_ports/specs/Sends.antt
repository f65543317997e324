-- What was sent, and what was tried.
use Rattle.std.specs.{Prelude.{ℕ, Bool, not, List, Result, is_ok}, List.{count_by}}
use Rattle.amt_values.specs.declared.peer.Peer.{Peer}
use Rattle.amt_ports.specs.declared.fault.Failed.{Failed}

-- a datagram and its peer, and whether the device took it
pub record TriedSend : Type 0 where
  pub to : Peer
  pub bytes : List ℕ
  pub sent : Bool

abbrev pub tried_send : Peer → List ℕ → Result (Unit {0}) Failed → TriedSend
tried_send to bytes result = record { to = to; bytes = bytes; sent = is_ok result }

-- what was to be sent
abbrev pub datagram_of : TriedSend → Peer × List ℕ
datagram_of send = (send.to, send.bytes)

-- how many of them the device took, and how many it didn't
abbrev pub sent_count : List TriedSend → ℕ
sent_count sends = count_by (λ send. send.sent) sends

abbrev pub unsent_count : List TriedSend → ℕ
unsent_count sends = count_by (λ send. not send.sent) sends
