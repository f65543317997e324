-- What was tried of a list of datagrams.
use Rattle.std.specs.Prelude.{◌≡◌, ℕ, ◌-◌, ◌^◌, ◌<◌, ◌≤◌, List, map, Option, IsSome}
use Rattle.amt_ports.specs.{Sends.{TriedSend, datagram_of, sent_count, unsent_count}, Told.{AppendsAll}}
use Rattle.amt_values.specs.declared.peer.Peer.{Peer}

-- the count rose, unless it stands at its last value
abbrev pub HasRisen : ℕ → ℕ → Type 0
HasRisen before after = after < 2 ^ 64 - 1 → before < after

-- exactly these datagrams were tried, each once and in order; so many were sent, and so many not, which
-- the device's count of faults shows; where all were sent, a device that told its sends still tells them
pub record HasTried (before after : Option (List TriedSend)) (faults_before faults_after : ℕ) (wanted : List (Peer × List ℕ)) (sent unsent : ℕ) : Type 0 where
  pub sends : List TriedSend
  pub exactly : map datagram_of sends ≡ wanted
  pub appended : AppendsAll before after sends
  pub sent_is : sent ≡ sent_count sends
  pub unsent_is : unsent ≡ unsent_count sends
  pub later : faults_before ≤ faults_after
  pub cause : 0 < unsent → HasRisen faults_before faults_after
  pub quiet : unsent ≡ 0 → faults_after ≡ faults_before
  pub tells : unsent ≡ 0 → IsSome before → IsSome after
