-- How a socket is used for one datagram.
use Rattle.std.specs.Prelude.{◌≡◌, ℕ, Bool, true, false, List, [], ◌∷◌, Option, Result, Ok, Err}
use Rattle.amt_values.specs.declared.peer.Peer.{Peer}
use Rattle.amt_ports.specs.{Told.{AppendsAll}, declared.adapters.udp.outlet.Attempt.{Attempt, TheVariants.{Failed, Full, Taken}}}

-- what is done with a socket: a datagram is tried, which comes to this, or room is waited for
pub data Use : Type 0 where
  tried : Peer → List ℕ → Attempt → Use
  waited : Use

-- what a try to send came to: the system took the datagram, or had no room for it, or failed
abbrev pub try_of : {E : Type 0} → Result Bool E → Attempt
try_of (Ok true) = Taken
try_of (Ok false) = Full
try_of (Err error) = Failed

-- A datagram is tried once. Where there was no room, and it may wait, room is waited for once and it is tried once more;
-- then the next one may not wait.
pub data IsCourse (to : Peer) (bytes : List ℕ) (may last : Bool) (answer : Attempt) : List Use → Type 0 where
  once : (answer ≡ Full → may ≡ false) → last ≡ may → IsCourse to bytes may last answer (tried to bytes answer ∷ [])
  twice : may ≡ true → last ≡ false → IsCourse to bytes may last answer (tried to bytes Full ∷ waited ∷ tried to bytes answer ∷ [])

-- the socket was used so for the datagram, and the last try is the answer
abbrev pub SendsSo : {E : Type 0} → Option (List Use) → Option (List Use) → Peer → List ℕ → Bool → Bool → Result Bool E → Type 0
SendsSo before after to bytes may last result =
    (course : List Use) × IsCourse to bytes may last (try_of result) course × AppendsAll before after course

-- the same, whatever the next one may do
abbrev pub TriesSo : {E : Type 0} → Option (List Use) → Option (List Use) → Peer → List ℕ → Bool → Result Bool E → Type 0
TriesSo before after to bytes may result = (last : Bool) × SendsSo before after to bytes may last result
