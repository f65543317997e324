-- What an out link in memory is seen as.
use Rattle.std.specs.Prelude.{◌≡◌, List, map, Option, Some, None, if◌then◌else◌, Bool}
use Rattle.amt_ports.specs.{Sends.{TriedSend}, Tally.{Tally}, declared.tried.Tried.{Tried}}

abbrev pub tried_of : Tried → TriedSend
tried_of tried = record { to = tried.to; bytes = tried.bytes; sent = tried.sent }

-- the sends that were tried, if none is missing
abbrev pub told_sends : Bool → List Tried → Option (List TriedSend)
told_sends is_whole sends = if is_whole then Some (map tried_of sends) else None

-- where the sends are told, these are all of them
abbrev pub Shows : Option (List TriedSend) → List Tried → Type 0
Shows None sends = Unit {0}
Shows (Some told) sends = map tried_of sends ≡ told

-- the sends that were tried, if none is missing, and the calls so far
pub record TriedSends : Type 0 where
  pub tried : Option (List TriedSend)
  pub tally : Tally
