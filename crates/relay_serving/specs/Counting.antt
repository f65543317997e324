-- What is counted of the events of a run.
use Rattle.std.specs.Prelude.{◌≡◌, ℕ, ◌+◌, ◌≤◌, Bool, true, false, List, length, count_by, if◌then◌else◌}
use Rattle.amt_values.specs.declared.peer.Peer.{Peer}
use Rattle.response_mac.specs.declared.secret.Secret.{Secret}
use Rattle.relay_machine.specs.{Courses.{is_torn, is_updated, outcomes_of}, declared.{event.Event.{Event, TheVariants.{Moment, Datagram, Packet, Rotate, Limits}}, outcome.Outcome.{Outcome}, settings.Settings.{Settings}}}
use Rattle.amt_ports.specs.{Devices.{LinkSeen}, Tried.{HasTried}}
use Rattle.relay_serving.specs.{Turns.{Turn, is_refused}, declared.counts.Counts.{Counts}}

abbrev pub is_datagram : Event → Bool
is_datagram (Datagram bytes from) = true
is_datagram (Packet bytes) = false
is_datagram (Moment moment) = false
is_datagram (Rotate secret) = false
is_datagram (Limits limits) = false

abbrev pub is_packet : Event → Bool
is_packet (Packet bytes) = true
is_packet (Datagram bytes from) = false
is_packet (Moment moment) = false
is_packet (Rotate secret) = false
is_packet (Limits limits) = false

-- how many datagrams and packets there were, and how many Updates and Teardowns were accepted
pub record AreCounted (settings : Settings) (first : Secret) (events : List Event) (datagrams packets updated torn : ℕ) : Type 0 where
  pub datagrams_are : datagrams ≡ count_by is_datagram events
  pub packets_are : packets ≡ count_by is_packet events
  pub updated_are : updated ≡ count_by is_updated (outcomes_of settings first events)
  pub torn_are : torn ≡ count_by is_torn (outcomes_of settings first events)

-- so much was counted, and at most one answer was tried a datagram
pub record IsCounted (settings : Settings) (first : Secret) (events : List Event) (counts : Counts) : Type 0 where
  pub events_are : AreCounted settings first events counts.datagrams counts.packets counts.updated counts.torn
  pub few_sends : counts.sent + counts.unsent ≤ counts.datagrams

abbrev pub no_counts : Counts
no_counts = record { datagrams = 0; packets = 0; updated = 0; torn = 0; sent = 0; unsent = 0; starved = 0; late = 0 }

abbrev pub one_if : Bool → ℕ
one_if condition = if condition then 1 else 0

-- the counts after one event more, which came to this
abbrev pub with_outcome : Counts → Event → Outcome → Counts
with_outcome counts event outcome = record counts {
  datagrams = counts.datagrams + one_if (is_datagram event);
  packets = counts.packets + one_if (is_packet event);
  updated = counts.updated + one_if (is_updated outcome);
  torn = counts.torn + one_if (is_torn outcome);
}

-- the counts after one packet more
abbrev pub with_packet : Counts → Counts
with_packet counts = record counts { packets = counts.packets + 1 }

-- the counts after this number of events more, or of answers to lines, that memory refused
abbrev pub with_starved : Counts → ℕ → Counts
with_starved counts number = record counts { starved = counts.starved + number }

-- the counts after one publishing more that memory refused
abbrev pub with_late : Counts → Counts
with_late counts = record counts { late = counts.late + 1 }

-- nothing more was counted but sends
pub record CountsAlike (before after : Counts) : Type 0 where
  pub same_datagrams : after.datagrams ≡ before.datagrams
  pub same_packets : after.packets ≡ before.packets
  pub same_updated : after.updated ≡ before.updated
  pub same_torn : after.torn ≡ before.torn
  pub same_starved : after.starved ≡ before.starved
  pub same_late : after.late ≡ before.late

-- so many more events, and so many more publishings, were refused by memory
pub record HasRefused (before after : Counts) (starved late : ℕ) : Type 0 where
  pub starved_are : after.starved ≡ before.starved + starved
  pub late_are : after.late ≡ before.late + late

-- the events of a turn that memory refused
abbrev pub starved_in : Turn → ℕ
starved_in turn =
    one_if turn.clock.starved + (count_by (λ one. one.starved) turn.heard + count_by (λ one. one.starved) turn.fed)

-- whether memory refused its publishing
abbrev pub is_late : Turn → Bool
is_late turn = is_refused turn.publishing

-- exactly these answers were tried by a link; so many more were sent, and so many more not
pub record HasAnswered (link link' : LinkSeen) (counts counts' : Counts) (wanted : List (Peer × List ℕ)) : Type 0 where
  pub more : ℕ
  pub missed : ℕ
  pub sent_are : counts'.sent ≡ counts.sent + more
  pub unsent_are : counts'.unsent ≡ counts.unsent + missed
  pub as_many : more + missed ≡ length wanted
  pub tried : HasTried link.tried link'.tried link.send_faults link'.send_faults wanted more missed
