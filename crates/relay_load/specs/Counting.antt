-- What is counted while a run goes on.
use Rattle.std.specs.Prelude.{◌≡◌, ◌+◌, ◌*◌, ◌≤◌, ◌^◌, List, length, sum_by, count_by, if◌then◌else◌}
use Rattle.response_mac.specs.declared.secret.Secret.{Secret}
use Rattle.relay_machine.specs.{declared.{event.Event.{Event}, outcome.Outcome.{Outcome}, relay.Relay.{Relay}, settings.Settings.{Settings}}, Answers.{RelayAt}, Courses.{is_updated, outcomes_of}}
use Rattle.amt_script.specs.{declared.script.RelayItem.{RelayItem}, Texts.{events_in}}
use Rattle.relay_load.specs.{declared.run.Counts.{Counts}, Counts.{copies_in}}

-- the counts after one outcome more
abbrev pub with_outcome : Counts → Outcome → Counts
with_outcome counts outcome = record {
  events = counts.events + 1;
  updated = counts.updated + (if is_updated outcome then 1 else 0);
  copied = counts.copied + copies_in outcome;
}

-- those of these events
abbrev pub counts_of : Settings → Secret → List Event → Counts
counts_of settings first events = record {
  events = length events;
  updated = count_by is_updated (outcomes_of settings first events);
  copied = sum_by copies_in (outcomes_of settings first events);
}

-- no more Updates than events, and at most so many copies of each: a count of them has 32 bits
pub record AreSmall (counts : Counts) : Type 0 where
  pub updated : counts.updated ≤ counts.events
  pub copied : counts.copied ≤ counts.events * 2 ^ 32

-- these items led to the relay, and their events were counted
pub record IsCounted (relay : Relay) (counts : Counts) (settings : Settings) (first : Secret) (items : List RelayItem) : Type 0 where
  pub at : RelayAt relay settings first (events_in items)
  pub counts_are : counts ≡ counts_of settings first (events_in items)
