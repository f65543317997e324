-- What happens to a running relay, in order: it takes events, and publishes what it owes.
use Rattle.std.specs.{Prelude.{List, [], ◌∷◌, ◌++◌, Option, None, Some}, List.{filter_map}}
use Rattle.relay_machine.specs.declared.event.Event.{Event}

-- an event was taken, or all that was owed is published
pub data Happening : Type 0 where
  Took : Event → Happening
  Published : Happening

abbrev pub event_taken : Happening → Option Event
event_taken (Took event) = Some event
event_taken Published = None

abbrev pub events_among : List Happening → List Event
events_among happenings = filter_map event_taken happenings

-- the events before the last publishing, if so far these were published, and those taken
abbrev pub published_after : List Event → List Event → List Happening → List Event
published_after published earlier [] = published
published_after published earlier (Took event ∷ later) = published_after published (earlier ++ event ∷ []) later
published_after published earlier (Published ∷ later) = published_after earlier earlier later

-- the events before the last publishing, and none where there was no publishing
abbrev pub published_events_among : List Happening → List Event
published_events_among happenings = published_after [] [] happenings
