-- What has happened in a run so far.
use Rattle.std.specs.Prelude.{List, [], ◌∷◌, ◌++◌}
use Rattle.relay_machine.specs.declared.event.Event.{Event, TheVariants.{Packet}}
use Rattle.relay_serving.specs.{Happenings.{Happening, Took, Published, events_among, published_events_among}, declared.course.Course.{Course, Start, Then', Fed', Shown'}}

abbrev pub happenings_so_far : Course → List Happening
happenings_so_far Start = []
happenings_so_far (Then' _ earlier event) = happenings_so_far earlier ++ Took event.value ∷ []
happenings_so_far (Fed' _ earlier packet) = happenings_so_far earlier ++ Took (Packet packet.value) ∷ []
happenings_so_far (Shown' _ earlier) = happenings_so_far earlier ++ Published ∷ []

abbrev pub events_so_far : Course → List Event
events_so_far course = events_among (happenings_so_far course)

-- those before the last publishing
abbrev pub published_events_so_far : Course → List Event
published_events_so_far course = published_events_among (happenings_so_far course)
