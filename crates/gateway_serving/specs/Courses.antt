-- The events of a run so far.
use Rattle.std.specs.Prelude.{List, [], ◌∷◌, ◌++◌}
use Rattle.gateway_machine.specs.declared.event.GatewayEvent.{GatewayEvent}
use Rattle.gateway_serving.specs.declared.course.Course.{Course, Start, Then'}

abbrev pub events_so_far : Course → List GatewayEvent
events_so_far Start = []
events_so_far (Then' _ earlier event) = events_so_far earlier ++ event.value ∷ []
