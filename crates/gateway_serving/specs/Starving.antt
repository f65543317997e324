-- Which moments of a turn memory may refuse.
use Rattle.std.specs.Prelude.{◌≡◌, ℕ, max, true, List, [], ◌∷◌, ◌++◌, All}
use Rattle.gateway_machine.specs.{Outcomes.{IsAtRest}, Runs.{answer_after}, declared.{event.GatewayEvent.{GatewayEvent, TheVariants.{Moment}}, settings.GatewaySettings.{GatewaySettings}}}
use Rattle.amt_ports.specs.Answers.{Taken}
use Rattle.gateway_serving.specs.{Events.{events_of_turn, nonces_in}, Turns.{Turn, moment_of_turn}}

-- after these events the machine sends something at this moment, if the clock's answer is that late
abbrev pub SendsAt : GatewaySettings → ℕ → List GatewayEvent → ℕ → Taken ℕ → Type 0
SendsAt settings first events latest one =
    one.starved ≡ true → ¬ IsAtRest (answer_after settings first events (Moment (max latest one.answer))).outcome

-- Of the moments of turns after these events, if this one was the latest before them, memory refused none but those
-- at which the machine sends something.
abbrev pub StarveWhereItSends : GatewaySettings → ℕ → List GatewayEvent → ℕ → List Turn → Type 0
StarveWhereItSends settings first events latest [] = Unit {0}
StarveWhereItSends settings first events latest (turn ∷ later) =
    All (SendsAt settings first (events ++ nonces_in turn.drawn) latest) turn.clock
    × StarveWhereItSends settings first (events ++ events_of_turn latest turn) (moment_of_turn latest turn) later
