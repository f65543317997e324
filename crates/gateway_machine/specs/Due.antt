-- When something is due.
use Rattle.std.specs.Prelude.{◌≡◌, ℕ, ◌<◌, ◌^◌, ◌↔◌, max, List, Option, Some, None}
use Rattle.gateway_machine.specs.{declared.{event.GatewayEvent.{GatewayEvent, TheVariants.{Moment}}, outcome.GatewayOutcome.TheVariants.{Quiet}, settings.GatewaySettings.{GatewaySettings}}, Runs.{answer_after, run_of}}

-- a moment is before another one, if there is one
abbrev pub IsBefore : ℕ → Option ℕ → Type 0
IsBefore at None = Unit {0}
IsBefore at (Some due) = at < due

-- this is the earliest moment at which something is due after these events, if there is one: a moment that is told
-- finds nothing due exactly where both it and the gateway's own are before this one
abbrev pub IsDueAt : GatewaySettings → ℕ → List GatewayEvent → Option ℕ → Type 0
IsDueAt settings first events due =
    (at : ℕ) → at < 2 ^ 62
    → ((answer_after settings first events (Moment at)).outcome ≡ Quiet
    ↔ IsBefore (max (run_of settings first events).exchange.moment at) due)
