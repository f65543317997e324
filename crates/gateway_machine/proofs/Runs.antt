-- Runs with one more event.
use Rattle.std.proofs.{Common.{◌≡◌, ℕ, List, [], ◌∷◌, ◌++◌, refl}, lemmas.List.Sums.{fold-append}}
use Rattle.gateway_machine.specs.{declared.{event.GatewayEvent.{GatewayEvent}, settings.GatewaySettings.{GatewaySettings}}, Exchange.{start}, Runs.{run_of, with_event}}

pub run_of-nil : (settings : GatewaySettings) (first : ℕ) → run_of settings first [] ≡ record { exchange = start settings first; history = []; sent = [] }
unfolding run_of
run_of-nil settings first = refl

pub run_of-append : (settings : GatewaySettings) (first : ℕ) (events : List GatewayEvent) (event : GatewayEvent)
    → run_of settings first (events ++ event ∷ []) ≡ with_event settings (run_of settings first events) event
unfolding run_of
run_of-append settings first events event =
    fold-append (with_event settings) (record { exchange = start settings first; history = []; sent = [] }) events (event ∷ [])
