-- The runs of a gateway: where a list of events leaves one, and what it sent on the way.
use Rattle.std.specs.{Prelude.{◌≡◌, ℕ, List, [], ◌++◌}, List.{fold}}
use Rattle.socket_merge.specs.{History.{AcceptedCall}, Sockets.{SocketsHold}}
use Rattle.gateway_machine.specs.{declared.{event.GatewayEvent.{GatewayEvent}, exchange.Exchange.{Exchange}, gateway.Gateway.{Gateway}, settings.GatewaySettings.{GatewaySettings}}, Answers.{Answer, event_answer, history_after}, Exchange.{start}, Sends.{Sending}}

-- the exchange, the accepted socket calls, newest first, and all that was sent, in order
pub record Run : Type 0 where
  pub exchange : Exchange
  pub history : List AcceptedCall
  pub sent : List Sending

-- what an event comes to
abbrev pub answer_in : GatewaySettings → Run → GatewayEvent → Answer
answer_in settings run event = event_answer settings run.exchange run.history event

-- the run with one more event
abbrev pub with_event : GatewaySettings → Run → GatewayEvent → Run
with_event settings run event = record {
  exchange = (answer_in settings run event).next;
  history = history_after run.exchange run.history event;
  sent = run.sent ++ (answer_in settings run event).sends;
}

-- the run of these events, with the first nonce
unfoldable pub run_of : GatewaySettings → ℕ → List GatewayEvent → Run
run_of settings first events =
    fold (with_event settings) (record { exchange = start settings first; history = []; sent = [] }) events

-- what an event comes to after these events
abbrev pub answer_after : GatewaySettings → ℕ → List GatewayEvent → GatewayEvent → Answer
answer_after settings first events event = answer_in settings (run_of settings first events) event

-- what the gateway was set up with
abbrev pub settings_of : Gateway → GatewaySettings
settings_of gateway = gateway.settings

-- the gateway is where these events leave one of these settings that began with this nonce: its sockets
-- stand for the accepted calls
pub record GatewayAt (gateway : Gateway) (settings : GatewaySettings) (first : ℕ) (events : List GatewayEvent) : Type 0 where
  pub settings_kept : settings_of gateway ≡ settings
  pub exchange : gateway.exchange ≡ (run_of settings first events).exchange
  pub sockets : SocketsHold gateway.sockets (run_of settings first events).history

-- a fact of settings, first nonce and events holds of all those after which the gateway may be
abbrev pub After : Gateway → (GatewaySettings → ℕ → List GatewayEvent → Type 0) → Type 0
After gateway Fact = (settings : GatewaySettings) (first : ℕ) (events : List GatewayEvent) → GatewayAt gateway settings first events → Fact settings first events
