-- A tunnel as its relay could see it: a gateway, cut down to what decides whether both ends agree.
use Rattle.std.{proofs.Common.{◌≡◌, ◌≢◌, ℕ, ◌+◌, min, Bool, true, false, List, [], ◌∷◌, reverse}, specs.List.{filter_map}}
use Rattle.amt_values.specs.declared.address.Ip.{Ip}
use Rattle.source_filter.specs.declared.record.Record.{Record}
use Rattle.endpoint_membership.specs.Log.{on_group}
use Rattle.socket_merge.specs.{FullReport.{full_on, longest_farewell}, History.{AcceptedCall, SocketCall, with_call}, Interface.{interface}}
use Rattle.gateway_machine.specs.{Runs.{Run}, Timing.{last_lifetime}, declared.{event.GatewayEvent.{GatewayEvent}, exchange.{Exchange.{Exchange}, GatewayState.{GatewayState, TheVariants.{Active}}}, settings.GatewaySettings.{GatewaySettings}}}
use Rattle.amt_pair.specs.Sent.{SentReport, report_of, sent_on}

-- the moment; whether the gateway is Active; the lifetime by the last query; the socket calls, and the reports
-- that were sent, each newest first
pub record Tunnel : Type 0 where
  pub moment : ℕ
  pub is_active : Bool
  pub lifetime : ℕ
  pub history : List AcceptedCall
  pub sent : List SentReport

-- for how long farewells are repeated
abbrev pub keep_of : ℕ → ℕ
keep_of lifetime = min (lifetime + 60000) longest_farewell

-- the report of these records, as the tunnel stands
abbrev pub report_now : Tunnel → Bool → List Record → SentReport
report_now tunnel is_full records =
    record { records = records; full_report = is_full; moment = tunnel.moment; keep_ms = keep_of tunnel.lifetime; history = tunnel.history }

-- the tunnel after these records are sent; none are not sent
abbrev pub send : Tunnel → Bool → List Record → Tunnel
send tunnel is_full [] = tunnel
send tunnel is_full (first ∷ more) = record tunnel { sent = report_now tunnel is_full (first ∷ more) ∷ tunnel.sent }

-- after a socket call
abbrev pub called : Tunnel → SocketCall → Tunnel
called tunnel call = record tunnel { history = with_call tunnel.moment call tunnel.history }

-- the records are those of a full report
abbrev pub IsFull : List AcceptedCall → ℕ → ℕ → List Record → Type 0
IsFull history at keep records = (group : Ip) → on_group group records ≡ full_on history at keep group

-- some group's filter is another one after the call
abbrev pub IsChanged : List AcceptedCall → List AcceptedCall → Type 0
IsChanged before later = (group : Ip) × (interface before group ≢ interface later group)

abbrev pub is_active : GatewayState → Bool
is_active Active = true
is_active state = false

-- the tunnel of an exchange and the socket calls, with what was sent
abbrev pub see : Exchange → List AcceptedCall → List SentReport → Tunnel
see exchange history reports = record {
  moment = exchange.moment;
  is_active = is_active exchange.state;
  lifetime = last_lifetime exchange.query;
  history = history;
  sent = reports;
}

-- the reports that were sent with an event, newest first
abbrev pub reports_on : GatewaySettings → Run → GatewayEvent → List SentReport
reports_on settings run event = reverse (filter_map report_of (sent_on settings run event))
