-- What a gateway sent, with where it stood then, and the report that it carries.
use Rattle.std.specs.Prelude.{ℕ, Bool, List, [], ◌∷◌, ◌++◌, reverse, map, Option, Some, None, Result, Ok, Err}
use Rattle.amt_messages.specs.declared.message.Message.{Message, TheVariants.{Update}}
use Rattle.source_filter.specs.declared.record.Record.{Record}
use Rattle.socket_merge.specs.History.{AcceptedCall}
use Rattle.gateway_machine.specs.{declared.{event.GatewayEvent.{GatewayEvent}, exchange.Exchange.{Exchange}, settings.GatewaySettings.{GatewaySettings}}, Answers.{history_after}, Runs.{Run, answer_in, run_of}, Sends.{Sending}, Timing.{farewell_ms}}
use Rattle.relay_machine.specs.{declared.outcome.Unlawful.{Unlawful}, Updates.{report_in}}

-- a message that a gateway sent, and the exchange and the socket calls, newest first, after the event that
-- it answered
pub record Sent : Type 0 where
  pub sending : Sending
  pub exchange : Exchange
  pub history : List AcceptedCall

-- what a gateway sends on an event in its run
abbrev pub sent_on : GatewaySettings → Run → GatewayEvent → List Sent
sent_on settings run event =
    map (λ sending. record { sending = sending; exchange = (answer_in settings run event).next; history = history_after run.exchange run.history event })
    (answer_in settings run event).sends

-- the same by the events before, of which the newest comes first
unfoldable pub sent_back : GatewaySettings → ℕ → List GatewayEvent → List Sent
sent_back settings first [] = []
sent_back settings first (event ∷ earlier) =
    sent_back settings first earlier ++ sent_on settings (run_of settings first (reverse earlier)) event

-- all that a gateway sent on these events, in order
abbrev pub sent_in : GatewaySettings → ℕ → List GatewayEvent → List Sent
sent_in settings first events = sent_back settings first (reverse events)

-- a membership report as it was sent: its records, whether it is a full report, when it was sent, for how
-- long farewells were repeated then, and the socket calls before it, newest first
pub record SentReport : Type 0 where
  pub records : List Record
  pub full_report : Bool
  pub moment : ℕ
  pub keep_ms : ℕ
  pub history : List AcceptedCall

-- the report of these records, if it is lawful
abbrev pub report_by : Result (List Record) Unlawful → Sent → Option SentReport
report_by (Err fault) sent = None
report_by (Ok records) sent = Some (record {
  records = records;
  full_report = sent.sending.full_report;
  moment = sent.exchange.moment;
  keep_ms = farewell_ms sent.exchange.query;
  history = sent.history;
})

-- the report in a message, if it is an Update with one
abbrev pub report_with : Message → Sent → Option SentReport
report_with (Update mac nonce inner) sent = report_by (report_in inner) sent
report_with message sent = None

-- the report that a message carried, if it was an Update with one
abbrev pub report_of : Sent → Option SentReport
report_of sent = report_with sent.sending.message sent
