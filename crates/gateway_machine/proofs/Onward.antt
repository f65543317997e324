-- Where one more event leaves a gateway.
use Rattle.std.proofs.{Common.{◌≡◌, ◌≤◌, ℕ, true, List, [], ◌∷◌, ◌++◌, All, Option, Some, None, refl, sym, subst, ap, ◌∙◌, arith}, Math.Logic.{∥∥₁_elim, ∥∥₁_map, ∥∥₁_prop}, Props.{props}}
use Rattle.std.specs.Prelude.{unwrap_or}
use mathlib.Core.{HLevel.{is_prop→PathP}, Sum.{⊎_set}}
use Rattle.group_records.specs.Written.{is_of_family}
use Rattle.socket_merge.specs.{History.{AcceptedCall, latest}, declared.stored.Socket.{Socket}, Sockets.{SocketsHold, SocketsValue}}
use Rattle.gateway_machine.specs.{declared.{event.GatewayEvent.{GatewayEvent}, exchange.Exchange.{Exchange}, gateway.Gateway.{Gateway}, outcome.GatewayOutcome.{GatewayOutcome}, reply.Reply.{Reply}, settings.GatewaySettings.{GatewaySettings}}, Answers.{event_answer, history_after}, Events.{IsEventOf}, Exchange.{start}, Outcomes.{IsRefused}}
use Rattle.gateway_machine.{specs.{Runs.{GatewayAt, Run, answer_after, run_of, settings_of, with_event}, Settings.{HasSourceOfFamily, family_of}, State.{AreOfSettings, HasHistory, IsAtMoment}, Taken.{IsTaken, IsTakenAs}}, proofs.{Runs.{run_of-append, run_of-nil}, Steady.{early-after, family-after, moment-later, refused-same}}}

-- a new gateway
pub GatewayAt-new : (gateway : Gateway) (settings : GatewaySettings) (first : ℕ) → settings_of gateway ≡ settings → gateway.exchange ≡ start settings first
    → SocketsHold gateway.sockets [] → GatewayAt gateway settings first []
GatewayAt-new gateway settings first same_settings same_exchange holds = record {
  settings_kept = same_settings;
  exchange = same_exchange ∙ sym (ap (λ (run : Run). run.exchange) (run_of-nil settings first));
  sockets = subst (λ (run : Run). SocketsHold gateway.sockets run.history) (sym (run_of-nil settings first)) holds;
}

early_of : (moment : ℕ) (sockets : SocketsValue) (history : List AcceptedCall) → SocketsHold sockets history → sockets.moment ≤ moment → latest history ≤ moment
early_of moment sockets history holds at = let same = holds.moment in omega arith

late_enough : (sockets call now later next : ℕ) → sockets ≡ call → call ≤ now → now ≤ later → next ≡ later → sockets ≤ next
late_enough sockets call now later next same early onward is = omega arith

-- what is to be taken is by each history that the gateway's sockets stand for
abbrev pub TakesEvent : Gateway → GatewayEvent → Reply → Option SocketsValue → Type 0
TakesEvent gateway event reply others =
    (history : List AcceptedCall) → SocketsHold gateway.sockets history → IsTaken (settings_of gateway) gateway.exchange gateway.sockets history event (reply, others)

-- an event is taken, and these are the sockets after it: the others, if there are others
module _ (gateway : Gateway) (event : GatewayEvent) (reply : Reply) (others : Option SocketsValue) (after : SocketsValue) (are : after ≡ unwrap_or others gateway.sockets) (takes : TakesEvent gateway event reply others) where
  stand-after : (history : List AcceptedCall) → SocketsHold gateway.sockets history → SocketsHold after (history_after gateway.exchange history event)
  stand-after history holds =
      subst (λ (sockets : SocketsValue). SocketsHold sockets (history_after gateway.exchange history event)) (sym are) (takes history holds).sockets

  -- what holds of a gateway still does after an event
  pub has_history-after : ∥ HasHistory after ∥₁
  has_history-after = ∥∥₁_map gateway.has_history (λ found. (_, stand-after found.0 found.1))

  pub at_moment-after : IsAtMoment reply.next after
  at_moment-after =
      ∥∥₁_elim gateway.has_history (hlevel props) (λ found.
      let history = found.0 in
      let early = early-after gateway.exchange history event (early_of gateway.exchange.moment gateway.sockets history found.1 gateway.at_moment) in
      let later = moment-later (settings_of gateway) gateway.exchange history event in
      late_enough _ _ _ _ _ (stand-after history found.1).moment early later (ap (λ (exchange : Exchange). exchange.moment) (takes history found.1).reply.next))

  pub of_settings-after : IsEventOf (settings_of gateway) event → AreOfSettings (settings_of gateway) after
  of_settings-after is =
      ∥∥₁_elim gateway.has_history (hlevel props) (λ found.
      let history = found.0 in
      let Of : List Socket → Type 0 = λ sockets. All (λ socket. is_of_family (family_of (settings_of gateway)) socket.group ≡ true) sockets in
      subst Of (sym (stand-after history found.1).sockets)
      (family-after (settings_of gateway) gateway.exchange history event is (subst Of found.1.sockets gateway.of_settings)))

  -- what is refused leaves the exchange, and brings no other sockets
  refused-by : (history : List AcceptedCall) → SocketsHold gateway.sockets history → IsRefused reply.outcome → IsRefused (event_answer (settings_of gateway) gateway.exchange history event).outcome
  refused-by history holds refused = subst (λ (outcome : GatewayOutcome). IsRefused outcome) (takes history holds).reply.outcome refused

  pub exchange-same : IsRefused reply.outcome → reply.next ≡ gateway.exchange
  exchange-same refused =
      ∥∥₁_elim gateway.has_history (hlevel (props, ⊎_set)) (λ found.
      (takes found.0 found.1).reply.next ∙ refused-same (settings_of gateway) gateway.exchange found.0 event (refused-by found.0 found.1 refused))

  kept : (found : Option SocketsValue) → others ≡ found → IsRefused reply.outcome → unwrap_or found gateway.sockets ≡ gateway.sockets
  kept None is refused = refl
  kept (Some sockets) is refused =
      absurd (∥∥₁_elim gateway.has_history (hlevel props) (λ one. let none : others ≡ None = (takes one.0 one.1).refused (refused-by one.0 one.1 refused) in absurd cc))

  pub sockets-same : IsRefused reply.outcome → after ≡ gateway.sockets
  sockets-same refused = are ∙ kept others refl refused

  -- what is to be taken is what comes to the event by the events before it
  pub taken-after : (settings : GatewaySettings) (first : ℕ) (events : List GatewayEvent) → GatewayAt gateway settings first events
      → IsTakenAs (answer_after settings first events event) gateway.sockets (with_event settings (run_of settings first events) event).history (reply, others)
  taken-after settings first events at =
      let history = (run_of settings first events).history in
      subst (λ (exchange : Exchange). IsTaken settings exchange gateway.sockets history event (reply, others)) at.exchange
      (subst (λ (known : GatewaySettings). IsTaken known gateway.exchange gateway.sockets history event (reply, others)) at.settings_kept (takes history at.sockets))

  -- the gateway after an event
  pub GatewayAt-after : (later : Gateway) (settings : GatewaySettings) (first : ℕ) (events : List GatewayEvent) → GatewayAt gateway settings first events
      → settings_of later ≡ settings_of gateway → later.exchange ≡ reply.next → later.sockets ≡ after → GatewayAt later settings first (events ++ event ∷ [])
  GatewayAt-after later settings first events at same_settings same_exchange same_sockets =
      let is = taken-after settings first events at in record {
        settings_kept = same_settings ∙ at.settings_kept;
        exchange = same_exchange ∙ (is.reply.next ∙ sym (ap (λ (one : Run). one.exchange) (run_of-append settings first events event)));
        sockets = rw (run_of-append settings first events event)
            (subst (λ (sockets : SocketsValue). SocketsHold sockets (with_event settings (run_of settings first events) event).history) (sym (same_sockets ∙ are)) is.sockets);
      }

-- gateways that keep the same are one
pub same_gateway : (gateway : Gateway) (exchange : Exchange) (sockets : SocketsValue) (source : HasSourceOfFamily gateway.settings) (at_moment : IsAtMoment exchange sockets)
    (of_settings : AreOfSettings gateway.settings sockets) (has_history : ∥ HasHistory sockets ∥₁) → exchange ≡ gateway.exchange → sockets ≡ gateway.sockets
    → record gateway { exchange = exchange; sockets = sockets; source = source; at_moment = at_moment; of_settings = of_settings; has_history = has_history } ≡ gateway
same_gateway gateway exchange sockets source at_moment of_settings has_history same stay = λ i. record gateway {
  exchange = same i;
  sockets = stay i;
  source = is_prop→PathP (λ j. HasSourceOfFamily gateway.settings) (λ j. hlevel props) source gateway.source i;
  at_moment = is_prop→PathP (λ j. IsAtMoment (same j) (stay j)) (λ j. hlevel props) at_moment gateway.at_moment i;
  of_settings = is_prop→PathP (λ j. AreOfSettings gateway.settings (stay j)) (λ j. hlevel props) of_settings gateway.of_settings i;
  has_history = is_prop→PathP (λ j. ∥ HasHistory (stay j) ∥₁) (λ j. ∥∥₁_prop) has_history gateway.has_history i;
}
