-- What holds of every run.
use Rattle.std.proofs.{Common.{◌≡◌, ℕ, List, [], ◌∷◌, ◌++◌, All, Option, Some, None, Ok, refl, sym, ap, subst, ◌∙◌, append-nil, append_assoc}, lemmas.List.Elements.{All-weaker, filter_map-append}}
use Rattle.amt_values.specs.declared.mac.Mac48.{Mac48}
use Rattle.amt_messages.{specs.{declared.message.Message.TheVariants.{Multicast, Query}}, proofs.Answered.{Spells-read}}
use Rattle.inner_datagrams.proofs.Heads.{answer_found}
use Rattle.gateway_machine.specs.declared.{event.GatewayEvent.{GatewayEvent}, exchange.{LastQuery.{LastQuery}}, settings.GatewaySettings.{GatewaySettings}}
use Rattle.gateway_machine.specs.{Laws.{HasAcceptedQuery, IsDirected, IsWantedPacket, last_of, last_request, nonce_asked}, Runs.{Run, answer_after, run_of}, Sends.{Sending}}
use Rattle.gateway_machine.proofs.{Lawful.{IsBy, IsFit, IsLawful, IsSound, IsSoundAnswer, event-lawful, nonces_asked}, Runs.{run_of-append, run_of-nil}}

last_of-append : (before : Option ℕ) (nonces more : List ℕ) → last_of before (nonces ++ more) ≡ last_of (last_of before nonces) more
last_of-append before [] more = refl
last_of-append before (nonce ∷ nonces) more = last_of-append (Some nonce) nonces more

-- the last Request after one more event
last_request-append : (settings : GatewaySettings) (first : ℕ) (events : List GatewayEvent) (event : GatewayEvent)
    → last_request settings first (events ++ event ∷ []) ≡ last_of (last_request settings first events) (nonces_asked (answer_after settings first events event).sends)
last_request-append settings first events event =
    let before = (run_of settings first events).sent in
    let sends = (answer_after settings first events event).sends in
    ap (λ (run : Run). last_of None (nonces_asked run.sent)) (run_of-append settings first events event)
    ∙ ap (λ (nonces : List ℕ). last_of None nonces) (filter_map-append (λ (sending : Sending). nonce_asked sending.message) before sends)
    ∙ last_of-append None (nonces_asked before) (nonces_asked sends)

-- a Query that was accepted before one more event was so after it
query-before : (settings : GatewaySettings) (first : ℕ) (events : List GatewayEvent) (event : GatewayEvent) (query : Option LastQuery)
    → IsBy (HasAcceptedQuery settings first events) query → IsBy (HasAcceptedQuery settings first (events ++ event ∷ [])) query
query-before settings first events event None by = tt
query-before settings first events event (Some query) by = record {
  earlier = by.earlier;
  event = by.event;
  later = by.later ++ event ∷ [];
  among = ap (λ (events : List GatewayEvent). events ++ event ∷ []) by.among ∙ append_assoc by.earlier (by.event ∷ by.later) (event ∷ []);
  query = by.query;
}

module _ (settings : GatewaySettings) (first : ℕ) where
  -- the MAC and the nonce are those of a Query that was accepted in these events
  abbrev pub IsGood : List GatewayEvent → Mac48 → ℕ → Type 0
  IsGood events = HasAcceptedQuery settings first events

  -- the exchange after these events is a sound one
  abbrev pub IsSoundAfter : List GatewayEvent → Type 0
  IsSoundAfter events =
      IsSound (IsGood events) settings (last_request settings first events) (run_of settings first events).exchange

  -- what is sent and handed on after these events, and the exchange after it
  lawful : (events : List GatewayEvent) (event : GatewayEvent)
      → IsLawful (IsGood (events ++ event ∷ [])) (IsWantedPacket settings first events event) (λ left. Unit {0}) settings (last_request settings first events)
      (run_of settings first events).exchange (answer_after settings first events event)
  lawful events event =
      let run = run_of settings first events in
      event-lawful _ _ _ settings (last_request settings first events) event run.exchange run.history tt (λ from bytes came. record {
        good = λ limited mac nonce inner seen read sender asked accepted. record {
          earlier = events;
          event = event;
          later = [];
          among = refl;
          query = record {
            from = from;
            bytes = bytes;
            limited = limited;
            inner = inner;
            seen = seen;
            came = came;
            spelled = (Spells-read bytes (Query limited mac nonce inner seen)).1 read;
            sender = sender;
            asked = asked;
            accepted = accepted;
          };
        };
        given = λ packet head read sender begins scope wanted. record {
          from = from;
          bytes = bytes;
          head = head;
          came = came;
          spelled = (Spells-read bytes (Multicast packet)).1 read;
          sender = sender;
          begins = answer_found (Ok head) packet (sym begins);
          scope = scope;
          wanted = wanted;
        };
      })

  -- a packet is handed on only as it stands in Multicast Data from the relay, and where some socket wants it
  pub wanted : (events : List GatewayEvent) (event : GatewayEvent) (packet : List ℕ) → (answer_after settings first events event).deliver ≡ Some packet
      → IsWantedPacket settings first events event packet
  wanted events event = (lawful events event).given

  pub answer-sound : (events : List GatewayEvent) (event : GatewayEvent) → IsSoundAfter events
      → IsSoundAnswer (IsGood (events ++ event ∷ [])) settings (last_request settings first events) (answer_after settings first events event)
  answer-sound events event is = (lawful events event).sound (record {
    relay = is.relay;
    query = is.query;
    kept = is.kept;
    request = is.request;
    by = query-before settings first events event (run_of settings first events).exchange.query is.by;
  })

  more-sound : (before later : List GatewayEvent) → IsSoundAfter before → IsSoundAfter (before ++ later)
  more-sound before [] is = subst IsSoundAfter (sym (append-nil before)) is
  more-sound before (event ∷ later) is =
      let Good = IsGood (before ++ event ∷ []) in
      let next : IsSoundAfter (before ++ event ∷ []) =
      subst (λ (run : Run). IsSound Good settings (last_request settings first (before ++ event ∷ [])) run.exchange) (sym (run_of-append settings first before event))
      (subst (λ (asked : Option ℕ). IsSound Good settings asked (answer_after settings first before event).next) (sym (last_request-append settings first before event)) (answer-sound before event is).next) in
      subst IsSoundAfter (append_assoc before (event ∷ []) later) (more-sound (before ++ event ∷ []) later next)

  pub run-sound : (events : List GatewayEvent) → IsSoundAfter events
  run-sound events = more-sound [] events (rw (run_of-nil settings first) (record { relay = tt; query = tt; kept = λ peer set. (set, tt); request = tt; by = tt }))

  -- where each message goes, by the relay after the event
  pub directed : (events : List GatewayEvent) (event : GatewayEvent)
      → All (IsDirected settings (run_of settings first (events ++ event ∷ [])).exchange.relay) (answer_after settings first events event).sends
  directed events event =
      let answer = answer_after settings first events event in
      subst (λ (run : Run). All (IsDirected settings run.exchange.relay) answer.sends) (sym (run_of-append settings first events event))
      (All-weaker (IsFit (IsGood (events ++ event ∷ [])) settings answer.next.relay) (IsDirected settings answer.next.relay) (λ sending is. is.0) answer.sends (answer-sound events event (run-sound events)).sends)
