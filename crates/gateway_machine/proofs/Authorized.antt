-- Each Update and each Teardown that is sent carries the MAC and the nonce of an accepted Query.
use Rattle.std.{proofs.{Common.{◌≡◌, ℕ, List, [], ◌∷◌, ◌++◌, map, subst}, lemmas.List.Elements.{All-weaker}}, specs.List.{All}}
use Rattle.gateway_machine.{specs.{declared.{event.GatewayEvent.{GatewayEvent}, settings.GatewaySettings.{GatewaySettings}, step.PeerSend.{PeerSend}}, Laws.{AreAuthorized, HasAcceptedQuery, IsAuthorized}, Runs.{answer_after}, Sends.{datagram_of}}, proofs.{SoundRuns.{answer-sound, run-sound}, Lawful.{Carries, IsFit, IsReporting}}}

pub authorized : (settings : GatewaySettings) (first : ℕ) (events : List GatewayEvent) (event : GatewayEvent)
    → All (IsAuthorized settings first (events ++ event ∷ [])) (answer_after settings first events event).sends
authorized settings first events event =
    let Good = HasAcceptedQuery settings first (events ++ event ∷ []) in
    let answer = answer_after settings first events event in
    All-weaker (IsFit Good settings answer.next.relay) (IsAuthorized settings first (events ++ event ∷ [])) (λ sending fit. record {
      update = λ mac nonce inner is. subst (Carries Good) is fit.1;
      teardown = λ mac nonce gateway is. subst (Carries Good) is fit.1;
      linux = fit.3;
    }) answer.sends (answer-sound settings first events event (run-sound settings first events)).sends

-- each Update that is sent carries a report from the gateway's source
pub reporting : (settings : GatewaySettings) (first : ℕ) (events : List GatewayEvent) (event : GatewayEvent)
    → All (λ sending. IsReporting settings sending.message) (answer_after settings first events event).sends
reporting settings first events event =
    let Good = HasAcceptedQuery settings first (events ++ event ∷ []) in
    let answer = answer_after settings first events event in
    All-weaker (IsFit Good settings answer.next.relay) (λ sending. IsReporting settings sending.message) (λ sending fit. fit.2)
    answer.sends (answer-sound settings first events event (run-sound settings first events)).sends

-- and of the datagrams of an answer
pub authorized-sends : (settings : GatewaySettings) (first : ℕ) (events : List GatewayEvent) (event : GatewayEvent) (sends : List PeerSend)
    → sends ≡ map datagram_of (answer_after settings first events event).sends → AreAuthorized settings first (events ++ event ∷ []) sends
authorized-sends settings first events event sends same = record {
  sendings = (answer_after settings first events event).sends;
  spelled = same;
  each = authorized settings first events event;
}
