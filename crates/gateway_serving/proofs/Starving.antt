-- Which moments memory refused, over turns.
use Rattle.std.proofs.Common.{◌≡◌, ℕ, max, true, List, [], ◌∷◌, ◌++◌, map, refl, sym, subst, append-nil, append_assoc}
use Rattle.gateway_machine.specs.{Outcomes.{IsAtRest}, Runs.{answer_after}, declared.{event.GatewayEvent.{GatewayEvent, TheVariants.{Moment}}, outcome.GatewayOutcome.{GatewayOutcome}}}
use Rattle.amt_ports.specs.Answers.{Taken}
use Rattle.gateway_serving.{specs.{Events.{events_from, events_of_turn, nonces_in}, Runs.{moments_given}, Servers.{Setup}, Stages.{AreStarved}, Starving.{SendsAt, StarveWhereItSends}, Turns.{Turn, latest_of, moment_of_turn}}, proofs.Traces.{latest_of-append}}

module _ {setup setup' : Setup} {events events' : List GatewayEvent} {latest latest' : ℕ} (same : setup ≡ setup') (same_events : events ≡ events') (same_latest : latest ≡ latest') where
  pub SendsAt-same : (one : Taken ℕ) → SendsAt setup.settings setup.first events latest one → SendsAt setup'.settings setup'.first events' latest' one
  SendsAt-same one sends =
      subst (λ (outcome : GatewayOutcome). one.starved ≡ true → IsAtRest outcome → ⊥)
      (λ i. (answer_after (same i).settings (same i).first (same_events i) (Moment (max (same_latest i) one.answer))).outcome) sends

  pub AreStarved-same : (clock : List (Taken ℕ)) → AreStarved setup events latest clock → AreStarved setup' events' latest' clock
  AreStarved-same clock starved = subst (λ (Fact : Type 0). Fact) (λ i. AreStarved (same i) (same_events i) (same_latest i) clock) starved

  pub StarveWhereItSends-same : (turns : List Turn) → StarveWhereItSends setup.settings setup.first events latest turns → StarveWhereItSends setup'.settings setup'.first events' latest' turns
  StarveWhereItSends-same turns starve = subst (λ (Fact : Type 0). Fact) (λ i. StarveWhereItSends (same i).settings (same i).first (same_events i) (same_latest i) turns) starve

-- one turn more
pub StarveWhereItSends-more : (setup : Setup) (events : List GatewayEvent) (latest : ℕ) (turns : List Turn) (turn : Turn) → StarveWhereItSends setup.settings setup.first events latest turns
    → AreStarved setup ((events ++ events_from latest turns) ++ nonces_in turn.drawn) (latest_of latest (moments_given turns)) turn.clock → StarveWhereItSends setup.settings setup.first events latest (turns ++ turn ∷ [])
StarveWhereItSends-more setup events latest [] turn before one = (AreStarved-same {setup = setup} refl (λ i. append-nil events i ++ nonces_in turn.drawn) refl turn.clock one, tt)
StarveWhereItSends-more setup events latest (head ∷ turns) turn before one =
    let own = events_of_turn latest head in
    let next = moment_of_turn latest head in (
      before.0,
      StarveWhereItSends-more setup (events ++ own) next turns turn before.1
          (AreStarved-same {setup = setup} refl (λ i. sym (append_assoc events own (events_from next turns)) i ++ nonces_in turn.drawn)
          (latest_of-append latest (map (λ (one : Taken ℕ). one.answer) head.clock) (moments_given turns)) turn.clock one),
    )
