use Rattle.std.{proofs.Common.{true, [], ◌∷◌, List, ℕ, refl, ap, arith}, specs.Prelude.{Some, filter_map}}
use Rattle.amt_ports.specs.Answers.{unless_starved}
use Rattle.gateway_machine.specs.declared.event.GatewayEvent.TheVariants.{Datagram}
use Rattle.gateway_serving.specs.declared.counts.Counts.{Counts}
use Rattle.gateway_serving.proofs.Traces.{Does-at, Does-then, counted}
use Rattle.gateway_serving.proofs.server.Server.hear_datagram.Goals as goal

pub returns-in-Ok : goal.returns-in-Ok
returns-in-Ok g c =
    let offers = c.offer.ensures.offers in record {
      hears = (
        offers.starved,
        λ around. Does-at (Does-then (counted 1 0 0 0 (refl, refl, refl, refl) refl (record { datagrams_are = refl; controls_are = omega arith; bad_are = omega arith; starved_are = omega arith }) around) (offers.does around))
            (ap (λ (bytes : List ℕ). filter_map (λ one. unless_starved offers.starved (Some one)) (Datagram c.args.from bytes ∷ [])) c.in-Ok.ensures) refl refl refl refl (λ _. refl) refl refl refl (omega arith) (omega arith),
      );
    }

pub returns-in-Err : goal.returns-in-Err
returns-in-Err g c =
    let is = c.count_starved.ensures in record {
      hears = (
        true,
        counted 1 0 0 1 (refl, refl, ap (λ (one : Counts). one.delivered) is, ap (λ (one : Counts). one.unsent) is) refl
            (record { datagrams_are = ap (λ (one : Counts). one.datagrams) is; controls_are = omega (arith, ap (λ (one : Counts). one.controls) is); bad_are = omega (arith, ap (λ (one : Counts). one.bad_controls) is); starved_are = ap (λ (one : Counts). one.starved) is }),
      );
    }
