use Rattle.std.proofs.{Common.{◌≤◌, ◌+◌, true, false, refl, arith}, lemmas.Bool.{false≢true}}
use Rattle.gateway_serving.{specs.Servers.{tally_in}, proofs.Traces.{Does-then, alone, starved}}
use Rattle.gateway_serving.proofs.server.Server.offer.Goals as goal

pub returns-in-Ok : goal.returns-in-Ok
returns-in-Ok g c = record { offers = record { starved = false; does = c.in-Ok.ensures.takes; needed = λ is. absurd (false≢true is) } }

pub count_starved-requires : goal.count_starved-requires
count_starved-requires g c =
    let few : tally_in c.take.new.self ≤ tally_in c.args.self.now + 0 = (c.in-Err.ensures.none (alone c.args.self.now)).few in
    omega (arith, few, c.requires.few)

pub returns-in-Err : goal.returns-in-Err
returns-in-Err g c = record {
  offers = record {
    starved = true;
    does = λ around. Does-then (c.in-Err.ensures.none around) (starved refl refl refl c.count_starved.ensures around);
    needed = λ is needs. false≢true (c.in-Err.ensures.needs_none needs);
  };
}
