use Rattle.std.proofs.{Common.{◌+◌, ◌≤◌, length, arith}, lemmas.Result.{err_from_is_err_and}}
use Rattle.amt_ports.proofs.SoFar.{all_asked, none_asked, one_more, then_ends, then_nothing}
use Rattle.relay_serving.{specs.{Servers.{tally_in}, Traces.{by_link}}, proofs.Traces.{Does-none, alone, hears_on}}
use Rattle.relay_serving.proofs.server.Server.hear.Goals as goal

pub loop-init : goal.loop-init
loop-init g c = record { heard = λ around. none_asked by_link _ (Does-none _) }

pub hear_next-requires-clause-room : goal.hear_next-requires-clause-room
hear_next-requires-clause-room g c =
    let same = (c.loop.invariant.heard (alone c.args.self.now)).goes.same_room in omega (arith, same, c.requires.room)

pub hear_next-requires-clause-few : goal.hear_next-requires-clause-few
hear_next-requires-clause-few g c =
    let sofar = c.loop.invariant.heard (alone c.args.self.now) in
    let few : tally_in c.loop.self ≤ tally_in c.args.self.now + length sofar.answers = sofar.goes.few in
    omega (arith, few, sofar.as_many, c.loop-test.true, c.requires.few)

pub returns-in_err-hear_next : goal.returns-in_err-hear_next
returns-in_err-hear_next g c = record {
  hears =
      let p = err_from_is_err_and c.from_residual.result c.from_residual.ensures.1 in
      rw (p.1, p.2) (λ around. then_ends by_link hears_on _ _ _ _ (c.loop.invariant.heard around) _ c.loop-test.true (c.in_err-hear_next.ensures.hears around));
}

pub returns-in-Nothing : goal.returns-in-Nothing
returns-in-Nothing g c = record { hears = λ around. then_nothing by_link hears_on _ _ _ _ (c.loop.invariant.heard around) _ c.in-Nothing.is c.loop-test.true (c.in_ok-hear_next.ensures.hears around) }

pub loop-preserved : goal.loop-preserved
loop-preserved g c = record { heard = λ around. one_more by_link hears_on _ _ _ _ (c.loop.invariant.heard around) _ c.in-Something.is (c.in_ok-hear_next.ensures.hears around) }

pub returns : goal.returns
returns g c = record { hears = λ around. all_asked by_link _ _ _ (omega (arith, c.loop-test.false, c.loop.auto.counter-end)) (c.loop.invariant.heard around) }
