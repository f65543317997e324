use Rattle.std.proofs.{Common.{◌+◌, ◌≤◌, length, arith}, lemmas.Result.{err_from_is_err_and}}
use Rattle.amt_ports.proofs.SoFar.{all_asked, none_asked, one_more, then_ends, then_nothing}
use Rattle.relay_serving.{specs.{Servers.{counts_in, tally_in}, Traces.{by_feed}}, proofs.Traces.{Does-none, alone, feeds_on}}
use Rattle.relay_serving.proofs.server.Server.feed.Goals as goal

pub loop-init : goal.loop-init
loop-init g c = record { fed = λ around. none_asked by_feed _ (Does-none _) }

pub feed_next-requires : goal.feed_next-requires
feed_next-requires g c =
    let sofar = c.loop.invariant.fed (alone c.args.self.now) in
    let few : tally_in c.loop.self ≤ tally_in c.args.self.now + length sofar.answers = sofar.goes.few in
    let packets : (counts_in c.loop.self).packets ≤ (counts_in c.args.self.now).packets + length sofar.answers = sofar.goes.few_packets in record {
      room = omega (arith, sofar.goes.same_room, c.requires.room);
      few = omega (arith, packets, sofar.as_many, c.loop-test.true, c.requires.few);
      tally = omega (arith, few, sofar.as_many, c.loop-test.true, c.requires.tally);
    }

pub returns-in_err-feed_next : goal.returns-in_err-feed_next
returns-in_err-feed_next g c = record {
  feeds =
      let p = err_from_is_err_and c.from_residual.result c.from_residual.ensures.1 in
      rw (p.1, p.2) (λ around. then_ends by_feed feeds_on _ _ _ _ (c.loop.invariant.fed around) _ c.loop-test.true (c.in_err-feed_next.ensures.feeds around));
}

pub returns-in-Nothing : goal.returns-in-Nothing
returns-in-Nothing g c = record { feeds = λ around. then_nothing by_feed feeds_on _ _ _ _ (c.loop.invariant.fed around) _ c.in-Nothing.is c.loop-test.true (c.in_ok-feed_next.ensures.feeds around) }

pub loop-preserved : goal.loop-preserved
loop-preserved g c = record { fed = λ around. one_more by_feed feeds_on _ _ _ _ (c.loop.invariant.fed around) _ c.in-Something.is (c.in_ok-feed_next.ensures.feeds around) }

pub returns : goal.returns
returns g c = record { feeds = λ around. all_asked by_feed _ _ _ (omega (arith, c.loop-test.false, c.loop.auto.counter-end)) (c.loop.invariant.fed around) }
