use Rattle.std.proofs.{Common.{◌≤◌, ◌+◌, arith}, lemmas.Result.{err_from_is_err_and}}
use Rattle.relay_serving.{specs.Servers.{counts_in, tally_in}, proofs.{Stages.{ends_begun, ends_fed, ends_heard, hears_few}, Traces.{alone}}}
use Rattle.relay_serving.proofs.server.Server.turn.Goals as goal

pub hear-requires-clause-few : goal.hear-requires-clause-few
hear-requires-clause-few g c =
    let few : tally_in c.begin_turn.new.self ≤ tally_in c.args.self.now + 2 = (c.in_ok-begin_turn.ensures.begins (alone c.args.self.now)).does.few in
    omega (arith, few, c.requires.few)

pub publish-requires : goal.publish-requires
publish-requires g c =
    let begun : tally_in c.begin_turn.new.self ≤ tally_in c.args.self.now + 2 = (c.in_ok-begin_turn.ensures.begins (alone c.args.self.now)).does.few in
    let heard = hears_few c.in_ok-hear.ensures.hears in
    record { few = omega (arith, begun, heard.0, c.requires.few) }

pub feed-requires : goal.feed-requires
feed-requires g c =
    let begins = (c.in_ok-begin_turn.ensures.begins (alone c.args.self.now)).does in
    let publishes = c.publish.ensures.publishes.does (alone c.args.self.now) in
    let heard = hears_few c.in_ok-hear.ensures.hears in
    let begun : tally_in c.begin_turn.new.self ≤ tally_in c.args.self.now + 2 = begins.few in
    let packets : (counts_in c.begin_turn.new.self).packets ≤ (counts_in c.args.self.now).packets + 0 = begins.few_packets in
    let published : tally_in c.publish.new.self ≤ tally_in c.hear.new.self + 1 = publishes.few in
    let still : (counts_in c.publish.new.self).packets ≤ (counts_in c.hear.new.self).packets + 0 = publishes.few_packets in record {
      room = omega (arith, heard.2, c.requires.room);
      few = omega (arith, packets, heard.1, still, c.requires.few_packets);
      tally = omega (arith, begun, heard.0, published, c.requires.few);
    }

pub returns-in_err-begin_turn : goal.returns-in_err-begin_turn
returns-in_err-begin_turn g c =
    let p = err_from_is_err_and c.from_residual.result c.from_residual.ensures.1 in
    record { turns = rw (p.1, p.2) (ends_begun _ _ _ _ _ _ _ _ c.in_err-begin_turn.ensures.begins) }

pub returns-in_err-hear : goal.returns-in_err-hear
returns-in_err-hear g c =
    let p = err_from_is_err_and c.from_residual-in_err-hear.result c.from_residual-in_err-hear.ensures.1 in
    record { turns = rw (p.1, p.2) (ends_heard _ _ _ _ _ _ _ _ _ _ _ c.in_ok-begin_turn.ensures.begins _ c.in_err-hear.ensures.hears) }

pub returns : goal.returns
returns g c = record {
  turns = ends_fed _ _ _ _ _ _ _ _ _ _ _ c.in_ok-begin_turn.ensures.begins _ _ _ _ _ _ c.in_ok-hear.ensures.hears c.publish.ensures.publishes c.feed.ensures.feeds;
}
