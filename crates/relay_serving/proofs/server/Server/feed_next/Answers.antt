use Rattle.std.proofs.{Common.{[], ◌∷◌, ◌≤◌, ◌+◌, inl, inr, length, take, refl, ap, subst, arith}, lemmas.List.{length-take}}
use Rattle.amt_ports.{specs.{Arrivals.{IsShortFeedGot, feed_answer}, Told.{Answers}, declared.feed.{FeedAnswer.TheVariants.{Packet as PacketFed, Nothing as NothingFed, Closed as FeedClosed}, FeedGot.{FeedGot}}, Answers.{refused, taken}, Devices.{feed_at}}, proofs.{EndCauses.{not_cause}, Lists.{one_answer}}}
use Rattle.relay_serving.{specs.{Servers.{tally_in}, Traces.{at_feed}}, proofs.Traces.{Does-then, alone, fed_so}}
use Rattle.relay_serving.proofs.server.Server.feed_next.Goals as goal

pub returns-in-Ok : goal.returns-in-Ok
returns-in-Ok g c =
    let got = c.in-Ok-Packet in
    let now = c.recv.new.self in
    let bytes = take got.octets c.recv.new.buf in
    let is = subst (Answers FeedClosed (g.F.Feed.coming c.args.feed.now) (g.F.Feed.coming now)) (ap (λ (one : FeedGot). feed_answer one c.recv.new.buf) got.field-0-is) got.ensures.answer in
    let octets = subst IsShortFeedGot got.field-0-is got.ensures.short in
    let long = length-take got.octets c.recv.new.buf in record {
      feeds = λ around. record {
        answers = taken (PacketFed bytes) ∷ [];
        goes = Does-then (fed_so (feed_at g.F.Feed now) _ _ 0 0 (PacketFed bytes ∷ []) (one_answer FeedClosed _ _ _ _ is refl) c.recv.ensures.waits c.recv.ensures.buffer)
            (c.in-Ok.ensures.takes (at_feed around c.args.self.now (feed_at g.F.Feed now) (g.F.Feed.longest_wait now) (length c.recv.new.buf)));
        ends = (taken (PacketFed bytes), omega (arith, octets, long), refl);
        cause = not_cause _ _ _ _ (λ is. cc) got.ensures.cause.quiet;
      };
    }

pub starve-requires : goal.starve-requires
starve-requires g c =
    let few : tally_in c.feed_packet.new.self ≤ tally_in c.args.self.now + 0 = (c.in-Err-feed_packet.ensures.none (alone c.args.self.now)).few in
    record { few = omega (arith, few, c.requires.tally); number = omega arith }

pub returns-in-Err-feed_packet : goal.returns-in-Err-feed_packet
returns-in-Err-feed_packet g c =
    let got = c.in-Ok-Packet in
    let now = c.recv.new.self in
    let bytes = take got.octets c.recv.new.buf in
    let is = subst (Answers FeedClosed (g.F.Feed.coming c.args.feed.now) (g.F.Feed.coming now)) (ap (λ (one : FeedGot). feed_answer one c.recv.new.buf) got.field-0-is) got.ensures.answer in
    let octets = subst IsShortFeedGot got.field-0-is got.ensures.short in
    let long = length-take got.octets c.recv.new.buf in record {
      feeds = λ around.
          let seen = at_feed around c.args.self.now (feed_at g.F.Feed now) (g.F.Feed.longest_wait now) (length c.recv.new.buf) in record {
            answers = refused (PacketFed bytes) ∷ [];
            goes = Does-then (fed_so (feed_at g.F.Feed now) _ _ 0 1 (PacketFed bytes ∷ []) (one_answer FeedClosed _ _ _ _ is refl) c.recv.ensures.waits c.recv.ensures.buffer)
                (Does-then (c.in-Err-feed_packet.ensures.none seen) (c.starve.ensures.starves seen));
            ends = (refused (PacketFed bytes), omega (arith, octets, long), refl);
            cause = not_cause _ _ _ _ (λ is. cc) got.ensures.cause.quiet;
          };
    }

pub returns-in-Ok-Nothing : goal.returns-in-Ok-Nothing
returns-in-Ok-Nothing g c =
    let got = c.in-Ok-Nothing in
    let is = subst (Answers FeedClosed (g.F.Feed.coming c.args.feed.now) (g.F.Feed.coming c.recv.new.self)) (ap (λ (one : FeedGot). feed_answer one c.recv.new.buf) got.field-0-is) got.ensures.answer in record {
      feeds = λ around. record {
        answers = taken NothingFed ∷ [];
        goes = fed_so _ _ _ 1 1 (NothingFed ∷ []) (one_answer FeedClosed _ _ _ _ is refl) c.recv.ensures.waits c.recv.ensures.buffer;
        ends = refl;
        cause = not_cause _ _ _ _ (λ is. cc) got.ensures.cause.quiet;
      };
    }

pub returns-in-Ok-Closed : goal.returns-in-Ok-Closed
returns-in-Ok-Closed g c =
    let got = c.in-Ok-Closed in
    let is = subst (Answers FeedClosed (g.F.Feed.coming c.args.feed.now) (g.F.Feed.coming c.recv.new.self)) (ap (λ (one : FeedGot). feed_answer one c.recv.new.buf) got.field-0-is) got.ensures.answer in record {
      feeds = λ around. record {
        answers = taken FeedClosed ∷ [];
        goes = fed_so _ _ _ 1 1 (FeedClosed ∷ []) (one_answer FeedClosed _ _ _ _ is refl) c.recv.ensures.waits c.recv.ensures.buffer;
        ends = inl (refl, refl);
        cause = not_cause _ _ _ _ (λ is. cc) got.ensures.cause.quiet;
      };
    }

pub returns-in-Err : goal.returns-in-Err
returns-in-Err g c = record {
  feeds = λ around. record {
    answers = [];
    goes = fed_so _ _ _ 0 0 [] c.in-Err.ensures.kept c.recv.ensures.waits c.recv.ensures.buffer;
    ends = inr (refl, refl);
    cause = record { rose = λ _. c.in-Err.ensures.cause.failed; calm = λ isnt. absurd (isnt refl) };
  };
}
