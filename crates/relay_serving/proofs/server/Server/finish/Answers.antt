use Rattle.std.{proofs.{Common.{◌≡◌, ◌∙◌, count_by, length, reverse, refl, sym, ap, subst, arith}, lemmas.List.{length-reverse, reverse-reverse}}, specs.List.{All}}
use Rattle.published_table.specs.{Publishers.{book_of, published}, Views.{publisher_of, views_of}}
use Rattle.replication_workers.specs.{Dispatchers.{is_threaded, slots_of}, SlotStates.{jobs_in_all}}
use Rattle.relay_serving.{specs.{Ending.{AreAsked}, Views.{is_apart}}, proofs.{Ending.{inline_by}, SlotsServed.{left_few, left_number, left_publisher}, Starting.{All-reverse}}}
use Rattle.relay_serving.proofs.server.Server.finish.Goals as goal

pub turn_round-requires : goal.turn_round-requires
turn_round-requires g c =
    let number = left_number _ _ _ _ _ c.finish-outs.ensures.left in
    record { none = c.requires.none.0; room = omega (arith, number, c.requires.room.0) }

pub ask_each-apart-requires-clause-room : goal.ask_each-apart-requires-clause-room
ask_each-apart-requires-clause-room g c =
    let number = left_number _ _ _ _ _ c.finish-outs.ensures.left in
    let as_many = length-reverse (views_of c.finish-outs.result.views) in
    omega (arith, number, ap length c.turn_round.ensures, as_many, c.requires.room.1)

pub ask_each-apart-requires-clause-publisher : goal.ask_each-apart-requires-clause-publisher
ask_each-apart-requires-clause-publisher g c =
    let server = c.args.self in
    subst (All (λ view. publisher_of view ≡ book_of server.publisher)) (sym c.turn_round.ensures)
    (All-reverse (λ view. publisher_of view ≡ book_of server.publisher) (views_of c.finish-outs.result.views)
    (left_publisher (book_of server.publisher) _ _ _ _ _ c.finish-outs.ensures.left server.publishers))

pub returns-clause-finishes : goal.returns-clause-finishes
returns-clause-finishes g c =
    let server = c.args.self in record {
      left_views = views_of c.finish-outs.result.views;
      left = c.finish-outs.ensures.left;
      asked = subst (λ list. AreAsked (published server.publisher) list (views_of c.ask_each-apart.new.to))
          (ap reverse c.turn_round.ensures ∙ reverse-reverse (views_of c.finish-outs.result.views)) c.ask_each-apart.ensures.asked;
      same_counts = refl;
      inline_is = inline_by c.finish-outs.result.inline (jobs_in_all (slots_of server.dispatcher)) (is_threaded server.dispatcher) c.finish-outs.ensures.inline c.finish-outs.ensures.none_inline;
      owed_is = c.owed-owed.ensures;
      published_is = c.published-published.ensures;
      apart_is = c.ask_each-apart.ensures.apart ∙ ap (λ number. count_by (is_apart number) (views_of c.ask_each-apart.new.to)) (sym c.published-published.ensures);
    }

pub returns-clause-few : goal.returns-clause-few
returns-clause-few g c =
    let few = left_few _ _ _ _ _ c.finish-outs.ensures.left in
    omega (arith, few, c.args.self.dispatcher.few_jobs)

pub invariant_of-self : goal.invariant_of-self
invariant_of-self g c =
    let server = c.args.self in record {
      at = server.at;
      lawful = server.lawful;
      log = server.log;
      shown = server.shown;
      terms = server.terms;
      given_out = server.given_out;
      publishers = server.publishers;
      counted = server.counted;
      tallied = server.tallied;
    }
