use Rattle.std.proofs.{Common.{◌∙◌, ◌∷◌, ◌++◌, [], ℕ, List, map, refl, sym, ap, append-nil, arith}, lemmas.Result.{err_from_is_err_and}}
use Rattle.amt_values.specs.declared.peer.Peer.{Peer}
use Rattle.relay_machine.specs.{Answers.{outcome_of, sends_of}, declared.event.Event.TheVariants.{Datagram}}
use Rattle.replication_workers.specs.Replication.{to_peer}
use Rattle.relay_serving.{specs.{Happenings.{Took}, Servers.{counts_in, events_in, first_in, happenings_in, settings_in}, Traces.{at_link}, declared.counts.Counts.{Counts}}, proofs.{Answering.{HasAnswered-alike, no_more}, Counting.{IsCounted-answered, answers-few, datagram-room}, Traces.{Does-none, link_does, nothing_does}}}
use Rattle.relay_serving.proofs.server.Server.hear_datagram.Goals as goal

pub send_answers-requires-clause-few : goal.send_answers-requires-clause-few
send_answers-requires-clause-few g c =
    let before = c.args.self.now in
    answers-few (settings_in before) (first_in before) (events_in before) c.in_ok-copied.field-0 c.args.from c.in_ok-sends.sends c.as_slice.result.now c.in_ok-sends.ensures.sends c.as_slice.ensures

pub invariant_of-self : goal.invariant_of-self
invariant_of-self g c =
    let before = c.args.self.now in
    let server = c.enter.new.self in
    let bytes = c.in_ok-copied.field-0 in
    let from = c.args.from in
    let few = answers-few (settings_in before) (first_in before) (events_in before) bytes from c.in_ok-sends.sends c.as_slice.result.now c.in_ok-sends.ensures.sends c.as_slice.ensures in
    let room = datagram-room (counts_in before) (counts_in server) bytes from (outcome_of (settings_in before) (first_in before) (events_in before) (Datagram bytes from))
    c.in_ok-sends.ensures.counts before.counted.few_sends in
    let others = c.send_answers.ensures.others in record {
      at = server.at;
      lawful = server.lawful;
      log = server.log;
      shown = server.shown;
      terms = server.terms;
      given_out = server.given_out;
      publishers = server.publishers;
      counted = IsCounted-answered (settings_in server) (first_in server) (events_in server) _ _ (counts_in server) c.send_answers.new.counts c.as_slice.result.now c.send_answers.ensures.answered
          few room others server.counted;
      tallied = server.tallied;
    }

pub returns-in_err-copied-clause-none : goal.returns-in_err-copied-clause-none
returns-in_err-copied-clause-none g c =
    let p = err_from_is_err_and c.from_residual.result c.from_residual.ensures.1 in
    rw p.1 (λ around. Does-none _)

pub returns-in_err-sends-clause-none : goal.returns-in_err-sends-clause-none
returns-in_err-sends-clause-none g c =
    let p = err_from_is_err_and c.from_residual-in_err-sends.result c.from_residual-in_err-sends.ensures.1 in
    rw p.1 (λ around. nothing_does c.in_err-sends.ensures.err (at_link around c.args.self.now _ _ around.room))

pub returns-clause-takes : goal.returns-clause-takes
returns-clause-takes g c =
    let before = c.args.self.now in
    let from = c.args.from in
    let bytes = c.args.bytes.now in
    let happens = c.in_ok-sends.ensures.events in
    let entered = c.in_ok-sends.ensures.counts in
    let alike = c.send_answers.ensures.others in
    let sends : List ℕ → List (Peer × List ℕ) = λ octets. map to_peer (sends_of (settings_in before) (first_in before) (events_in before) (Datagram octets from)) in
    let answered = HasAnswered-alike _ _ (counts_in c.enter.new.self) c.send_answers.new.counts (counts_in before) c.send_answers.new.counts _ (sends bytes ++ [])
    (ap (λ (counts : Counts). counts.sent) entered) (ap (λ (counts : Counts). counts.unsent) entered) refl refl
    (ap (map to_peer) (c.as_slice.ensures ∙ c.in_ok-sends.ensures.sends) ∙ ap sends c.in_ok-copied.ensures ∙ sym (append-nil (sends bytes))) c.send_answers.ensures.answered in
    let packets = alike.same_packets ∙ ap (λ (counts : Counts). counts.packets) entered in
    link_does (Took (Datagram bytes from) ∷ []) 0 0 1 0
    (record {
      same = record {
        same_settings = happens.same.same_settings;
        same_first = happens.same.same_first;
        same_starts = happens.same.same_starts;
        same_book = happens.same.same_book;
        same_mode = happens.same.same_mode;
        same_tasks = happens.same.same_tasks;
      };
      happened = happens.happened ∙ ap (λ (octets : List ℕ). happenings_in before ++ Took (Datagram octets from) ∷ []) c.in_ok-copied.ensures;
    })
    (record {
      starved_are = alike.same_starved ∙ ap (λ (counts : Counts). counts.starved) entered ∙ no_more _;
      late_are = alike.same_late ∙ ap (λ (counts : Counts). counts.late) entered ∙ no_more _;
    }) answered c.send_answers.ensures.coming c.send_answers.ensures.waits (omega arith) (omega (arith, packets))
