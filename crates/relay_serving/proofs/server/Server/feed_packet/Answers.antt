use Rattle.std.proofs.{Common.{ℕ, [], ◌∷◌, ◌++◌, List, refl, sym, ap, subst, ◌∙◌, arith}, lemmas.Result.{err_from_is_err_and}}
use Rattle.published_table.specs.Publishers.{book_of, published}
use Rattle.relay_machine.specs.{Answers.{RelayAt, outcome_of, settings_of}, Published.{published_log}, declared.event.Event.{Event, TheVariants.{Packet}}}
use Rattle.replication_workers.specs.Dispatchers.{slots_of}
use Rattle.relay_serving.{specs.{Courses.{events_so_far, happenings_so_far}, GivenOut.{starts_in}, Happenings.{Took}, declared.counts.Counts.{Counts}}, proofs.{Answering.{no_more}, Counting.{IsCounted-then}, Entering.{shown-next}, Happenings.{events-next}, GivenOut.{few-given, given_out-packet, of_publisher-put, starts_in-put}, OutcomeCounts.{IsTallied-few, IsTallied-packet}, Packets.{RelayAt-packet, counted-packet, outcome-plain, published_log-packet}, Traces.{Adds, Does-none, server_does}}}
use Rattle.relay_serving.proofs.server.Server.feed_packet.Goals as goal

pub count_packet-requires-2-clause-few : goal.count_packet-requires-2-clause-few
count_packet-requires-2-clause-few g c =
    let server = c.args.self.now in
    let few = c.requires.tally in
    IsTallied-few (settings_of server.relay) server.first.value (events_so_far server.course) server.outcomes server.tallied (omega (arith, few))

pub send-requires-clause-few : goal.send-requires-clause-few
send-requires-clause-few g c =
    let server = c.args.self.now in
    few-given (settings_of server.relay) server.first.value (happenings_so_far server.course) (slots_of server.dispatcher) server.counts.packets server.given_out server.counted.events_are.packets_are c.requires.few

pub send-requires-clause-publisher : goal.send-requires-clause-publisher
send-requires-clause-publisher g c =
    let server = c.args.self.now in
    λ number default within. c.tell.ensures.publisher ∙ sym (server.publishers number default within)

pub invariant_of-self : goal.invariant_of-self
invariant_of-self g c =
    let server = c.args.self.now in
    let settings = settings_of server.relay in
    let first = server.first.value in
    let events = events_so_far server.course in
    let past = happenings_so_far server.course in
    let later = events_so_far c.fed.result in
    let bytes = c.in_ok-packet.packet in
    let happened = c.fed.ensures in
    let next = events-next past (happenings_so_far c.fed.result) (Packet bytes) happened in
    let outcome = outcome_of settings first events (Packet bytes) in record {
      at = subst (λ (all : List Event). RelayAt server.relay settings first all) (sym next) (RelayAt-packet server.relay settings first events bytes server.at);
      lawful = server.lawful;
      log = server.log ∙ (sym (published_log-packet settings first events bytes) ∙ ap (published_log settings first) (sym next));
      shown = shown-next settings settings first past (happenings_so_far c.fed.result) (Packet bytes) (published server.publisher) (published server.publisher) refl happened refl server.shown;
      terms = server.terms;
      given_out = given_out-packet settings first past (happenings_so_far c.fed.result) (slots_of server.dispatcher) (slots_of c.send.new.self) _ bytes c.send.result c.send.ensures.slot c.send.ensures.put happened refl
          (c.now.ensures.value ∙ server.at.moment) (c.tell.ensures.named ∙ server.shown) server.given_out;
      publishers = of_publisher-put (book_of server.publisher) c.send.result _ (slots_of server.dispatcher) (slots_of c.send.new.self) c.send.ensures.put server.publishers;
      counted = IsCounted-then settings settings first events later (Packet bytes) outcome server.counts _ refl next refl
          (c.count_packet.ensures ∙ counted-packet server.counts bytes outcome (outcome-plain settings first events bytes)) server.counted;
      tallied = IsTallied-packet settings first events later bytes _ server.outcomes c.count_packet-2.new.self next c.as_slice.ensures c.count_packet-2.ensures server.tallied;
    }

pub returns-in_err-packet-clause-none : goal.returns-in_err-packet-clause-none
returns-in_err-packet-clause-none g c =
    let p = err_from_is_err_and c.from_residual.result c.from_residual.ensures.1 in
    rw p.1 (λ around. Does-none _)

pub returns-clause-takes : goal.returns-clause-takes
returns-clause-takes g c =
    let server = c.args.self.now in
    server_does (Took (Packet c.args.packet.now) ∷ []) 0 0 1 1
    (record {
      same = record {
        same_settings = refl;
        same_first = refl;
        same_starts = ap starts_in c.send.ensures.put ∙ starts_in-put c.send.result _ (slots_of server.dispatcher);
        same_book = refl;
        same_mode = c.send.ensures.mode;
        same_tasks = c.send.ensures.run;
      };
      happened = c.fed.ensures ∙ ap (λ (bytes : List ℕ). happenings_so_far server.course ++ Took (Packet bytes) ∷ []) c.in_ok-packet.ensures;
    })
    (subst (λ (counts : Counts). Adds server.counts counts 0 0 1) (sym c.count_packet.ensures)
    (record { refused = record { starved_are = no_more _; late_are = no_more _ }; same_sent = refl; same_unsent = refl; few_packets = omega arith })) refl (omega arith)
