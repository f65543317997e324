use Rattle.std.proofs.Common.{◌∙◌, ◌++◌, ◌∷◌, [], List, refl, sym, ap, subst, append-nil, arith}
use Rattle.endpoint_membership.specs.declared.change.Change.{Change}
use Rattle.logbook.specs.Pages.{Book}
use Rattle.published_table.specs.Publishers.{published}
use Rattle.relay_machine.specs.{Answers.{RelayAt, settings_of}, Published.{published_log}, declared.event.Event.{Event}}
use Rattle.replication_workers.specs.Dispatchers.{slots_of}
use Rattle.relay_serving.{specs.{Counting.{IsCounted}, OutcomeWords.{IsTallied}, Courses.{events_so_far, happenings_so_far}, GivenOut.{AreOfPublisher}, Happenings.{Published}, Servers.{counts_in, happenings_in}, Turns.{Done, Refused}, declared.counts.Counts.{Counts}}, proofs.{Answering.{no_more}, Counting.{IsCounted-late}, Entering.{given_out-other}, Happenings.{events-shown, published-shown}, Traces.{Adds, adds_none, server_does}}}
use Rattle.relay_serving.proofs.server.Server.publish.Goals as goal

pub invariant_of-self : goal.invariant_of-self
invariant_of-self g c =
    let server = c.args.self.now in
    let settings = settings_of server.relay in
    let first = server.first.value in
    let past = happenings_so_far server.course in
    let later = happenings_so_far c.shown.result in
    let same = events-shown past later c.shown.ensures in
    let publisher = c.publish_owed.new.publisher in
    let logs = c.in-Ok.ensures.logs in record {
      at = subst (λ (events : List Event). RelayAt server.relay settings first events) (sym same) server.at;
      lawful = server.lawful;
      log = ap (λ (owed : List Change). published publisher ++ owed) logs.none ∙ append-nil (published publisher) ∙ logs.all ∙ server.log
          ∙ ap (published_log settings first) (sym same);
      shown = logs.all ∙ server.log ∙ ap (published_log settings first) (sym (published-shown past later c.shown.ensures));
      terms = c.publish_owed.ensures.same.terms ∙ server.terms;
      given_out = given_out-other settings settings first past later Published (slots_of server.dispatcher) refl c.shown.ensures refl server.given_out;
      publishers = subst (λ (book : Book). AreOfPublisher book (slots_of server.dispatcher)) (sym c.publish_owed.ensures.same.book) server.publishers;
      counted = subst (λ (events : List Event). IsCounted settings first events server.counts) (sym same) server.counted;
      tallied = subst (λ (events : List Event). IsTallied settings first events server.outcomes) (sym same) server.tallied;
    }

pub invariant_of-self-in-Err : goal.invariant_of-self-in-Err
invariant_of-self-in-Err g c =
    let server = c.args.self.now in
    let logs = c.in-Err.ensures.logs in record {
      at = server.at;
      lawful = server.lawful;
      log = (λ i. logs.same_published i ++ logs.same_owing i) ∙ server.log;
      shown = logs.same_published ∙ server.shown;
      terms = c.publish_owed.ensures.same.terms ∙ server.terms;
      given_out = server.given_out;
      publishers = subst (λ (book : Book). AreOfPublisher book (slots_of server.dispatcher)) (sym c.publish_owed.ensures.same.book) server.publishers;
      counted = IsCounted-late (settings_of server.relay) server.first.value (events_so_far server.course) server.counts c.count_late.new.self c.count_late.ensures server.counted;
      tallied = server.tallied;
    }

pub returns-in-Ok : goal.returns-in-Ok
returns-in-Ok g c = record {
  publishes = record {
    publishing = Done;
    tried = λ is. cc is;
    owed = λ is. cc is;
    does = server_does (Published ∷ []) 0 0 1 0
        (record { same = record { same_settings = refl; same_first = refl; same_starts = refl; same_book = c.publish_owed.ensures.same.book; same_mode = refl; same_tasks = λ task_of run. run }; happened = c.shown.ensures }) (adds_none c.args.self.now.counts) refl (omega arith);
  };
}

pub returns-in-Err : goal.returns-in-Err
returns-in-Err g c = record {
  publishes = record {
    publishing = Refused;
    tried = λ is. cc is;
    owed = λ _. c.in-Err.ensures.owed;
    does = server_does [] 0 1 1 0
        (record {
          same = record { same_settings = refl; same_first = refl; same_starts = refl; same_book = c.publish_owed.ensures.same.book; same_mode = refl; same_tasks = λ task_of run. run };
          happened = sym (append-nil (happenings_in c.args.self.now));
        })
        (subst (λ (counts : Counts). Adds (counts_in c.args.self.now) counts 0 1 0) (sym c.count_late.ensures)
        (record { refused = record { starved_are = no_more _; late_are = refl }; same_sent = refl; same_unsent = refl; few_packets = omega arith })) refl (omega arith);
  };
}
