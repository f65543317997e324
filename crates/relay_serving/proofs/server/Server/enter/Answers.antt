use Rattle.std.{proofs.{Common.{◌++◌, ◌∷◌, [], length, refl, sym, ap, subst, ◌∙◌, arith}, lemmas.List.{append_assoc}}, specs.Prelude.{Some, None}}
use Rattle.logbook.specs.Pages.{Book}
use Rattle.replication_workers.specs.Dispatchers.{slots_of}
use Rattle.published_table.specs.Publishers.{owing, published, reading_terms}
use Rattle.relay_machine.specs.{Answers.{settings_of}, Settings.{AreLawfulSettings}, declared.settings.Settings.{Settings}}
use Rattle.relay_serving.specs.{Counting.{with_outcome}, Courses.{events_so_far, happenings_so_far}, GivenOut.{AreOfPublisher, terms_by}, OutcomeWords.{word_of}, Servers.{counts_in}, Happenings.{Took}}
use Rattle.relay_serving.proofs.{Counting.{IsCounted-then, torn-few, updated-few}, Entering.{at-next, entry-fits, given_out-other, log-next, none_due, published_log-few, shown-next}, Happenings.{events-next}, OutcomeCounts.{IsTallied-few, IsTallied-then}, server.Server.enter.Goals.{in-Some, in-None}}
use Rattle.relay_serving.proofs.server.Server.enter.Goals as goal

pub count-requires-clause-outcomes : goal.count-requires-clause-outcomes
count-requires-clause-outcomes g c =
    let server = c.args.self.now in
    let settings = settings_of server.relay in
    let events = events_so_far server.course in
    let updated = updated-few settings server.first.value events server.counts server.counted in
    let torn = torn-few settings server.first.value events server.counts server.counted in
    let few = c.requires.few in
    (omega (arith, updated, few), omega (arith, torn, few))

pub count-requires-2 : goal.count-requires-2
count-requires-2 g c =
    let server = c.args.self.now in
    let few = c.requires.few in
    record { few = IsTallied-few (settings_of server.relay) server.first.value (events_so_far server.course) server.outcomes server.tallied (omega (arith, few)) }

pub take-requires-clause-few : goal.take-requires-clause-few
take-requires-clause-few g c =
    let server = c.args.self.now in
    let shown = c.ready.ensures.logs.same_published in
    let owed = c.ready.ensures.logs.same_owing in
    let same = ap length ((λ i. shown i ++ owed i) ∙ server.log) in
    let short = published_log-few (settings_of server.relay) server.first.value (events_so_far server.course) in
    let few = c.requires.few in
    omega (arith, same, short, few)

pub take-requires-clause-fits : goal.take-requires-clause-fits
take-requires-clause-fits g c =
    let server = c.args.self.now in
    let settings = settings_of server.relay in
    let shown = c.ready.ensures.logs.same_published in
    let owed = c.ready.ensures.logs.same_owing in
    entry-fits settings server.first.value (events_so_far server.course) c.args.event.now (published c.ready.new.self ++ owing c.ready.new.self) (reading_terms c.ready.new.self) c.in-Some.change
    server.lawful (c.ready.ensures.same.terms ∙ server.terms) ((λ i. shown i ++ owed i) ∙ server.log)
    (sym c.in-Some.is ∙ c.in_ok-outcome.ensures.change settings server.first.value (events_so_far server.course) server.at)

pub invariant_of-self-in-Some : goal.invariant_of-self-in-Some
invariant_of-self-in-Some g c =
    let server = c.args.self.now in
    let settings = settings_of server.relay in
    let first = server.first.value in
    let events = events_so_far server.course in
    let past = happenings_so_far server.course in
    let event = c.args.event.now in
    let same = c.step.ensures.settings in
    let happened = c.then.ensures in
    let next = events-next past (happenings_so_far c.then.result) event happened in
    let shown = c.ready.ensures.logs.same_published in
    let owed = c.ready.ensures.logs.same_owing in
    let publisher = c.ready.new.self in
    let change = sym c.in-Some.is ∙ c.in_ok-outcome.ensures.change settings first events server.at in record {
      at = at-next c.step.new.self settings first events (events_so_far c.then.result) event same next (c.in_ok-outcome.ensures.next settings first events server.at);
      lawful = subst (λ (known : Settings). ∥ AreLawfulSettings known ∥₁) (sym same) server.lawful;
      log = log-next settings (settings_of c.step.new.self) first events (events_so_far c.then.result) event (published publisher ++ owing publisher) _ (Some c.in-Some.change) same next change
          ((λ i. c.take.ensures.published i ++ c.take.ensures.owing i) ∙ sym (append_assoc (published publisher) (owing publisher) (c.in-Some.change ∷ [])))
          ((λ i. shown i ++ owed i) ∙ server.log);
      shown = shown-next settings (settings_of c.step.new.self) first past (happenings_so_far c.then.result) event (published server.publisher) (published c.take.new.self) same happened
          (c.take.ensures.published ∙ shown) server.shown;
      terms = c.take.ensures.same.terms ∙ c.ready.ensures.same.terms ∙ server.terms ∙ ap terms_by (sym same);
      given_out = given_out-other settings (settings_of c.step.new.self) first past (happenings_so_far c.then.result) (Took event) (slots_of server.dispatcher) same happened
          (none_due settings first past event c.requires.entered) server.given_out;
      publishers = subst (λ (book : Book). AreOfPublisher book (slots_of server.dispatcher)) (sym (c.take.ensures.same.book ∙ c.ready.ensures.same.book)) server.publishers;
      counted = IsCounted-then settings (settings_of c.step.new.self) first events (events_so_far c.then.result) event c.in_ok-outcome.field-0.outcome server.counts c.count.new.self same next
          (c.in_ok-outcome.ensures.outcome settings first events server.at) c.count.ensures server.counted;
      tallied = IsTallied-then settings first events event (settings_of c.step.new.self) (events_so_far c.then.result) _ server.outcomes c.count-2.new.self same next
          (ap word_of (c.in_ok-outcome.ensures.outcome settings first events server.at)) c.count-2.ensures server.tallied;
    }

pub invariant_of-self-in-None : goal.invariant_of-self-in-None
invariant_of-self-in-None g c =
    let server = c.args.self.now in
    let settings = settings_of server.relay in
    let first = server.first.value in
    let events = events_so_far server.course in
    let past = happenings_so_far server.course in
    let event = c.args.event.now in
    let same = c.step.ensures.settings in
    let happened = c.then.ensures in
    let next = events-next past (happenings_so_far c.then.result) event happened in
    let shown = c.ready.ensures.logs.same_published in
    let owed = c.ready.ensures.logs.same_owing in
    let publisher = c.ready.new.self in
    let change = sym c.in-None.is ∙ c.in_ok-outcome.ensures.change settings first events server.at in record {
      at = at-next c.step.new.self settings first events (events_so_far c.then.result) event same next (c.in_ok-outcome.ensures.next settings first events server.at);
      lawful = subst (λ (known : Settings). ∥ AreLawfulSettings known ∥₁) (sym same) server.lawful;
      log = log-next settings (settings_of c.step.new.self) first events (events_so_far c.then.result) event (published publisher ++ owing publisher) _ None same next change
          refl ((λ i. shown i ++ owed i) ∙ server.log);
      shown = shown-next settings (settings_of c.step.new.self) first past (happenings_so_far c.then.result) event (published server.publisher) (published publisher) same happened shown server.shown;
      terms = c.ready.ensures.same.terms ∙ server.terms ∙ ap terms_by (sym same);
      given_out = given_out-other settings (settings_of c.step.new.self) first past (happenings_so_far c.then.result) (Took event) (slots_of server.dispatcher) same happened
          (none_due settings first past event c.requires.entered) server.given_out;
      publishers = subst (λ (book : Book). AreOfPublisher book (slots_of server.dispatcher)) (sym c.ready.ensures.same.book) server.publishers;
      counted = IsCounted-then settings (settings_of c.step.new.self) first events (events_so_far c.then.result) event c.in_ok-outcome.field-0.outcome server.counts c.count.new.self same next
          (c.in_ok-outcome.ensures.outcome settings first events server.at) c.count.ensures server.counted;
      tallied = IsTallied-then settings first events event (settings_of c.step.new.self) (events_so_far c.then.result) _ server.outcomes c.count-2.new.self same next
          (ap word_of (c.in_ok-outcome.ensures.outcome settings first events server.at)) c.count-2.ensures server.tallied;
    }

pub returns-clause-counts : goal.returns-clause-counts
returns-clause-counts g c =
    let server = c.args.self.now in
    let is = c.in_ok-outcome.ensures.outcome (settings_of server.relay) server.first.value (events_so_far server.course) server.at in
    let counted = c.count.ensures ∙ ap (with_outcome server.counts c.args.event.now) is in
    elim c.match-change.branch [
      | in-Some w ↦ ap counts_in w.self-is ∙ counted
      | in-None w ↦ ap counts_in w.self-is ∙ counted
    ]

pub returns-clause-sends : goal.returns-clause-sends
returns-clause-sends g c =
    let server = c.args.self.now in c.in_ok-outcome.ensures.sends (settings_of server.relay) server.first.value (events_so_far server.course) server.at
