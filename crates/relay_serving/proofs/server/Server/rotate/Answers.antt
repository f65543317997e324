use Rattle.std.{proofs.Common.{◌++◌, ◌∷◌, [], refl, sym, ap, subst, ◌∙◌, arith}, specs.Prelude.{None}}
use Rattle.published_table.specs.Publishers.{owing, published}
use Rattle.relay_machine.specs.{Answers.{settings_of}, Settings.{AreLawfulSettings}, declared.{event.Event.TheVariants.{Rotate}, outcome.Outcome.TheVariants.{Rotated}, settings.Settings.{Settings}}}
use Rattle.replication_workers.specs.Dispatchers.{slots_of}
use Rattle.relay_serving.{specs.{Courses.{events_so_far, happenings_so_far}, GivenOut.{terms_by}, Happenings.{Took}}, proofs.{Counting.{IsCounted-then, secret-uncounted}, Entering.{at-next, given_out-other, log-next, shown-next}, Happenings.{events-next}, OutcomeCounts.{IsTallied-few, IsTallied-then}, Traces.{adds_none, server_does}}}
use Rattle.relay_serving.proofs.server.Server.rotate.Goals as goal

pub count-requires : goal.count-requires
count-requires g c =
    let server = c.args.self.now in
    let few = c.requires in
    record { few = IsTallied-few (settings_of server.relay) server.first.value (events_so_far server.course) server.outcomes server.tallied (omega (arith, few)) }

pub invariant_of-self : goal.invariant_of-self
invariant_of-self g c =
    let server = c.args.self.now in
    let settings = settings_of server.relay in
    let first = server.first.value in
    let past = happenings_so_far server.course in
    let events = events_so_far server.course in
    let event = Rotate c.args.secret in
    let same = c.step.ensures.settings in
    let happened = c.then.ensures in
    let next = events-next past (happenings_so_far c.then.result) event happened in
    let publisher = server.publisher in record {
      at = at-next c.step.new.self settings first events (events_so_far c.then.result) event same next (c.in-Ok.ensures.next settings first events server.at);
      lawful = subst (λ (known : Settings). ∥ AreLawfulSettings known ∥₁) (sym same) server.lawful;
      log = log-next settings (settings_of c.step.new.self) first events (events_so_far c.then.result) event (published publisher ++ owing publisher) _ None same next refl refl server.log;
      shown = shown-next settings (settings_of c.step.new.self) first past (happenings_so_far c.then.result) event (published publisher) (published publisher) same happened refl server.shown;
      terms = server.terms ∙ ap terms_by (sym same);
      given_out = given_out-other settings (settings_of c.step.new.self) first past (happenings_so_far c.then.result) (Took event) (slots_of server.dispatcher) same happened refl server.given_out;
      publishers = server.publishers;
      counted = IsCounted-then settings (settings_of c.step.new.self) first events (events_so_far c.then.result) event Rotated server.counts server.counts same next refl (secret-uncounted server.counts c.args.secret) server.counted;
      tallied = IsTallied-then settings first events event (settings_of c.step.new.self) (events_so_far c.then.result) _ server.outcomes c.count.new.self same next refl c.count.ensures server.tallied;
    }

pub returns : goal.returns
returns g c = record {
  takes = server_does (Took (Rotate c.args.secret) ∷ []) 0 0 1 0
      (record { same = record { same_settings = c.step.ensures.settings; same_first = refl; same_starts = refl; same_book = refl; same_mode = refl; same_tasks = λ task_of run. run }; happened = c.then.ensures })
      (adds_none c.args.self.now.counts) refl (omega arith);
}
