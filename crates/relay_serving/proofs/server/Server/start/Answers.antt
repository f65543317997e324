use Rattle.std.{proofs.Common.{◌∙◌, ℕ, List, [], ◌++◌, sym, ap, subst, refl}, specs.List.{All}}
use Rattle.response_mac.specs.declared.secret.Secret.{Secret}
use Rattle.relay_machine.{specs.{declared.settings.Settings.{Settings}, Answers.{RelayAt, settings_of}, Published.{published_log}}, proofs.PublishedLog.{published_log-none}}
use Rattle.replication_workers.specs.Dispatchers.{slots_of}
use Rattle.published_table.specs.{Publishers.{book_of}, Views.{IsNew, views_of}}
use Rattle.relay_serving.{proofs.{Counting.{IsCounted-none}, OutcomeCounts.{IsTallied-none}, Starting.{none_given, of_publisher}}, specs.{Courses.{happenings_so_far}, GivenOut.{AreGivenOut, terms_by}, Happenings.{Happening, events_among, published_events_among}}}
use Rattle.relay_serving.proofs.server.Server.start.Goals as goal

pub start_slots-requires-clause-terms : goal.start_slots-requires-clause-terms
start_slots-requires-clause-terms g c = λ k d within.
    (c.in-Ok-with_views.ensures.views k d within).by ∙ (λ i. record { limits = c.args.settings.limits; lifetime_ms = c.lifetime_ms.ensures i })

pub invariant_of-result-clause-at : goal.invariant_of-result-clause-at
invariant_of-result-clause-at g c =
    let stands = c.in-Ok.ensures.stands in
    subst (λ (of : Settings × Secret × List Happening). RelayAt c.in-Ok.relay of.0 of.1 (events_among of.2))
    (λ i. (sym stands.settings_kept i, sym c.of.ensures i, sym c.new-in-Ok-start_slots-2.ensures i)) stands

pub invariant_of-result-clause-log : goal.invariant_of-result-clause-log
invariant_of-result-clause-log g c =
    let made = c.in-Ok-with_views.ensures.publisher in
    (λ i. made.0 i ++ made.1 i)
    ∙ sym (published_log-none (settings_of c.in-Ok.relay) c.of.result.value)
    ∙ ap (λ (past : List Happening). published_log (settings_of c.in-Ok.relay) c.of.result.value (events_among past)) (sym c.new-in-Ok-start_slots-2.ensures)

pub invariant_of-result-clause-shown : goal.invariant_of-result-clause-shown
invariant_of-result-clause-shown g c =
    c.in-Ok-with_views.ensures.publisher.0
    ∙ sym (published_log-none (settings_of c.in-Ok.relay) c.of.result.value)
    ∙ ap (λ (past : List Happening). published_log (settings_of c.in-Ok.relay) c.of.result.value (published_events_among past)) (sym c.new-in-Ok-start_slots-2.ensures)

pub invariant_of-result-clause-given_out : goal.invariant_of-result-clause-given_out
invariant_of-result-clause-given_out g c =
    subst (λ (past : List Happening). ∥ AreGivenOut (settings_of c.in-Ok.relay) c.of.result.value past (slots_of c.in-Ok-start_slots.dispatcher) ∥₁)
    (sym c.new-in-Ok-start_slots-2.ensures)
    ∣ record { jobs = []; are_due = refl; at_slots = none_given (slots_of c.in-Ok-start_slots.dispatcher) c.in-Ok-start_slots.ensures.jobs } ∣₁

-- the views are read by the settings' terms
made_new : (g : _) (c : goal.After-new-in-Ok-start_slots-2 g) → All (IsNew (book_of c.in-Ok-with_views.publisher) (terms_by c.args.settings)) (views_of c.in-Ok-with_views.views)
made_new g c =
    subst (λ (lifetime : ℕ). All (IsNew (book_of c.in-Ok-with_views.publisher) (record { limits = c.args.settings.limits; lifetime_ms = lifetime })) (views_of c.in-Ok-with_views.views))
    c.lifetime_ms.ensures c.in-Ok-with_views.ensures.views

pub invariant_of-result-clause-counted : goal.invariant_of-result-clause-counted
invariant_of-result-clause-counted g c =
    IsCounted-none (settings_of c.in-Ok.relay) c.of.result.value (happenings_so_far c.new-in-Ok-start_slots-2.result) c.new-in-Ok-start_slots.result
    c.new-in-Ok-start_slots-2.ensures c.new-in-Ok-start_slots.ensures

pub invariant_of-result-clause-tallied : goal.invariant_of-result-clause-tallied
invariant_of-result-clause-tallied g c =
    IsTallied-none c.args.settings (settings_of c.in-Ok.relay) c.of.result.value (happenings_so_far c.new-in-Ok-start_slots-2.result) c.in-Ok-new.outcomes
    c.in-Ok.ensures.stands.settings_kept c.new-in-Ok-start_slots-2.ensures c.in-Ok-new.ensures.limit c.in-Ok-new.ensures.none

pub invariant_of-result-clause-publishers : goal.invariant_of-result-clause-publishers
invariant_of-result-clause-publishers g c =
    of_publisher c.args.settings (book_of c.in-Ok-with_views.publisher) (slots_of c.in-Ok-start_slots.dispatcher)
    (c.in-Ok-start_slots.ensures.starts (book_of c.in-Ok-with_views.publisher) (made_new g c))

pub returns-in-Ok-start_slots-clause-started : goal.returns-in-Ok-start_slots-clause-started
returns-in-Ok-start_slots-clause-started g c =
    let made = c.in-Ok-with_views.ensures.publisher in
    record {
      settings_are = c.in-Ok.ensures.stands.settings_kept;
      first_is = c.of.ensures;
      none_happened = c.new-in-Ok-start_slots-2.ensures;
      none_counted = c.new-in-Ok-start_slots.ensures;
      none_published = made.0;
      none_owing = made.1;
      mode = c.in-Ok-start_slots.ensures.mode;
      outs_are = c.in-Ok-start_slots.ensures.outs;
      starts = c.in-Ok-start_slots.ensures.starts (book_of c.in-Ok-with_views.publisher)
          (subst (λ (lifetime : ℕ). All (IsNew (book_of c.in-Ok-with_views.publisher) (record { limits = c.args.settings.limits; lifetime_ms = lifetime })) (views_of c.in-Ok-with_views.views))
          c.lifetime_ms.ensures c.in-Ok-with_views.ensures.views);
    }
