-- What is counted after one event more.
use Rattle.std.proofs.Common.{◌≡◌, ℕ, List, [], ◌∷◌, ◌++◌, sum_by, count_by, if◌then◌else◌, refl, ap, ◌∙◌, length-append}
use Rattle.response_mac.specs.declared.secret.Secret.{Secret}
use Rattle.relay_machine.{specs.{declared.{event.Event.{Event}, settings.Settings.{Settings}}, Answers.{outcome_of}, Courses.{is_updated, outcomes_of}}, proofs.Courses.{each_more, sum_more}}
use Rattle.relay_load.specs.{declared.run.Counts.{Counts}, Counts.{copies_in}, Counting.{counts_of, with_outcome}}

abbrev with_counts : ℕ → ℕ → ℕ → Counts
with_counts events updated copied = record { events = events; updated = updated; copied = copied }

same_counts : (events updated copied events' updated' copied' : ℕ) → events ≡ events' → updated ≡ updated' → copied ≡ copied' → with_counts events updated copied ≡ with_counts events' updated' copied'
same_counts events updated copied events' updated' copied' same_events same_updated same_copied = rw (same_events, same_updated, same_copied) refl

-- one event more is counted by what it comes to
pub counts_more : (settings : Settings) (first : Secret) (events : List Event) (event : Event)
    → counts_of settings first (events ++ event ∷ []) ≡ with_outcome (counts_of settings first events) (outcome_of settings first events event)
counts_more settings first events event =
    let outcomes = outcomes_of settings first events in
    let last = outcome_of settings first events event in
    let all = each_more (outcome_of settings first) [] events event in
    same_counts _ _ _ _ _ _ (length-append events (event ∷ []))
    (ap (count_by is_updated) all ∙ sum_more (λ outcome. if is_updated outcome then 1 else 0) outcomes last)
    (ap (sum_by copies_in) all ∙ sum_more copies_in outcomes last)
