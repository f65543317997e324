-- What steps hand out is the published log.
use Rattle.std.proofs.Common.{◌≡◌, ◌<◌, ◌⊎◌, ℕ, max, not, Bool, true, false, List, [], ◌∷◌, ◌++◌, reverse, take, drop, Option, Some, None, refl, sym, ap, subst, ◌∙◌, arith, inl, inr, le_refl, ⊎_elim, if◌then◌else◌}
use Rattle.amt_values.specs.EndpointValue.{EndpointValue}
use Rattle.response_mac.specs.{declared.secret.Secret.{Secret}, ResponseMac.{SecretsValue}}
use Rattle.endpoint_membership.specs.{Limits.{IsWithin}, Log.{brought, latest}, Memberships.{is_live, memberships_at}, Published.{AnswerAlike, ClearingsLetNoTimePass, IsPublishedPart, published_of, with_published}}
use Rattle.endpoint_membership.{specs.{Table.{TableSettings, memberships_now}, declared.change.Change.{Change, TheVariants.{Mark, Clear, Reported}}}, proofs.PublishedLog.{AnswerAlike-published, IsPublishedPart-prefix, published-next, published-none}}
use Rattle.relay_machine.specs.{declared.{event.Event.{Event, TheVariants.{Moment}}, settings.Settings.{Settings}}, Accepted.{accepted_back, accepted_log, change_of, entry_after, entry_of, handed_out, with_change}, EventAnswer.{event_answer}}
use Rattle.relay_machine.{specs.{Events.{now_of, secrets_of, settings_at}, Published.{published_log}, Settings.{AreLawfulSettings, membership_interval_ms, table_settings_of}}, proofs.{Judged.{IsMadeAt, latest_back, unmoved-made}, Limits.{always_within}, Numbers.{AreLawful-settings}, Onward.{accepted-push}}}
pub use Rattle.relay_machine.proofs.Judged.{latest-accepted_log}

-- a clearing is made at the moment of the events before it
abbrev ClearsAt : ℕ → Option Change → Type 0
ClearsAt moment entry = (endpoint : EndpointValue) (at : ℕ) → entry ≡ Some (Clear endpoint at) → at ≡ moment

brought_at : (change : Change) (endpoint : EndpointValue) (at : ℕ) → Some change ≡ Some (Clear endpoint at) → brought change ≡ at
brought_at change endpoint at is = ap brought_by is
  where
    brought_by : Option Change → ℕ
    brought_by None = 0
    brought_by (Some one) = brought one

made-clears : (moment : ℕ) (entry : Option Change) → IsMadeAt moment entry → ClearsAt moment entry
made-clears moment None made endpoint at is = cc
made-clears moment (Some change) made endpoint at is = sym (brought_at change endpoint at is) ∙ made

event-clears : (settings : Settings) (secrets : SecretsValue) (moment : ℕ) (log : List Change) (event : Event) → ClearsAt moment (event_answer settings secrets moment log event).entry
event-clears settings secrets moment log (Moment reported) = λ endpoint at is. absurd (no_clearing is)
  where
    no_clearing : {endpoint : EndpointValue} {at : ℕ} → Some (Mark (max moment reported)) ≡ Some (Clear endpoint at) → ⊥
    no_clearing same = cc
event-clears settings secrets moment log event = made-clears moment (event_answer settings secrets moment log event).entry (unmoved-made settings secrets moment log event refl)

-- where a log with one more entry is cut: at that entry, or before it
abbrev IsCutBefore : List Change → List Change → Change → Type 0
IsCutBefore log before cut = (more : List Change) × (log ≡ before ++ cut ∷ more)

abbrev first_of : Change → List Change → Change
first_of other [] = other
first_of other (entry ∷ rest) = entry

cut_last : (log before after : List Change) (entry cut : Change) → log ++ entry ∷ [] ≡ before ++ cut ∷ after
    → ((log ≡ before) × (entry ≡ cut)) ⊎ IsCutBefore log before cut
cut_last [] [] after entry cut is = inl (refl, ap (first_of entry) is)
cut_last [] (one ∷ before) after entry cut is = absurd (nowhere before (ap (drop 1) is))
  where
    nowhere : (earlier : List Change) → [] ≡ earlier ++ cut ∷ after → ⊥
    nowhere [] none = cc
    nowhere (first ∷ earlier) none = cc
cut_last (one ∷ log) [] after entry cut is = inr (log, ap (λ (first : Change). first ∷ log) (ap (first_of one) is))
cut_last (one ∷ log) (other ∷ before) after entry cut is =
    let head = ap (first_of one) is in
    ⊎_elim (λ (here : (log ≡ before) × (entry ≡ cut)). inl ((λ i. head i ∷ here.0 i), here.1))
    (λ (there : IsCutBefore log before cut). inr (there.0, (λ i. head i ∷ there.1 i)))
    (cut_last log before after entry cut (ap (drop 1) is))

timely-with : (log : List Change) (entry : Option Change) (moment : ℕ) → latest log ≡ moment → ClearsAt moment entry → ClearingsLetNoTimePass log → ClearingsLetNoTimePass (with_change log entry)
timely-with log None moment same clears timely = timely
timely-with log (Some change) moment same clears timely = λ before after endpoint at cut.
    ⊎_elim (λ (here : (log ≡ before) × (change ≡ Clear endpoint at)).
    let made = clears endpoint at (ap (λ (one : Change). Some one) here.1) in
    let there = ap latest here.0 in omega (arith, made, same, there))
    (λ (there : IsCutBefore log before (Clear endpoint at)). timely before there.0 endpoint at there.1)
    (cut_last log before after change (Clear endpoint at) cut)

timely_back : (settings : Settings) (first : Secret) (back : List Event) → ClearingsLetNoTimePass (accepted_back settings first back)
unfolding accepted_back
timely_back settings first [] = λ before after endpoint at is. absurd (nothing_there before after endpoint at is)
  where
    nothing_there : (before after : List Change) (endpoint : EndpointValue) (at : ℕ) → [] ≡ before ++ Clear endpoint at ∷ after → ⊥
    nothing_there [] after endpoint at is = cc
    nothing_there (one ∷ before) after endpoint at is = cc
timely_back settings first (event ∷ earlier) =
    let log = accepted_back settings first earlier in
    let now = now_of (reverse earlier) in
    timely-with log (entry_after settings first (reverse earlier) log event) now (latest_back settings first earlier)
    (event-clears (settings_at settings (reverse earlier)) (secrets_of settings first (reverse earlier)) now log event) (timely_back settings first earlier)

timely : (settings : Settings) (first : Secret) (events : List Event) → ClearingsLetNoTimePass (accepted_log settings first events)
timely settings first events = timely_back settings first (reverse events)

-- a lawful lifetime is some time
some_time : (settings : Settings) → AreLawfulSettings settings → 0 < membership_interval_ms settings
some_time settings lawful = let least = (AreLawful-settings settings lawful).some_time in omega (arith, least)

-- what is handed out of an entry is what the published log grows by

clear_out : (live : Bool) (published : List Change) (endpoint : EndpointValue) (at : ℕ)
    → with_published (not live) published (Clear endpoint at) ≡ with_change published (if live then Some (Clear endpoint at) else None)
clear_out true published endpoint at = refl
clear_out false published endpoint at = refl

now_is : (at now : ℕ) → at ≡ now → max at now ≡ now
now_is at now same = omega arith

handed : (terms : TableSettings) (log : List Change) (entry : Option Change) → ClearsAt (latest log) entry
    → published_of terms.lifetime (with_change log entry) ≡ with_change (published_of terms.lifetime log) (handed_out terms log entry)
handed terms log None clears = refl
handed terms log (Some (Reported endpoint records at)) clears = published-next terms.lifetime log (Reported endpoint records at)
handed terms log (Some (Mark at)) clears = published-next terms.lifetime log (Mark at)
handed terms log (Some (Clear endpoint at)) clears =
    published-next terms.lifetime log (Clear endpoint at)
    ∙ ap (λ (later : ℕ). with_published (not (is_live endpoint (memberships_at terms.lifetime later log))) (published_of terms.lifetime log) (Clear endpoint at)) (now_is at (latest log) (clears endpoint at refl))
    ∙ clear_out (is_live endpoint (memberships_now terms log)) (published_of terms.lifetime log) endpoint at

pub published_log-next : (settings : Settings) (first : Secret) (events : List Event) (event : Event)
    → published_log settings first (events ++ event ∷ []) ≡ with_change (published_log settings first events) (change_of settings first events event)
published_log-next settings first events event =
    let log = accepted_log settings first events in
    let entry = entry_of settings first events event in
    ap (published_of (membership_interval_ms settings)) (accepted-push settings first events event)
    ∙ handed (table_settings_of settings) log entry (subst (λ (moment : ℕ). ClearsAt moment entry) (sym (latest-accepted_log settings first events)) (event-clears (settings_at settings events) (secrets_of settings first events) (now_of events) log event))

pub published_log-none : (settings : Settings) (first : Secret) → published_log settings first [] ≡ []
unfolding accepted_back
published_log-none settings first = published-none (membership_interval_ms settings)

pub published_log-whole : (settings : Settings) (first : Secret) (events : List Event) → AreLawfulSettings settings
    → AnswerAlike (membership_interval_ms settings) (published_log settings first events) (accepted_log settings first events)
published_log-whole settings first events lawful =
    AnswerAlike-published (membership_interval_ms settings) (accepted_log settings first events) (some_time settings lawful) (timely settings first events)

pub published_log-prefixes : (settings : Settings) (first : Secret) (events : List Event) (number : ℕ) → AreLawfulSettings settings
    → IsPublishedPart (membership_interval_ms settings) (take number (published_log settings first events)) (accepted_log settings first events)
published_log-prefixes settings first events number lawful =
    IsPublishedPart-prefix (membership_interval_ms settings) (accepted_log settings first events) number (some_time settings lawful) (timely settings first events)

pub published_log-within : (settings : Settings) (first : Secret) (events : List Event) → AreLawfulSettings settings
    → IsWithin settings.limits (memberships_now (table_settings_of settings) (published_log settings first events))
published_log-within settings first events lawful =
    let log = accepted_log settings first events in
    let alike = published_log-whole settings first events lawful in
    let terms = table_settings_of settings in
    subst (IsWithin settings.limits)
    (sym (ap (λ (moment : ℕ). memberships_at terms.lifetime moment (published_log settings first events)) alike.same_moment ∙ alike.memberships (latest log) (le_refl (latest log))))
    (always_within settings first events)
