-- The limits in force after events.
use Rattle.std.{proofs.{Common.{◌≡◌, ℕ, ◌≤◌, ◌∷◌, ◌++◌, [], Bool, List, le_refl, refl, ap, if◌then◌else◌, ◌∙◌}, lemmas.{Bool.{cond_both, le-leb, leb-true, Decides.{Decides-and, Decides-like}}, List.Sums.{fold-append}}}, specs.{Bool.{Decides}, List.{fold}}}
use Rattle.response_mac.specs.declared.secret.Secret.{Secret}
use Rattle.endpoint_membership.specs.{Limits.{AreAtMost, AreWithin}, declared.limits.Limits.{Limits as LimitNumbers}}
use Rattle.relay_machine.specs.{declared.{event.Event.{Event, TheVariants.{Moment, Rotate, Limits}}, settings.Settings.{Settings}}, EventSize.{IsPayload}, Events.{is_from_one_to, limits_after, limits_at, may_be_in_force}}

is_from_one_to-true : (given number : ℕ) → Decides (is_from_one_to given number) ((1 ≤ number) × (number ≤ given))
is_from_one_to-true given number =
    Decides-and _ _ (leb-true 1 number, le-leb 1 number) (leb-true number given, le-leb number given)

-- the test of limits says whether they may be in force
pub may_be_in_force-true : (given limits : LimitNumbers) → Decides (may_be_in_force given limits) (AreWithin given limits)
may_be_in_force-true given limits =
    Decides-like _ (λ all. record { endpoints = all.0; groups = all.1.0; sources = all.1.1 }) (λ within. (within.endpoints, (within.groups, within.sources)))
    (Decides-and _ _ (is_from_one_to-true given.endpoints limits.endpoints)
    (Decides-and _ _ (is_from_one_to-true given.groups limits.groups) (is_from_one_to-true given.sources limits.sources)))

-- one event more
limits_at-push : (settings : Settings) (events : List Event) (event : Event) → limits_at settings (events ++ event ∷ []) ≡ limits_after settings (limits_at settings events) event
unfolding limits_at
limits_at-push settings events event = fold-append (limits_after settings) settings.limits events (event ∷ [])

pub limits_at-moment : (settings : Settings) (events : List Event) (moment : ℕ) → limits_at settings (events ++ Moment moment ∷ []) ≡ limits_at settings events
limits_at-moment settings events moment = limits_at-push settings events (Moment moment)

payload_limits : (settings : Settings) (limits : LimitNumbers) (event : Event) → IsPayload event → limits_after settings limits event ≡ limits
payload_limits settings limits (Moment moment) payload = absurd payload
payload_limits settings limits (Rotate secret) payload = absurd payload
payload_limits settings limits (Limits new) payload = absurd payload
payload_limits settings limits event payload = refl

pub limits_at-payload : (settings : Settings) (events : List Event) (event : Event) → IsPayload event → limits_at settings (events ++ event ∷ []) ≡ limits_at settings events
limits_at-payload settings events event payload = limits_at-push settings events event ∙ payload_limits settings (limits_at settings events) event payload

pub limits_at-rotate : (settings : Settings) (events : List Event) (secret : Secret) → limits_at settings (events ++ Rotate secret ∷ []) ≡ limits_at settings events
limits_at-rotate settings events secret = limits_at-push settings events (Rotate secret)

-- limits that a relay takes are in force then
pub limits_at-limits : (settings : Settings) (events : List Event) (limits : LimitNumbers) → AreWithin settings.limits limits → limits_at settings (events ++ Limits limits ∷ []) ≡ limits
limits_at-limits settings events limits within =
    limits_at-push settings events (Limits limits) ∙ ap (λ (test : Bool). if test then limits else limits_at settings events) ((may_be_in_force-true settings.limits limits).1 within)

after_at_most : (settings : Settings) (limits : LimitNumbers) (event : Event) → AreAtMost settings.limits limits → AreAtMost settings.limits (limits_after settings limits event)
after_at_most settings limits (Limits new) less =
    cond_both (may_be_in_force settings.limits new) new limits (λ (one : LimitNumbers). AreAtMost settings.limits one)
    (λ may. let within = (may_be_in_force-true settings.limits new).0 may in record { endpoints = within.endpoints.1; groups = within.groups.1; sources = within.sources.1 })
    (λ _. less)
after_at_most settings limits event less = less

fold_at_most : (settings : Settings) (limits : LimitNumbers) (events : List Event) → AreAtMost settings.limits limits → AreAtMost settings.limits (fold (limits_after settings) limits events)
fold_at_most settings limits [] less = less
fold_at_most settings limits (event ∷ events) less = fold_at_most settings (limits_after settings limits event) events (after_at_most settings limits event less)

-- they are at most those of the settings
pub AreAtMost-limits_at : (settings : Settings) (events : List Event) → AreAtMost settings.limits (limits_at settings events)
unfolding limits_at
AreAtMost-limits_at settings events =
    fold_at_most settings settings.limits events (record { endpoints = le_refl settings.limits.endpoints; groups = le_refl settings.limits.groups; sources = le_refl settings.limits.sources })
