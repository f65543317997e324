-- A run that takes one item more.
use Rattle.std.proofs.{Common.{◌≡◌, Result, Ok, Err, OnOk, List, [], ◌∷◌, ◌++◌, sym, ap, subst, ◌∙◌}, lemmas.List.{append-nil, Elements.{filter_map-append}}}
use Rattle.response_mac.specs.declared.secret.Secret.{Secret}
use Rattle.relay_machine.specs.{declared.{event.Event.{Event}, relay.Relay.{Relay}, settings.Settings.{Settings}}, Answers.{RelayAt, outcome_of}}
use Rattle.amt_script.specs.{declared.script.RelayItem.{RelayItem}, Texts.{event_in, events_in}}
use Rattle.amt_script.specs.declared.script.RelayItem.TheVariants as items
use Rattle.relay_load.{specs.{declared.run.Counts.{Counts}, Counting.{IsCounted, counts_of, with_outcome}}, proofs.Outcomes.{counts_more}}

-- an event was taken and counted
pub counted_event : (relay : Relay) (counts counts' : Counts) (settings : Settings) (first : Secret) (before : List RelayItem) (event : Event)
    → counts ≡ counts_of settings first (events_in before)
    → RelayAt relay settings first (events_in before ++ event ∷ [])
    → counts' ≡ with_outcome counts (outcome_of settings first (events_in before) event)
    → IsCounted relay counts' settings first (before ++ items.Event event ∷ [])
counted_event relay counts counts' settings first before event so_far at counted =
    let joined = filter_map-append event_in before (items.Event event ∷ []) in
    record {
      at = subst (RelayAt relay settings first) (sym joined) at;
      counts_are =
          counted
          ∙ (ap (λ (c : Counts). with_outcome c (outcome_of settings first (events_in before) event)) so_far
          ∙ (sym (counts_more settings first (events_in before) event)
          ∙ ap (counts_of settings first) (sym joined)));
    }

-- where memberships are shown, all is as it was
pub counted_show : (relay : Relay) (counts : Counts) (settings : Settings) (first : Secret) (before : List RelayItem)
    → IsCounted relay counts settings first before → IsCounted relay counts settings first (before ++ items.Show ∷ [])
counted_show relay counts settings first before so_far =
    let joined = filter_map-append event_in before (items.Show ∷ []) ∙ append-nil (events_in before) in
    record {
      at = subst (RelayAt relay settings first) (sym joined) so_far.at;
      counts_are = so_far.counts_are ∙ ap (counts_of settings first) (sym joined);
    }

-- two facts of a call that succeeded make a third
pub both_ok : {X E : Type 0} {A B C : Type 0} (result : Result X E) → (A → B → C) → OnOk result A → OnOk result B → OnOk result C
both_ok (Ok x) join a b = join a b
both_ok (Err e) join a b = tt
