-- What is written of a relay's items.
use Rattle.std.proofs.{Common.{◌≡◌, ℕ, List, [], ◌∷◌, ◌++◌, refl, sym, subst}, lemmas.List.Elements.{filter_map-append}}
use Rattle.relay_machine.specs.{declared.{outcome.Outcome.{Outcome}, sends.OneSend.{OneSend}, settings.Settings.{Settings}, relay.Relay.{Relay}}, Answers.{RelayAt}}
use Rattle.response_mac.specs.declared.secret.Secret.{Secret}
use Rattle.amt_script.specs.{declared.script.RelayItem.{RelayItem}, Texts.{event_in, events_in, step_text}}

pub same_step : (number : ℕ) (o p : Outcome) (s t : List OneSend) → o ≡ p → s ≡ t → step_text number o s ≡ step_text number p t
same_step number o p s t same_outcome same_sends = rw (same_outcome, same_sends) refl

-- the events among one item more
pub one_more : (relay : Relay) (settings : Settings) (first : Secret) (before : List RelayItem) (item : RelayItem)
    → RelayAt relay settings first (events_in before ++ events_in (item ∷ [])) → RelayAt relay settings first (events_in (before ++ item ∷ []))
one_more relay settings first before item at = subst (RelayAt relay settings first) (sym (filter_map-append event_in before (item ∷ []))) at
