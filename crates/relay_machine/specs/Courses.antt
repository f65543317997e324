-- What the events of a list come to, one after the other.
use Rattle.std.specs.Prelude.{Bool, true, false, List, [], ◌∷◌, ◌++◌}
use Rattle.response_mac.specs.declared.secret.Secret.{Secret}
use Rattle.relay_machine.specs.{declared.{event.Event.{Event}, outcome.Outcome.{Outcome, TheVariants.{TornDown, Updated}}, settings.Settings.{Settings}}, Answers.{outcome_of}}

-- what is answered to each event, after these before all of them and those before it
abbrev pub each_after : {E A : Type 0} → (List E → E → A) → List E → List E → List A
each_after answer before [] = []
each_after answer before (event ∷ rest) = answer before event ∷ each_after answer (before ++ event ∷ []) rest

-- what each event of a run comes to
abbrev pub outcomes_of : Settings → Secret → List Event → List Outcome
outcomes_of settings first events = each_after (outcome_of settings first) [] events

-- an Update was accepted
abbrev pub is_updated : Outcome → Bool
is_updated Updated = true
is_updated other = false

-- a Teardown of a live endpoint was accepted
abbrev pub is_torn : Outcome → Bool
is_torn TornDown = true
is_torn other = false
