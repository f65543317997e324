-- What the events of a gateway came to, counted by word.
use Rattle.std.{proofs.{Common.{◌≡◌, ℕ, ◌<◌, ◌^◌, List, [], ◌∷◌, ◌++◌, length, map, refl, sym, ap, subst, ◌∙◌, arith}, Math.Logic.{∥∥₁_elim}, Props.{props}, lemmas.List.{length-map, map-append}}}
use mathlib.Core.Sum.{⊎_set}
use Rattle.control_lines.specs.Tally.{AreApart, HasCounted, IsTallyOfFew, numbers_of}
use Rattle.relay_machine.{specs.Courses.{each_after}, proofs.Courses.{each_more}}
use Rattle.gateway_machine.specs.{Runs.{After, GatewayAt}, declared.{event.GatewayEvent.{GatewayEvent}, gateway.Gateway.{Gateway}, outcome.GatewayOutcome.{GatewayOutcome}, settings.GatewaySettings.{GatewaySettings}}}
use Rattle.gateway_serving.specs.{OutcomeWords.{IsTallied, outcome_after, outcome_words, outcomes_of, word_of, words_said}, declared.outcomes.Outcomes.{Outcomes}}

-- no word stands at two places
pub words_apart : AreApart outcome_words
words_apart = refl

length-each_after : {E A : Type 0} (answer : List E → E → A) (before events : List E) → length (each_after answer before events) ≡ length events
length-each_after answer before [] = refl
length-each_after answer before (event ∷ rest) = let later = length-each_after answer (before ++ event ∷ []) rest in omega (arith, later)

-- nothing is counted where nothing has happened
pub IsTallied-none : (settings : GatewaySettings) (first : ℕ) (events : List GatewayEvent) (outcomes : Outcomes) → events ≡ [] → outcomes.tally ≡ numbers_of outcome_words []
    → IsTallied settings first events outcomes
IsTallied-none settings first events outcomes none numbers =
    subst (λ (list : List GatewayEvent). IsTallied settings first list outcomes) (sym none) numbers

-- so few words can be counted
pub IsTallied-few : (settings : GatewaySettings) (first : ℕ) (events : List GatewayEvent) (outcomes : Outcomes) → IsTallied settings first events outcomes → length events < 2 ^ 62
    → IsTallyOfFew outcome_words outcomes.tally
IsTallied-few settings first events outcomes tallied few = (
  words_said settings first events,
  tallied,
  omega (arith, length-map (outcomes_of settings first events) word_of, length-each_after (outcome_after settings first) [] events, few),
)

module _ (settings : GatewaySettings) (first : ℕ) (events : List GatewayEvent) (event : GatewayEvent) where
  said_more : words_said settings first (events ++ event ∷ []) ≡ words_said settings first events ++ word_of (outcome_after settings first events event) ∷ []
  said_more =
      ap (map word_of) (each_more (outcome_after settings first) [] events event)
      ∙ map-append word_of (outcomes_of settings first events) (outcome_after settings first events event ∷ [])

  -- one outcome more
  pub IsTallied-then : (later : List GatewayEvent) (outcome : GatewayOutcome) (outcomes outcomes' : Outcomes) → later ≡ events ++ event ∷ []
      → outcome ≡ outcome_after settings first events event → HasCounted outcome_words (word_of outcome) outcomes.tally outcomes'.tally → IsTallied settings first events outcomes → IsTallied settings first later outcomes'
  IsTallied-then later outcome outcomes outcomes' next is counted tallied =
      counted (words_said settings first events) tallied
      ∙ ap (λ (one : GatewayOutcome). numbers_of outcome_words (words_said settings first events ++ word_of one ∷ [])) is
      ∙ ap (numbers_of outcome_words) (sym said_more)
      ∙ ap (λ (list : List GatewayEvent). numbers_of outcome_words (words_said settings first list)) (sym next)

-- the same of a gateway that these events may have left where it is
pub IsTallied-step : (settings after : GatewaySettings) (first : ℕ) (events later : List GatewayEvent) (gateway : Gateway) (event : GatewayEvent) (outcome : GatewayOutcome) (outcomes outcomes' : Outcomes)
    → ∥ GatewayAt gateway settings first events ∥₁ → After gateway (λ settings first events. outcome ≡ outcome_after settings first events event) → after ≡ settings → later ≡ events ++ event ∷ []
    → HasCounted outcome_words (word_of outcome) outcomes.tally outcomes'.tally → IsTallied settings first events outcomes → IsTallied after first later outcomes'
IsTallied-step settings after first events later gateway event outcome outcomes outcomes' at answers same next counted tallied =
    subst (λ (one : GatewaySettings). IsTallied one first later outcomes') (sym same)
    (∥∥₁_elim at (hlevel (props, ⊎_set))
    (λ at. IsTallied-then settings first events event later outcome outcomes outcomes' next (answers settings first events at) counted tallied))
