-- What the events of a run came to, counted by word.
use Rattle.std.{proofs.{Common.{◌≡◌, ℕ, ◌<◌, ◌^◌, List, [], ◌∷◌, ◌++◌, length, map, refl, sym, ap, subst, ◌∙◌, arith}, lemmas.List.{length-map, map-append}}, specs.Prelude.{Result, Ok, Err}}
use Rattle.amt_values.specs.EndpointValue.{EndpointValue}
use Rattle.control_lines.specs.Tally.{AreApart, IsTallyOfFew, numbers_of}
use Rattle.inner_datagrams.specs.declared.head.Head.{Head}
use Rattle.response_mac.specs.declared.secret.Secret.{Secret}
use Rattle.relay_machine.{specs.{Answers.{outcome_of}, Courses.{outcomes_of}, EventAnswer.{packet_answer}, Packets.{head_to_copy}, declared.{event.Event.{Event, TheVariants.{Packet}}, outcome.Outcome.{Outcome}, settings.Settings.{Settings}}}, proofs.Courses.{each_more}}
use Rattle.relay_serving.{specs.{Happenings.{Happening, events_among}, OutcomeWords.{CountsWord, IsTallied, outcome_words, packet_word, word_of}, declared.outcomes.Outcomes.{Outcomes}}, proofs.Counting.{length-each_after}}

-- no word stands at two places
pub words_apart : AreApart outcome_words
words_apart = refl

-- the word of a packet is that of its outcome, whoever gets copies
packet_word-is : (targets : Head → List EndpointValue) (packet : List ℕ) (reading : Result Head Outcome) → packet_word reading ≡ word_of (packet_answer targets packet reading).outcome
packet_word-is targets packet (Ok head) = refl
packet_word-is targets packet (Err outcome) = refl

-- nothing is counted where nothing has happened
pub IsTallied-none : (settings settings' : Settings) (first : Secret) (past : List Happening) (outcomes : Outcomes) → settings' ≡ settings → past ≡ [] → outcomes.limit ≡ settings.packet_limit
    → outcomes.tally ≡ numbers_of outcome_words [] → IsTallied settings' first (events_among past) outcomes
IsTallied-none settings settings' first past outcomes same none limit numbers =
    subst (λ (list : List Happening). IsTallied settings' first (events_among list) outcomes) (sym none)
    (record { numbers_are = numbers; limit_is = limit ∙ ap (λ (one : Settings). one.packet_limit) (sym same) })

-- one outcome more
module _ (settings : Settings) (first : Secret) (events : List Event) (event : Event) where
  said_more : map word_of (outcomes_of settings first (events ++ event ∷ [])) ≡ map word_of (outcomes_of settings first events) ++ word_of (outcome_of settings first events event) ∷ []
  said_more =
      ap (map word_of) (each_more (outcome_of settings first) [] events event)
      ∙ map-append word_of (outcomes_of settings first events) (outcome_of settings first events event ∷ [])

  pub IsTallied-then : (after : Settings) (later : List Event) (word : List ℕ) (outcomes outcomes' : Outcomes) → after ≡ settings → later ≡ events ++ event ∷ []
      → word ≡ word_of (outcome_of settings first events event) → CountsWord word outcomes outcomes' → IsTallied settings first events outcomes → IsTallied after first later outcomes'
  IsTallied-then after later word outcomes outcomes' same next is counted tallied = record {
    numbers_are = counted.numbers (map word_of (outcomes_of settings first events)) tallied.numbers_are
        ∙ ap (λ (one : List ℕ). numbers_of outcome_words (map word_of (outcomes_of settings first events) ++ one ∷ [])) is
        ∙ ap (numbers_of outcome_words) (sym said_more)
        ∙ (λ i. numbers_of outcome_words (map word_of (outcomes_of (sym same i) first (sym next i))));
    limit_is = counted.same_limit ∙ tallied.limit_is ∙ ap (λ (one : Settings). one.packet_limit) (sym same);
  }

-- the same of a packet
pub IsTallied-packet : (settings : Settings) (first : Secret) (events later : List Event) (bytes octets : List ℕ) (outcomes outcomes' : Outcomes) → later ≡ events ++ Packet bytes ∷ []
    → octets ≡ bytes → CountsWord (packet_word (head_to_copy outcomes.limit octets)) outcomes outcomes' → IsTallied settings first events outcomes → IsTallied settings first later outcomes'
IsTallied-packet settings first events later bytes octets outcomes outcomes' next same counted tallied =
    IsTallied-then settings first events (Packet bytes) settings later _ outcomes outcomes' refl next
    ((λ i. packet_word (head_to_copy (tallied.limit_is i) (same i))) ∙ packet_word-is _ bytes (head_to_copy settings.packet_limit bytes)) counted tallied

-- so few words can be counted
pub IsTallied-few : (settings : Settings) (first : Secret) (events : List Event) (outcomes : Outcomes) → IsTallied settings first events outcomes → length events < 2 ^ 62 → IsTallyOfFew outcome_words outcomes.tally
IsTallied-few settings first events outcomes tallied few = (
  map word_of (outcomes_of settings first events),
  tallied.numbers_are,
  omega (arith, length-map (outcomes_of settings first events) word_of, length-each_after (outcome_of settings first) [] events, few),
)
