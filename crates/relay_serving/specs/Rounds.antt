-- What a run is asked for after its whole turns, and what it answers.
use Rattle.std.specs.Prelude.{◌≡◌, ℕ, ◌+◌, List, [], ◌∷◌, ◌++◌, count_by, length, sum_by, take, Option, None, Some}
use Rattle.amt_ports.specs.Sends.{TriedSend, sent_count, unsent_count}
use Rattle.response_mac.specs.declared.secret.Secret.{Secret}
use Rattle.relay_machine.specs.declared.settings.Settings.{Settings}
use Rattle.relay_serving.specs.{Asked.{IsRound, Round, refused_in}, Controls.{ControlSeen}, Counting.{is_late, starved_in}, Events.{happenings_from}, Happenings.{events_among}, Replies.{Standing, replies_at}, Sending.{answers_after}, Turns.{Turn}}

-- by the settings, the first secret, the number of workers, and all that the link of the run tried to send, in order
module _ (settings : Settings) (first : Secret) (workers : ℕ) (sends : List TriedSend) where
  -- those of them that were tried in these first turns: one for each answer to a datagram
  abbrev pub sends_in : List Turn → List TriedSend
  sends_in turns = take (length (answers_after settings first [] (events_among (happenings_from 0 turns)))) sends

  -- where the run stands after these first turns, all whole, and after rounds in which memory refused this number of answers
  abbrev pub standing_after : List Turn → ℕ → Standing
  standing_after turns refused = record {
    happenings = happenings_from 0 turns;
    turns = length turns;
    sent = sent_count (sends_in turns);
    unsent = unsent_count (sends_in turns);
    starved = sum_by starved_in turns + refused;
    late = count_by is_late turns;
  }

  -- one round after each turn
  pub data AreRounds (start : ControlSeen) : List Turn → List Round → ControlSeen → Type 0 where
    no_round : AreRounds start [] [] start
    round_more : (turns : List Turn) (rounds : List Round) (now : ControlSeen) → AreRounds start turns rounds now
        → (turn : Turn) (round : Round) (after : ControlSeen)
        → IsRound (replies_at settings first workers (standing_after (turns ++ turn ∷ []) (sum_by refused_in rounds))) round now after
        → AreRounds start (turns ++ turn ∷ []) (rounds ++ round ∷ []) after

  -- without a control there is none
  abbrev pub ControlServes : Option ControlSeen → Option ControlSeen → List Turn → List Round → Type 0
  ControlServes None None turns rounds = rounds ≡ []
  ControlServes None (Some after) turns rounds = ⊥
  ControlServes (Some before) None turns rounds = ⊥
  ControlServes (Some before) (Some after) turns rounds = AreRounds before turns rounds after
