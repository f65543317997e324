-- The answers to lines in a whole run: after each whole turn those who asked in it are answered.
use Rattle.std.specs.Prelude.{◌≡◌, ℕ, ◌+◌, List, [], ◌∷◌, ◌++◌, length, map, sum_by, take}
use Rattle.amt_ports.specs.{Devices.{LinkSeen}, Sends.{TriedSend, unsent_count}}
use Rattle.amt_values.specs.declared.peer.Peer.{Peer}
use Rattle.gateway_machine.specs.declared.{event.GatewayEvent.{GatewayEvent}, settings.GatewaySettings.{GatewaySettings}}
use Rattle.control_lines.specs.Answer.{IsUntried}
use Rattle.gateway_serving.specs.{Askers.{AreAnswered, Reply, askers_of, refused_among}, Counting.{bad_lines_taken, datagrams_heard, lines_taken, starved_in}, Events.{events_from}, Replies.{Standing}, Servers.{Setup, wanted_packets, wanted_sends}, Turns.{Turn}}

-- as many of the first sends as are wanted here: how many of those weren't taken
abbrev pub unsent_of : List (Peer × List ℕ) → List TriedSend → ℕ
unsent_of wanted tried = unsent_count (take (length wanted) tried)

-- By the setup, the events before the first turn, the latest moment then, and all that link and out tried in the run.
module _ (setup : Setup) (begun : List GatewayEvent) (latest : ℕ) (sends packets : List TriedSend) where
  abbrev pub events_by : List Turn → List GatewayEvent
  events_by turns = begun ++ events_from latest turns

  -- where the run stands after these whole turns; memory refused this number of answers to lines of earlier ones
  abbrev pub standing_after : List Turn → ℕ → Standing
  standing_after turns refused = record {
    events = events_by turns;
    turns = length turns;
    datagrams = sum_by datagrams_heard turns;
    controls = sum_by lines_taken turns;
    bad_controls = sum_by bad_lines_taken turns;
    delivered = length (wanted_packets setup [] (events_by turns));
    unsent = unsent_of (wanted_sends setup [] (events_by turns)) sends + unsent_of (wanted_packets setup [] (events_by turns)) packets;
    starved = sum_by starved_in turns + refused;
  }

module _ (settings : GatewaySettings) (first : ℕ) (stand : List Turn → ℕ → Standing) where
  -- by the control nothing was tried in the turn; then exactly those who asked in it were answered, each alone
  pub record IsRound (standing : Standing) (turn : Turn) (round : List Reply) (before after : LinkSeen) : Type 0 where
    pub heard : LinkSeen
    pub untried : IsUntried before heard
    pub to_askers : map (λ one. one.asker) round ≡ askers_of turn
    pub answered : AreAnswered settings first standing heard round after

  -- one round after each turn
  pub data AreRounds (start : LinkSeen) : List Turn → List (List Reply) → LinkSeen → Type 0 where
    no_round : AreRounds start [] [] start
    round_more : (turns : List Turn) (rounds : List (List Reply)) (now : LinkSeen) → AreRounds start turns rounds now
        → (turn : Turn) (round : List Reply) (after : LinkSeen) → IsRound (stand (turns ++ turn ∷ []) (sum_by refused_among rounds)) turn round now after
        → AreRounds start (turns ++ turn ∷ []) (rounds ++ round ∷ []) after
