-- What lines that ask a running relay for something do, and what is done to the relay.
use Rattle.std.specs.Prelude.{◌≡◌, ℕ, ◌+◌, ◌*◌, Bool, false, List, length, sum_by, Option, None, Some, Result}
use Rattle.amt_ports.specs.{Told.{Appends}, declared.out_link.OutLink.{Ghosts}}
use Rattle.amt_values.specs.declared.peer.Peer.{Peer}
use Rattle.control_lines.specs.{Answer.{HasAnswer, is_answer}, declared.asking.Asking.{Asking}}
use Rattle.script_lines.specs.declared.reason.Reason.{Reason}
use Rattle.relay_serving.specs.{Asked.{Asked, EndsRound, IsAnswered, IsEnd, IsRead, IsRound, Round, RoundEnd, is_stop, is_stopped, refused_in}, Controls.{ControlSeen}, Counting.{one_if, starved_in}, Replies.{Replying, Standing, replies_at}, declared.control.CopyCount.{CopyCount}}
use Rattle.relay_serving.specs.{Servers.{counts_in, first_in, happenings_in, settings_in}, Traces.{ServerDoes, Trace, in_turns, nothing, refusing}, Turns.{Turn}, declared.server.{Server.{Server}, asking.Answered.{Answered}}}

-- turns, before which this moment was the latest, and after them this number of answers that memory refused
abbrev pub in_turns_refusing : ℕ → List Turn → ℕ → Trace
in_turns_refusing latest turns refused = record (in_turns latest turns) {
  starved = sum_by starved_in turns + refused;
  tally = 131 * length turns + refused;
}

-- a line that came was answered by this text
pub record LineSo (text : Result Asking Reason → CopyCount → List ℕ) (from : Peer) (line : List ℕ) (before after : ControlSeen) (answered : Answered) : Type 0 where
  pub reading : Result Asking Reason
  pub copied : CopyCount
  pub starved : Bool
  pub read : IsRead line reading
  pub counted : Appends before.copies after.copies copied
  pub answer : HasAnswer (is_answer line) starved from (text reading copied) before.link after.link
  pub same_coming : after.link.coming ≡ before.link.coming
  pub calm : after.link.receive_faults ≡ before.link.receive_faults
  pub same_wait : after.wait ≡ before.wait
  pub stops_is : answered.stops ≡ is_stop reading
  pub refused_is : answered.refused ≡ one_if starved

-- a line was answered, or no line was there
abbrev pub NextSo : (Result Asking Reason → CopyCount → List ℕ) → ControlSeen → ControlSeen → Option Answered → Type 0
NextSo text before after (Some answered) = (one : Asked) × IsAnswered text one before after × (answered.stops ≡ is_stop one.reading) × (answered.refused ≡ one_if one.starved)
NextSo text before after None = (ending : RoundEnd) × IsEnd ending 0 × EndsRound ending before after

-- all lines of a turn
pub record RoundSo (replying : Replying) (before after : ControlSeen) (answered : Answered) : Type 0 where
  pub round : Round
  pub is_round : IsRound replying round before after
  pub stops_is : answered.stops ≡ is_stopped round
  pub refused_is : answered.refused ≡ refused_in round

module _ {O : Type 0} {g : Ghosts O} {T : Type 0} where
  -- where it stands, if this number of turns was whole
  abbrev pub standing_in : ℕ → Server O T g → Standing
  standing_in turns server = record {
    happenings = happenings_in server;
    turns = turns;
    sent = (counts_in server).sent;
    unsent = (counts_in server).unsent;
    starved = (counts_in server).starved;
    late = (counts_in server).late;
  }

  -- the same, and what is counted of that
  pub record AnswersSo (workers turns : ℕ) (before after : Server O T g) (control control' : ControlSeen) (stops : Bool) : Type 0 where
    pub round : Round
    pub is_round : IsRound (replies_at (settings_in before) (first_in before) workers (standing_in turns before)) round control control'
    pub stops_is : stops ≡ is_stopped round
    pub does : ServerDoes (refusing (refused_in round)) before after

  -- where there is a control
  abbrev pub AsksSo : ℕ → ℕ → Server O T g → Server O T g → Option ControlSeen → Option ControlSeen → Bool → Type 0
  AsksSo workers turns before after None None stops = (stops ≡ false) × ServerDoes nothing before after
  AsksSo workers turns before after None (Some control') stops = ⊥
  AsksSo workers turns before after (Some control) None stops = ⊥
  AsksSo workers turns before after (Some control) (Some control') stops = AnswersSo workers turns before after control control' stops
