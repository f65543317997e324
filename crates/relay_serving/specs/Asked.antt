-- Lines that ask a running relay for something, and how they are answered.
use Rattle.std.specs.Prelude.{◌≡◌, ℕ, ◌+◌, ◌≤◌, ◌<◌, Bool, true, false, List, [], ◌∷◌, ◌++◌, count_by, length, Result, Ok, Err}
use Rattle.std.specs.List.{list_any}
use Rattle.amt_ports.specs.{Causes.{Rose}, Devices.{AnswersAll, LinkSeen}, Told.{Answers, Appends}, declared.link.LinkAnswer.{LinkAnswer, TheVariants.{Datagram as LineCame, Nothing as NothingCame, Closed as LinkClosed}}}
use Rattle.amt_values.specs.{Conditions.{First}, declared.peer.Peer.{Peer}}
use Rattle.control_lines.specs.{Answer.{HasAnswer, IsUntried, is_answer}, Asking.{Asks, Fails, line_of, order_of_reasons}, declared.asking.Asking.{Asking, TheVariants.{Counts, Show, ShowOf, Stop}}}
use Rattle.script_lines.specs.declared.reason.Reason.{Reason}
use Rattle.relay_serving.specs.{Controls.{ControlSeen}, Replies.{Replying}, declared.control.CopyCount.{CopyCount}}

-- One line: from whom it came, as what it was read, the copies that were counted for it, and whether memory refused its
-- answer.
pub record Asked : Type 0 where
  pub from : Peer
  pub line : List ℕ
  pub reading : Result Asking Reason
  pub copied : CopyCount
  pub starved : Bool

-- the line asks for this, or is bad for the first reason that holds
abbrev pub IsRead : List ℕ → Result Asking Reason → Type 0
IsRead line (Ok asking) = Asks asking line
IsRead line (Err reason) = First (Fails (line_of line)) order_of_reasons reason

-- the run is to end
abbrev pub is_stop : Result Asking Reason → Bool
is_stop (Ok Counts) = false
is_stop (Ok Show) = false
is_stop (Ok (ShowOf peer)) = false
is_stop (Ok Stop) = true
is_stop (Err reason) = false

abbrev pub refused_among : List Asked → ℕ
refused_among asked = count_by (λ one. one.starved) asked

-- the line was the next that came, and was answered by this text
pub record IsAnswered (text : Result Asking Reason → CopyCount → List ℕ) (one : Asked) (before after : ControlSeen) : Type 0 where
  pub came : Answers LinkClosed before.link.coming after.link.coming (LineCame one.from one.line)
  pub read : IsRead one.line one.reading
  pub counted : Appends before.copies after.copies one.copied
  pub answer : HasAnswer (is_answer one.line) one.starved one.from (text one.reading one.copied) before.link after.link
  pub calm : after.link.receive_faults ≡ before.link.receive_faults
  pub unwaited : after.wait ≤ before.wait

-- one line after the other
pub data AreAnswered (replying : Replying) (start : ControlSeen) : List Asked → ControlSeen → Type 0 where
  no_line : AreAnswered replying start [] start
  line_more : (asked : List Asked) (now : ControlSeen) → AreAnswered replying start asked now
      → (one : Asked) (after : ControlSeen) → IsAnswered (replying (refused_among asked)) one now after
      → AreAnswered replying start (asked ++ one ∷ []) after

-- How the askings of a turn ended: 64 lines had come; the link answered that nothing is there, or that it is closed; or
-- it failed.
pub data RoundEnd : Type 0 where
  Full : RoundEnd
  Silent : RoundEnd
  Shut : RoundEnd
  Failed : RoundEnd

-- after this number of lines
abbrev pub IsEnd : RoundEnd → ℕ → Type 0
IsEnd Full lines = lines ≡ 64
IsEnd other lines = lines < 64

abbrev pub end_answers : RoundEnd → List LinkAnswer
end_answers Full = []
end_answers Silent = NothingCame ∷ []
end_answers Shut = LinkClosed ∷ []
end_answers Failed = []

abbrev pub HasEndCause : RoundEnd → ℕ → ℕ → Type 0
HasEndCause Failed before after = Rose before after
HasEndCause other before after = after ≡ before

-- it ended so, and nothing else was done
pub record EndsRound (ending : RoundEnd) (before after : ControlSeen) : Type 0 where
  pub came : AnswersAll LinkClosed before.link.coming after.link.coming (end_answers ending)
  pub cause : HasEndCause ending before.link.receive_faults after.link.receive_faults
  pub untried : IsUntried before.link after.link
  pub same_copies : after.copies ≡ before.copies
  pub unwaited : after.wait ≤ before.wait

-- the lines of one whole turn, and how they ended
pub record Round : Type 0 where
  pub asked : List Asked
  pub ending : RoundEnd

-- somebody asked in it that the run ends
abbrev pub is_stopped : Round → Bool
is_stopped round = list_any (λ one. is_stop one.reading) round.asked

abbrev pub refused_in : Round → ℕ
refused_in round = refused_among round.asked

-- a round, of these texts
pub record IsRound (replying : Replying) (round : Round) (before after : ControlSeen) : Type 0 where
  pub last : ControlSeen
  pub answered : AreAnswered replying before round.asked last
  pub ends : EndsRound round.ending last after
  pub is_end : IsEnd round.ending (length round.asked)
