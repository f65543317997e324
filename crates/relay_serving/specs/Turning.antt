-- What one turn does, and all turns of a run.
use Rattle.std.specs.Prelude.{◌≡◌, ◌≢◌, ℕ, List, [], ◌∷◌, length, sum_by, Option, Result, Ok, Err, IsOk}
use Rattle.amt_ports.specs.{declared.{out_link.OutLink.{Ghosts}, end.End.{End, TheVariants.{LinkFault, FeedFault, WordsFault}}}, EndCauses.{IsCauseOf, IsCausedBy}}
use Rattle.relay_serving.specs.{Asked.{Round, refused_in}, AskingServers.{in_turns_refusing}, Controls.{ControlSeen}, Counting.{HasAnswered}, Rounds.{ControlServes}, Devices.{Devices}, Events.{happenings_from}, Happenings.{events_among}, Runs.{HasEnded, IsCut, with_cut}, Sending.{answers_after}, Servers.{counts_in, first_in, owing_in, settings_in}, Serving.{AreOwedLate}, Traces.{Does, World, in_turns}, Turns.{AreWhole, IsWhole, Progress, Refused, Turn, after_turn, no_progress}, declared.plan.ServePlan.{ServePlan}}

-- the turn is whole, or the run ended in it
abbrev pub IsTurnBy : Result (Unit {0}) End → ℕ → Progress → Turn → Type 0
IsTurnBy (Ok unit) rotate progress turn = IsWhole rotate progress turn
IsTurnBy (Err end) rotate progress turn = IsCut end rotate progress turn

-- each device's count rose where its fault ended the run, and only there
pub record AreCausesOf {A : Type 0} (result : Result A End) (before after : Devices) : Type 0 where
  pub link : IsCausedBy result LinkFault before.link.receive_faults after.link.receive_faults
  pub feed : IsCausedBy result FeedFault before.feed.faults after.feed.faults
  pub words : IsCausedBy result WordsFault before.words.faults after.words.faults

-- the same of a run that ended so
pub record EndsIn (end : End) (before after : Devices) : Type 0 where
  pub link : IsCauseOf end LinkFault before.link.receive_faults after.link.receive_faults
  pub feed : IsCauseOf end FeedFault before.feed.faults after.feed.faults
  pub words : IsCauseOf end WordsFault before.words.faults after.words.faults

module _ {O : Type 0} {g : Ghosts O} {T : Type 0} where
  -- one turn, which was whole or ended the run; where memory refused its publishing something is owed
  pub record TurnsSo (rotate : ℕ) (progress progress' : Progress) (before after : World O g T) (result : Result (Unit {0}) End) : Type 0 where
    pub turn : Turn
    pub does : Does (in_turns progress.latest (turn ∷ [])) before after
    pub causes : AreCausesOf result before.devices after.devices
    pub owed : turn.publishing ≡ Refused → owing_in after.server ≢ []
    pub is_turn : IsTurnBy result rotate progress turn
    pub progress_is : IsOk result → progress' ≡ after_turn rotate progress turn

  -- all turns of a run, and what was asked after each
  pub record RunsSo (plan : ServePlan) (before after : World O g T) (control control' : Option ControlSeen) (end : End) (done : ℕ) : Type 0 where
    pub whole : List Turn
    pub cut : Option Turn
    pub last : Progress
    pub rounds : List Round
    pub does : Does (in_turns_refusing 0 (with_cut whole cut) (sum_by refused_in rounds)) before after
    pub answered : HasAnswered before.devices.link after.devices.link (counts_in before.server) (counts_in after.server)
        (answers_after (settings_in before.server) (first_in before.server) [] (events_among (happenings_from 0 (with_cut whole cut))))
    pub asked : ControlServes (settings_in before.server) (first_in before.server) plan.workers answered.tried.sends control control' whole rounds
    pub causes : EndsIn end before.devices after.devices
    pub late_owed : AreOwedLate (settings_in before.server) (first_in before.server) (with_cut whole cut)
    pub are_whole : AreWhole plan.rotate_ms no_progress whole last
    pub ended : HasEnded plan end (length whole) rounds last cut
    pub done_is : done ≡ length whole
