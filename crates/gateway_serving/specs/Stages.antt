-- What the stages of a run do: its beginning, the beginning of a turn, a turn, and all turns.
use Rattle.std.specs.Prelude.{◌≡◌, ℕ, ◌+◌, Bool, true, List, [], ◌∷◌, ◌++◌, All, length, map, sum_by, Option, Result, Ok, Err}
use Rattle.amt_config.specs.declared.config.Join.{Join}
use Rattle.amt_ports.specs.{Answers.{Taken}, Sends.{TriedSend}, Devices.{LinkSeen, WordsSeen}, EndCauses.{IsCauseOf, IsCausedBy}, declared.end.End.{End, TheVariants.{LinkFault, FeedFault, WordsFault}}}
use Rattle.amt_values.specs.declared.peer.Peer.{Peer}
use Rattle.gateway_machine.specs.{Outcomes.{NeedsNoMemory}, Runs.{answer_after}, declared.event.GatewayEvent.{GatewayEvent, TheVariants.{Moment}}}
use Rattle.group_records.specs.declared.family.Family.{Family}
use Rattle.control_lines.specs.Answer.{IsUntried}
use Rattle.gateway_serving.specs.{Askers.{AreAnswered, Reply, ask_leave, ask_stop, askers_among, askers_of, refused_among}, Counting.{bad_lines_taken, datagrams_heard, lines_taken, starved_in}, Events.{events_from, nonces_in}, Leaving.{IsLeaving, Leaving}, Replies.{Standing}, Rounds.{AreRounds, unsent_of}, Runs.{HasEnded, IsCut, with_cut}, Servers.{Setup, events_in, family_in, counts_in, latest_in, setup_in, standing_in, wanted_packets, wanted_sends}, Settings.{opening_of}, Starving.{SendsAt, StarveWhereItSends}, Traces.{AtControl, AtWork, Does, WorkDoes, World, beginning, ending, in_run, in_turns, offering, reading, taking, with_control}, Turns.{IsWhole, Line, MayBecome, Turn, a_line}, declared.{askers.Asker.{Asker}, server.Server.{Server}}}

-- the event was taken, or memory refused it, which it may where the event needs some
pub record OffersSo (event : GatewayEvent) (before after : AtWork) : Type 0 where
  pub starved : Bool
  pub does : WorkDoes (offering starved event) before after
  pub needed : starved ≡ true → ¬ NeedsNoMemory event (answer_after (setup_in before.server).settings (setup_in before.server).first (events_in before.server) event).outcome

-- What became of a line of the control. That the control gave it is no part of this trace.
pub record ReadsLine (from : Peer) (bytes : List ℕ) (before after : AtWork) (askers askers' : List Asker) : Type 0 where
  pub line : Line
  pub may : MayBecome (family_in before.server) bytes line
  pub does : WorkDoes (record (reading (a_line from bytes line ∷ [])) { lines = [] }) before after
  pub asked : askers' ≡ askers ++ askers_among (a_line from bytes line ∷ [])

-- all of the events happened, or memory refused one, and those before it did
abbrev pub IsBegunBy : {E : Type 0} → Result (Unit {0}) E → List GatewayEvent → List GatewayEvent → Type 0
IsBegunBy (Ok unit) events begun = begun ≡ events
IsBegunBy (Err error) events begun = (refused : GatewayEvent) × (rest : List GatewayEvent) × (events ≡ begun ++ refused ∷ rest)

-- of these events to come, some or all happened
pub record BeginsWith {E : Type 0} (events : List GatewayEvent) (before after : AtWork) (result : Result (Unit {0}) E) : Type 0 where
  pub begun : List GatewayEvent
  pub does : WorkDoes (taking begun) before after
  pub is : IsBegunBy result events begun

-- The clock gave one moment, which was the first event, whatever memory there is; then the joins were opened, up to the
-- one that memory refused.
pub record OpensSo {E : Type 0} (joins : List Join) (before after : AtWork) (clock clock' : Option (List ℕ)) (result : Result (Unit {0}) E) : Type 0 where
  pub moment : ℕ
  pub opened : List GatewayEvent
  pub does : (around : World) → Does (record (taking (Moment moment ∷ opened)) { moments = moment ∷ [] }) (record around { work = before; clock = clock }) (record around { work = after; clock = clock' })
  pub is : IsBegunBy result (map opening_of joins) opened

-- the machine sends something at each of these moments that memory refused, after these events and this latest moment
abbrev pub AreStarved : Setup → List GatewayEvent → ℕ → List (Taken ℕ) → Type 0
AreStarved setup events latest clock = All (SendsAt setup.settings setup.first events latest) clock

-- the clock gave one moment, and it became as late as that or was later; memory may have refused the event
pub record PassesMoment (before after : AtWork) (clock clock' : Option (List ℕ)) : Type 0 where
  pub given : Taken ℕ
  pub does : (around : World) → Does (record (beginning (latest_in before.server) [] (given ∷ [])) { tally = 1 }) (record around { work = before; clock = clock }) (record around { work = after; clock = clock' })
  pub starves : SendsAt (setup_in before.server).settings (setup_in before.server).first (events_in before.server) (latest_in before.server) given

-- a word was drawn and a moment given, or the word was lacking and the clock wasn't asked
abbrev pub IsTurnBegun : Result (Unit {0}) End → List ℕ → List (Taken ℕ) → Type 0
IsTurnBegun (Ok unit) drawn clock = (length drawn ≡ 1) × (length clock ≡ 1)
IsTurnBegun (Err end) drawn clock = (end ≡ WordsFault) × (drawn ≡ []) × (clock ≡ [])

-- the first stage of a turn: its nonce, and its moment
pub record BeginsSo (before after : World) (result : Result (Unit {0}) End) : Type 0 where
  pub drawn : List ℕ
  pub given : List (Taken ℕ)
  pub does : Does (beginning (latest_in before.work.server) drawn given) before after
  pub cause : IsCausedBy result WordsFault before.words.faults after.words.faults
  pub starve : AreStarved (setup_in before.work.server) (events_in before.work.server ++ nonces_in drawn) (latest_in before.work.server) given
  pub is : IsTurnBegun result drawn given

-- whatever the control is
abbrev pub BeginsBy : AtWork → AtWork → Option (List ℕ) → Option (List ℕ) → WordsSeen → WordsSeen → Result (Unit {0}) End → Type 0
BeginsBy before after clock clock' words words' result =
    (around : World) → BeginsSo (record around { work = before; clock = clock; words = words }) (record around { work = after; clock = clock'; words = words' }) result

-- the turn is whole, or the run ended in it
abbrev pub IsTurnBy : Result (Unit {0}) End → Family → Turn → Type 0
IsTurnBy (Ok unit) family turn = IsWhole family turn
IsTurnBy (Err end) family turn = IsCut end family turn

-- each device's count rose where its fault ended the run, and only there
pub record AreCausesOf {A : Type 0} (result : Result A End) (before after : World) : Type 0 where
  pub link : IsCausedBy result LinkFault before.work.link.receive_faults after.work.link.receive_faults
  pub control : IsCausedBy result FeedFault before.control.receive_faults after.control.receive_faults
  pub words : IsCausedBy result WordsFault before.words.faults after.words.faults

-- the same of a run that ended so
pub record EndsIn (end : End) (before after : World) : Type 0 where
  pub link : IsCauseOf end LinkFault before.work.link.receive_faults after.work.link.receive_faults
  pub control : IsCauseOf end FeedFault before.control.receive_faults after.control.receive_faults
  pub words : IsCauseOf end WordsFault before.words.faults after.words.faults

-- one turn, which was whole or ended the run
pub record TurnsSo (before after : World) (result : Result (Unit {0}) End) : Type 0 where
  pub turn : Turn
  pub does : Does (in_turns (latest_in before.work.server) (turn ∷ [])) before after
  pub causes : AreCausesOf result before after
  pub starve : AreStarved (setup_in before.work.server) (events_in before.work.server ++ nonces_in turn.drawn) (latest_in before.work.server) turn.clock
  pub is_turn : IsTurnBy result (family_in before.work.server) turn
  pub untried : IsUntried before.control after.control
  pub asked : after.askers ≡ before.askers ++ askers_of turn

-- After a whole turn: those who asked were answered by where the run then stood, and all sockets left their groups if
-- somebody asked for that. Nobody is to be answered any more.
pub record EndsTurn (turns : ℕ) (before after : World) (stops : Bool) : Type 0 where
  pub round : List Reply
  pub to_askers : map (λ one. one.asker) round ≡ before.askers
  pub answered : AreAnswered (setup_in before.work.server).settings (setup_in before.work.server).first (standing_in turns before.work.server) before.control round after.control
  pub left : Leaving
  pub is_left : IsLeaving (ask_leave before.askers) left
  pub stops_is : stops ≡ ask_stop before.askers
  pub does : Does (ending (refused_among round) left) before after
  pub calm : after.control.receive_faults ≡ before.control.receive_faults
  pub same_words : after.words.faults ≡ before.words.faults
  pub no_askers : after.askers ≡ []

-- whatever the other devices are
abbrev pub EndsTurnBy : ℕ → AtControl → AtControl → Bool → Type 0
EndsTurnBy turns before after stops = (around : World) → EndsTurn turns (with_control around before) (with_control around after) stops

-- where a gateway stands after these whole turns, by where it stood before the first of them and what link and out
-- tried since; memory refused this number of answers to lines of earlier ones
abbrev pub standing_since : Server → List TriedSend → List TriedSend → List Turn → ℕ → Standing
standing_since server sends packets turns refused = record {
  events = events_in server ++ events_from (latest_in server) turns;
  turns = length turns;
  datagrams = (counts_in server).datagrams + sum_by datagrams_heard turns;
  controls = (counts_in server).controls + sum_by lines_taken turns;
  bad_controls = (counts_in server).bad_controls + sum_by bad_lines_taken turns;
  delivered = (counts_in server).delivered + length (wanted_packets (setup_in server) (events_in server) (events_from (latest_in server) turns));
  unsent = (counts_in server).unsent
      + (unsent_of (wanted_sends (setup_in server) (events_in server) (events_from (latest_in server) turns)) sends
      + unsent_of (wanted_packets (setup_in server) (events_in server) (events_from (latest_in server) turns)) packets);
  starved = (counts_in server).starved + (sum_by starved_in turns + refused);
}

-- all turns of a run, and the answers after each
pub record RunsSo (turns : ℕ) (before after : World) (end : End) (done : ℕ) : Type 0 where
  pub whole : List Turn
  pub cut : Option Turn
  pub rounds : List (List Reply)
  pub left : Leaving
  pub does : Does (in_run (latest_in before.work.server) (with_cut whole cut) (sum_by refused_among rounds) left) before after
  pub last : LinkSeen
  pub answered : AreRounds (setup_in before.work.server).settings (setup_in before.work.server).first (standing_since before.work.server does.sent.sent.sends does.sent.handed.sends) before.control whole rounds last
  pub untried : IsUntried last after.control
  pub causes : EndsIn end before after
  pub starve : StarveWhereItSends (setup_in before.work.server).settings (setup_in before.work.server).first (events_in before.work.server) (latest_in before.work.server) (with_cut whole cut)
  pub are_whole : All (IsWhole (family_in before.work.server)) whole
  pub ended : HasEnded (family_in before.work.server) turns end whole left cut
  pub done_is : done ≡ length whole
