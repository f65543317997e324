-- What devices answer in a stage of a turn and what happens by that, and what it does to all that turns change.
use Rattle.std.specs.Prelude.{◌≡◌, ℕ, ◌+◌, ◌*◌, ◌≤◌, ◌||◌, Bool, true, false, List, [], ◌∷◌, ◌++◌, count_by, length, map, sum_by, filter_map, Some, Option, Result}
use Rattle.amt_ports.specs.{declared.{link.LinkAnswer.{LinkAnswer, TheVariants.{Closed as LinkClosed}}, end.End.{End, TheVariants.{LinkFault, FeedFault}}}, Answers.{Taken, unless_starved}, Bursts.{AnswerKinds, AskedSo, Asking}, Devices.{AnswersAll, LinkSeen, OutSeen, WaitsBriefly, WordsSeen}, Told.{AppendsAll}}
use Rattle.gateway_machine.specs.declared.event.GatewayEvent.{GatewayEvent}
use Rattle.group_records.specs.declared.family.Family.{Family}
use Rattle.control_lines.specs.Answer.{IsUntried}
use Rattle.gateway_serving.specs.{Askers.{askers_among}, Counting.{Tallies, bad_lines_taken, datagrams_heard, is_bad, is_datagram, is_starved_line, lines_taken, one_if, starved_in}, Events.{calls_in, datagrams_in, events_from, leave_events, moments_in, nonces_in}, Leaving.{Leaving, refused_leave}, Runs.{control_answers, link_answers, moments_given, words_drawn}}
use Rattle.gateway_serving.specs.{Servers.{counts_in, events_in, family_in, latest_in, setup_in, tally_in, wanted_packets, wanted_sends}, Taking.{HasSent}, Turns.{ControlAnswer, Turn, from_control, from_link, latest_of}, declared.{askers.Asker.{Asker}, server.Server.{Server}}}

-- What was taken and heard: the events, the answers of each device, whether the link was asked, and what is counted
-- of the answers. The events and what is counted are at most the tally.
pub record Trace : Type 0 where
  pub events : List GatewayEvent
  pub drawn : List ℕ
  pub moments : List ℕ
  pub heard : List LinkAnswer
  pub lines : List LinkAnswer
  pub asks_link : Bool
  pub datagrams : ℕ
  pub controls : ℕ
  pub bad_controls : ℕ
  pub starved : ℕ
  pub tally : ℕ

abbrev pub nothing : Trace
nothing = record { events = []; drawn = []; moments = []; heard = []; lines = []; asks_link = false; datagrams = 0; controls = 0; bad_controls = 0; starved = 0; tally = 0 }

abbrev pub and_then : Trace → Trace → Trace
and_then one other = record {
  events = one.events ++ other.events;
  drawn = one.drawn ++ other.drawn;
  moments = one.moments ++ other.moments;
  heard = one.heard ++ other.heard;
  lines = one.lines ++ other.lines;
  asks_link = one.asks_link || other.asks_link;
  datagrams = one.datagrams + other.datagrams;
  controls = one.controls + other.controls;
  bad_controls = one.bad_controls + other.bad_controls;
  starved = one.starved + other.starved;
  tally = one.tally + other.tally;
}

-- these events were taken
abbrev pub taking : List GatewayEvent → Trace
taking events = record nothing { events = events; tally = length events }

-- memory refused an event or a line
abbrev pub starving : Trace
starving = record nothing { starved = 1; tally = 1 }

-- this event was taken, or memory refused it
abbrev pub offering : Bool → GatewayEvent → Trace
offering starved event = record nothing { events = filter_map (λ one. unless_starved starved (Some one)) (event ∷ []); starved = one_if starved; tally = 1 }

-- the first stage of a turn, after this latest moment
abbrev pub beginning : ℕ → List ℕ → List (Taken ℕ) → Trace
beginning latest drawn clock = record nothing {
  events = nonces_in drawn ++ moments_in latest clock;
  drawn = drawn;
  moments = map (λ one. one.answer) clock;
  starved = count_by (λ one. one.starved) clock;
  tally = 2;
}

-- the link's answers, and those of the control
abbrev pub hearing : List (Taken LinkAnswer) → Trace
hearing heard = record nothing {
  events = datagrams_in heard;
  heard = map (λ one. one.answer) heard;
  asks_link = true;
  datagrams = count_by (λ one. is_datagram one.answer) heard;
  starved = count_by (λ one. one.starved) heard;
  tally = 2 * length heard;
}

abbrev pub reading : List ControlAnswer → Trace
reading lines = record nothing {
  events = calls_in lines;
  lines = map (λ one. one.answer) lines;
  controls = count_by (λ one. is_datagram one.answer) lines;
  bad_controls = count_by (λ one. is_bad one.line) lines;
  starved = count_by (λ one. is_starved_line one.line) lines;
  tally = 2 * length lines;
}

-- turns, before which this moment was the latest
abbrev pub in_turns : ℕ → List Turn → Trace
in_turns latest turns = record {
  events = events_from latest turns;
  drawn = words_drawn turns;
  moments = moments_given turns;
  heard = link_answers turns;
  lines = control_answers turns;
  asks_link = true;
  datagrams = sum_by datagrams_heard turns;
  controls = sum_by lines_taken turns;
  bad_controls = sum_by bad_lines_taken turns;
  starved = sum_by starved_in turns;
  tally = 258 * length turns;
}

-- memory refused this number of answers to lines
abbrev pub refusing : ℕ → Trace
refusing number = record nothing { starved = number; tally = number }

-- the end of a run
abbrev pub leaving : Leaving → Trace
leaving left = record nothing { events = leave_events left; starved = refused_leave left; tally = length (leave_events left) + refused_leave left }

-- what follows a whole turn
abbrev pub ending : ℕ → Leaving → Trace
ending refused left = and_then (refusing refused) (leaving left)

-- turns, with all that follows them
abbrev pub in_run : ℕ → List Turn → ℕ → Leaving → Trace
in_run latest turns refused left = record (in_turns latest turns) {
  events = events_from latest turns ++ leave_events left;
  starved = sum_by starved_in turns + (refused + refused_leave left);
  tally = 258 * length turns + (refused + (length (leave_events left) + refused_leave left));
}

-- a gateway at work: itself, what is seen of its link, the longest wait of that, and what is seen of its out
pub record AtWork : Type 0 where
  pub server : Server
  pub link : LinkSeen
  pub wait : ℕ
  pub out : OutSeen

abbrev pub at_work : Server → LinkSeen → ℕ → OutSeen → AtWork
at_work server link wait out = record { server = server; link = link; wait = wait; out = out }

-- all that turns change: the gateway at work, what is seen of the other devices, the room of the buffer, and those who
-- are to be answered
pub record World : Type 0 where
  pub work : AtWork
  pub clock : Option (List ℕ)
  pub words : WordsSeen
  pub control : LinkSeen
  pub control_wait : ℕ
  pub room : ℕ
  pub askers : List Asker

abbrev pub world : AtWork → Option (List ℕ) → WordsSeen → LinkSeen → ℕ → ℕ → List Asker → World
world work clock words control control_wait room askers =
    record { work = work; clock = clock; words = words; control = control; control_wait = control_wait; room = room; askers = askers }

-- the devices gave exactly its answers, its events were taken, and the link tried exactly what the machine sends for
-- them, and the out exactly the packets that it hands on
pub record Does (trace : Trace) (before after : World) : Type 0 where
  pub same : setup_in after.work.server ≡ setup_in before.work.server
  pub events : events_in after.work.server ≡ events_in before.work.server ++ trace.events
  pub latest : latest_in after.work.server ≡ latest_of (latest_in before.work.server) trace.moments
  pub sent : HasSent before.work.link after.work.link before.work.out after.work.out (counts_in before.work.server) (counts_in after.work.server)
      (wanted_sends (setup_in before.work.server) (events_in before.work.server) trace.events) (wanted_packets (setup_in before.work.server) (events_in before.work.server) trace.events)
  pub tallies : Tallies (counts_in before.work.server) (counts_in after.work.server) trace.datagrams trace.controls trace.bad_controls trace.starved
  pub words : AppendsAll before.words.given after.words.given trace.drawn
  pub clock : AppendsAll before.clock after.clock trace.moments
  pub link : AnswersAll LinkClosed before.work.link.coming after.work.link.coming trace.heard
  pub control : AnswersAll LinkClosed before.control.coming after.control.coming trace.lines
  pub calm : trace.asks_link ≡ false → after.work.link.receive_faults ≡ before.work.link.receive_faults
  pub few : tally_in after.work.server ≤ tally_in before.work.server + trace.tally
  pub link_waits : WaitsBriefly before.work.wait after.work.wait
  pub control_waits : WaitsBriefly before.control_wait after.control_wait
  pub same_room : after.room ≡ before.room

-- the same with this gateway
abbrev pub at_server : World → Server → World
at_server around server = record around { work = record around.work { server = server } }

-- the trace is that of a gateway at work, whatever the other devices are
abbrev pub WorkDoes : Trace → AtWork → AtWork → Type 0
WorkDoes trace before after = (around : World) → Does trace (record around { work = before }) (record around { work = after })

abbrev pub by_link : Asking World (Taken LinkAnswer)
by_link = record { Goes = λ before after heard. Does (hearing heard) before after; kinds = from_link; fault = LinkFault; faults = λ seen. seen.work.link.receive_faults }

-- of one asking of the link, or of all of a turn, which ended so
abbrev pub HearsSo : {R : Type 0} → (AnswerKinds (Taken LinkAnswer) → End → Result R End → List (Taken LinkAnswer) → Type 0) → AtWork → AtWork → ℕ → ℕ → Result R End → Type 0
HearsSo Ends before after room room' result = (around : World) → AskedSo by_link Ends (record around { work = before; room = room }) (record around { work = after; room = room' }) result

-- lines of the control: by it nothing was tried, and those who asked are to be answered
pub record Reads (before after : World) (lines : List ControlAnswer) : Type 0 where
  pub does : Does (reading lines) before after
  pub untried : IsUntried before.control after.control
  pub asked : after.askers ≡ before.askers ++ askers_among lines

-- the same of the control, whose lines are of the gateway's family
abbrev pub by_control : Family → Asking World ControlAnswer
by_control family = record { Goes = Reads; kinds = from_control family; fault = FeedFault; faults = λ seen. seen.control.receive_faults }

-- what lines change, of all that turns change
pub record AtControl : Type 0 where
  pub work : AtWork
  pub control : LinkSeen
  pub wait : ℕ
  pub askers : List Asker

abbrev pub at_control : AtWork → LinkSeen → ℕ → List Asker → AtControl
at_control work control wait askers = record { work = work; control = control; wait = wait; askers = askers }

abbrev pub with_control : World → AtControl → World
with_control around seen = record around { work = seen.work; control = seen.control; control_wait = seen.wait; askers = seen.askers }

abbrev pub ReadsSo : {R : Type 0} → (AnswerKinds ControlAnswer → End → Result R End → List ControlAnswer → Type 0) → AtControl → AtControl → ℕ → ℕ → Result R End → Type 0
ReadsSo Ends before after room room' result =
    (around : World) → AskedSo (by_control (family_in before.work.server)) Ends (with_control (record around { room = room }) before) (with_control (record around { room = room' }) after) result
