-- What devices answer in a stage of a turn and what happens by that, and what it does to all that turns change.
use Rattle.std.specs.Prelude.{◌≡◌, ◌≢◌, ℕ, ◌+◌, ◌*◌, ◌≤◌, max, Bool, List, [], ◌∷◌, ◌++◌, count_by, length, map, sum_by, Result}
use Rattle.amt_ports.specs.{declared.{feed.FeedAnswer.{FeedAnswer, TheVariants.{Closed as FeedClosed}}, link.LinkAnswer.{LinkAnswer, TheVariants.{Closed as LinkClosed}}, out_link.OutLink.{Ghosts}, end.End.{End, TheVariants.{LinkFault, FeedFault}}}, Answers.{Taken}, Bursts.{AnswerKinds, AskedSo, Asking}, Devices.{AnswersAll, FeedSeen, LinkSeen, WaitsBriefly}, Told.{AppendsAll}}
use Rattle.relay_machine.specs.declared.event.Event.{Event}
use Rattle.relay_serving.specs.{Counting.{HasAnswered, HasRefused, is_late, one_if, starved_in}, Devices.{Devices}, Events.{datagrams_in, happenings_from, moment_event, packets_in, publishing_in, rotation}, Happenings.{Happening, Took, events_among}, Runs.{feed_answers, link_answers, moments_given, words_drawn}}
use Rattle.relay_serving.specs.{Sending.{answers_after}, Servers.{Happens, counts_in, events_in, first_in, owing_in, settings_in, tally_in}, Turns.{Publishing, Ahead, Refused, Turn, from_feed, from_link, is_refused}, declared.{server.Server.{Server}}}

-- What happened; the answers of the devices; how many events, and publishings, memory refused; and at most so much is
-- counted of all that, and so many packets.
pub record Trace : Type 0 where
  pub happened : List Happening
  pub moments : List ℕ
  pub drawn : List ℕ
  pub heard : List LinkAnswer
  pub fed : List FeedAnswer
  pub starved : ℕ
  pub late : ℕ
  pub tally : ℕ
  pub packets : ℕ

abbrev pub nothing : Trace
nothing = record { happened = []; moments = []; drawn = []; heard = []; fed = []; starved = 0; late = 0; tally = 0; packets = 0 }

abbrev pub and_then : Trace → Trace → Trace
and_then one other = record {
  happened = one.happened ++ other.happened;
  moments = one.moments ++ other.moments;
  drawn = one.drawn ++ other.drawn;
  heard = one.heard ++ other.heard;
  fed = one.fed ++ other.fed;
  starved = one.starved + other.starved;
  late = one.late + other.late;
  tally = one.tally + other.tally;
  packets = one.packets + other.packets;
}

-- one event was taken, which is a packet or not, or memory refused it
abbrev pub taking : Event → ℕ → Trace
taking event packets = record nothing { happened = Took event ∷ []; tally = 1; packets = packets }

-- memory refused this number of events, or of answers to lines
abbrev pub refusing : ℕ → Trace
refusing number = record nothing { starved = number; tally = number }

-- it became this late, or memory refused that event
abbrev pub passing : Bool → ℕ → Trace
passing starved now = record nothing { happened = map Took (moment_event starved now); starved = one_if starved; tally = 1 }

-- the first stage of a turn, after this latest moment
abbrev pub beginning : ℕ → Taken ℕ → List ℕ → Trace
beginning latest clock drawn = record nothing {
  happened = map Took (moment_event clock.starved (max latest clock.answer) ++ rotation drawn);
  moments = clock.answer ∷ [];
  drawn = drawn;
  starved = one_if clock.starved;
  tally = 2;
}

-- the link's answers, the publishing, and the feed's answers
abbrev pub hearing : List (Taken LinkAnswer) → Trace
hearing heard = record nothing {
  happened = map Took (datagrams_in heard);
  heard = map (λ one. one.answer) heard;
  starved = count_by (λ one. one.starved) heard;
  tally = length heard;
}

abbrev pub publishing_so : Publishing → Trace
publishing_so publishing = record nothing { happened = publishing_in publishing; late = one_if (is_refused publishing); tally = 1 }

abbrev pub feeding : List (Taken FeedAnswer) → Trace
feeding fed = record nothing {
  happened = map Took (packets_in fed);
  fed = map (λ one. one.answer) fed;
  starved = count_by (λ one. one.starved) fed;
  tally = length fed;
  packets = length fed;
}

-- turns, before which this moment was the latest
abbrev pub in_turns : ℕ → List Turn → Trace
in_turns latest turns = record {
  happened = happenings_from latest turns;
  moments = moments_given turns;
  drawn = words_drawn turns;
  heard = link_answers turns;
  fed = feed_answers turns;
  starved = sum_by starved_in turns;
  late = count_by is_late turns;
  tally = 131 * length turns;
  packets = 64 * length turns;
}

-- all that turns change: the relay, what is seen of its devices, the longest waits, and the room of its buffer
pub record World (O : Type 0) (g : Ghosts O) (T : Type 0) : Type 0 where
  pub server : Server O T g
  pub devices : Devices
  pub link_wait : ℕ
  pub feed_wait : ℕ
  pub room : ℕ

module _ {O : Type 0} {g : Ghosts O} {T : Type 0} where
  abbrev pub world : Server O T g → Devices → ℕ → ℕ → ℕ → World O g T
  world server devices link_wait feed_wait room = record { server = server; devices = devices; link_wait = link_wait; feed_wait = feed_wait; room = room }

  -- the devices gave exactly its answers, and what happens by them happened to the relay, which tried exactly the
  -- answers to the events
  pub record Does (trace : Trace) (before after : World O g T) : Type 0 where
    pub happens : Happens before.server after.server trace.happened
    pub answered : HasAnswered before.devices.link after.devices.link (counts_in before.server) (counts_in after.server)
        (answers_after (settings_in before.server) (first_in before.server) (events_in before.server) (events_among trace.happened))
    pub refused : HasRefused (counts_in before.server) (counts_in after.server) trace.starved trace.late
    pub clock : AppendsAll before.devices.clock after.devices.clock trace.moments
    pub words : AppendsAll before.devices.words.given after.devices.words.given trace.drawn
    pub link : AnswersAll LinkClosed before.devices.link.coming after.devices.link.coming trace.heard
    pub feed : AnswersAll FeedClosed before.devices.feed.coming after.devices.feed.coming trace.fed
    pub few : tally_in after.server ≤ tally_in before.server + trace.tally
    pub few_packets : (counts_in after.server).packets ≤ (counts_in before.server).packets + trace.packets
    pub link_waits : WaitsBriefly before.link_wait after.link_wait
    pub feed_waits : WaitsBriefly before.feed_wait after.feed_wait
    pub same_room : after.room ≡ before.room

  -- a call that changes the relay alone, whatever the devices are
  abbrev pub at_server : World O g T → Server O T g → World O g T
  at_server around server = record around { server = server }

  abbrev pub ServerDoes : Trace → Server O T g → Server O T g → Type 0
  ServerDoes trace before after = (around : World O g T) → Does trace (at_server around before) (at_server around after)

  -- one that changes the link too
  abbrev pub at_link : World O g T → Server O T g → LinkSeen → ℕ → ℕ → World O g T
  at_link around server link wait room = record around { server = server; devices = record around.devices { link = link }; link_wait = wait; room = room }

  abbrev pub LinkDoes : Trace → Server O T g → Server O T g → LinkSeen → LinkSeen → ℕ → ℕ → Type 0
  LinkDoes trace before after link link' wait wait' = (around : World O g T) → Does trace (at_link around before link wait around.room) (at_link around after link' wait' around.room)

  abbrev pub by_link : Asking (World O g T) (Taken LinkAnswer)
  by_link = record { Goes = λ before after heard. Does (hearing heard) before after; kinds = from_link; fault = LinkFault; faults = λ seen. seen.devices.link.receive_faults }

  -- of one asking of the link, or of all of a turn, which ended so
  abbrev pub HearsSo : {R : Type 0} → (AnswerKinds (Taken LinkAnswer) → End → Result R End → List (Taken LinkAnswer) → Type 0) → Server O T g → Server O T g → LinkSeen → LinkSeen
      → ℕ → ℕ → ℕ → ℕ → Result R End → Type 0
  HearsSo Ends before after link link' wait wait' room room' result = (around : World O g T) → AskedSo by_link Ends (at_link around before link wait room) (at_link around after link' wait' room') result

  -- the same of the feed
  abbrev pub at_feed : World O g T → Server O T g → FeedSeen → ℕ → ℕ → World O g T
  at_feed around server feed wait room = record around { server = server; devices = record around.devices { feed = feed }; feed_wait = wait; room = room }

  abbrev pub by_feed : Asking (World O g T) (Taken FeedAnswer)
  by_feed = record { Goes = λ before after fed. Does (feeding fed) before after; kinds = from_feed; fault = FeedFault; faults = λ seen. seen.devices.feed.faults }

  abbrev pub FeedsSo : {R : Type 0} → (AnswerKinds (Taken FeedAnswer) → End → Result R End → List (Taken FeedAnswer) → Type 0) → Server O T g → Server O T g → FeedSeen → FeedSeen
      → ℕ → ℕ → ℕ → ℕ → Result R End → Type 0
  FeedsSo Ends before after feed feed' wait wait' room room' result = (around : World O g T) → AskedSo by_feed Ends (at_feed around before feed wait room) (at_feed around after feed' wait' room') result

  -- what was owed is published, or memory refused that, which is counted: then something was owed
  pub record PublishesSo (before after : Server O T g) : Type 0 where
    pub publishing : Publishing
    pub tried : publishing ≢ Ahead
    pub owed : publishing ≡ Refused → owing_in before ≢ []
    pub does : ServerDoes (publishing_so publishing) before after
