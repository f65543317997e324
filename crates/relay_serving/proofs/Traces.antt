-- What traces come to: one after the other, of the relay alone, of its link, and of devices.
use Rattle.std.{proofs.{Common.{◌≡◌, ℕ, ◌+◌, ◌≤◌, cond, false, List, [], ◌++◌, length, map, refl, sym, ap, subst, ◌∙◌, append_assoc, append-nil, length-append, arith}, lemmas.List.{map-append, Elements.{filter_map-append}, Sums.{sum_by-append}}}, specs.{Prelude.{Option, None}, List.{filter_map}}}
use Rattle.amt_ports.{specs.{declared.{feed.FeedAnswer.{FeedAnswer, TheVariants.{Closed as FeedClosed}}, link.LinkAnswer.{LinkAnswer, TheVariants.{Closed as LinkClosed}}, out_link.OutLink.{Ghosts}}, Answers.{Taken, unless_starved}, Devices.{AnswersAll, FeedSeen, LinkSeen, WaitsBriefly, WordsSeen, feed_seen, link_seen, words_seen}, Told.{AppendsAll}}, proofs.{Lists.{AnswersAll-then}, SoFar.{GoesOn, SoFar}, Told.{AppendsAll-none, AppendsAll-then}, Trying.{HasTried-none}, Waits.{no_waits, waits_then}}}
use Rattle.amt_values.specs.declared.peer.Peer.{Peer}
use Rattle.relay_machine.specs.declared.{event.Event.{Event}, outcome.Outcome.{Outcome}}
use Rattle.relay_serving.specs.{Counting.{HasAnswered, HasRefused, is_packet, with_outcome}, Devices.{Devices, devices_seen}, Events.{datagram_of, packet_of}, Happenings.{Happening, Took, events_among}, Sending.{answers_after}, Servers.{Happens, IsAsBefore, IsSameRun, counts_in, events_in, first_in, happenings_in, settings_in}}
use Rattle.relay_serving.{specs.{Traces.{Does, LinkDoes, ServerDoes, Trace, World, and_then, at_feed, at_link, by_feed, by_link, nothing, world}, declared.{counts.Counts.{Counts}, server.Server.{Server}}}, proofs.{Answering.{HasAnswered-none, answered_then, answers_after-append, no_more, sum_then}, Happenings.{events_among-append}}}

-- what is counted of a call that sends nothing
pub record Adds (before after : Counts) (starved late packets : ℕ) : Type 0 where
  pub refused : HasRefused before after starved late
  pub same_sent : after.sent ≡ before.sent
  pub same_unsent : after.unsent ≡ before.unsent
  pub few_packets : after.packets ≤ before.packets + packets

pub adds_none : (counts : Counts) → Adds counts counts 0 0 0
adds_none counts = record { refused = record { starved_are = no_more counts.starved; late_are = no_more counts.late }; same_sent = refl; same_unsent = refl; few_packets = omega arith }

-- the outcome of an event that is no packet
pub adds_outcome : (counts after : Counts) (event : Event) (outcome : Outcome) → after ≡ with_outcome counts event outcome → is_packet event ≡ false → Adds counts after 0 0 0
adds_outcome counts after event outcome is other =
    subst (λ (now : Counts). Adds counts now 0 0 0) (sym is)
    (record { refused = record { starved_are = no_more counts.starved; late_are = no_more counts.late }; same_sent = refl; same_unsent = refl; few_packets = rw other (omega arith) })

-- answers of a device, and more of them
taken_more : {X : Type 0} (made : Taken X → Option Event) (one more : List (Taken X)) → map Took (filter_map made one) ++ map Took (filter_map made more) ≡ map Took (filter_map made (one ++ more))
taken_more made one more = sym (ap (map Took) (filter_map-append made one more) ∙ map-append Took (filter_map made one) (filter_map made more))

module _ {O : Type 0} {g : Ghosts O} {T : Type 0} where
  pub IsSameRun-none : (server : Server O T g) → IsSameRun server server
  IsSameRun-none server = record { same_settings = refl; same_first = refl; same_starts = refl; same_book = refl; same_mode = refl; same_tasks = λ task_of run. run }

  -- the events are those more that were taken
  pub events_grown : (before after : Server O T g) (more : List Happening) → Happens before after more → events_in after ≡ events_in before ++ events_among more
  events_grown before after more happens = ap events_among happens.happened ∙ events_among-append (happenings_in before) more

  -- one trace, and then another
  pub Does-then : {one other : Trace} {before now after : World O g T} → Does one before now → Does other now after → Does (and_then one other) before after
  Does-then {one} {other} {before} {now} {after} first second =
      let same = first.happens.same in
      let next = second.happens.same in
      let answers : List Event → List (Peer × List ℕ) = answers_after (settings_in before.server) (first_in before.server) (events_in before.server) in
      let wanted : answers (events_among one.happened) ++ answers_after (settings_in now.server) (first_in now.server) (events_in now.server) (events_among other.happened) ≡ answers (events_among (one.happened ++ other.happened)) =
      (λ i. answers (events_among one.happened) ++ answers_after (same.same_settings i) (same.same_first i) (events_grown before.server now.server one.happened first.happens i) (events_among other.happened))
      ∙ sym (answers_after-append (settings_in before.server) (first_in before.server) (events_in before.server) (events_among one.happened) (events_among other.happened))
      ∙ ap answers (sym (events_among-append one.happened other.happened)) in record {
        happens = record {
          same = record {
            same_settings = next.same_settings ∙ same.same_settings;
            same_first = next.same_first ∙ same.same_first;
            same_starts = next.same_starts ∙ same.same_starts;
            same_book = next.same_book ∙ same.same_book;
            same_mode = next.same_mode ∙ same.same_mode;
            same_tasks = λ task_of run. next.same_tasks task_of (same.same_tasks task_of run);
          };
          happened = second.happens.happened ∙ ap (λ (list : List Happening). list ++ other.happened) first.happens.happened
              ∙ append_assoc (happenings_in before.server) one.happened other.happened;
        };
        answered = (answered_then before.devices.link now.devices.link after.devices.link (counts_in before.server) (counts_in now.server) (counts_in after.server) _ _ _ first.answered second.answered wanted).0;
        refused = record {
          starved_are = sum_then _ _ _ one.starved other.starved first.refused.starved_are second.refused.starved_are;
          late_are = sum_then _ _ _ one.late other.late first.refused.late_are second.refused.late_are;
        };
        clock = AppendsAll-then _ now.devices.clock _ one.moments other.moments first.clock second.clock;
        words = AppendsAll-then _ now.devices.words.given _ one.drawn other.drawn first.words second.words;
        link = AnswersAll-then LinkClosed _ now.devices.link.coming _ one.heard other.heard first.link second.link;
        feed = AnswersAll-then FeedClosed _ now.devices.feed.coming _ one.fed other.fed first.feed second.feed;
        few = omega (arith, first.few, second.few);
        few_packets = omega (arith, first.few_packets, second.few_packets);
        link_waits = waits_then _ _ _ first.link_waits second.link_waits;
        feed_waits = waits_then _ _ _ first.feed_waits second.feed_waits;
        same_room = second.same_room ∙ first.same_room;
      }

  -- the same trace, of which no more is counted
  pub Does-at : {one other : Trace} {before after : World O g T} → Does one before after → one.happened ≡ other.happened → one.moments ≡ other.moments → one.drawn ≡ other.drawn → one.heard ≡ other.heard → one.fed ≡ other.fed
      → one.starved ≡ other.starved → one.late ≡ other.late → one.tally ≤ other.tally → one.packets ≤ other.packets → Does other before after
  Does-at {one} {other} {before} {after} does happened moments drawn heard fed starved late few few_packets =
      let same : Does (record other { tally = one.tally; packets = one.packets }) before after =
      subst (λ (trace : Trace). Does trace before after)
      (λ i. record { happened = happened i; moments = moments i; drawn = drawn i; heard = heard i; fed = fed i; starved = starved i; late = late i; tally = one.tally; packets = one.packets }) does in record {
        happens = same.happens;
        answered = same.answered;
        refused = same.refused;
        clock = same.clock;
        words = same.words;
        link = same.link;
        feed = same.feed;
        few = omega (arith, does.few, few);
        few_packets = omega (arith, does.few_packets, few_packets);
        link_waits = does.link_waits;
        feed_waits = does.feed_waits;
        same_room = does.same_room;
      }

  -- the relay changed, and its link tried answers
  pub link_does : {before after : Server O T g} {link link' : LinkSeen} {wait wait' : ℕ} (happened : List Happening) (starved late tally packets : ℕ) → Happens before after happened
      → HasRefused (counts_in before) (counts_in after) starved late
      → HasAnswered link link' (counts_in before) (counts_in after) (answers_after (settings_in before) (first_in before) (events_in before) (events_among happened))
      → link'.coming ≡ link.coming → wait' ≡ wait → length (events_among happened) + (starved + late) ≤ tally → (counts_in after).packets ≤ (counts_in before).packets + packets
      → LinkDoes (record nothing { happened = happened; starved = starved; late = late; tally = tally; packets = packets }) before after link link' wait wait'
  link_does {before} {after} happened starved late tally packets happens refused answered coming waits few few_packets around = record {
    happens = happens;
    answered = answered;
    refused = refused;
    clock = AppendsAll-none _;
    words = AppendsAll-none _;
    link = coming;
    feed = refl;
    few =
        let grown = ap length (events_grown before after happened happens) in
        omega (arith, grown, length-append (events_in before) (events_among happened), refused.starved_are, refused.late_are, few);
    few_packets = few_packets;
    link_waits = no_waits _ _ waits;
    feed_waits = no_waits _ _ refl;
    same_room = refl;
  }

  -- the relay alone changed, and nothing was sent
  pub server_does : {before after : Server O T g} (happened : List Happening) (starved late tally packets : ℕ) → Happens before after happened → Adds (counts_in before) (counts_in after) starved late packets
      → answers_after (settings_in before) (first_in before) (events_in before) (events_among happened) ≡ [] → length (events_among happened) + (starved + late) ≤ tally
      → ServerDoes (record nothing { happened = happened; starved = starved; late = late; tally = tally; packets = packets }) before after
  server_does {before} {after} happened starved late tally packets happens adds silent few around =
      let link = around.devices.link in
      link_does happened starved late tally packets happens adds.refused
      (subst (HasAnswered link link (counts_in before) (counts_in after)) (sym silent)
      (record { more = 0; missed = 0; sent_are = adds.same_sent ∙ no_more _; unsent_are = adds.same_unsent ∙ no_more _; as_many = refl; tried = HasTried-none link.tried link.send_faults }))
      refl refl few adds.few_packets around

  pub nothing_does : {before after : Server O T g} → IsAsBefore before after → ServerDoes nothing before after
  nothing_does {before} {after} alike =
      server_does [] 0 0 0 0 (record { same = alike.same; happened = alike.same_happenings ∙ sym (append-nil (happenings_in before)) })
      (subst (λ (counts : Counts). Adds (counts_in before) counts 0 0 0) (sym alike.same_counts) (adds_none (counts_in before))) refl (omega arith)

  pub as_before : (server : Server O T g) → IsAsBefore server server
  as_before server = record { same = IsSameRun-none server; same_happenings = refl; same_counts = refl }

  pub Does-none : (seen : World O g T) → Does nothing seen seen
  Does-none seen = nothing_does (as_before seen.server) seen

  -- devices that changed, and not the relay
  gave : (seen : World O g T) (devices : Devices) (link_wait feed_wait room tally packets : ℕ) (moments drawn : List ℕ) (heard : List LinkAnswer) (fed : List FeedAnswer)
      → AppendsAll seen.devices.clock devices.clock moments → AppendsAll seen.devices.words.given devices.words.given drawn
      → AnswersAll LinkClosed seen.devices.link.coming devices.link.coming heard → AnswersAll FeedClosed seen.devices.feed.coming devices.feed.coming fed
      → devices.link.tried ≡ seen.devices.link.tried → devices.link.send_faults ≡ seen.devices.link.send_faults → WaitsBriefly seen.link_wait link_wait → WaitsBriefly seen.feed_wait feed_wait → room ≡ seen.room
      → Does (record nothing { moments = moments; drawn = drawn; heard = heard; fed = fed; tally = tally; packets = packets }) seen (world seen.server devices link_wait feed_wait room)
  gave seen devices link_wait feed_wait room tally packets moments drawn heard fed clock words link feed tried faults waits feed_waits same_room =
      let none = Does-none seen in record {
        happens = none.happens;
        answered = HasAnswered-none seen.devices.link devices.link (counts_in seen.server) tried faults;
        refused = none.refused;
        clock = clock;
        words = words;
        link = link;
        feed = feed;
        few = omega arith;
        few_packets = omega arith;
        link_waits = waits;
        feed_waits = feed_waits;
        same_room = same_room;
      }

  -- the clock, and the words
  pub drew : (seen : World O g T) (clock : Option (List ℕ)) (words : WordsSeen) (moments drawn : List ℕ) → AppendsAll seen.devices.clock clock moments → AppendsAll seen.devices.words.given words.given drawn
      → Does (record nothing { moments = moments; drawn = drawn }) seen (record seen { devices = record seen.devices { clock = clock; words = words } })
  drew seen clock words moments drawn gives draws =
      gave seen (record seen.devices { clock = clock; words = words }) seen.link_wait seen.feed_wait seen.room 0 0 moments drawn [] [] gives draws refl refl refl refl (no_waits _ _ refl) (no_waits _ _ refl) refl

  -- the link
  pub heard_so : {seen : World O g T} (link : LinkSeen) (wait room tally : ℕ) (heard : List LinkAnswer) → AnswersAll LinkClosed seen.devices.link.coming link.coming heard
      → link.tried ≡ seen.devices.link.tried → link.send_faults ≡ seen.devices.link.send_faults → WaitsBriefly seen.link_wait wait → room ≡ seen.room
      → Does (record nothing { heard = heard; tally = tally }) seen (at_link seen seen.server link wait room)
  heard_so {seen} link wait room tally heard came tried faults waits same =
      gave seen (record seen.devices { link = link }) wait seen.feed_wait room tally 0 [] [] heard [] (AppendsAll-none _) (AppendsAll-none _) came refl tried faults waits (no_waits _ _ refl) same

  -- the feed
  pub fed_so : {seen : World O g T} (feed : FeedSeen) (wait room tally packets : ℕ) (fed : List FeedAnswer) → AnswersAll FeedClosed seen.devices.feed.coming feed.coming fed
      → WaitsBriefly seen.feed_wait wait → room ≡ seen.room → Does (record nothing { fed = fed; tally = tally; packets = packets }) seen (at_feed seen seen.server feed wait room)
  fed_so {seen} feed wait room tally packets fed came waits same =
      gave seen (record seen.devices { feed = feed }) seen.link_wait wait room tally packets [] [] [] fed (AppendsAll-none _) (AppendsAll-none _) refl came refl refl (no_waits _ _ refl) waits same

  -- a relay, and no device
  abbrev pub alone : Server O T g → World O g T
  alone server = world server (devices_seen None (words_seen None 0) (link_seen None None 0 0) (feed_seen None 0) None 0) 0 0 0

  -- askings so far, whatever the other devices are
  abbrev pub HeardSoFar : Server O T g → Server O T g → LinkSeen → LinkSeen → ℕ → ℕ → ℕ → ℕ → ℕ → Type 0
  HeardSoFar before now link link' wait wait' room room' count = (around : World O g T) → SoFar by_link (at_link around before link wait room) (at_link around now link' wait' room') count

  abbrev pub FedSoFar : Server O T g → Server O T g → FeedSeen → FeedSeen → ℕ → ℕ → ℕ → ℕ → ℕ → Type 0
  FedSoFar before now feed feed' wait wait' room room' count = (around : World O g T) → SoFar by_feed (at_feed around before feed wait room) (at_feed around now feed' wait' room') count

  pub hears_on : GoesOn (by_link {O = O} {g = g} {T = T}).Goes
  hears_on before now after heard more first second =
      Does-at (Does-then first second) (taken_more (λ (one : Taken LinkAnswer). unless_starved one.starved (datagram_of one.answer)) heard more) refl refl (sym (map-append (λ (one : Taken LinkAnswer). one.answer) heard more)) refl
      (sym (sum_by-append (λ (one : Taken LinkAnswer). cond one.starved 1 0) heard more)) refl (omega (arith, length-append heard more)) (omega arith)

  pub feeds_on : GoesOn (by_feed {O = O} {g = g} {T = T}).Goes
  feeds_on before now after fed more first second =
      Does-at (Does-then first second) (taken_more (λ (one : Taken FeedAnswer). unless_starved one.starved (packet_of one.answer)) fed more) refl refl refl (sym (map-append (λ (one : Taken FeedAnswer). one.answer) fed more))
      (sym (sum_by-append (λ (one : Taken FeedAnswer). cond one.starved 1 0) fed more)) refl (omega (arith, length-append fed more)) (omega (arith, length-append fed more))
