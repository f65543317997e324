-- What traces come to: one after the other, of the gateway alone, of what it sends, and of devices.
use Rattle.std.{proofs.{Common.{◌≡◌, ℕ, ◌+◌, ◌≤◌, ◌||◌, max, cond, Bool, true, false, true≢false, List, [], ◌∷◌, ◌++◌, length, refl, sym, ap, subst, ◌∙◌, append_assoc, append-nil, length-append, arith}, Math.Nat.{le-max_right, max-le}, lemmas.List.{map-append, Elements.{filter_map-append}, Sums.{sum_by-append}}}, specs.Prelude.{Option, None, count_by}}
use Rattle.amt_ports.{specs.{declared.{link.LinkAnswer.{LinkAnswer, TheVariants.{Closed as LinkClosed}}}, Answers.{Taken, unless_starved}, Sends.{TriedSend}, Devices.{AnswersAll, LinkSeen, OutSeen, WaitsBriefly, WordsSeen, link_seen, out_seen, words_seen}, Told.{AppendsAll}}, proofs.{Lists.{AnswersAll-then}, SoFar.{GoesOn}, Told.{AppendsAll-none, AppendsAll-then}, Waits.{no_waits, waits_then}}}
use Rattle.gateway_machine.specs.declared.event.GatewayEvent.{GatewayEvent}
use Rattle.group_records.specs.declared.family.Family.{Family}
use Rattle.control_lines.specs.Answer.{IsUntried}
use Rattle.gateway_serving.specs.{Askers.{asker_in, askers_among}, Counting.{Tallies, is_bad, is_datagram, is_starved_line, with_starved}, Events.{call_of, datagram_of}, Servers.{counts_in, events_in, latest_in, setup_in, wanted_packets, wanted_sends}, Taking.{HasSent}, Traces.{AtWork, Does, Reads, Trace, WorkDoes, World, and_then, at_server, at_work, by_control, by_link, hearing, nothing, starving, taking, world}}
use Rattle.gateway_serving.{specs.{Turns.{ControlAnswer, latest_of}, declared.{askers.Asker.{Asker}, counts.Counts.{Counts}, server.Server.{Server}}}, proofs.{Sending.{delivered_after-append, sends_after-append}, Trying.{HasSent-at, HasSent-none, HasSent-then}}}

pub neither : (one other : Bool) → (one || other) ≡ false → (one ≡ false) × (other ≡ false)
neither false other is = (refl, is)
neither true other is = absurd (true≢false is)

pub latest_of-append : (latest : ℕ) (one other : List ℕ) → latest_of latest (one ++ other) ≡ latest_of (latest_of latest one) other
latest_of-append latest [] other = refl
latest_of-append latest (moment ∷ one) other = latest_of-append (max latest moment) one other

pub max_zero : (number : ℕ) → max 0 number ≡ number
max_zero number =
    let low : 0 ≤ number = omega arith in
    let same : number ≤ number = omega arith in
    let most : max 0 number ≤ number = max-le low same in omega (arith, most, le-max_right 0 number)

pub count_append : {X : Type 0} (test : X → Bool) (one other : List X) → count_by test one + count_by test other ≡ count_by test (one ++ other)
count_append {X} test one other = sym (sum_by-append (λ (x : X). cond (test x) 1 0) one other)

-- what link and out tried
abbrev pub sent_by : {trace : Trace} {before after : World} → Does trace before after → List TriedSend
sent_by does = does.sent.sent.sends

abbrev pub handed_by : {trace : Trace} {before after : World} → Does trace before after → List TriedSend
handed_by does = does.sent.handed.sends

-- one trace, and then another
unfoldable pub Does-then : {one other : Trace} {before now after : World} → Does one before now → Does other now after → Does (and_then one other) before after
Does-then {one} {other} {before} {now} {after} first second =
    let setup = setup_in before.work.server in
    let events = events_in before.work.server in
    let sends : wanted_sends setup events one.events ++ wanted_sends (setup_in now.work.server) (events_in now.work.server) other.events ≡ wanted_sends setup events (one.events ++ other.events) =
    (λ i. wanted_sends setup events one.events ++ wanted_sends (first.same i) (first.events i) other.events) ∙ sym (sends_after-append setup.settings setup.first events one.events other.events) in
    let packets : wanted_packets setup events one.events ++ wanted_packets (setup_in now.work.server) (events_in now.work.server) other.events ≡ wanted_packets setup events (one.events ++ other.events) =
    (λ i. wanted_packets setup events one.events ++ wanted_packets (first.same i) (first.events i) other.events) ∙ sym (delivered_after-append setup.deliver setup.settings setup.first events one.events other.events) in record {
      same = second.same ∙ first.same;
      events = second.events ∙ ap (λ (list : List GatewayEvent). list ++ other.events) first.events ∙ append_assoc events one.events other.events;
      latest = second.latest ∙ ap (λ (from : ℕ). latest_of from other.moments) first.latest ∙ sym (latest_of-append (latest_in before.work.server) one.moments other.moments);
      sent = HasSent-then first.sent second.sent sends packets;
      tallies = record {
        datagrams_are = omega (arith, first.tallies.datagrams_are, second.tallies.datagrams_are);
        controls_are = omega (arith, first.tallies.controls_are, second.tallies.controls_are);
        bad_are = omega (arith, first.tallies.bad_are, second.tallies.bad_are);
        starved_are = omega (arith, first.tallies.starved_are, second.tallies.starved_are);
      };
      words = AppendsAll-then _ now.words.given _ one.drawn other.drawn first.words second.words;
      clock = AppendsAll-then _ now.clock _ one.moments other.moments first.clock second.clock;
      link = AnswersAll-then LinkClosed _ now.work.link.coming _ one.heard other.heard first.link second.link;
      control = AnswersAll-then LinkClosed _ now.control.coming _ one.lines other.lines first.control second.control;
      calm = λ silent. let both = neither one.asks_link other.asks_link silent in second.calm both.1 ∙ first.calm both.0;
      few = omega (arith, first.few, second.few);
      link_waits = waits_then _ _ _ first.link_waits second.link_waits;
      control_waits = waits_then _ _ _ first.control_waits second.control_waits;
      same_room = second.same_room ∙ first.same_room;
    }

-- the same trace, of which no more is counted
unfoldable pub Does-at : {one other : Trace} {before after : World} → Does one before after → one.events ≡ other.events → one.drawn ≡ other.drawn → one.moments ≡ other.moments → one.heard ≡ other.heard → one.lines ≡ other.lines
    → (other.asks_link ≡ false → one.asks_link ≡ false) → one.datagrams ≡ other.datagrams → one.controls ≡ other.controls → one.bad_controls ≡ other.bad_controls → one.starved ≡ other.starved
    → one.tally ≤ other.tally → Does other before after
Does-at {one} {other} {before} {after} does events drawn moments heard lines asks datagrams controls bad_controls starved few =
    let same : Does (record other { asks_link = one.asks_link; tally = one.tally }) before after =
    subst (λ (trace : Trace). Does trace before after) (λ i. record {
      events = events i;
      drawn = drawn i;
      moments = moments i;
      heard = heard i;
      lines = lines i;
      asks_link = one.asks_link;
      datagrams = datagrams i;
      controls = controls i;
      bad_controls = bad_controls i;
      starved = starved i;
      tally = one.tally;
    }) does in record {
      same = same.same;
      events = same.events;
      latest = same.latest;
      sent = HasSent-at does.sent (ap (wanted_sends (setup_in before.work.server) (events_in before.work.server)) events) (ap (wanted_packets (setup_in before.work.server) (events_in before.work.server)) events);
      tallies = same.tallies;
      words = same.words;
      clock = same.clock;
      link = same.link;
      control = same.control;
      calm = λ silent. does.calm (asks silent);
      few = omega (arith, does.few, few);
      link_waits = does.link_waits;
      control_waits = does.control_waits;
      same_room = does.same_room;
    }

-- the gateway changed, the clock gave moments, and link and out tried what was wanted
pub work_does : {before after : AtWork} {clock clock' : Option (List ℕ)} (events : List GatewayEvent) (moments : List ℕ) (datagrams controls bad_controls starved tally : ℕ)
    → setup_in after.server ≡ setup_in before.server → events_in after.server ≡ events_in before.server ++ events → latest_in after.server ≡ latest_of (latest_in before.server) moments
    → HasSent before.link after.link before.out after.out (counts_in before.server) (counts_in after.server)
    (wanted_sends (setup_in before.server) (events_in before.server) events) (wanted_packets (setup_in before.server) (events_in before.server) events)
    → Tallies (counts_in before.server) (counts_in after.server) datagrams controls bad_controls starved → AppendsAll clock clock' moments
    → after.link.coming ≡ before.link.coming → after.link.receive_faults ≡ before.link.receive_faults → after.wait ≡ before.wait → length events + (datagrams + (controls + (bad_controls + starved))) ≤ tally
    → (around : World) → Does (record nothing { events = events; moments = moments; datagrams = datagrams; controls = controls; bad_controls = bad_controls; starved = starved; tally = tally })
    (record around { work = before; clock = clock }) (record around { work = after; clock = clock' })
work_does {before} events moments datagrams controls bad_controls starved tally same happened latest sent tallies gave coming calm waits few around = record {
  same = same;
  events = happened;
  latest = latest;
  sent = sent;
  tallies = tallies;
  words = AppendsAll-none around.words.given;
  clock = gave;
  link = coming;
  control = refl;
  calm = λ _. calm;
  few = omega (arith, ap length happened, length-append (events_in before.server) events, tallies.datagrams_are, tallies.controls_are, tallies.bad_are, tallies.starved_are, few);
  link_waits = no_waits _ _ waits;
  control_waits = no_waits _ _ refl;
  same_room = refl;
}

-- it was set up alike, took no event and sent nothing
abbrev pub IsAlike : Server → Server → Type 0
IsAlike before after =
    (setup_in after ≡ setup_in before) × (events_in after ≡ events_in before) × ((counts_in after).delivered ≡ (counts_in before).delivered) × ((counts_in after).unsent ≡ (counts_in before).unsent)

-- it alone changed
pub server_does : {before after : Server} {clock clock' : Option (List ℕ)} (moments : List ℕ) (datagrams controls bad_controls starved : ℕ) → IsAlike before after
    → latest_in after ≡ latest_of (latest_in before) moments → Tallies (counts_in before) (counts_in after) datagrams controls bad_controls starved → AppendsAll clock clock' moments
    → (around : World) → Does (record nothing { moments = moments; datagrams = datagrams; controls = controls; bad_controls = bad_controls; starved = starved; tally = datagrams + (controls + (bad_controls + starved)) })
    (record (at_server around before) { clock = clock }) (record (at_server around after) { clock = clock' })
server_does {before} moments datagrams controls bad_controls starved alike latest tallies gave around =
    work_does [] moments datagrams controls bad_controls starved _ alike.0 (alike.1 ∙ sym (append-nil (events_in before))) latest (HasSent-none refl refl alike.2 alike.3) tallies gave refl refl refl (omega arith) around

-- it counted an answer
pub counted : {before after : Server} {link : LinkSeen} {wait : ℕ} {out : OutSeen} (datagrams controls bad_controls starved : ℕ) → IsAlike before after → latest_in after ≡ latest_in before
    → Tallies (counts_in before) (counts_in after) datagrams controls bad_controls starved
    → WorkDoes (record nothing { datagrams = datagrams; controls = controls; bad_controls = bad_controls; starved = starved; tally = datagrams + (controls + (bad_controls + starved)) }) (at_work before link wait out) (at_work after link wait out)
counted {before} {link = link} {wait = wait} {out = out} datagrams controls bad_controls starved alike latest tallies around =
    server_does {clock = around.clock} {clock' = around.clock} [] datagrams controls bad_controls starved alike latest tallies (AppendsAll-none around.clock) (record around { work = at_work before link wait out })

pub Tallies-none : (counts : Counts) → Tallies counts counts 0 0 0 0
Tallies-none counts = record { datagrams_are = omega arith; controls_are = omega arith; bad_are = omega arith; starved_are = omega arith }

pub Does-none : (seen : World) → Does nothing seen seen
Does-none seen = server_does {before = seen.work.server} {after = seen.work.server} {clock = seen.clock} {clock' = seen.clock} [] 0 0 0 0 (refl, refl, refl, refl) refl (Tallies-none (counts_in seen.work.server)) (AppendsAll-none seen.clock) seen

-- devices that changed, and not the gateway
gave : (seen : World) (link : LinkSeen) (wait : ℕ) (words : WordsSeen) (control : LinkSeen) (control_wait room tally : ℕ) (drawn : List ℕ) (heard lines : List LinkAnswer) (asks : Bool)
    → AppendsAll seen.words.given words.given drawn → AnswersAll LinkClosed seen.work.link.coming link.coming heard → AnswersAll LinkClosed seen.control.coming control.coming lines
    → (asks ≡ false → link.receive_faults ≡ seen.work.link.receive_faults) → link.tried ≡ seen.work.link.tried → link.send_faults ≡ seen.work.link.send_faults
    → WaitsBriefly seen.work.wait wait → WaitsBriefly seen.control_wait control_wait → room ≡ seen.room
    → Does (record nothing { drawn = drawn; heard = heard; lines = lines; asks_link = asks; tally = tally }) seen
    (record seen { work = record seen.work { link = link; wait = wait }; words = words; control = control; control_wait = control_wait; room = room })
gave seen link wait words control control_wait room tally drawn heard lines asks draws came read calm tried faults waits control_waits same_room =
    let none = Does-none seen in record {
      same = refl;
      events = none.events;
      latest = refl;
      sent = HasSent-none tried faults refl refl;
      tallies = none.tallies;
      words = draws;
      clock = none.clock;
      link = came;
      control = read;
      calm = calm;
      few = omega arith;
      link_waits = waits;
      control_waits = control_waits;
      same_room = same_room;
    }

-- the words, the link, and the control
pub drew : (seen : World) (words : WordsSeen) (drawn : List ℕ) → AppendsAll seen.words.given words.given drawn → Does (record nothing { drawn = drawn }) seen (record seen { words = words })
drew seen words drawn draws =
    gave seen seen.work.link seen.work.wait words seen.control seen.control_wait seen.room 0 drawn [] [] false draws refl refl (λ _. refl) refl refl (no_waits _ _ refl) (no_waits _ _ refl) refl

pub heard_so : {seen : World} (link : LinkSeen) (wait room tally : ℕ) (heard : List LinkAnswer) → AnswersAll LinkClosed seen.work.link.coming link.coming heard
    → link.tried ≡ seen.work.link.tried → link.send_faults ≡ seen.work.link.send_faults → WaitsBriefly seen.work.wait wait → room ≡ seen.room
    → Does (record nothing { heard = heard; asks_link = true; tally = tally }) seen (record seen { work = record seen.work { link = link; wait = wait }; room = room })
heard_so {seen} link wait room tally heard came tried faults waits same =
    gave seen link wait seen.words seen.control seen.control_wait room tally [] heard [] true (AppendsAll-none _) came refl (λ is. absurd (true≢false is)) tried faults waits (no_waits _ _ refl) same

pub read_so : {seen : World} (control : LinkSeen) (wait room tally : ℕ) (lines : List LinkAnswer) → AnswersAll LinkClosed seen.control.coming control.coming lines
    → WaitsBriefly seen.control_wait wait → room ≡ seen.room → Does (record nothing { lines = lines; tally = tally }) seen (record seen { control = control; control_wait = wait; room = room })
read_so {seen} control wait room tally lines read waits same =
    gave seen seen.work.link seen.work.wait seen.words control wait room tally [] [] lines false (AppendsAll-none _) refl read (λ _. refl) refl refl (no_waits _ _ refl) waits same

-- memory refused an event or a line
pub starved : {before after : Server} {link : LinkSeen} {wait : ℕ} {out : OutSeen} → setup_in after ≡ setup_in before → events_in after ≡ events_in before → latest_in after ≡ latest_in before
    → counts_in after ≡ with_starved (counts_in before) → WorkDoes starving (at_work before link wait out) (at_work after link wait out)
starved same events latest is =
    counted 0 0 0 1 (same, events, ap (λ (one : Counts). one.delivered) is, ap (λ (one : Counts). one.unsent) is) latest (record {
      datagrams_are = omega (arith, ap (λ (one : Counts). one.datagrams) is);
      controls_are = omega (arith, ap (λ (one : Counts). one.controls) is);
      bad_are = omega (arith, ap (λ (one : Counts). one.bad_controls) is);
      starved_are = ap (λ (one : Counts). one.starved) is;
    })

-- events, and more of them
pub taking_then : {events more all : List GatewayEvent} {before now after : AtWork} → WorkDoes (taking events) before now → WorkDoes (taking more) now after → events ++ more ≡ all → WorkDoes (taking all) before after
taking_then {events} {more} first second is around =
    Does-at (Does-then (first around) (second around)) is refl refl refl refl (λ _. refl) refl refl refl refl (omega (arith, ap length is, length-append events more))

-- a gateway, and no device
abbrev pub alone : Server → World
alone server = world (at_work server (link_seen None None 0 0) 0 (out_seen None 0)) None (words_seen None 0) (link_seen None None 0 0) 0 0 []

-- no answer of the link, and answers, and more of them
pub none_heard : (seen : World) → Does (hearing []) seen seen
none_heard seen = Does-at (Does-none seen) refl refl refl refl refl (λ _. refl) refl refl refl refl (omega arith)

pub hears_on : GoesOn by_link.Goes
hears_on before now after heard more first second =
    Does-at (Does-then first second) (sym (filter_map-append (λ (one : Taken LinkAnswer). unless_starved one.starved (datagram_of one.answer)) heard more)) refl refl
    (sym (map-append (λ (one : Taken LinkAnswer). one.answer) heard more)) refl (λ is. absurd (true≢false is)) (count_append (λ (one : Taken LinkAnswer). is_datagram one.answer) heard more) refl refl
    (count_append (λ (one : Taken LinkAnswer). one.starved) heard more) (omega (arith, length-append heard more))

-- whoever is to be answered
pub with_askers : {trace : Trace} {before after : World} (askers : List Asker) → Does trace before after → Does trace before (record after { askers = askers })
with_askers askers does = record {
  same = does.same;
  events = does.events;
  latest = does.latest;
  sent = does.sent;
  tallies = does.tallies;
  words = does.words;
  clock = does.clock;
  link = does.link;
  control = does.control;
  calm = does.calm;
  few = does.few;
  link_waits = does.link_waits;
  control_waits = does.control_waits;
  same_room = does.same_room;
}

pub untried_then : {one other last : LinkSeen} → IsUntried one other → IsUntried other last → IsUntried one last
untried_then first second = record { same_tried = second.same_tried ∙ first.same_tried; same_faults = second.same_faults ∙ first.same_faults }

-- the same of the control
pub none_read : (seen : World) → Reads seen seen []
none_read seen = record { does = Does-none seen; untried = record { same_tried = refl; same_faults = refl }; asked = sym (append-nil seen.askers) }

pub reads_on : (family : Family) → GoesOn (by_control family).Goes
reads_on family before now after lines more first second = record {
  does = Does-at (Does-then first.does second.does) (sym (filter_map-append (λ (one : ControlAnswer). call_of one.line) lines more)) refl refl refl
      (sym (map-append (λ (one : ControlAnswer). one.answer) lines more)) (λ _. refl) refl (count_append (λ (one : ControlAnswer). is_datagram one.answer) lines more)
      (count_append (λ (one : ControlAnswer). is_bad one.line) lines more) (count_append (λ (one : ControlAnswer). is_starved_line one.line) lines more) (omega (arith, length-append lines more));
  untried = untried_then first.untried second.untried;
  asked = second.asked ∙ ap (λ (list : List Asker). list ++ askers_among more) first.asked ∙ append_assoc before.askers (askers_among lines) (askers_among more)
      ∙ ap (λ (list : List Asker). before.askers ++ list) (sym (filter_map-append (λ (one : ControlAnswer). asker_in one.answer one.line) lines more));
}
