-- A whole run, put together.
use Rattle.std.{proofs.Common.{◌≡◌, ◌≢◌, ℕ, ◌+◌, ◌*◌, max, true, List, [], ◌∷◌, ◌++◌, length, map, refl, sym, ap, subst, ◌∙◌, append-nil, zero-add, length-append, arith}, specs.Prelude.{All, Option, None, Ok, Err, Result, sum_by}}
use Rattle.amt_config.specs.declared.config.{GatewayConfig.{GatewayConfig}, Join.{Join}}
use Rattle.amt_ports.{specs.{Causes.{Rose}, Sends.{TriedSend, unsent_count}, Told.{AppendsAll}, declared.end.End.{End, TheVariants.{LinkFault, FeedFault, WordsFault, Memory}}, EndCauses.{IsCauseOf}, Devices.{LinkSeen, OutSeen, WordsSeen}}, proofs.{Told.{AppendsAll-none}, Trying.{HasTried-none}}}
use Rattle.gateway_machine.specs.{Settings.{family_of}, declared.event.GatewayEvent.{GatewayEvent, TheVariants.{Moment}}}
use Rattle.control_lines.specs.Answer.{IsUntried}
use Rattle.gateway_serving.specs.{Askers.{Reply, refused_among}, Counting.{bad_lines_taken, datagrams_heard, lines_taken, no_counts, starved_in}, Devices.{Devices, devices_seen}, Events.{events_from, events_of, leave_events, nonce_of}, Leaving.{Leaving, Stayed, refused_leave}, Replies.{Standing}, Rounds.{AreRounds, no_round, standing_after, unsent_of}}
use Rattle.gateway_serving.specs.{Reports.{report_of}, Runs.{HasEnded, MayGo, Run, control_answers, link_answers, moments_of, refused_of, served, turns_of, undrawn, unmade, unopened, with_cut, words_of}, Servers.{IsFresh, Setup, counts_in, events_in, latest_in, setup_by, setup_in, wanted_packets, wanted_sends}, Serving.{Serves, stand_of}}
use Rattle.gateway_serving.specs.{Settings.{opening_of, settings_of as settings_by}, Stages.{EndsIn, IsBegunBy, OpensSo, RunsSo, standing_since}, Starving.{StarveWhereItSends}, Traces.{AtWork, Does, Trace, World, in_run, taking}, Turns.{IsWhole, Turn}, declared.{counts.Counts.{Counts}, served.GatewayServed.{GatewayServed}}}
use Rattle.gateway_serving.proofs.{Running.{EndsIn-none, turns_none}, Sending.{delivered_after-append, sends_after-append}, Starving.{StarveWhereItSends-same}, Traces.{Does-at, Does-then, drew, handed_by, max_zero, sent_by}, Trying.{HasSent-at, HasSent-then, all_tried, as_many, none_tried, tried_at, tried_then, unsent_then}}

-- the same of what a call gave
pub reported : (config : GatewayConfig) (turns : ℕ) (before after : Devices) (report report' : GatewayServed) → report' ≡ report → Serves config turns before after report → Serves config turns before after report'
reported config turns before after report report' is serves = subst (Serves config turns before after) (sym is) serves

-- of a run without any turn
abbrev early : List ℕ → List ℕ → List GatewayEvent → Run
early words moments begun = record { words = words; moments = moments; begun = begun; whole = []; cut = None; rounds = []; left = Stayed }

-- no event happened
not_run : (config : GatewayConfig) (turns : ℕ) (end : End) (given : List ℕ) (clock : Option (List ℕ)) (words words' : WordsSeen) (link control : LinkSeen) (out : OutSeen)
    → AppendsAll words.given words'.given given → MayGo config turns end (early given [] []) → end ≢ LinkFault → end ≢ FeedFault → IsCauseOf end WordsFault words.faults words'.faults
    → Serves config turns (devices_seen clock words link control out) (devices_seen clock words' link control out) (report_of end 0 no_counts)
not_run config turns end given clock words words' link control out drawn goes no_link no_control words_are = record {
  run = early given [] [];
  goes = goes;
  words = subst (AppendsAll words.given words'.given) (sym (append-nil given)) drawn;
  clock = AppendsAll-none clock;
  link = refl;
  control = refl;
  link_sent = 0;
  link_unsent = 0;
  link_tried = HasTried-none link.tried link.send_faults;
  out_sent = 0;
  out_unsent = 0;
  out_tried = HasTried-none out.tried out.faults;
  last_answered = control;
  answered = no_round;
  untried = record { same_tried = refl; same_faults = refl };
  turns_are = refl;
  counted = record { datagrams_are = refl; controls_are = refl; bad_are = refl; starved_are = refl };
  starve = tt;
  delivered_are = refl;
  unsent_are = refl;
  link_cause = ((λ is. absurd (no_link is)), (λ other. refl));
  control_cause = ((λ is. absurd (no_control is)), (λ other. refl));
  words_cause = words_are;
}

-- no word was drawn
pub serves_undrawn : (config : GatewayConfig) (turns : ℕ) (clock : Option (List ℕ)) (words words' : WordsSeen) (link control : LinkSeen) (out : OutSeen)
    → words'.given ≡ words.given → Rose words.faults words'.faults
    → Serves config turns (devices_seen clock words link control out) (devices_seen clock words' link control out) (report_of WordsFault 0 no_counts)
serves_undrawn config turns clock words words' link control out kept rose =
    not_run config turns WordsFault [] clock words words' link control out
    (subst (λ (lines : Option (List ℕ)). AppendsAll words.given lines []) (sym kept) (AppendsAll-none words.given))
    (undrawn refl refl (record { no_moment = refl; no_event = refl; no_turn = refl; stayed = refl }))
    (λ is. cc is) (λ is. cc is) ((λ is. rose), (λ other. absurd (other refl)))

-- memory had no room for a gateway
pub serves_unmade : (config : GatewayConfig) (turns word : ℕ) (clock : Option (List ℕ)) (words words' : WordsSeen) (link control : LinkSeen) (out : OutSeen)
    → AppendsAll words.given words'.given (word ∷ []) → words'.faults ≡ words.faults
    → Serves config turns (devices_seen clock words link control out) (devices_seen clock words' link control out) (report_of Memory 0 no_counts)
serves_unmade config turns word clock words words' link control out gave quiet =
    not_run config turns Memory (word ∷ []) clock words words' link control out gave
    (unmade refl refl (record { no_moment = refl; no_event = refl; no_turn = refl; stayed = refl }))
    (λ is. cc is) (λ is. cc is) ((λ is. cc is), (λ other. quiet))

pairs : (one other more others : ℕ) → (one + other) + (more + others) ≡ (one + more) + (other + others)
pairs one other more others = omega arith

from_none : (before after added : ℕ) → after ≡ before + added → before ≡ 0 → after ≡ added
from_none before after added is none = omega (arith, is, none)

abbrev devices_of : World → Devices
devices_of seen = devices_seen seen.clock seen.words seen.work.link seen.control seen.work.out

-- a run that drew this word, passed this moment and opened these joins
abbrev run_of : ℕ → ℕ → List GatewayEvent → List Turn → Option Turn → List (List Reply) → Leaving → Run
run_of word moment opened whole cut rounds left =
    record { words = word ∷ []; moments = moment ∷ []; begun = Moment moment ∷ opened; whole = whole; cut = cut; rounds = rounds; left = left }

-- all of a run
abbrev in_all : Run → Trace
in_all run = record {
  events = events_of run;
  drawn = words_of run;
  moments = moments_of run;
  heard = link_answers (turns_of run);
  lines = control_answers (turns_of run);
  asks_link = true;
  datagrams = sum_by datagrams_heard (turns_of run);
  controls = sum_by lines_taken (turns_of run);
  bad_controls = sum_by bad_lines_taken (turns_of run);
  starved = sum_by starved_in (turns_of run) + refused_of run;
  tally = length run.begun + (258 * length (turns_of run) + (sum_by refused_among run.rounds + (length (leave_events run.left) + refused_leave run.left)));
}

module _ {E : Type 0} (config : GatewayConfig) (turns word : ℕ) (before : World) (words' : WordsSeen) (opened : AtWork) (clock' : Option (List ℕ)) (joins : List Join) (result : Result (Unit {0}) E) (is : IsFresh config word before.work.server)
    (gave : AppendsAll before.words.given words'.given (word ∷ [])) (quiet : words'.faults ≡ before.words.faults) (opens : OpensSo joins before.work opened before.clock clock' result) (same_joins : joins ≡ config.joins) where
  abbrev begun : World
  begun = record before { work = opened; clock = clock'; words = words' }

  opening : Does (record (taking (Moment opens.moment ∷ opens.opened)) { moments = opens.moment ∷ [] }) (record before { words = words' }) begun
  opening = opens.does (record before { words = words' })

  opened_at : latest_in opened.server ≡ opens.moment
  opened_at = opening.latest ∙ ap (λ (latest : ℕ). max latest opens.moment) is.latest ∙ max_zero opens.moment

  opened_set_up : setup_in opened.server ≡ setup_by config word
  opened_set_up = opening.same ∙ is.set_up

  -- what was tried before the turns, and since
  abbrev all_does : (whole : List Turn) (cut : Option Turn) (rounds : List (List Reply)) (left : Leaving) (after : World) → Does (in_run (latest_in opened.server) (with_cut whole cut) (sum_by refused_among rounds) left) begun after
      → Does (in_all (run_of word opens.moment opens.opened whole cut rounds left)) before after
  all_does whole cut rounds left after does =
      let run = run_of word opens.moment opens.opened whole cut rounds left in
      Does-at (Does-then (Does-then (drew before words' (word ∷ []) gave) opening) does) (ap (λ (latest : ℕ). run.begun ++ (events_from latest (with_cut whole cut) ++ leave_events left)) opened_at)
      refl refl refl refl (λ is. is) (omega arith) (omega arith) (omega arith) (omega arith) (omega arith)

  all_sent : (whole : List Turn) (cut : Option Turn) (rounds : List (List Reply)) (left : Leaving) (after : World) (does : Does (in_run (latest_in opened.server) (with_cut whole cut) (sum_by refused_among rounds) left) begun after)
      → (sent_by (all_does whole cut rounds left after does) ≡ sent_by opening ++ sent_by does) × (handed_by (all_does whole cut rounds left after does) ≡ handed_by opening ++ handed_by does)
  unfolding Does-at Does-then HasSent-at HasSent-then tried_at tried_then
  all_sent whole cut rounds left after does =
      let none = drew before words' (word ∷ []) gave in (
        ap (λ (list : List TriedSend). (list ++ sent_by opening) ++ sent_by does) (none_tried none.sent.sent),
        ap (λ (list : List TriedSend). (list ++ handed_by opening) ++ handed_by does) (none_tried none.sent.handed),
      )

  -- where a gateway stands after turns, by all that was tried in the run
  stands_by : (sends packets : List TriedSend) (some : List Turn) (refused : ℕ)
      → standing_since opened.server sends packets some refused
      ≡ standing_after (setup_by config word) (Moment opens.moment ∷ opens.opened) opens.moment (sent_by opening ++ sends) (handed_by opening ++ packets) some refused
  stands_by sends packets some refused =
      let setup = setup_by config word in
      let first_happened = Moment opens.moment ∷ opens.opened in
      let new = events_from opens.moment some in
      let past : events_in opened.server ≡ first_happened = opening.events ∙ ap (λ (list : List GatewayEvent). list ++ first_happened) is.none in
      let since : events_from (latest_in opened.server) some ≡ new = ap (λ (latest : ℕ). events_from latest some) opened_at in
      let sends_are = sends_after-append setup.settings setup.first [] first_happened new in
      let packets_are = delivered_after-append setup.deliver setup.settings setup.first [] first_happened new in
      let many_sent : length (wanted_sends setup [] first_happened) ≡ length (sent_by opening) = sym (λ i. length (wanted_sends (is.set_up i) (is.none i) first_happened)) ∙ as_many opening.sent.sent in
      let many_handed : length (wanted_packets setup [] first_happened) ≡ length (handed_by opening) = sym (λ i. length (wanted_packets (is.set_up i) (is.none i) first_happened)) ∙ as_many opening.sent.handed in
      let none : (count : Counts → ℕ) → count no_counts ≡ 0 → count (counts_in before.work.server) ≡ 0 = λ count zero. (ap count is.counts ∙ zero) in
      let from_start : (count : Counts → ℕ) (added number : ℕ) → count no_counts ≡ 0 → count (counts_in opened.server) ≡ count (counts_in before.work.server) + added → count (counts_in opened.server) + number ≡ added + number =
      λ count added number zero is_added. let early = none count zero in omega (arith, is_added, early) in
      let delivered : (counts_in opened.server).delivered + length (wanted_packets (setup_in opened.server) (events_in opened.server) (events_from (latest_in opened.server) some)) ≡ length (wanted_packets setup [] (first_happened ++ new)) =
      from_start (λ counts. counts.delivered) _ _ refl opening.sent.delivered_are
      ∙ (λ i. (all_tried opening.sent.handed ∙ as_many opening.sent.handed ∙ sym many_handed) i + length (wanted_packets (opened_set_up i) (past i) (since i)))
      ∙ sym (length-append (wanted_packets setup [] first_happened) (wanted_packets setup first_happened new)) ∙ ap length (sym packets_are) in
      let sent_count_then = unsent_then (wanted_sends setup [] first_happened) (wanted_sends setup first_happened new) (sent_by opening) sends many_sent in
      let handed_count_then = unsent_then (wanted_packets setup [] first_happened) (wanted_packets setup first_happened new) (handed_by opening) packets many_handed in
      let unsent : (counts_in opened.server).unsent
      + (unsent_of (wanted_sends (setup_in opened.server) (events_in opened.server) (events_from (latest_in opened.server) some)) sends + unsent_of (wanted_packets (setup_in opened.server) (events_in opened.server) (events_from (latest_in opened.server) some)) packets)
      ≡ unsent_of (wanted_sends setup [] (first_happened ++ new)) (sent_by opening ++ sends) + unsent_of (wanted_packets setup [] (first_happened ++ new)) (handed_by opening ++ packets) =
      from_start (λ counts. counts.unsent) _ _ refl opening.sent.unsent_are
      ∙ (λ i. (opening.sent.sent.unsent_is i + opening.sent.handed.unsent_is i) + (unsent_of (wanted_sends (opened_set_up i) (past i) (since i)) sends + unsent_of (wanted_packets (opened_set_up i) (past i) (since i)) packets))
      ∙ pairs (unsent_count (sent_by opening)) (unsent_count (handed_by opening)) (unsent_of (wanted_sends setup first_happened new) sends) (unsent_of (wanted_packets setup first_happened new) packets)
      ∙ (λ i. sym sent_count_then i + sym handed_count_then i)
      ∙ (λ i. unsent_of (sym sends_are i) (sent_by opening ++ sends) + unsent_of (sym packets_are i) (handed_by opening ++ packets)) in
      let datagrams = from_start (λ counts. counts.datagrams) 0 (sum_by datagrams_heard some) refl opening.tallies.datagrams_are in
      let controls = from_start (λ counts. counts.controls) 0 (sum_by lines_taken some) refl opening.tallies.controls_are in
      let bad = from_start (λ counts. counts.bad_controls) 0 (sum_by bad_lines_taken some) refl opening.tallies.bad_are in
      let starved = from_start (λ counts. counts.starved) 0 (sum_by starved_in some + refused) refl opening.tallies.starved_are in
      λ i. record {
        events = past i ++ since i;
        turns = length some;
        datagrams = (datagrams ∙ zero-add _) i;
        controls = (controls ∙ zero-add _) i;
        bad_controls = (bad ∙ zero-add _) i;
        delivered = delivered i;
        unsent = unsent i;
        starved = (starved ∙ zero-add _) i;
      }

  -- by what happened then
  serves_by : (whole : List Turn) (cut : Option Turn) (rounds : List (List Reply)) (left : Leaving) (end : End) (after : World) (last : LinkSeen) → MayGo config turns end (run_of word opens.moment opens.opened whole cut rounds left)
      → (does : Does (in_run (latest_in opened.server) (with_cut whole cut) (sum_by refused_among rounds) left) begun after)
      → StarveWhereItSends (setup_in opened.server).settings (setup_in opened.server).first (events_in opened.server) (latest_in opened.server) (with_cut whole cut)
      → EndsIn end begun after → AreRounds (setup_in opened.server).settings (setup_in opened.server).first (standing_since opened.server (sent_by does) (handed_by does)) before.control whole rounds last → IsUntried last after.control
      → Serves config turns (devices_of before) (devices_of after) (report_of end (length whole) (counts_in after.work.server))
  unfolding tried_at
  serves_by whole cut rounds left end after last goes does starve ends answered untried =
      let run = run_of word opens.moment opens.opened whole cut rounds left in
      let all = all_does whole cut rounds left after does in
      let sent = all_sent whole cut rounds left after does in
      let none : (count : Counts → ℕ) → count no_counts ≡ 0 → count (counts_in before.work.server) ≡ 0 = λ count zero. (ap count is.counts ∙ zero) in record {
        run = run;
        goes = goes;
        words = all.words;
        clock = all.clock;
        link = all.link;
        control = all.control;
        link_sent = all.sent.link_sent;
        link_unsent = all.sent.link_unsent;
        link_tried = tried_at all.sent.sent (λ i. wanted_sends (is.set_up i) (is.none i) (events_of run));
        out_sent = all.sent.out_sent;
        out_unsent = all.sent.out_unsent;
        out_tried = tried_at all.sent.handed (λ i. wanted_packets (is.set_up i) (is.none i) (events_of run));
        last_answered = last;
        answered = subst (λ (tried : List TriedSend × List TriedSend). AreRounds (settings_by config) (nonce_of word) (stand_of config run tried.0 tried.1) before.control whole rounds last)
            (λ i. (sym sent.0 i, sym sent.1 i))
            (subst (λ (stand : List Turn → ℕ → Standing). AreRounds (settings_by config) (nonce_of word) stand before.control whole rounds last) (λ i some refused. stands_by (sent_by does) (handed_by does) some refused i)
            (subst (λ (setup : Setup). AreRounds setup.settings setup.first (standing_since opened.server (sent_by does) (handed_by does)) before.control whole rounds last) opened_set_up answered));
        untried = untried;
        turns_are = refl;
        counted = record {
          datagrams_are = from_none _ _ _ all.tallies.datagrams_are (none (λ counts. counts.datagrams) refl);
          controls_are = from_none _ _ _ all.tallies.controls_are (none (λ counts. counts.controls) refl);
          bad_are = from_none _ _ _ all.tallies.bad_are (none (λ counts. counts.bad_controls) refl);
          starved_are = from_none _ _ _ all.tallies.starved_are (none (λ counts. counts.starved) refl);
        };
        starve = StarveWhereItSends-same opened_set_up (opening.events ∙ ap (λ (list : List GatewayEvent). list ++ run.begun) is.none) opened_at (with_cut whole cut) starve;
        delivered_are = from_none _ _ _ all.sent.delivered_are (none (λ counts. counts.delivered) refl);
        unsent_are = from_none _ _ _ all.sent.unsent_are (none (λ counts. counts.unsent) refl);
        link_cause = subst (λ (count : ℕ). IsCauseOf end LinkFault count after.work.link.receive_faults) (opening.calm refl) ends.link;
        control_cause = ends.control;
        words_cause = subst (λ (count : ℕ). IsCauseOf end WordsFault count after.words.faults) quiet ends.words;
      }

  -- memory refused a join
  pub serves_unopened : (error : E) → result ≡ Err error → Serves config turns (devices_of before) (devices_of begun) (report_of Memory 0 (counts_in opened.server))
  serves_unopened error failed =
      let refused = subst (λ (one : Result (Unit {0}) E). IsBegunBy one (map opening_of joins) opens.opened) failed opens.is in
      serves_by [] None [] Stayed Memory begun before.control
      (unopened refl refl (record {
        moment = opens.moment;
        given = refl;
        opened = opens.opened;
        begun_is = refl;
        refused = refused.0;
        rest = refused.1;
        joins_are = ap (map opening_of) (sym same_joins) ∙ refused.2;
        no_turn = refl;
        stayed = refl;
      }))
      (turns_none begun) tt (EndsIn-none Memory begun (λ is. cc is) (λ is. cc is) (λ is. cc is)) no_round (record { same_tried = refl; same_faults = refl })

  -- the turns began
  pub serves_run : result ≡ Ok tt → (after : World) (end : End) (done : ℕ) → RunsSo turns begun after end done → Serves config turns (devices_of before) (devices_of after) (report_of end done (counts_in after.work.server))
  serves_run fine after end done runs =
      let all_begun : opens.opened ≡ map opening_of joins = subst (λ (one : Result (Unit {0}) E). IsBegunBy one (map opening_of joins) opens.opened) fine opens.is in
      subst (λ (number : ℕ). Serves config turns (devices_of before) (devices_of after) (report_of end number (counts_in after.work.server))) (sym runs.done_is)
      (serves_by runs.whole runs.cut runs.rounds runs.left end after runs.last
      (served refl (record {
        moment = opens.moment;
        given = refl;
        begun_is = ap (λ (list : List GatewayEvent). Moment opens.moment ∷ list) (all_begun ∙ ap (map opening_of) same_joins);
        are_whole = subst (λ (setup : Setup). All (IsWhole (family_of setup.settings)) runs.whole) opened_set_up runs.are_whole;
        ended = subst (λ (setup : Setup). HasEnded (family_of setup.settings) turns end runs.whole runs.left runs.cut) opened_set_up runs.ended;
      })) runs.does runs.starve runs.causes runs.answered runs.untried)
