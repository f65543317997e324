-- What the turns of a run come to together.
use Rattle.std.{proofs.{Common.{◌≡◌, ℕ, ◌+◌, ◌*◌, ◌≤◌, ◌<◌, Bool, true, false, true≢false, ◌||◌, append-nil, List, [], ◌∷◌, ◌++◌, length, map, None, Some, Ok, Err, refl, sym, ap, subst, ◌∙◌, append_assoc, arith, length-append}, lemmas.{Grind.{flat_map-append}, List.{length-map, Elements.{All-nil, All-push}, Folds.{list_any-append}, Sums.{count_by-le-length, sum_by-append}}}}, specs.{Prelude.{All, Result, sum_by}}}
use Rattle.amt_ports.{specs.{Answers.{Taken}, Causes.{Rose}, Devices.{LinkSeen}, Sends.{TriedSend}, EndCauses.{IsCauseOf, IsCausedBy}, declared.{link.LinkAnswer.{LinkAnswer}, end.End.{End, TheVariants.{Turns, LinkFault, FeedFault, WordsFault}}}}, proofs.Bursts.{few_asked}}
use Rattle.control_lines.specs.declared.asking_gateway.GatewayAsking.{GatewayAsking, TheVariants.{Counts, Show, Stop, StopLeave}}
use Rattle.script_lines.specs.declared.reason.Reason.{Reason}
use Rattle.gateway_machine.specs.{Settings.{family_of}, declared.event.GatewayEvent.{GatewayEvent}}
use Rattle.gateway_serving.specs.{Askers.{AreAnswered, Reply, is_leave, is_stop, ask_leave, ask_stop, askers_of, refused_among}, Counting.{bad_lines_taken, datagrams_heard, lines_taken, starved_in}, Events.{events_from, events_of_turn, leave_events, nonces_in}, Leaving.{IsLeaving, Leaving, AllLeft, LeaveRefused, Stayed, refused_leave}, Replies.{Standing}, Rounds.{AreRounds, no_round, round_more, unsent_of}, Runs.{GoOn, HasDone, IsCut, all_turns, moments_given, stopped}}
use Rattle.gateway_serving.specs.{Servers.{Setup, counts_in, events_in, family_in, latest_in, setup_in, standing_in, tally_in, wanted_packets, wanted_sends}, Stages.{EndsIn, EndsTurn, EndsTurnBy, RunsSo, TurnsSo, standing_since}, Starving.{StarveWhereItSends}, Traces.{AtControl, Does, World, at_control, ending, in_run, in_turns, with_control}, declared.askers.Asker.{Asker}}
use Rattle.gateway_serving.{specs.{Turns.{ControlAnswer, IsWhole, Turn, from_control, latest_of, moment_of_turn}}, proofs.{Stages.{no_error}, Starving.{AreStarved-same, StarveWhereItSends-more}, Traces.{Does-at, Does-none, Does-then, handed_by, latest_of-append, sent_by}, Trying.{HasSent-at, HasSent-then, all_tried, tried_at, tried_then, unsent_first}, Waiting.{few_among}}}

-- the events of one turn more are those from where the others led
events_from-more : (latest : ℕ) (turns : List Turn) (turn : Turn)
    → events_from latest turns ++ events_from (latest_of latest (moments_given turns)) (turn ∷ []) ≡ events_from latest (turns ++ turn ∷ [])
events_from-more latest [] turn = refl
events_from-more latest (one ∷ turns) turn =
    let head = events_of_turn latest one in
    let next = moment_of_turn latest one in
    append_assoc head (events_from next turns) (events_from (latest_of latest (moments_given (one ∷ turns))) (turn ∷ []))
    ∙ ap (λ (list : List GatewayEvent). head ++ list)
    (ap (λ (from : ℕ). events_from next turns ++ events_from from (turn ∷ [])) (latest_of-append latest (map (λ (taken : Taken ℕ). taken.answer) one.clock) (moments_given turns)) ∙ events_from-more next turns turn)

-- where a count stood still, and then rose for a cause or didn't
cause_then : (end cause : End) (first middle last : ℕ) → middle ≡ first → IsCausedBy {A = Unit {0}} (Err end) cause middle last → IsCauseOf end cause first last
cause_then end cause first middle last same by = (
  λ is. subst (λ (n : ℕ). Rose n last) same (by.rose (ap Err is)),
  λ other. by.calm (λ is. other (cc is)) ∙ same,
)

-- one turn more of a run that goes on
unfoldable turns_more : {before now after : World} (turns : List Turn) (turn : Turn) (refused : ℕ) (left : Leaving) → left ≡ Stayed → Does (in_run (latest_in before.work.server) turns refused left) before now
    → Does (in_turns (latest_in now.work.server) (turn ∷ [])) now after → Does (in_run (latest_in before.work.server) (turns ++ turn ∷ []) refused Stayed) before after
turns_more {before} turns turn refused left stayed first second =
    let latest = latest_in before.work.server in
    let sum : (f : Turn → ℕ) → sum_by f turns + sum_by f (turn ∷ []) ≡ sum_by f (turns ++ turn ∷ []) = λ f. sym (sum_by-append f turns (turn ∷ [])) in
    let starved = sum starved_in in
    let none : leave_events left ≡ [] = ap leave_events stayed in
    let refused_none : refused_leave left ≡ 0 = ap refused_leave stayed in
    let silent : length (leave_events left) ≡ 0 = ap length none in
    Does-at (Does-then first second)
    ((λ i. (events_from latest turns ++ none i) ++ events_from (first.latest i) (turn ∷ []))
    ∙ ap (λ (list : List GatewayEvent). list ++ events_from (latest_of latest (moments_given turns)) (turn ∷ [])) (append-nil (events_from latest turns))
    ∙ events_from-more latest turns turn ∙ sym (append-nil (events_from latest (turns ++ turn ∷ []))))
    (sym (flat_map-append (λ (one : Turn). one.drawn) turns (turn ∷ []))) (sym (flat_map-append (λ (one : Turn). map (λ (taken : Taken ℕ). taken.answer) one.clock) turns (turn ∷ [])))
    (sym (flat_map-append (λ (one : Turn). map (λ (taken : Taken LinkAnswer). taken.answer) one.heard) turns (turn ∷ []))) (sym (flat_map-append (λ (one : Turn). map (λ (line : ControlAnswer). line.answer) one.lines) turns (turn ∷ [])))
    (λ is. is) (sum datagrams_heard) (sum lines_taken) (sum bad_lines_taken) (omega (arith, starved, refused_none)) (omega (arith, length-append turns (turn ∷ []), refused_none, silent))

refused_rounds : (rounds : List (List Reply)) (round : List Reply) → sum_by refused_among (rounds ++ round ∷ []) ≡ sum_by refused_among rounds + refused_among round
refused_rounds rounds round = let all = sum_by-append refused_among rounds (round ∷ []) in omega (arith, all)

-- what followed it
unfoldable ended_more : {before now after : World} (turns : List Turn) (rounds : List (List Reply)) (round : List Reply) (left : Leaving) → Does (in_run (latest_in before.work.server) turns (sum_by refused_among rounds) Stayed) before now
    → Does (ending (refused_among round) left) now after → Does (in_run (latest_in before.work.server) turns (sum_by refused_among (rounds ++ round ∷ [])) left) before after
ended_more {before} turns rounds round left first second =
    let all = refused_rounds rounds round in
    Does-at (Does-then first second) (ap (λ (list : List GatewayEvent). list ++ leave_events left) (append-nil (events_from (latest_in before.work.server) turns)))
    (append-nil _) (append-nil _) (append-nil _) (append-nil _) (λ is. is) (omega arith) (omega arith) (omega arith) (omega (arith, all)) (omega (arith, all))

-- what was tried in it
turns_more-sent : {before now after : World} (turns : List Turn) (turn : Turn) (refused : ℕ) (left : Leaving) (stayed : left ≡ Stayed) (first : Does (in_run (latest_in before.work.server) turns refused left) before now)
    (second : Does (in_turns (latest_in now.work.server) (turn ∷ [])) now after)
    → (sent_by (turns_more turns turn refused left stayed first second) ≡ sent_by first ++ sent_by second) × (handed_by (turns_more turns turn refused left stayed first second) ≡ handed_by first ++ handed_by second)
unfolding turns_more Does-at Does-then HasSent-at HasSent-then tried_at tried_then
turns_more-sent turns turn refused left stayed first second = (refl, refl)

ended_more-sent : {before now after : World} (turns : List Turn) (rounds : List (List Reply)) (round : List Reply) (left : Leaving) (first : Does (in_run (latest_in before.work.server) turns (sum_by refused_among rounds) Stayed) before now)
    (second : Does (ending (refused_among round) left) now after)
    → (sent_by (ended_more turns rounds round left first second) ≡ sent_by first ++ sent_by second) × (handed_by (ended_more turns rounds round left first second) ≡ handed_by first ++ handed_by second)
unfolding ended_more Does-at Does-then HasSent-at HasSent-then tried_at tried_then
ended_more-sent turns rounds round left first second = (refl, refl)

-- where a gateway stands after turns, whatever is tried later
stands_after : {before after : World} (turns : List Turn) (refused done : ℕ) (does : Does (in_run (latest_in before.work.server) turns refused Stayed) before after) (sends packets : List TriedSend) → done ≡ length turns
    → standing_in done after.work.server ≡ standing_since before.work.server (sent_by does ++ sends) (handed_by does ++ packets) turns refused
stands_after {before} {after} turns refused done does sends packets done_is =
    let setup = setup_in before.work.server in
    let past = events_in before.work.server in
    let new = events_from (latest_in before.work.server) turns in
    let none : new ++ [] ≡ new = append-nil new in
    let Unsent : List GatewayEvent → ℕ = λ more. unsent_of (wanted_sends setup past more) (sent_by does ++ sends) + unsent_of (wanted_packets setup past more) (handed_by does ++ packets) in
    let delivered : (counts_in after.work.server).delivered ≡ (counts_in before.work.server).delivered + length (wanted_packets setup past new) =
    does.sent.delivered_are ∙ ap (λ (n : ℕ). (counts_in before.work.server).delivered + n) (all_tried does.sent.handed ∙ ap (λ (more : List GatewayEvent). length (wanted_packets setup past more)) none) in
    let unsent : (counts_in after.work.server).unsent ≡ (counts_in before.work.server).unsent + Unsent new =
    does.sent.unsent_are ∙ ap (λ (n : ℕ). (counts_in before.work.server).unsent + n) ((λ i. unsent_first does.sent.sent sends i + unsent_first does.sent.handed packets i) ∙ ap Unsent none) in
    let starved : (counts_in after.work.server).starved ≡ (counts_in before.work.server).starved + (sum_by starved_in turns + refused) = omega (arith, does.tallies.starved_are) in
    let events : events_in after.work.server ≡ past ++ new = does.events ∙ ap (λ (list : List GatewayEvent). past ++ list) none in
    λ i. record {
      events = events i;
      turns = done_is i;
      datagrams = does.tallies.datagrams_are i;
      controls = does.tallies.controls_are i;
      bad_controls = does.tallies.bad_are i;
      delivered = delivered i;
      unsent = unsent i;
      starved = starved i;
    }

-- no device failed
pub record AreCalm (before after : World) : Type 0 where
  pub link : after.work.link.receive_faults ≡ before.work.link.receive_faults
  pub control : after.control.receive_faults ≡ before.control.receive_faults
  pub words : after.words.faults ≡ before.words.faults

-- the run ended, and by no device
EndsIn-calm : {before after : World} (end : End) → (end ≡ LinkFault → ⊥) → (end ≡ FeedFault → ⊥) → (end ≡ WordsFault → ⊥) → AreCalm before after → EndsIn end before after
EndsIn-calm end link control words calm = record {
  link = ((λ is. absurd (link is)), (λ _. calm.link));
  control = ((λ is. absurd (control is)), (λ _. calm.control));
  words = ((λ is. absurd (words is)), (λ _. calm.words));
}

pub EndsIn-none : (end : End) (seen : World) → (end ≡ LinkFault → ⊥) → (end ≡ FeedFault → ⊥) → (end ≡ WordsFault → ⊥) → EndsIn end seen seen
EndsIn-none end seen link control words = EndsIn-calm end link control words (record { link = refl; control = refl; words = refl })

-- whether nobody asked in these turns that the run ends, or somebody in the last one alone
abbrev pub GoesOn : Bool → List Turn → Leaving → Type 0
GoesOn false turns left = GoOn turns × (left ≡ Stayed)
GoesOn true turns left = (earlier : List Turn) × (last : Turn) × (turns ≡ earlier ++ last ∷ []) × GoOn earlier × (ask_stop (askers_of last) ≡ true) × IsLeaving (ask_leave (askers_of last)) left

is_left : (left : Leaving) → IsLeaving false left → left ≡ Stayed
is_left Stayed is = refl
is_left AllLeft is = absurd is
is_left LeaveRefused is = absurd is

-- who asks for the leave asks that the run ends
leave_stops : (reading : Result GatewayAsking Reason) → is_stop reading ≡ false → is_leave reading ≡ false
leave_stops (Ok Counts) none = refl
leave_stops (Ok Show) none = refl
leave_stops (Ok Stop) none = refl
leave_stops (Ok StopLeave) none = absurd (true≢false none)
leave_stops (Err reason) none = refl

neither_of : (one other : Bool) → (one || other) ≡ false → (one ≡ false) × (other ≡ false)
neither_of false other is = (refl, is)
neither_of true other is = absurd (true≢false is)

no_leave : (askers : List Asker) → ask_stop askers ≡ false → ask_leave askers ≡ false
no_leave [] none = refl
no_leave (one ∷ askers) none =
    let both = neither_of (is_stop one.reading) (ask_stop askers) none in
    let here = leave_stops one.reading both.0 in
    let rest = no_leave askers both.1 in λ i. here i || rest i

goes_more : (stops : Bool) (turns : List Turn) (turn : Turn) (left : Leaving) → GoOn turns → stops ≡ ask_stop (askers_of turn) → IsLeaving (ask_leave (askers_of turn)) left → GoesOn stops (turns ++ turn ∷ []) left
goes_more true turns turn left on is leaving = (turns, turn, refl, on, sym is, leaving)
goes_more false turns turn left on is leaving = (
  list_any-append (λ (one : Turn). ask_stop (askers_of one)) turns (turn ∷ []) ∙ (λ i. on i || (sym is i || false)),
  is_left left (subst (λ (asked : Bool). IsLeaving asked left) (no_leave (askers_of turn) (sym is)) leaving),
)

-- a run after so many whole turns, which goes on or not; what is tried later changes none of its answers
pub record IsRunning (before now : World) (done : ℕ) (stops : Bool) : Type 0 where
  pub turns : List Turn
  pub rounds : List (List Reply)
  pub left : Leaving
  pub does : Does (in_run (latest_in before.work.server) turns (sum_by refused_among rounds) left) before now
  pub answered : (sends packets : List TriedSend) → AreRounds (setup_in before.work.server).settings (setup_in before.work.server).first (standing_since before.work.server (sent_by does ++ sends) (handed_by does ++ packets)) before.control turns rounds now.control
  pub few_refused : sum_by refused_among rounds ≤ 64 * length turns
  pub goes : GoesOn stops turns left
  pub starve : StarveWhereItSends (setup_in before.work.server).settings (setup_in before.work.server).first (events_in before.work.server) (latest_in before.work.server) turns
  pub are_whole : All (IsWhole (family_in before.work.server)) turns
  pub done_is : done ≡ length turns
  pub calm : AreCalm before now
  pub no_askers : now.askers ≡ []

-- no turn
unfoldable pub turns_none : (seen : World) → Does (in_run (latest_in seen.work.server) [] 0 Stayed) seen seen
turns_none seen = Does-at (Does-none seen) refl refl refl refl refl (λ _. refl) refl refl refl refl (omega arith)

pub IsRunning-none : (seen : World) → seen.askers ≡ [] → IsRunning seen seen 0 false
IsRunning-none seen none = record {
  turns = [];
  rounds = [];
  left = Stayed;
  does = turns_none seen;
  answered = λ sends packets. no_round;
  few_refused = omega arith;
  goes = (refl, refl);
  starve = tt;
  are_whole = All-nil (IsWhole (family_in seen.work.server));
  done_is = refl;
  calm = record { link = refl; control = refl; words = refl };
  no_askers = none;
}

-- a turn more, whole or not
module _ {before now after : World} {done : ℕ} {result : Result (Unit {0}) End} (run : IsRunning before now done false) (next : TurnsSo now after result) where
  starve_more : StarveWhereItSends (setup_in before.work.server).settings (setup_in before.work.server).first (events_in before.work.server) (latest_in before.work.server) (run.turns ++ next.turn ∷ [])
  starve_more =
      StarveWhereItSends-more (setup_in before.work.server) (events_in before.work.server) (latest_in before.work.server) run.turns next.turn run.starve
      (AreStarved-same run.does.same
      (λ i. (run.does.events ∙ ap (λ (list : List GatewayEvent). events_in before.work.server ++ list) (ap (λ (left : Leaving). events_from (latest_in before.work.server) run.turns ++ leave_events left) run.goes.1 ∙ append-nil _)) i ++ nonces_in next.turn.drawn)
      run.does.latest next.turn.clock next.starve)

  abbrev does_more : Does (in_run (latest_in before.work.server) (run.turns ++ next.turn ∷ []) (sum_by refused_among run.rounds) Stayed) before after
  does_more = turns_more run.turns next.turn (sum_by refused_among run.rounds) run.left run.goes.1 run.does next.does

  -- the answers before it
  abbrev Rounds : List TriedSend → List TriedSend → List Turn → List (List Reply) → LinkSeen → Type 0
  Rounds sends packets turns rounds last =
      AreRounds (setup_in before.work.server).settings (setup_in before.work.server).first (standing_since before.work.server sends packets) before.control turns rounds last

  answered_before : (sends packets : List TriedSend) → Rounds (sent_by does_more ++ sends) (handed_by does_more ++ packets) run.turns run.rounds now.control
  answered_before sends packets =
      let tried = turns_more-sent run.turns next.turn (sum_by refused_among run.rounds) run.left run.goes.1 run.does next.does in
      let sent : sent_by run.does ++ (sent_by next.does ++ sends) ≡ sent_by does_more ++ sends = sym (append_assoc (sent_by run.does) (sent_by next.does) sends) ∙ ap (λ (list : List TriedSend). list ++ sends) (sym tried.0) in
      let handed : handed_by run.does ++ (handed_by next.does ++ packets) ≡ handed_by does_more ++ packets = sym (append_assoc (handed_by run.does) (handed_by next.does) packets) ∙ ap (λ (list : List TriedSend). list ++ packets) (sym tried.1) in
      subst (λ (all : List TriedSend × List TriedSend). Rounds all.0 all.1 run.turns run.rounds now.control) (λ i. (sent i, handed i)) (run.answered (sent_by next.does ++ sends) (handed_by next.does ++ packets))

-- a whole turn more, and what followed it
module _ {before now after : World} {seen : AtControl} {done : ℕ} {stops : Bool} (run : IsRunning before now done false) (next : TurnsSo now after (Ok tt))
    (ends_by : EndsTurnBy (done + 1) (at_control after.work after.control after.control_wait after.askers) seen stops) where
  abbrev last : World
  last = with_control after seen

  abbrev ends : EndsTurn (done + 1) after last stops
  ends = ends_by after

  abbrev all_turns_of : List Turn
  all_turns_of = run.turns ++ next.turn ∷ []

  abbrev before_answers : Does (in_run (latest_in before.work.server) all_turns_of (sum_by refused_among run.rounds) Stayed) before after
  before_answers = does_more run next

  abbrev all_more : Does (in_run (latest_in before.work.server) all_turns_of (sum_by refused_among (run.rounds ++ ends.round ∷ [])) ends.left) before last
  all_more = ended_more all_turns_of run.rounds ends.round ends.left before_answers ends.does

  done_more : done + 1 ≡ length all_turns_of
  done_more = ap (λ (n : ℕ). n + 1) run.done_is ∙ sym (length-append run.turns (next.turn ∷ []))

  askers_are : after.askers ≡ askers_of next.turn
  askers_are = next.asked ∙ ap (λ (list : List Asker). list ++ askers_of next.turn) run.no_askers

  few_more : sum_by refused_among (run.rounds ++ ends.round ∷ []) ≤ 64 * length all_turns_of
  few_more =
      let all = refused_rounds run.rounds ends.round in
      let starved = count_by-le-length (λ (one : Reply). one.starved) ends.round in
      let many = sym (length-map ends.round (λ (one : Reply). one.asker)) ∙ ap length (ends.to_askers ∙ askers_are) in
      let lines = few_among next.turn.lines in
      let asked = few_asked (from_control (family_in now.work.server)) FeedFault (Ok tt) next.turn.lines next.is_turn.control in
      omega (arith, all, starved, many, lines, asked, run.few_refused, length-append run.turns (next.turn ∷ []))

  answered_more : (sends packets : List TriedSend)
      → Rounds run next (sent_by before_answers ++ sends) (handed_by before_answers ++ packets) all_turns_of (run.rounds ++ ends.round ∷ []) last.control
  answered_more sends packets =
      let stands = stands_after all_turns_of (sum_by refused_among run.rounds) (done + 1) before_answers sends packets done_more in
      round_more run.turns run.rounds now.control (answered_before run next sends packets) next.turn ends.round last.control (record {
        heard = after.control;
        untried = next.untried;
        to_askers = ends.to_askers ∙ askers_are;
        answered = subst (λ (at : Setup × Standing). AreAnswered at.0.settings at.0.first at.1 after.control ends.round last.control) (λ i. (before_answers.same i, stands i)) ends.answered;
      })

  answered_all : (sends packets : List TriedSend) → Rounds run next (sent_by all_more ++ sends) (handed_by all_more ++ packets) all_turns_of (run.rounds ++ ends.round ∷ []) last.control
  answered_all sends packets =
      let tried = ended_more-sent all_turns_of run.rounds ends.round ends.left before_answers ends.does in
      let sent : sent_by before_answers ++ (sent_by ends.does ++ sends) ≡ sent_by all_more ++ sends = sym (append_assoc (sent_by before_answers) (sent_by ends.does) sends) ∙ ap (λ (list : List TriedSend). list ++ sends) (sym tried.0) in
      let handed : handed_by before_answers ++ (handed_by ends.does ++ packets) ≡ handed_by all_more ++ packets = sym (append_assoc (handed_by before_answers) (handed_by ends.does) packets) ∙ ap (λ (list : List TriedSend). list ++ packets) (sym tried.1) in
      subst (λ (all : List TriedSend × List TriedSend). Rounds run next all.0 all.1 all_turns_of (run.rounds ++ ends.round ∷ []) last.control) (λ i. (sent i, handed i)) (answered_more (sent_by ends.does ++ sends) (handed_by ends.does ++ packets))

  pub IsRunning-then : IsRunning before last (done + 1) stops
  IsRunning-then = record {
    turns = all_turns_of;
    rounds = run.rounds ++ ends.round ∷ [];
    left = ends.left;
    does = all_more;
    answered = answered_all;
    few_refused = few_more;
    goes = goes_more stops run.turns next.turn ends.left run.goes.0 (ends.stops_is ∙ ap ask_stop askers_are) (subst (λ (askers : List Asker). IsLeaving (ask_leave askers) ends.left) askers_are ends.is_left);
    starve = starve_more run next;
    are_whole = All-push (IsWhole (family_in before.work.server)) run.turns next.turn run.are_whole (subst (λ (setup : Setup). IsWhole (family_of setup.settings) next.turn) run.does.same next.is_turn);
    done_is = done_more;
    calm = record {
      link = ends.does.calm refl ∙ next.causes.link.calm (no_error LinkFault) ∙ run.calm.link;
      control = ends.calm ∙ next.causes.control.calm (no_error FeedFault) ∙ run.calm.control;
      words = ends.same_words ∙ next.causes.words.calm (no_error WordsFault) ∙ run.calm.words;
    };
    no_askers = ends.no_askers;
  }

-- which goes on
pub IsRunning-on : {before now after : World} {seen : AtControl} {done : ℕ} {stops : Bool} → IsRunning before now done false → TurnsSo now after (Ok tt)
    → EndsTurnBy (done + 1) (at_control after.work after.control after.control_wait after.askers) seen stops → stops ≡ false → IsRunning before (with_control after seen) (done + 1) false
IsRunning-on {before} {after = after} {seen = seen} {done = done} run next ends is = subst (λ (one : Bool). IsRunning before (with_control after seen) (done + 1) one) is (IsRunning-then run next ends)

-- so much is counted at most
pub few_running : {before now : World} {done : ℕ} → IsRunning before now done false → tally_in now.work.server ≤ tally_in before.work.server + 322 * done
few_running {before} {now} {done} run =
    let few = run.does.few in
    let none : length (leave_events run.left) + refused_leave run.left ≡ 0 = ap (λ (left : Leaving). length (leave_events left) + refused_leave left) run.goes.1 in
    omega (arith, few, none, run.few_refused, run.done_is)

-- so many ask in a turn at most
pub few_asking : {before now after : World} {done : ℕ} → IsRunning before now done false → TurnsSo now after (Ok tt) → length after.askers ≤ 64
few_asking {now = now} run next =
    let asked = ap length (next.asked ∙ ap (λ (list : List Asker). list ++ askers_of next.turn) run.no_askers) in
    let lines = few_asked (from_control (family_in now.work.server)) FeedFault (Ok tt) next.turn.lines next.is_turn.control in
    omega (arith, asked, few_among next.turn.lines, lines)

-- the run is done with its turns
runs_so : {before now : World} (turns : ℕ) {done : ℕ} {stops : Bool} (run : IsRunning before now done stops) → HasDone turns run.turns run.left → RunsSo turns before now Turns done
runs_so {before} {now} turns run ended = record {
  whole = run.turns;
  cut = None;
  rounds = run.rounds;
  left = run.left;
  does = run.does;
  last = now.control;
  answered = subst (λ (all : List TriedSend × List TriedSend). AreRounds (setup_in before.work.server).settings (setup_in before.work.server).first (standing_since before.work.server all.0 all.1) before.control run.turns run.rounds now.control)
      (λ i. (append-nil (sent_by run.does) i, append-nil (handed_by run.does) i)) (run.answered [] []);
  untried = record { same_tried = refl; same_faults = refl };
  causes = EndsIn-calm Turns (λ is. cc is) (λ is. cc is) (λ is. cc is) run.calm;
  starve = run.starve;
  are_whole = run.are_whole;
  ended = (refl, ended);
  done_is = run.done_is;
}

pub RunsSo-all : {before now : World} (turns : ℕ) {done : ℕ} → IsRunning before now done false → done ≡ turns → RunsSo turns before now Turns turns
RunsSo-all {before} {now} turns run all = subst (λ (number : ℕ). RunsSo turns before now Turns number) all (runs_so turns run (all_turns (sym run.done_is ∙ all) run.goes.0 run.goes.1))

pub RunsSo-stopped : {before now : World} (turns : ℕ) {done : ℕ} {stops : Bool} → IsRunning before now (done + 1) stops → stops ≡ true → done < turns → RunsSo turns before now Turns (done + 1)
RunsSo-stopped turns run is few =
    let goes = subst (λ (one : Bool). GoesOn one run.turns run.left) is run.goes in
    let many = run.done_is in
    runs_so turns run (stopped goes.0 goes.1 goes.2 (omega (arith, many, few)) goes.3 goes.4 goes.5)

-- the run ended in a turn
pub RunsSo-cut : {before now after : World} (turns : ℕ) {done : ℕ} (end : End) → IsRunning before now done false → TurnsSo now after (Err end) → done < turns → RunsSo turns before after end done
RunsSo-cut {before} {now} turns end run next few = record {
  whole = run.turns;
  cut = Some next.turn;
  rounds = run.rounds;
  left = Stayed;
  does = does_more run next;
  last = now.control;
  answered = subst (λ (all : List TriedSend × List TriedSend). Rounds run next all.0 all.1 run.turns run.rounds now.control)
      (λ i. (append-nil (sent_by (does_more run next)) i, append-nil (handed_by (does_more run next)) i)) (answered_before run next [] []);
  untried = next.untried;
  causes = record {
    link = cause_then end LinkFault _ _ _ run.calm.link next.causes.link;
    control = cause_then end FeedFault _ _ _ run.calm.control next.causes.control;
    words = cause_then end WordsFault _ _ _ run.calm.words next.causes.words;
  };
  starve = starve_more run next;
  are_whole = run.are_whole;
  ended = (subst (λ (n : ℕ). n < turns) run.done_is few, subst (λ (setup : Setup). IsCut end (family_of setup.settings) next.turn) run.does.same next.is_turn, run.goes.0, refl);
  done_is = run.done_is;
}
