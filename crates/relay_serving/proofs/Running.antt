-- What the turns of a run come to together.
use Rattle.std.{proofs.{Common.{◌≡◌, ℕ, ◌+◌, ◌*◌, ◌≤◌, ◌<◌, cond, Bool, true, false, ◌||◌, append-nil, List, [], ◌∷◌, ◌++◌, length, map, take, None, Err, Ok, Some, refl, sym, ap, subst, ◌∙◌, append_assoc, arith, length-append}, lemmas.{Grind.{flat_map-append}, List.{map-append, take_all, Folds.{list_any-append}, Sums.{count_by-le-length, sum_by-append}}}}, specs.{Prelude.{Option, Result}, List.{sum_by}}}
use Rattle.amt_values.specs.declared.peer.Peer.{Peer}
use Rattle.amt_ports.specs.{Answers.{Taken}, Sends.{TriedSend, sent_count, unsent_count}, Causes.{Rose}, EndCauses.{IsCauseOf, IsCausedBy}, declared.{feed.FeedAnswer.{FeedAnswer}, link.LinkAnswer.{LinkAnswer}, out_link.OutLink.{Ghosts}, end.End.{End, TheVariants.{Turns, LinkFault, FeedFault, WordsFault}}}}
use Rattle.response_mac.specs.declared.secret.Secret.{Secret}
use Rattle.relay_machine.specs.declared.settings.Settings.{Settings}
use Rattle.relay_serving.specs.{Asked.{Asked, Failed, Full, IsEnd, IsRound, Round, RoundEnd, Shut, Silent, is_stopped, refused_in}, AskingServers.{AsksSo, in_turns_refusing, standing_in}, Controls.{ControlSeen}, Replies.{Standing, replies_at}, Rounds.{ControlServes, round_more, standing_after}, Runs.{GoOn, HasDone, all_turns, stopped}, Sending.{answers_after}}
use Rattle.relay_serving.specs.{Counting.{HasAnswered, is_late, no_counts, starved_in}, Devices.{Devices}, Events.{happenings_from, happenings_of_turn}, Happenings.{Happening, events_among}, Servers.{counts_in, first_in, happenings_in, settings_in, tally_in}, Serving.{AreOwedLate}, Traces.{Does, ServerDoes, World, in_turns, refusing}, Turning.{RunsSo, TurnsSo}, Turns.{AreWhole, IsWhole, Progress, Turn, after_turn, no_progress}}
use Rattle.relay_serving.{specs.declared.{counts.Counts.{Counts}, plan.ServePlan.{ServePlan}, server.Server.{Server}}, proofs.{Answering.{HasAnswered-none, answered_then, answers_after-append, as_many_sends, no_more}, Askings.{same_sends}, Happenings.{events_among-append}, OwedLate.{AreOwedLate-none, AreOwedLate-then, owed_after}, Rounds.{control_unasked, serves_further}, Stages.{no_error}, Traces.{Does-at, Does-none, Does-then}}}

-- one whole turn more
pub AreWhole-more : (rotate : ℕ) (progress last : Progress) (turns : List Turn) (turn : Turn) → AreWhole rotate progress turns last → IsWhole rotate last turn
    → AreWhole rotate progress (turns ++ turn ∷ []) (after_turn rotate last turn)
AreWhole-more rotate progress last [] turn whole next =
    (subst (λ (from : Progress). IsWhole rotate from turn) whole next, ap (λ (from : Progress). after_turn rotate from turn) whole)
AreWhole-more rotate progress last (one ∷ turns) turn whole next = (whole.0, AreWhole-more rotate (after_turn rotate progress one) last turns turn whole.1 next)

-- what happens in one turn more happens from where the others led
pub happenings_from-more : (rotate : ℕ) (progress last : Progress) (turns : List Turn) (turn : Turn) → AreWhole rotate progress turns last
    → happenings_from progress.latest (turns ++ turn ∷ []) ≡ happenings_from progress.latest turns ++ happenings_from last.latest (turn ∷ [])
happenings_from-more rotate progress last [] turn whole = ap (λ (from : Progress). happenings_from from.latest (turn ∷ [])) (sym whole)
happenings_from-more rotate progress last (one ∷ turns) turn whole =
    let head = happenings_of_turn progress.latest one in
    let next = after_turn rotate progress one in
    ap (λ (list : List Happening). head ++ list) (happenings_from-more rotate next last turns turn whole.1)
    ∙ sym (append_assoc head (happenings_from next.latest turns) (happenings_from last.latest (turn ∷ [])))

-- where a count stood still, and then rose for a cause or didn't
cause_then : (end cause : End) (first middle last : ℕ) → middle ≡ first → IsCausedBy {A = Unit {0}} (Err end) cause middle last → IsCauseOf end cause first last
cause_then end cause first middle last same by = (
  λ is. subst (λ (n : ℕ). Rose n last) same (by.rose (ap Err is)),
  λ other. by.calm (λ is. other (cc is)) ∙ same,
)

-- no device failed
pub record AreCalm (devices devices' : Devices) : Type 0 where
  pub link : devices'.link.receive_faults ≡ devices.link.receive_faults
  pub feed : devices'.feed.faults ≡ devices.feed.faults
  pub words : devices'.words.faults ≡ devices.words.faults

between : (starved refused more all : ℕ) → all ≡ starved + more → (starved + refused) + more ≡ all + refused
between starved refused more all is = omega (arith, is)

after_all : (starved refused more : ℕ) → (starved + refused) + more ≡ starved + (refused + more)
after_all starved refused more = omega arith

-- at most 64 lines came
lines_few : (ending : RoundEnd) (lines : ℕ) → IsEnd ending lines → lines ≤ 64
lines_few Full lines is = omega (arith, is)
lines_few Silent lines few = omega (arith, few)
lines_few Shut lines few = omega (arith, few)
lines_few Failed lines few = omega (arith, few)

-- whether nobody asked in these rounds that the run ends, or somebody in the last one alone
abbrev pub GoesOn : Bool → List Round → Type 0
GoesOn false rounds = GoOn rounds
GoesOn true rounds = (earlier : List Round) × (last : Round) × (rounds ≡ earlier ++ last ∷ []) × GoOn earlier × (is_stopped last ≡ true)

goes_one : (stops : Bool) (round : Round) → stops ≡ is_stopped round → GoesOn stops (round ∷ [])
goes_one true round is = ([], round, refl, refl, sym is)
goes_one false round is = ap (λ (one : Bool). one || false) (sym is)

go_on-then : (rounds more : List Round) → GoOn rounds → GoOn more → GoOn (rounds ++ more)
go_on-then rounds more first second = list_any-append is_stopped rounds more ∙ (λ i. first i || second i)

goes_more : (stops : Bool) (rounds new : List Round) → GoOn rounds → GoesOn stops new → GoesOn stops (rounds ++ new)
goes_more false rounds new first second = go_on-then rounds new first second
goes_more true rounds new first second = (
  rounds ++ second.0,
  second.1,
  ap (λ (list : List Round). rounds ++ list) second.2 ∙ sym (append_assoc rounds second.0 (second.1 ∷ [])),
  go_on-then rounds second.0 first second.3,
  second.4,
)

calm_end : (cause : End) (first last : ℕ) → (Turns ≡ cause → ⊥) → last ≡ first → IsCauseOf Turns cause first last
calm_end cause first last other same = ((λ is. absurd (other is)), (λ _. same))

module _ {O : Type 0} {g : Ghosts O} {T : Type 0} where
  -- one turn more
  turns_more : (latest latest' refused : ℕ) {before now after : World O g T} (turns : List Turn) (turn : Turn) → happenings_from latest (turns ++ turn ∷ []) ≡ happenings_from latest turns ++ happenings_from latest' (turn ∷ [])
      → Does (in_turns_refusing latest turns refused) before now → Does (in_turns latest' (turn ∷ [])) now after → Does (in_turns_refusing latest (turns ++ turn ∷ []) refused) before after
  turns_more latest latest' refused turns turn more first second =
      Does-at (Does-then first second) (sym more) (sym (map-append (λ (one : Turn). one.clock.answer) turns (turn ∷ []))) (sym (flat_map-append (λ (one : Turn). one.drawn) turns (turn ∷ [])))
      (sym (flat_map-append (λ (one : Turn). map (λ (taken : Taken LinkAnswer). taken.answer) one.heard) turns (turn ∷ []))) (sym (flat_map-append (λ (one : Turn). map (λ (taken : Taken FeedAnswer). taken.answer) one.fed) turns (turn ∷ [])))
      (between (sum_by starved_in turns) refused (sum_by starved_in (turn ∷ [])) (sum_by starved_in (turns ++ turn ∷ [])) (sum_by-append starved_in turns (turn ∷ []))) (sym (sum_by-append (λ (one : Turn). cond (is_late one) 1 0) turns (turn ∷ [])))
      (omega (arith, length-append turns (turn ∷ []))) (omega (arith, length-append turns (turn ∷ [])))

  -- lines after them, of which memory refused the answers to some
  refused_more : (latest refused number : ℕ) {before now after : World O g T} (turns : List Turn) → Does (in_turns_refusing latest turns refused) before now → Does (refusing number) now after
      → Does (in_turns_refusing latest turns (refused + number)) before after
  refused_more latest refused number turns first second =
      Does-at (Does-then first second) (append-nil _) (append-nil _) (append-nil _) (append-nil _) (append-nil _) (after_all (sum_by starved_in turns) refused number) (sym (no_more _)) (omega arith) (omega arith)

  -- what was asked after a turn, in one round or in none
  pub record HasAsked (settings : Settings) (first : Secret) (workers : ℕ) (sends : List TriedSend) (control control' : Option ControlSeen) (turns : List Turn) (rounds : List Round) (before after : Server O T g) (stops : Bool) : Type 0 where
    pub new : List Round
    pub does : ServerDoes (refusing (sum_by refused_in new)) before after
    pub few : sum_by refused_in new ≤ 64
    pub goes : GoesOn stops new
    pub asked : ControlServes settings first workers sends control control' turns (rounds ++ new)

  has_asked : (settings : Settings) (first : Secret) (workers done : ℕ) (sends : List TriedSend) (control now control' : Option ControlSeen) (turns : List Turn) (turn : Turn) (rounds : List Round) (before after : Server O T g) (stops : Bool)
      → ControlServes settings first workers sends control now turns rounds → AsksSo workers done before after now control' stops → settings_in before ≡ settings → first_in before ≡ first
      → standing_in done before ≡ standing_after settings first workers sends (turns ++ turn ∷ []) (sum_by refused_in rounds)
      → HasAsked settings first workers sends control control' (turns ++ turn ∷ []) rounds before after stops
  has_asked settings first workers done sends None None None turns turn rounds before after stops served asks same same_first stands = record {
    new = [];
    does = asks.1;
    few = omega arith;
    goes = subst (λ (one : Bool). GoesOn one []) (sym asks.0) refl;
    asked = append-nil rounds ∙ served;
  }
  has_asked settings first workers done sends None None (Some last) turns turn rounds before after stops served asks same same_first stands = absurd asks
  has_asked settings first workers done sends None (Some now) control' turns turn rounds before after stops served asks same same_first stands = absurd served
  has_asked settings first workers done sends (Some start) None control' turns turn rounds before after stops served asks same same_first stands = absurd served
  has_asked settings first workers done sends (Some start) (Some now) None turns turn rounds before after stops served asks same same_first stands = absurd asks
  has_asked settings first workers done sends (Some start) (Some now) (Some last) turns turn rounds before after stops served asks same same_first stands =
      let alone_is : sum_by refused_in (asks.round ∷ []) ≡ refused_in asks.round = omega arith in
      let short = lines_few asks.round.ending (length asks.round.asked) asks.is_round.is_end in record {
        new = asks.round ∷ [];
        does = subst (λ (number : ℕ). ServerDoes (refusing number) before after) (sym alone_is) asks.does;
        few = omega (arith, alone_is, short, count_by-le-length (λ (one : Asked). one.starved) asks.round.asked);
        goes = goes_one stops asks.round asks.stops_is;
        asked = round_more turns rounds now served turn asks.round last
            (subst (λ (at : Settings × Secret × Standing). IsRound (replies_at at.0 at.1 workers at.2) asks.round now last) (λ i. (same i, same_first i, stands i)) asks.is_round);
      }

  -- the answers to the datagrams of turns
  abbrev answers_in : Server O T g → List Turn → List (Peer × List ℕ)
  answers_in server turns = answers_after (settings_in server) (first_in server) [] (events_among (happenings_from 0 turns))

  -- a run after its first turns, all whole, which goes on or not
  pub record IsRunning (rotate workers : ℕ) (progress : Progress) (before now : World O g T) (control control' : Option ControlSeen) (done : ℕ) (stops : Bool) : Type 0 where
    pub turns : List Turn
    pub rounds : List Round
    pub does : Does (in_turns_refusing 0 turns (sum_by refused_in rounds)) before now
    pub answered : HasAnswered before.devices.link now.devices.link (counts_in before.server) (counts_in now.server) (answers_in before.server turns)
    pub asked : ControlServes (settings_in before.server) (first_in before.server) workers answered.tried.sends control control' turns rounds
    pub goes : GoesOn stops rounds
    pub fresh : happenings_in before.server ≡ []
    pub uncounted : counts_in before.server ≡ no_counts
    pub late_owed : AreOwedLate (settings_in before.server) (first_in before.server) turns
    pub are_whole : AreWhole rotate no_progress turns progress
    pub done_is : done ≡ length turns
    pub calm : AreCalm before.devices now.devices
    pub few : tally_in now.server ≤ 195 * done
    pub few_packets : (counts_in now.server).packets ≤ 64 * done

  pub IsRunning-none : (rotate workers : ℕ) (progress : Progress) (seen : World O g T) (control : Option ControlSeen) → happenings_in seen.server ≡ [] → counts_in seen.server ≡ no_counts
      → progress.latest ≡ 0 → progress.renewed ≡ None → IsRunning rotate workers progress seen seen control control 0 false
  IsRunning-none rotate workers progress seen control fresh uncounted latest renewed =
      let none = ap (λ (list : List Happening). length (events_among list)) fresh in
      let starved = ap (λ (counts : Counts). counts.starved) uncounted in
      let late = ap (λ (counts : Counts). counts.late) uncounted in
      let packets = ap (λ (counts : Counts). counts.packets) uncounted in
      let unsent = HasAnswered-none seen.devices.link seen.devices.link (counts_in seen.server) refl refl in
      record {
        turns = [];
        rounds = [];
        does = Does-none seen;
        answered = unsent;
        asked = control_unasked (settings_in seen.server) (first_in seen.server) workers unsent.tried.sends control;
        goes = refl;
        fresh = fresh;
        uncounted = uncounted;
        late_owed = AreOwedLate-none (settings_in seen.server) (first_in seen.server);
        are_whole = λ i. record { latest = latest i; renewed = renewed i };
        done_is = refl;
        calm = record { link = refl; feed = refl; words = refl };
        few = omega (arith, none, starved, late);
        few_packets = omega (arith, packets);
      }

  -- a turn more, whole or not, in which something was owed if memory refused its publishing
  module _ (rotate workers : ℕ) (progress progress' : Progress) (before now after : World O g T) (control control' : Option ControlSeen) (done : ℕ) (result : Result (Unit {0}) End) (run : IsRunning rotate workers progress before now control control' done false)
      (next : TurnsSo rotate progress progress' now after result) where
    does_more : Does (in_turns_refusing 0 (run.turns ++ next.turn ∷ []) (sum_by refused_in run.rounds)) before after
    does_more = turns_more 0 progress.latest (sum_by refused_in run.rounds) run.turns next.turn (happenings_from-more rotate no_progress progress run.turns next.turn run.are_whole) run.does next.does

    late_more : AreOwedLate (settings_in before.server) (first_in before.server) (run.turns ++ next.turn ∷ [])
    late_more =
        AreOwedLate-then (settings_in before.server) (first_in before.server) run.turns next.turn run.late_owed
        (λ refused. owed_after before.server after.server (run.turns ++ next.turn ∷ []) run.fresh does_more.happens (next.owed refused))

    -- the answers, and with them what was asked before
    answered_more : (all : HasAnswered before.devices.link after.devices.link (counts_in before.server) (counts_in after.server) (answers_in before.server (run.turns ++ next.turn ∷ [])))
        × ControlServes (settings_in before.server) (first_in before.server) workers all.tried.sends control control' run.turns run.rounds
    answered_more =
        let settings = settings_in before.server in
        let first = first_in before.server in
        let past = happenings_from 0 run.turns in
        let more = happenings_from progress.latest (next.turn ∷ []) in
        let same = run.does.happens.same in
        let happened : happenings_in now.server ≡ past = run.does.happens.happened ∙ ap (λ (list : List Happening). list ++ past) run.fresh in
        let wanted : answers_in before.server run.turns ++ answers_after (settings_in now.server) (first_in now.server) (events_among (happenings_in now.server)) (events_among more) ≡ answers_in before.server (run.turns ++ next.turn ∷ []) =
        (λ i. answers_in before.server run.turns ++ answers_after (same.same_settings i) (same.same_first i) (events_among (happened i)) (events_among more))
        ∙ sym (answers_after-append settings first [] (events_among past) (events_among more))
        ∙ ap (answers_after settings first []) (sym (events_among-append past more) ∙ ap events_among (sym (happenings_from-more rotate no_progress progress run.turns next.turn run.are_whole))) in
        let both = answered_then _ _ _ _ _ _ _ _ _ run.answered next.does.answered wanted in (
          both.0,
          subst (λ (sends : List TriedSend). ControlServes settings first workers sends control control' run.turns run.rounds) (sym both.1)
              (serves_further settings first workers run.answered.tried.sends next.does.answered.tried.sends control control' run.turns run.rounds (as_many_sends _ _ _ _ _ run.answered) run.asked),
        )

    -- where it stands then
    stands_more : standing_in (done + 1) after.server ≡ standing_after (settings_in before.server) (first_in before.server) workers answered_more.0.tried.sends (run.turns ++ next.turn ∷ []) (sum_by refused_in run.rounds)
    stands_more =
        let all = answered_more.0 in
        let count : (number : Counts → ℕ) (more : ℕ) → number no_counts ≡ 0 → number (counts_in after.server) ≡ number (counts_in before.server) + more → number (counts_in after.server) ≡ more =
        λ number more none is. let nothing_yet = ap number run.uncounted in omega (arith, is, none, nothing_yet) in
        let happened = does_more.happens.happened ∙ ap (λ (list : List Happening). list ++ happenings_from 0 (run.turns ++ next.turn ∷ [])) run.fresh in
        let turns_are = ap (λ (n : ℕ). n + 1) run.done_is ∙ sym (length-append run.turns (next.turn ∷ [])) in
        let sends : take (length (answers_in before.server (run.turns ++ next.turn ∷ []))) all.tried.sends ≡ all.tried.sends = take_all _ all.tried.sends (omega (arith, as_many_sends _ _ _ _ _ all)) in
        let sent = count (λ (counts : Counts). counts.sent) all.more refl all.sent_are ∙ all.tried.sent_is ∙ ap sent_count (sym sends) in
        let unsent = count (λ (counts : Counts). counts.unsent) all.missed refl all.unsent_are ∙ all.tried.unsent_is ∙ ap unsent_count (sym sends) in
        let starved = count (λ (counts : Counts). counts.starved) _ refl does_more.refused.starved_are in
        let late = count (λ (counts : Counts). counts.late) _ refl does_more.refused.late_are in
        λ i. record { happenings = happened i; turns = turns_are i; sent = sent i; unsent = unsent i; starved = starved i; late = late i }

    asked_more : (control'' : Option ControlSeen) (last : Server O T g) (stops : Bool) → AsksSo workers (done + 1) after.server last control' control'' stops
        → HasAsked (settings_in before.server) (first_in before.server) workers answered_more.0.tried.sends control control'' (run.turns ++ next.turn ∷ []) run.rounds after.server last stops
    asked_more control'' last stops asks =
        has_asked (settings_in before.server) (first_in before.server) workers (done + 1) answered_more.0.tried.sends control control' control'' run.turns next.turn run.rounds after.server last stops
        answered_more.1 asks does_more.happens.same.same_settings does_more.happens.same.same_first stands_more

  -- a whole turn more, and what was asked after it
  pub IsRunning-then : (rotate workers : ℕ) (progress progress' : Progress) (before now after : World O g T) (control control' control'' : Option ControlSeen) (done : ℕ) (last : Server O T g) (room : ℕ) (stops : Bool)
      → IsRunning rotate workers progress before now control control' done false → TurnsSo rotate progress progress' now after (Ok tt) → AsksSo workers (done + 1) after.server last control' control'' stops → room ≡ after.room
      → IsRunning rotate workers progress' before (record after { server = last; room = room }) control control'' (done + 1) stops
  IsRunning-then rotate workers progress progress' before now after control control' control'' done last room stops run next asks same_room =
      let few : tally_in after.server ≤ tally_in now.server + 131 * 1 = next.does.few in
      let packets : (counts_in after.server).packets ≤ (counts_in now.server).packets + 64 * 1 = next.does.few_packets in
      let whole = AreWhole-more rotate no_progress progress run.turns next.turn run.are_whole next.is_turn in
      let turns = does_more rotate workers progress progress' before now after control control' done (Ok tt) run next in
      let has = asked_more rotate workers progress progress' before now after control control' done (Ok tt) run next control'' last stops asks in
      let refuses = has.does after in
      let sends = same_sends (sum_by refused_in has.new) after.server last has.does in
      let all_answers = (answered_more rotate workers progress progress' before now after control control' done (Ok tt) run next).0 in
      let few_refused = has.few in
      let few_then : tally_in last ≤ tally_in after.server + sum_by refused_in has.new = refuses.few in
      let packets_then : (counts_in last).packets ≤ (counts_in after.server).packets + 0 = refuses.few_packets in
      let all = refused_more 0 (sum_by refused_in run.rounds) (sum_by refused_in has.new) (run.turns ++ next.turn ∷ []) turns refuses in
      let all_at = subst (λ (number : ℕ). Does (in_turns_refusing 0 (run.turns ++ next.turn ∷ []) number) before (record after { server = last })) (sym (sum_by-append refused_in run.rounds has.new)) all in
      let turn_few = run.few in
      let turn_packets = run.few_packets in record {
        turns = run.turns ++ next.turn ∷ [];
        rounds = run.rounds ++ has.new;
        does = subst (λ (octets : ℕ). Does (in_turns_refusing 0 (run.turns ++ next.turn ∷ []) (sum_by refused_in (run.rounds ++ has.new))) before (record after { server = last; room = octets })) (sym same_room) all_at;
        answered = record { more = all_answers.more; missed = all_answers.missed; sent_are = sends.0 ∙ all_answers.sent_are; unsent_are = sends.1 ∙ all_answers.unsent_are; as_many = all_answers.as_many; tried = all_answers.tried };
        asked = has.asked;
        goes = goes_more stops run.rounds has.new run.goes has.goes;
        fresh = run.fresh;
        uncounted = run.uncounted;
        late_owed = late_more rotate workers progress progress' before now after control control' done (Ok tt) run next;
        are_whole = subst (λ (last : Progress). AreWhole rotate no_progress (run.turns ++ next.turn ∷ []) last) (sym (next.progress_is refl)) whole;
        done_is = ap (λ (n : ℕ). n + 1) run.done_is ∙ sym (length-append run.turns (next.turn ∷ []));
        calm = record {
          link = next.causes.link.calm (no_error LinkFault) ∙ run.calm.link;
          feed = next.causes.feed.calm (no_error FeedFault) ∙ run.calm.feed;
          words = next.causes.words.calm (no_error WordsFault) ∙ run.calm.words;
        };
        few = omega (arith, turn_few, few, few_then, few_refused);
        few_packets = omega (arith, turn_packets, packets, packets_then);
      }

  -- all turns are done, or somebody asked that the run ends
  runs_so : (plan : ServePlan) (progress : Progress) (before now : World O g T) (control control' : Option ControlSeen) (done : ℕ) (stops : Bool) (run : IsRunning plan.rotate_ms plan.workers progress before now control control' done stops)
      → HasDone plan done run.rounds → RunsSo plan before now control control' Turns done
  runs_so plan progress before now control control' done stops run ended = record {
    whole = run.turns;
    cut = None;
    last = progress;
    rounds = run.rounds;
    does = run.does;
    answered = run.answered;
    asked = run.asked;
    causes = record { link = calm_end LinkFault _ _ (λ is. cc is) run.calm.link; feed = calm_end FeedFault _ _ (λ is. cc is) run.calm.feed; words = calm_end WordsFault _ _ (λ is. cc is) run.calm.words };
    late_owed = run.late_owed;
    are_whole = run.are_whole;
    ended = (refl, subst (λ (number : ℕ). HasDone plan number run.rounds) run.done_is ended);
    done_is = run.done_is;
  }

  pub RunsSo-all : (plan : ServePlan) (progress : Progress) (before now : World O g T) (control control' : Option ControlSeen) (done : ℕ) → IsRunning plan.rotate_ms plan.workers progress before now control control' done false → done ≡ plan.turns
      → RunsSo plan before now control control' Turns plan.turns
  RunsSo-all plan progress before now control control' done run all =
      subst (λ (number : ℕ). RunsSo plan before now control control' Turns number) all
      (runs_so plan progress before now control control' done false run (all_turns all run.goes))

  pub RunsSo-stopped : (plan : ServePlan) (progress : Progress) (before now : World O g T) (control control' : Option ControlSeen) (done : ℕ) (stops : Bool)
      → IsRunning plan.rotate_ms plan.workers progress before now control control' (done + 1) stops → stops ≡ true → done < plan.turns
      → RunsSo plan before now control control' Turns (done + 1)
  RunsSo-stopped plan progress before now control control' done stops run is few =
      let goes = subst (λ (one : Bool). GoesOn one run.rounds) is run.goes in
      runs_so plan progress before now control control' (done + 1) stops run (stopped goes.0 goes.1 goes.2 goes.3 goes.4 (omega arith) (omega (arith, few)))

  -- the run ended in a turn
  pub RunsSo-cut : (plan : ServePlan) (progress progress' : Progress) (before now after : World O g T) (control control' : Option ControlSeen) (done : ℕ) (end : End) → IsRunning plan.rotate_ms plan.workers progress before now control control' done false
      → TurnsSo plan.rotate_ms progress progress' now after (Err end) → done < plan.turns → RunsSo plan before after control control' end done
  RunsSo-cut plan progress progress' before now after control control' done end run next few =
      let answers = answered_more plan.rotate_ms plan.workers progress progress' before now after control control' done (Err end) run next in record {
        whole = run.turns;
        cut = Some next.turn;
        last = progress;
        rounds = run.rounds;
        does = does_more plan.rotate_ms plan.workers progress progress' before now after control control' done (Err end) run next;
        answered = answers.0;
        asked = answers.1;
        causes = record {
          link = cause_then end LinkFault _ _ _ run.calm.link next.causes.link;
          feed = cause_then end FeedFault _ _ _ run.calm.feed next.causes.feed;
          words = cause_then end WordsFault _ _ _ run.calm.words next.causes.words;
        };
        late_owed = late_more plan.rotate_ms plan.workers progress progress' before now after control control' done (Err end) run next;
        are_whole = run.are_whole;
        ended = (subst (λ (n : ℕ). n < plan.turns) run.done_is few, next.is_turn, run.goes);
        done_is = run.done_is;
      }
