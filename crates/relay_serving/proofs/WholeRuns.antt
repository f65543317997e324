-- A whole run, put together.
use Rattle.std.proofs.Common.{◌≡◌, ◌≢◌, ℕ, ◌+◌, ◌==◌, ◌<◌, ◌≤◌, ◌^◌, max, not, Bool, true, false, List, [], ◌++◌, length, map, refl, sym, ap, subst, ◌∙◌, append-nil, arith, length-append, inl, inr, if◌then◌else◌}
use Rattle.std.{proofs.{Math.Logic.{∥∥₁_elim, ∥∥₁_map, ∥∥₁_prop}, lemmas.{List.{length-map, Sums.{count_by-le-length}}, Bool.{eqb-true}}}, specs.{Prelude.{Option, None, Some, Result, Ok, Err}, List.{All, AllZip}}}
use Rattle.amt_ports.{specs.{Causes.{HasCause, Rose}, declared.{fault.Failed.{Failed}, out_link.OutLink.{Ghosts}, end.End.{End, TheVariants.{Turns, Closed, LinkFault, FeedFault, WordsFault, SpawnFault, Memory}}}, Told.{AppendsAll}, EndCauses.{IsCauseOf}, Devices.{FeedSeen, LinkSeen, OutSeen, WordsSeen}, Tried.{HasTried}}, proofs.{Told.{AppendsAll-none, AppendsAll-then}, Trying.{HasTried-none}}}
use Rattle.amt_values.specs.declared.peer.Peer.{Peer}
use Rattle.endpoint_membership.specs.declared.change.Change.{Change}
use Rattle.published_table.{specs.{Lists.{BeginsWith}, Publishers.{book_of}, Views.{seen, views_of}, declared.view.View.{View}}, proofs.Beginnings.{begins_by}}
use Rattle.response_mac.specs.declared.secret.Secret.{Secret}
use Rattle.relay_machine.specs.{Published.{published_log}, declared.{event.Event.{Event}, settings.Settings.{Settings}}}
use Rattle.replication_workers.specs.{Dispatchers.{is_threaded}, Replicators.{out_of}, SlotStates.{jobs_in_all}, Starting.{HaveStarted}}
use Rattle.relay_serving.specs.{Asked.{Round}, Controls.{ControlSeen}, Rounds.{ControlServes}, Counting.{AreCounted, is_datagram}, Devices.{Devices, devices_seen, outs_seen}, Drawing.{DrawsSecret, IsDrawn}, Ending.{Finishes}}
use Rattle.relay_serving.specs.{Events.{events_of, first_of, happenings_of, published_events, secret_by}, GivenOut.{AreGivenOut, starts_in}}
use Rattle.relay_serving.specs.{Happenings.{Happening, events_among, published_events_among}, Reports.{report_of, unused_report}}
use Rattle.relay_serving.specs.Runs.{HasEnded, IsCut, MayGo, Run, served, turns_of, unstarted, without_secret, words_drawn}
use Rattle.relay_serving.specs.Sending.{answers_after, due_of, dues_after}
use Rattle.relay_serving.specs.Serving.{AreOwedLate, ArePublished, IsOwedBy, OutsServed, Serves, StartsWorkers, one_lost, unused, used}
use Rattle.relay_serving.specs.Servers.{events_in, first_in, happenings_in, owing_in, published_in, settings_in, slots_in, tally_in}
use Rattle.relay_serving.specs.{Starting.{AreLeftBy, AreStarts, IsAtStart}, Traces.{world}, Turning.{RunsSo}, Turns.{Progress, Turn}, declared.counts.Counts.{Counts}}
use Rattle.relay_serving.{specs.declared.{plan.{ServePlan.{ServePlan}, ServeReport.{ServeReport}}, server.{Server.{Server}, ending.Ending.{Ending}}}, proofs.{GivenOut.{jobs_count}, Owed.{is_prompt, owed_by}, OwedLate.{AreOwedLate-none}, Rounds.{control_unasked}, SlotsServed.{Slotted, all_inline, are_served, slotted}, Started.{starts_all, starts_none, starts_refused}, Together.{read_prefixes}}}

-- of a run without any turn
abbrev unrun : List ℕ → Run
unrun first = record { first = first; whole = []; cut = None; rounds = [] }

not_run : (settings : Settings) (plan : ServePlan) (control : Option ControlSeen) (end : End) (first : List ℕ) (clock : Option (List ℕ)) (words words' : WordsSeen) (link : LinkSeen) (feed : FeedSeen) (starts starts' : Option ℕ) (faults faults' : ℕ) (outs outs' : List OutSeen)
    → AppendsAll words.given words'.given first → MayGo plan end (unrun first) → OutsServed settings plan (unrun first) (unused_report end) outs outs' starts starts' [] 0 0
    → StartsWorkers plan.workers [] end starts starts'
    → end ≢ LinkFault → end ≢ FeedFault → IsCauseOf end WordsFault words.faults words'.faults → IsCauseOf end SpawnFault faults faults'
    → Serves settings plan (devices_seen clock words link feed starts faults) (devices_seen clock words' link feed starts' faults') control control outs outs' [] (unused_report end)
not_run settings plan control end first clock words words' link feed starts starts' faults faults' outs outs' drawn goes outs_are started no_link no_feed words_are starts_are = record {
  run = unrun first;
  goes = goes;
  clock = AppendsAll-none clock;
  words = subst (AppendsAll words.given words'.given) (sym (append-nil first)) drawn;
  link = refl;
  feed = refl;
  started = started;
  link_sent = 0;
  link_unsent = 0;
  link_tried = HasTried-none link.tried link.send_faults;
  asked = control_unasked settings (first_of (unrun first)) plan.workers (HasTried-none link.tried link.send_faults).sends control;
  outs_sent = 0;
  outs_unsent = 0;
  outs_served = outs_are;
  prompt = is_prompt settings (first_of (unrun first));
  turns_are = refl;
  counted = record { datagrams_are = refl; packets_are = refl; updated_are = refl; torn_are = refl };
  sent_are = refl;
  unsent_are = refl;
  starved_are = refl;
  late_are = refl;
  late_owed = AreOwedLate-none settings (first_of (unrun first));
  link_cause = ((λ is. absurd (no_link is)), (λ other. refl));
  feed_cause = ((λ is. absurd (no_feed is)), (λ other. refl));
  words_cause = words_are;
  start_cause = starts_are;
}

-- words were lacking
pub serves_without_secret : (settings : Settings) (plan : ServePlan) (control : Option ControlSeen) (first : List ℕ) (clock : Option (List ℕ)) (words words' : WordsSeen) (link : LinkSeen) (feed : FeedSeen) (starts : Option ℕ) (faults : ℕ) (outs : List OutSeen)
    → AppendsAll words.given words'.given first → length first < 4 → Rose words.faults words'.faults
    → Serves settings plan (devices_seen clock words link feed starts faults) (devices_seen clock words' link feed starts faults) control control outs outs [] (unused_report WordsFault)
serves_without_secret settings plan control first clock words words' link feed starts faults outs drawn few rose =
    let not_spawn : WordsFault ≢ SpawnFault = λ is. cc is in
    not_run settings plan control WordsFault first clock words words' link feed starts starts faults faults outs outs drawn (without_secret few refl refl refl refl)
    (unused not_spawn refl refl refl (record { no_inline = refl; none_owed = refl; none_published = refl; none_apart = refl }) refl refl)
    (starts_none plan.workers WordsFault starts starts refl)
    (λ is. cc is) (λ is. cc is) ((λ is. rose), (λ other. absurd (other refl))) ((λ is. absurd (not_spawn is)), (λ other. refl))

-- no relay was started
pub serves_unstarted : (settings : Settings) (plan : ServePlan) (control : Option ControlSeen) (end : End) (first : List ℕ) (clock : Option (List ℕ)) (words words' : WordsSeen) (link : LinkSeen) (feed : FeedSeen) (starts starts' : Option ℕ) (faults faults' : ℕ) (outs outs' : List OutSeen)
    → AppendsAll words.given words'.given first → length first ≡ 4 → words'.faults ≡ words.faults → AreLeftBy end outs outs' starts starts' faults faults'
    → (threads : Bool) → threads ≡ not (plan.workers == 0) → (threads ≡ false → starts' ≡ starts)
    → Serves settings plan (devices_seen clock words link feed starts faults) (devices_seen clock words' link feed starts' faults') control control outs outs' [] (unused_report end)
serves_unstarted settings plan control Memory first clock words words' link feed starts starts' faults faults' outs outs' drawn four quiet left threads mode idle =
    let not_spawn : Memory ≢ SpawnFault = λ is. cc is in
    not_run settings plan control Memory first clock words words' link feed starts starts' faults faults' outs outs' drawn (unstarted four (inl refl) refl refl refl)
    (unused not_spawn refl left.0 refl (record { no_inline = refl; none_owed = refl; none_published = refl; none_apart = refl }) refl refl)
    (starts_none plan.workers Memory starts starts' left.1)
    (λ is. cc is) (λ is. cc is) ((λ is. cc is), (λ other. quiet)) ((λ is. absurd (not_spawn is)), (λ other. left.2))
serves_unstarted settings plan control SpawnFault first clock words words' link feed starts starts' faults faults' outs outs' drawn four quiet left threads mode idle =
    not_run settings plan control SpawnFault first clock words words' link feed starts starts' faults faults' outs outs' drawn (unstarted four (inr refl) refl refl refl)
    (one_lost refl refl left.0 refl (record { no_inline = refl; none_owed = refl; none_published = refl; none_apart = refl }) refl refl)
    (starts_refused plan.workers threads starts starts' mode idle)
    (λ is. cc is) (λ is. cc is) ((λ is. cc is), (λ other. quiet)) ((λ is. left.1), (λ other. absurd (other refl)))
serves_unstarted settings plan control Turns first clock words words' link feed starts starts' faults faults' outs outs' drawn four quiet left threads mode idle = absurd left
serves_unstarted settings plan control Closed first clock words words' link feed starts starts' faults faults' outs outs' drawn four quiet left threads mode idle = absurd left
serves_unstarted settings plan control LinkFault first clock words words' link feed starts starts' faults faults' outs outs' drawn four quiet left threads mode idle = absurd left
serves_unstarted settings plan control FeedFault first clock words words' link feed starts starts' faults faults' outs outs' drawn four quiet left threads mode idle = absurd left
serves_unstarted settings plan control WordsFault first clock words words' link feed starts starts' faults faults' outs outs' drawn four quiet left threads mode idle = absurd left

-- the same of what a call gave
pub reported : (settings : Settings) (plan : ServePlan) (before after : Devices) (control control' : Option ControlSeen) (outs left left' : List OutSeen) (views views' : List View) (report report' : ServeReport)
    → left' ≡ left → views' ≡ views → report' ≡ report → Serves settings plan before after control control' outs left views report → Serves settings plan before after control control' outs left' views' report'
reported settings plan before after control control' outs left left' views views' report report' one two three serves =
    subst (Serves settings plan before after control control' outs left' views') (sym three)
    (subst (λ (list : List View). Serves settings plan before after control control' outs left' list report) (sym two)
    (subst (λ (list : List OutSeen). Serves settings plan before after control control' outs list views report) (sym one) serves))

-- the first secret is of four words
pub four_words : (before after : Option (List ℕ)) (result : Result Secret Failed) (secret : Secret) (drawn : DrawsSecret before after result) → result ≡ Ok secret
    → (secret ≡ secret_by drawn.words) × (length drawn.words ≡ 4)
four_words before after result secret drawn is = subst (λ (one : Result Secret Failed). IsDrawn one drawn.words) is drawn.are

pub few_words : (before after : Option (List ℕ)) (result : Result Secret Failed) (failed : Failed) (drawn : DrawsSecret before after result) → result ≡ Err failed → length drawn.words < 4
few_words before after result failed drawn is = subst (λ (one : Result Secret Failed). IsDrawn one drawn.words) is drawn.are

pub is_quiet : (before after : ℕ) (result : Result Secret Failed) (secret : Secret) → HasCause before after result → result ≡ Ok secret → after ≡ before
is_quiet before after result secret cause is = (subst (λ (one : Result Secret Failed). HasCause before after one) is cause).quiet

pub has_risen : (before after : ℕ) (result : Result Secret Failed) (failed : Failed) → HasCause before after result → result ≡ Err failed → Rose before after
has_risen before after result failed cause is = (subst (λ (one : Result Secret Failed). HasCause before after one) is cause).failed

-- no start is refused in turns
no_spawn : (plan : ServePlan) (end : End) (done : ℕ) (rounds : List Round) (last : Progress) (cut : Option Turn) → HasEnded plan end done rounds last cut → end ≢ SpawnFault
no_spawn plan end done rounds last None ended is = cc (sym ended.0 ∙ is)
no_spawn plan end done rounds last (Some turn) ended is = subst (λ (one : End). IsCut one plan.rotate_ms last turn) is ended.1

sum_is : (now start more outs : ℕ) → now ≡ start + more → start ≡ 0 → now + outs ≡ more + outs
sum_is now start more outs is none = omega (arith, is, none)

from_none : (now start more : ℕ) → now ≡ start + more → start ≡ 0 → now ≡ more
from_none now start more is none = omega (arith, is, none)

zero_of : (number : ℕ) → (number == 0) ≡ true → number ≡ 0
zero_of number is = eqb-true number 0 is

-- all packets are copied inline without workers, and else none
inline_of : (inline packets jobs : ℕ) (threaded none : Bool) → inline ≡ (if threaded then 0 else jobs) → threaded ≡ not none → (none ≡ true → jobs ≡ packets)
    → inline ≡ (if none then packets else 0)
inline_of inline packets jobs threaded true is mode same = is ∙ ap (λ (mode : Bool). if mode then 0 else jobs) mode ∙ same refl
inline_of inline packets jobs threaded false is mode same = is ∙ ap (λ (mode : Bool). if mode then 0 else jobs) mode

all_entries : (published owing log : List Change) (number owed : ℕ) → published ++ owing ≡ log → number ≡ length published → owed ≡ length owing → number + owed ≡ length log
all_entries published owing log number owed is counted owed_is =
    let whole = length-append published owing in
    let all = ap length is in omega (arith, whole, all, counted, owed_is)

moved : (F : Settings → Secret → List Event → Type 0) {settings settings' : Settings} {first first' : Secret} {events events' : List Event}
    → settings ≡ settings' → first ≡ first' → events ≡ events' → F settings first events → F settings' first' events'
moved F {settings' = settings'} {first = first} {first' = first'} {events = events} one two three holds =
    subst (F settings' first') three (subst (λ (secret : Secret). F settings' secret events) two (subst (λ (all : Settings). F all first events) one holds))

module _ {O : Type 0} {g : Ghosts O} {T : Type 0} where
  -- what link and outs tried can be counted
  pub few_in_all : (server : Server O T g) (ending : Ending O) → Finishes server ending → tally_in server < 2 ^ 50 → ending.outs_sent + ending.outs_unsent ≤ 2 ^ 62
      → (ending.counts.sent + ending.outs_sent < 2 ^ 64) × (ending.counts.unsent + ending.outs_unsent < 2 ^ 64)
  few_in_all server ending finishes few outs_few =
      let sent = ap (λ (counts : Counts). counts.sent) finishes.same_counts in
      let unsent = ap (λ (counts : Counts). counts.unsent) finishes.same_counts in
      let within = count_by-le-length is_datagram (events_in server) in (
        omega (arith, sent, within, few, outs_few, server.counted.few_sends, server.counted.events_are.datagrams_are),
        omega (arith, unsent, within, few, outs_few, server.counted.few_sends, server.counted.events_are.datagrams_are),
      )

  module _ (settings : Settings) (plan : ServePlan) (secret : Secret) (outs : List O) (threads : Bool) (drawn : List ℕ) (start server : Server O T g) (ending : Ending O) (end : End) (turns : ℕ)
      (clock clock' : Option (List ℕ)) (words words' words'' : WordsSeen) (link link' : LinkSeen) (feed feed' : FeedSeen) (control control' : Option ControlSeen)
      (secret_is : secret ≡ secret_by drawn) (four : length drawn ≡ 4) (gave : AppendsAll words.given words'.given drawn) (quiet : words'.faults ≡ words.faults)
      (at : IsAtStart settings secret outs threads start)
      (link_wait link_wait' feed_wait feed_wait' room room' : ℕ)
      (runs : RunsSo plan (world start (devices_seen clock words' link feed None 0) link_wait feed_wait room) (world server (devices_seen clock' words'' link' feed' None 0) link_wait' feed_wait' room') control control' end turns)
      (finishes : Finishes server ending) (some : 1 ≤ plan.turns) (number : length outs ≡ max plan.workers 1) (mode : threads ≡ not (plan.workers == 0))
      (starts starts' : Option ℕ) (all_started : threads ≡ true → HaveStarted (length outs) starts starts') (idle : threads ≡ false → starts' ≡ starts) where
    abbrev run_of : Run
    run_of = record { first = drawn; whole = runs.whole; cut = runs.cut; rounds = runs.rounds }

    settings_are : settings_in server ≡ settings
    settings_are = runs.does.happens.same.same_settings ∙ at.settings_are

    first_is : first_in server ≡ first_of run_of
    first_is = runs.does.happens.same.same_first ∙ at.first_is ∙ secret_is

    happened : happenings_in server ≡ happenings_of run_of
    happened = runs.does.happens.happened ∙ ap (λ (list : List Happening). list ++ happenings_of run_of) at.none_happened

    events_are : events_in server ≡ events_of run_of
    events_are = ap events_among happened

    outs_were : map out_of (starts_in (slots_in server)) ≡ outs
    outs_were = ap (map out_of) runs.does.happens.same.same_starts ∙ at.outs_are

    counted : AreCounted settings (first_of run_of) (events_of run_of) ending.counts.datagrams ending.counts.packets ending.counts.updated ending.counts.torn
    counted =
        subst (λ (counts : Counts). AreCounted settings (first_of run_of) (events_of run_of) counts.datagrams counts.packets counts.updated counts.torn) (sym finishes.same_counts)
        (moved (λ settings first events. AreCounted settings first events server.counts.datagrams server.counts.packets server.counts.updated server.counts.torn)
        settings_are first_is events_are server.counted.events_are)

    -- the answers that the link tried, and what was asked
    tried : (tried : HasTried link.tried link'.tried link.send_faults link'.send_faults (answers_after settings (first_of run_of) [] (events_of run_of)) runs.answered.more runs.answered.missed)
        × ControlServes settings (first_of run_of) plan.workers tried.sends control control' runs.whole runs.rounds
    tried =
        subst (λ (of : Settings × Secret). (tried : HasTried link.tried link'.tried link.send_faults link'.send_faults (answers_after of.0 of.1 [] (events_of run_of)) runs.answered.more runs.answered.missed)
        × ControlServes of.0 of.1 plan.workers tried.sends control control' runs.whole runs.rounds)
        (λ i. (at.settings_are i, (at.first_is ∙ secret_is) i))
        (runs.answered.tried, runs.asked)

    published_is : published_in server ≡ published_log settings (first_of run_of) (published_events run_of)
    published_is = server.shown ∙ (λ i. published_log (settings_are i) (first_is i) (published_events_among (happened i)))

    log_is : published_in server ++ owing_in server ≡ published_log settings (first_of run_of) (events_of run_of)
    log_is = server.log ∙ (λ i. published_log (settings_are i) (first_is i) (events_are i))

    are_published : ArePublished (published_log settings (first_of run_of) (events_of run_of)) (published_log settings (first_of run_of) (published_events run_of)) (views_of ending.views)
        ending.published ending.owed ending.apart
    are_published = record {
      published_is = finishes.published_is ∙ ap length published_is;
      begins = subst (BeginsWith (published_log settings (first_of run_of) (events_of run_of))) published_is
          (begins_by (published_log settings (first_of run_of) (events_of run_of)) (published_in server) (owing_in server) (sym log_is));
      all = all_entries (published_in server) (owing_in server) (published_log settings (first_of run_of) (events_of run_of)) ending.published ending.owed
          log_is finishes.published_is finishes.owed_is;
      each = subst (λ (log : List Change). All (λ view. BeginsWith (seen view) log) (views_of ending.views)) published_is finishes.asked.each;
      apart_is = finishes.apart_is;
    }

    late_owed : AreOwedLate settings (first_of run_of) (turns_of run_of)
    late_owed =
        subst (λ (secret : Secret). AreOwedLate settings secret (turns_of run_of)) (at.first_is ∙ secret_is)
        (subst (λ (known : Settings). AreOwedLate known (first_in start) (turns_of run_of)) at.settings_are runs.late_owed)

    is_owed : IsOwedBy (turns_of run_of) ending.owed
    is_owed some =
        owed_by settings (first_of run_of) (published_in server) (owing_in server) (turns_of run_of) log_is published_is
        (λ none. some (finishes.owed_is ∙ ap length none))

    module _ (given : AreGivenOut (settings_in server) (first_in server) (happenings_in server) (slots_in server)) where
      due : map due_of given.jobs ≡ dues_after settings (first_of run_of) [] (happenings_of run_of)
      due = given.are_due ∙ (λ i. dues_after (settings_are i) (first_is i) [] (happened i))

      inline : ending.inline ≡ (if plan.workers == 0 then ending.counts.packets else 0)
      inline = inline_of ending.inline ending.counts.packets (jobs_in_all (slots_in server)) (is_threaded server.dispatcher) (plan.workers == 0)
          finishes.inline_is (runs.does.happens.same.same_mode ∙ at.mode ∙ mode)
          (λ none.
          let zero_workers = zero_of plan.workers none in
          let outs_number = ap length outs_were in
          let firsts_number = length-map (starts_in (slots_in server)) out_of in
          let one : length (starts_in (slots_in server)) ≡ 1 = sym firsts_number ∙ outs_number ∙ number ∙ ap (λ (workers : ℕ). max workers 1) zero_workers in
          all_inline (slots_in server) given.jobs one given.at_slots ∙ jobs_count settings (first_of run_of) (happenings_of run_of) given.jobs due ∙ sym counted.packets_are)

      serves_by : (faults faults' : ℕ) → faults' ≡ faults → Slotted settings finishes.left.lefts (views_of ending.views)
          → Serves settings plan (devices_seen clock words link feed starts faults) (devices_seen clock' words'' link' feed' starts' faults') control control' (outs_seen g.tried g.faults outs) (outs_seen g.tried g.faults ending.outs) (views_of ending.views) (report_of end turns ending)
      serves_by faults faults' same slots =
          let are = are_served settings outs ending.outs given.jobs (slots_in server) finishes.left_views (views_of ending.views) ending.outs_sent ending.outs_unsent finishes.left given.at_slots outs_were slots in record {
            run = run_of;
            goes = served runs.last four runs.are_whole runs.ended;
            clock = runs.does.clock;
            words = AppendsAll-then words.given words'.given words''.given drawn (words_drawn (turns_of run_of)) gave runs.does.words;
            link = runs.does.link;
            feed = runs.does.feed;
            started = starts_all plan end runs.rounds runs.last runs.whole runs.cut (length outs) threads starts starts' some runs.ended mode number all_started idle;
            link_sent = runs.answered.more;
            link_unsent = runs.answered.missed;
            link_tried = tried.0;
            asked = tried.1;
            outs_sent = ending.outs_sent;
            outs_unsent = ending.outs_unsent;
            outs_served = used given.jobs due are are_published
                (read_prefixes settings (published_log settings (first_of run_of) (events_of run_of)) (published_log settings (first_of run_of) (published_events run_of)) are.slots (views_of ending.views) ending.published ending.owed ending.apart are.each are.views_are are_published)
                is_owed inline;
            prompt = is_prompt settings (first_of run_of);
            turns_are = runs.done_is;
            counted = counted;
            sent_are = ap (λ (counts : Counts). counts.sent + ending.outs_sent) finishes.same_counts ∙ sum_is server.counts.sent start.counts.sent runs.answered.more ending.outs_sent runs.answered.sent_are (ap (λ (counts : Counts). counts.sent) at.none_counted);
            unsent_are = ap (λ (counts : Counts). counts.unsent + ending.outs_unsent) finishes.same_counts ∙ sum_is server.counts.unsent start.counts.unsent runs.answered.missed ending.outs_unsent runs.answered.unsent_are (ap (λ (counts : Counts). counts.unsent) at.none_counted);
            starved_are = ap (λ (counts : Counts). counts.starved) finishes.same_counts
                ∙ from_none server.counts.starved start.counts.starved _ runs.does.refused.starved_are (ap (λ (counts : Counts). counts.starved) at.none_counted);
            late_are = ap (λ (counts : Counts). counts.late) finishes.same_counts
                ∙ from_none server.counts.late start.counts.late _ runs.does.refused.late_are (ap (λ (counts : Counts). counts.late) at.none_counted);
            late_owed = late_owed;
            link_cause = runs.causes.link;
            feed_cause = runs.causes.feed;
            words_cause = subst (λ (count : ℕ). IsCauseOf end WordsFault count words''.faults) quiet runs.causes.words;
            start_cause = ((λ is. absurd (no_spawn plan end (length runs.whole) runs.rounds runs.last runs.cut runs.ended is)), (λ other. same));
          }

    -- a run that was ended
    pub serves_run : (faults faults' : ℕ) → faults' ≡ faults
        → ∥ Serves settings plan (devices_seen clock words link feed starts faults) (devices_seen clock' words'' link' feed' starts' faults') control control' (outs_seen g.tried g.faults outs) (outs_seen g.tried g.faults ending.outs) (views_of ending.views) (report_of end turns ending) ∥₁
    serves_run faults faults' same =
        let left = finishes.left in
        let firsts = subst (AreStarts settings (book_of start.publisher)) (sym (ap starts_in left.slots_are ∙ runs.does.happens.same.same_starts)) at.starts in
        let further = subst (λ (list : List View). AllZip (λ one other. BeginsWith (seen other) (seen one)) list (views_of ending.views)) (sym left.views_are) finishes.asked.further in
        ∥∥₁_elim server.given_out ∥∥₁_prop (λ given.
        ∥∥₁_map (slotted settings (book_of start.publisher) left.lefts (views_of ending.views) left.each firsts further)
        (λ slots. serves_by given faults faults' same slots))
