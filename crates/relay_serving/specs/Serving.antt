-- What a run of a serving relay comes to.
use Rattle.std.specs.{Prelude.{◌≡◌, ◌≢◌, ◌==◌, ℕ, ◌+◌, List, [], ◌∷◌, ◌++◌, length, map, count_by, sum_by, Option, if◌then◌else◌}, List.{All, enumerate_from}}
use Rattle.amt_ports.specs.{Told.{AppendsAll}, declared.{feed.FeedAnswer.TheVariants.{Closed as FeedClosed}, link.LinkAnswer.TheVariants.{Closed as LinkClosed}, end.End.{End, TheVariants.{LinkFault, FeedFault, WordsFault, SpawnFault}}}, EndCauses.{IsCauseOf}, Devices.{AnswersAll, OutSeen}, Tried.{HasTried}}
use Rattle.amt_values.specs.declared.peer.Peer.{Peer}
use Rattle.endpoint_membership.specs.{Table.{TableSettings}, declared.change.Change.{Change}}
use Rattle.published_table.specs.{Lists.{BeginsWith, BeginsWithEach}, Views.{seen}, declared.view.View.{View}}
use Rattle.response_mac.specs.declared.secret.Secret.{Secret}
use Rattle.relay_machine.specs.{Published.{published_log}, Settings.{table_settings_of}, declared.settings.Settings.{Settings}}
use Rattle.replication_workers.specs.{Jobs.{Handled}, Starting.{HaveStarted}, declared.job.Job.{Job}}
use Rattle.relay_serving.specs.{Asked.{refused_in}, Controls.{ControlSeen}, Rounds.{ControlServes}, Counting.{AreCounted, is_late, starved_in}, Devices.{Devices}, Events.{events_of, first_of, happenings_from, happenings_of, published_events}, Happenings.{events_among, published_events_among}}
use Rattle.relay_serving.specs.{Runs.{MayGo, Run, feed_answers, link_answers, moments_given, turns_of, words_drawn}, Sending.{answers_after, due_of, dues_after}, GivenOut.{jobs_at}, Starting.{LosesOne}, Turns.{Done, Refused, Turn}, Views.{is_apart}, declared.plan.{ServePlan.{ServePlan}, ServeReport.{ServeReport}}}

-- One slot: its out before and after, the jobs that it was given, the logs by which it found their receivers,
-- its view at the end, and how many of its datagrams were sent and how many not.
pub record SlotServed : Type 0 where
  pub before : OutSeen
  pub jobs : List Job
  pub logs : List (List Change)
  pub after : OutSeen
  pub view : View
  pub sent : ℕ
  pub unsent : ℕ

-- the logs by which jobs were handled, in order
abbrev pub logs_in : (settings : TableSettings) (limit : ℕ) (seen : List Change) (jobs : List Job) (wanted : List (Peer × List ℕ)) (last : List Change)
    → Handled settings limit seen jobs wanted last → List (List Change)
logs_in settings limit seen [] wanted last handled = []
logs_in settings limit seen (job ∷ jobs) wanted last handled = handled.0 ∷ logs_in settings limit handled.0 jobs handled.1 last handled.5

-- the slot's out tried exactly the copies of its jobs, each job once and in order, by logs of which each
-- begins with the one before it and with the job's, and the view's with the last
pub record IsServed (settings : Settings) (slot : SlotServed) : Type 0 where
  pub wanted : List (Peer × List ℕ)
  pub last : List Change
  pub handled : Handled (table_settings_of settings) settings.packet_limit [] slot.jobs wanted last
  pub logs_are : slot.logs ≡ logs_in (table_settings_of settings) settings.packet_limit [] slot.jobs wanted last handled
  pub tried : HasTried slot.before.tried slot.after.tried slot.before.faults slot.after.faults wanted slot.sent slot.unsent
  pub further : BeginsWith (seen slot.view) last

-- all slots, in order: these were their outs, and these jobs were given out
pub record AreServed (settings : Settings) (outs : List OutSeen) (jobs : List Job) (after : List OutSeen) (views : List View) (sent unsent : ℕ) : Type 0 where
  pub slots : List SlotServed
  pub outs_are : map (λ slot. slot.before) slots ≡ outs
  pub jobs_are : map (λ slot. slot.jobs) slots ≡ map (λ numbered. jobs_at (length outs) numbered.0 jobs) (enumerate_from 0 outs)
  pub after_are : map (λ slot. slot.after) slots ≡ after
  pub views_are : map (λ slot. slot.view) slots ≡ views
  pub each : All (IsServed settings) slots
  pub sent_is : sent ≡ sum_by (λ slot. slot.sent) slots
  pub unsent_is : unsent ≡ sum_by (λ slot. slot.unsent) slots

-- Of the log of all events this prefix is published, and the other entries are owed. Each view's log begins with
-- that prefix, and so many of them are longer.
pub record ArePublished (log prefix : List Change) (views : List View) (published owed apart : ℕ) : Type 0 where
  pub published_is : published ≡ length prefix
  pub begins : BeginsWith log prefix
  pub all : published + owed ≡ length log
  pub each : All (λ view. BeginsWith (seen view) prefix) views
  pub apart_is : apart ≡ count_by (is_apart published) views

-- A law of the definitions, of all lists of turns and not of one run's: in a turn whose publishing was done, the published
-- log is that of all events, whatever packets came since. Read of a turn that is cut before a packet, it says that this
-- packet is due by the log of all events before it.
abbrev pub IsPrompt : Settings → Secret → Type 0
IsPrompt settings first =
    (earlier : List Turn) (turn : Turn) → turn.publishing ≡ Done
    → published_log settings first (published_events_among (happenings_from 0 (earlier ++ turn ∷ [])))
    ≡ published_log settings first (events_among (happenings_from 0 (earlier ++ turn ∷ [])))

-- Where memory refused a turn's publishing, something was owed: the published log isn't that of all events so far.
abbrev pub AreOwedLate : Settings → Secret → List Turn → Type 0
AreOwedLate settings first turns =
    (earlier : List Turn) (turn : Turn) (later : List Turn) → turns ≡ earlier ++ turn ∷ later → turn.publishing ≡ Refused
    → published_log settings first (published_events_among (happenings_from 0 (earlier ++ turn ∷ [])))
    ≢ published_log settings first (events_among (happenings_from 0 (earlier ++ turn ∷ [])))

-- each log by which the slots found receivers is a prefix of this one
abbrev pub ReadPrefixesOf : List Change → List SlotServed → Type 0
ReadPrefixesOf log slots = All (λ slot. BeginsWithEach log slot.logs) slots

-- something is owed only where the run ended before its last turn's publishing, or memory refused that
abbrev pub IsOwedBy : List Turn → ℕ → Type 0
IsOwedBy turns owed = owed ≢ 0 → (earlier : List Turn) × (last : Turn) × (turns ≡ earlier ++ last ∷ []) × (last.publishing ≢ Done)

-- nothing was copied or published
pub record IsIdle (report : ServeReport) : Type 0 where
  pub no_inline : report.inline ≡ 0
  pub none_owed : report.owed ≡ 0
  pub none_published : report.published ≡ 0
  pub none_apart : report.apart ≡ 0

-- What became of the outs: they weren't used; the one of the worker whose start was refused went with it, and
-- the others are as they were; or packets were copied by them, and where no view is apart by prefixes of the whole
-- log alone.
pub data OutsServed (settings : Settings) (plan : ServePlan) (run : Run) (report : ServeReport) (outs after : List OutSeen) (starts starts' : Option ℕ) (views : List View) (sent unsent : ℕ) : Type 0 where
  unused : report.end ≢ SpawnFault → turns_of run ≡ [] → after ≡ outs → views ≡ [] → IsIdle report → sent ≡ 0 → unsent ≡ 0
      → OutsServed settings plan run report outs after starts starts' views sent unsent
  one_lost : report.end ≡ SpawnFault → turns_of run ≡ [] → LosesOne outs after starts starts'
      → views ≡ [] → IsIdle report → sent ≡ 0 → unsent ≡ 0 → OutsServed settings plan run report outs after starts starts' views sent unsent
  used : (jobs : List Job) → map due_of jobs ≡ dues_after settings (first_of run) [] (happenings_of run)
      → (served : AreServed settings outs jobs after views sent unsent)
      → ArePublished (published_log settings (first_of run) (events_of run)) (published_log settings (first_of run) (published_events run)) views
      report.published report.owed report.apart
      → (report.apart ≡ 0 → ReadPrefixesOf (published_log settings (first_of run) (events_of run)) served.slots)
      → IsOwedBy (turns_of run) report.owed
      → report.inline ≡ (if plan.workers == 0 then report.packets else 0)
      → OutsServed settings plan run report outs after starts starts' views sent unsent

-- Where the turns began, every worker of the plan was started; none was where the plan has none, or where the
-- run ended before a start was tried.
pub record StartsWorkers (workers : ℕ) (turns : List Turn) (end : End) (before after : Option ℕ) : Type 0 where
  pub all : turns ≢ [] → HaveStarted workers before after
  pub none : workers ≡ 0 → after ≡ before
  pub none_yet : turns ≡ [] → end ≢ SpawnFault → after ≡ before

-- A whole run: the devices gave exactly the answers of its turns; the link tried exactly the answers to its
-- events, in order; and so on.
pub record Serves (settings : Settings) (plan : ServePlan) (before after : Devices) (control control' : Option ControlSeen) (outs outs' : List OutSeen) (views : List View) (report : ServeReport) : Type 0 where
  pub run : Run
  pub goes : MayGo plan report.end run
  -- the devices' answers
  pub clock : AppendsAll before.clock after.clock (moments_given (turns_of run))
  pub words : AppendsAll before.words.given after.words.given (run.first ++ words_drawn (turns_of run))
  pub link : AnswersAll LinkClosed before.link.coming after.link.coming (link_answers (turns_of run))
  pub feed : AnswersAll FeedClosed before.feed.coming after.feed.coming (feed_answers (turns_of run))
  -- the workers
  pub started : StartsWorkers plan.workers (turns_of run) report.end before.starts after.starts
  -- what was sent
  pub link_sent : ℕ
  pub link_unsent : ℕ
  pub link_tried : HasTried before.link.tried after.link.tried before.link.send_faults after.link.send_faults
      (answers_after settings (first_of run) [] (events_of run)) link_sent link_unsent
  -- the lines after each whole turn, and the answers to them
  pub asked : ControlServes settings (first_of run) plan.workers link_tried.sends control control' run.whole run.rounds
  pub outs_sent : ℕ
  pub outs_unsent : ℕ
  pub outs_served : OutsServed settings plan run report outs outs' before.starts after.starts views outs_sent outs_unsent
  pub prompt : IsPrompt settings (first_of run)
  -- the report
  pub turns_are : report.turns ≡ length run.whole
  pub counted : AreCounted settings (first_of run) (events_of run) report.datagrams report.packets report.updated report.torn
  pub sent_are : report.sent ≡ link_sent + outs_sent
  pub unsent_are : report.unsent ≡ link_unsent + outs_unsent
  pub starved_are : report.starved ≡ sum_by starved_in (turns_of run) + sum_by refused_in run.rounds
  pub late_are : report.late ≡ count_by is_late (turns_of run)
  pub late_owed : AreOwedLate settings (first_of run) (turns_of run)
  -- the causes
  pub link_cause : IsCauseOf report.end LinkFault before.link.receive_faults after.link.receive_faults
  pub feed_cause : IsCauseOf report.end FeedFault before.feed.faults after.feed.faults
  pub words_cause : IsCauseOf report.end WordsFault before.words.faults after.words.faults
  pub start_cause : IsCauseOf report.end SpawnFault before.start_faults after.start_faults
