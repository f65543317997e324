-- What a worker keeps while it takes jobs.
use Rattle.std.proofs.{Common.{◌≡◌, ℕ, ◌+◌, ◌≤◌, ◌<◌, ◌^◌, true, List, [], ◌∷◌, ◌++◌, length, map, refl, sym, ap, subst, ◌∙◌, append_assoc, arith, length-append}, lemmas.List.{append-nil, Elements.{All-head}}}
use Rattle.crossbeam_channel.specs.{Claims.{IsSeatAt, view}, Ends.{receives_on}}
use Rattle.logbook.specs.Pages.{Book}
use Rattle.amt_ports.{specs.{Tried.{HasTried}, declared.out_link.OutLink.{Ghosts}}, proofs.Trying.{HasTried-none, HasTried-then}}
use Rattle.amt_values.specs.declared.peer.Peer.{Peer}
use Rattle.endpoint_membership.specs.{Table.{TableSettings}, declared.change.Change.{Change}}
use Rattle.published_table.specs.{Lists.{BeginsWith, BeginsWithEach}, Terms.{settings_by}, Views.{named, publisher_of, seen, terms_of, told}, declared.view.View.{View}}
use Rattle.replication_workers.{proofs.Queues.{jobs_of-append}, specs.{Jobs.{Handled, copies_of}, Queue.{HasTaken, jobs_of}, Replicators.{HasCopied, Tries, copies_due, limit_of, out_of, view_of}, Workers.{HasHandled, KeepsHandled, WorkerGives}, declared.{counts.Counts.{Counts}, job.Job.{Job}, queue.{End.{End}, Item.{Item, TheVariants.{Work, Stop}}}, replicator.Replicator.{Replicator}, worker.{Worker.{Worker}, WorkerDone.{WorkerDone}}}}}

-- one more job was handled
pub handled_more : (settings : TableSettings) (limit : ℕ) (before : List Change) (jobs : List Job) (wanted : List (Peer × List ℕ)) (last : List Change) (job : Job) (log : List Change)
    → Handled settings limit before jobs wanted last → BeginsWith log last → BeginsWith log (named job.note)
    → Handled settings limit before (jobs ++ job ∷ []) (wanted ++ copies_of settings limit log job) log
handled_more settings limit before [] wanted last job log handled further names =
    let due = copies_of settings limit log job in (
      log,
      [],
      subst (BeginsWith log) handled.0 further,
      names,
      ap (λ (list : List (Peer × List ℕ)). list ++ due) handled.1 ∙ sym (append-nil due),
      (refl, refl),
    )
handled_more settings limit before (one ∷ jobs) wanted last job log handled further names =
    let due = copies_of settings limit log job in (
      handled.0,
      handled.1 ++ due,
      handled.2,
      handled.3,
      ap (λ (list : List (Peer × List ℕ)). list ++ due) handled.4 ∙ append_assoc (copies_of settings limit handled.0 one) handled.1 due,
      handled_more settings limit handled.0 jobs handled.1 last job log handled.5 further names,
    )

-- two lists of one publisher
pub same_publisher : (homes : List Book) (one other : Book) → homes ≡ one ∷ [] → homes ≡ other ∷ [] → one ≡ other
same_publisher homes one other first second = cc

none_more : (number more : ℕ) → more ≡ 0 → number ≡ number + more
none_more number more none = omega (arith, none)

module _ {O : Type 0} {g : Ghosts O} where
  -- no job was handled
  pub has_handled_none : (first : Replicator O g) → HasHandled first [] (out_of first) (view_of first) 0 0
  has_handled_none first = record {
    wanted = [];
    handled = (refl, refl);
    tried = HasTried-none (g.tried (out_of first)) (g.faults (out_of first));
    terms = refl;
    publisher = refl;
    few = omega arith;
  }

  -- what a copying does, in one
  pub has_copied : (now next : Replicator O g) (job : Job) (sent unsent : ℕ)
      → (terms_of (view_of next) ≡ terms_of (view_of now)) × (publisher_of (view_of next) ≡ publisher_of (view_of now)) × (limit_of next ≡ limit_of now)
      → BeginsWith (seen (view_of next)) (seen (view_of now)) → BeginsWithEach (seen (view_of next)) (named job.note ∷ told (view_of now))
      → Tries now next (copies_due now (seen (view_of next)) job.at job.packet) sent unsent → HasCopied now job next
  has_copied now next job sent unsent same further each tries = record {
    sent = sent;
    unsent = unsent;
    tries = tries;
    further = further;
    noted = All-head (BeginsWith (seen (view_of next))) (named job.note) (told (view_of now)) each;
    limit = same.2;
    terms = same.0;
    publisher = same.1;
  }

  -- one more job was handled
  pub keeps_handled : (now next : Replicator O g) (counts counts_next : Counts) (job : Job) (more missed : ℕ)
      → counts_next.sent ≡ counts.sent + more → counts_next.unsent ≡ counts.unsent + missed → more + missed ≤ 65536
      → (copied : HasCopied now job next) → Tries now next (copies_due now (seen (view_of next)) job.at job.packet) more missed → KeepsHandled now counts job next counts_next
  keeps_handled now next counts counts_next job more missed all none few copied tries first jobs limit done =
      let log = seen (view_of next) in
      let due = copies_of (settings_by (terms_of (view_of first))) (limit_of first) log job in
      let same_due : copies_due now log job.at job.packet ≡ due = λ i. copies_of (settings_by (done.terms i)) (limit i) log job in
      let sums = done.few in record {
        wanted = done.wanted ++ due;
        handled = handled_more (settings_by (terms_of (view_of first))) (limit_of first) (seen (view_of first)) jobs done.wanted (seen (view_of now)) job log done.handled copied.further copied.noted;
        tried = subst (λ (sums : ℕ × ℕ). HasTried (g.tried (out_of first)) (g.tried (out_of next)) (g.faults (out_of first)) (g.faults (out_of next)) (done.wanted ++ due) sums.0 sums.1) (λ i. (sym all i, sym none i))
            (HasTried-then _ _ _ _ _ _ done.wanted due counts.sent counts.unsent more missed done.tried (subst (λ (wanted : List (Peer × List ℕ)). Tries now next wanted more missed) same_due tries));
        terms = copied.terms ∙ done.terms;
        publisher = copied.publisher ∙ done.publisher;
        few = omega (arith, sums, few, all, none, length-append jobs (job ∷ []));
      }

  -- since the worker began: what its pass knows, and what was counted
  pub record Going (worker : Worker O g) (now : Replicator O g) (known : End) (counts : Counts) : Type 0 where
    pub takes : known.takes ≡ true
    pub home : map publisher_of known.home ≡ publisher_of (view_of now) ∷ []
    pub counted : counts.jobs ≡ length (jobs_of known.taken)
    pub has_handled : HasHandled worker.replicator (jobs_of known.taken) (out_of now) (view_of now) counts.sent counts.unsent
    pub limit : limit_of now ≡ limit_of worker.replicator

  pub going_first : (worker : Worker O g) (counts : Counts) → (counts.jobs ≡ 0) × (counts.sent ≡ 0) × (counts.unsent ≡ 0) → Going worker worker.replicator (view worker.pass) counts
  going_first worker counts none =
      let jobs : jobs_of (view worker.pass).taken ≡ [] = ap jobs_of worker.fresh in
      let start = worker.replicator in record {
        takes = worker.taking.takes;
        home = worker.home;
        counted = none.0 ∙ ap (λ (jobs : List Job). length jobs) (sym jobs);
        has_handled = subst (λ (all : List Job × ℕ × ℕ). HasHandled start all.0 (out_of start) (view_of start) all.1 all.2) (λ i. (sym jobs i, sym none.1 i, sym none.2 i)) (has_handled_none start);
        limit = refl;
      }

  -- an item was taken, and its job was handled if it has one
  pub going_on : (worker : Worker O g) (now next : Replicator O g) (known after : End) (counts counts_next : Counts) (item : Item) → Going worker now known counts → HasTaken known item after
      → counts_next.jobs ≡ counts.jobs + length (jobs_of (item ∷ [])) → publisher_of (view_of next) ≡ publisher_of (view_of now) → limit_of next ≡ limit_of now
      → HasHandled worker.replicator (jobs_of known.taken ++ jobs_of (item ∷ [])) (out_of next) (view_of next) counts_next.sent counts_next.unsent → Going worker next after counts_next
  going_on worker now next known after counts counts_next item going taken counted publisher limit handled =
      let same : jobs_of known.taken ++ jobs_of (item ∷ []) ≡ jobs_of after.taken = sym (ap (λ (end : End). jobs_of end.taken) taken.after_is ∙ jobs_of-append known.taken (item ∷ [])) in record {
        takes = ap (λ (end : End). end.takes) taken.after_is ∙ going.takes;
        home = ap (λ (end : End). map publisher_of end.home) taken.after_is ∙ going.home ∙ ap (λ (book : Book). book ∷ []) (sym publisher);
        counted = counted ∙ ap (λ (jobs : ℕ). jobs + length (jobs_of (item ∷ []))) going.counted ∙ sym (length-append (jobs_of known.taken) (jobs_of (item ∷ []))) ∙ ap (λ (jobs : List Job). length jobs) same;
        has_handled = subst (λ (jobs : List Job). HasHandled worker.replicator jobs (out_of next) (view_of next) counts_next.sent counts_next.unsent) same handled;
        limit = limit ∙ going.limit;
      }

  -- an item that has none
  pub going_past : (worker : Worker O g) (now : Replicator O g) (known after : End) (counts : Counts) (item : Item) → Going worker now known counts → HasTaken known item after → jobs_of (item ∷ []) ≡ [] → Going worker now after counts
  going_past worker now known after counts item going taken none =
      going_on worker now now known after counts counts item going taken (none_more counts.jobs (length (jobs_of (item ∷ []))) (ap (λ (jobs : List Job). length jobs) none)) refl refl
      (subst (λ (jobs : List Job). HasHandled worker.replicator jobs (out_of now) (view_of now) counts.sent counts.unsent) (sym (ap (λ (jobs : List Job). jobs_of known.taken ++ jobs) none ∙ append-nil (jobs_of known.taken))) going.has_handled)

  -- Stop was taken
  pub going_stop : (worker : Worker O g) (now : Replicator O g) (known : End) (counts : Counts) (done : WorkerDone O) → Going worker now known counts → HasTaken known Stop (view done.pass) → IsSeatAt (receives_on worker.inbox) done.pass
      → done.jobs ≡ counts.jobs → done.view ≡ view_of now → done.out ≡ out_of now → done.sent ≡ counts.sent → done.unsent ≡ counts.unsent → WorkerGives worker done
  going_stop worker now known counts done going taken seat jobs view_is out_is sent unsent =
      let last = going_past worker now known (view done.pass) counts Stop going taken refl in record {
        seat = seat;
        ended = record { takes = last.takes; ended = (known.taken, ap (λ (end : End). end.taken) taken.after_is) };
        counted = jobs ∙ last.counted;
        has_handled = subst (λ (all : O × View × ℕ × ℕ). HasHandled worker.replicator (jobs_of (view done.pass).taken) all.0 all.1 all.2 all.3) (λ i. (sym out_is i, sym view_is i, sym sent i, sym unsent i)) last.has_handled;
      }

  -- one more job has room to be counted
  pub room_for_job : (worker : Worker O g) (now : Replicator O g) (known after : End) (counts : Counts) (job : Job) → Going worker now known counts → HasTaken known (Work job) after → counts.jobs < 2 ^ 46
  room_for_job worker now known after counts job going taken =
      let same = ap (λ (end : End). jobs_of end.taken) taken.after_is ∙ jobs_of-append known.taken (Work job ∷ []) in
      let most = taken.few in omega (arith, most, ap (λ (list : List Job). length list) same, length-append (jobs_of known.taken) (job ∷ []), going.counted)
