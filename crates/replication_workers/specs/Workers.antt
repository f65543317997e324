-- What a worker gives.
use Rattle.std.specs.Prelude.{◌≡◌, ◌≤◌, ◌+◌, ◌*◌, ℕ, List, [], ◌∷◌, ◌++◌, length}
use Rattle.crossbeam_channel.specs.{Claims.{IsSeatAt, view}, Ends.{receives_on}}
use Rattle.amt_ports.specs.{declared.out_link.OutLink.{Ghosts}, Tried.{HasTried}}
use Rattle.amt_values.specs.declared.peer.Peer.{Peer}
use Rattle.endpoint_membership.specs.declared.change.Change.{Change}
use Rattle.published_table.specs.{Terms.{settings_by}, Views.{publisher_of, seen, terms_of}, declared.view.View.{View}}
use Rattle.replication_workers.specs.{Jobs.{Handled}, Queue.{HasEnded, jobs_of}, Replicators.{limit_of, out_of, view_of}, declared.{counts.Counts.{Counts}, job.Job.{Job}, replicator.Replicator.{Replicator}, worker.{Worker.{Worker}, WorkerDone.{WorkerDone}}}}

-- the jobs that a worker took before Stop
abbrev pub jobs_taken : {O : Type 0} → WorkerDone O → List Job
jobs_taken done = jobs_of (view done.pass).taken

module _ {O : Type 0} {g : Ghosts O} where
  -- these jobs were handled since the replicator was as it is here; all their datagrams are the wanted
  -- ones, and the last log is this one
  abbrev pub HandledSince : Replicator O g → List Job → List (Peer × List ℕ) → List Change → Type 0
  HandledSince replicator jobs wanted last =
      Handled (settings_by (terms_of (view_of replicator))) (limit_of replicator) (seen (view_of replicator)) jobs wanted last

  -- since the replicator was as it is here, these jobs were handled: the link has tried their datagrams
  -- and no others; so many were sent, and so many not, which are at most 65,536 a job
  pub record HasHandled (replicator : Replicator O g) (jobs : List Job) (out : O) (view : View) (sent unsent : ℕ) : Type 0 where
    pub wanted : List (Peer × List ℕ)
    pub handled : HandledSince replicator jobs wanted (seen view)
    pub tried : HasTried (g.tried (out_of replicator)) (g.tried out) (g.faults (out_of replicator)) (g.faults out) wanted sent unsent
    pub terms : terms_of view ≡ terms_of (view_of replicator)
    pub publisher : publisher_of view ≡ publisher_of (view_of replicator)
    pub few : sent + unsent ≤ 65536 * length jobs

  -- whatever jobs were handled before this one, it was handled after them
  abbrev pub KeepsHandled : Replicator O g → Counts → Job → Replicator O g → Counts → Type 0
  KeepsHandled before counts job after counts_after =
      (first : Replicator O g) (jobs : List Job) → limit_of before ≡ limit_of first
      → HasHandled first jobs (out_of before) (view_of before) counts.sent counts.unsent
      → HasHandled first (jobs ++ job ∷ []) (out_of after) (view_of after) counts_after.sent counts_after.unsent

  -- it took jobs until Stop, and handled exactly these
  pub record WorkerGives (worker : Worker O g) (done : WorkerDone O) : Type 0 where
    pub seat : IsSeatAt (receives_on worker.inbox) done.pass
    pub ended : HasEnded (view done.pass)
    pub counted : done.jobs ≡ length (jobs_taken done)
    pub has_handled : HasHandled worker.replicator (jobs_taken done) done.out done.view done.sent done.unsent
