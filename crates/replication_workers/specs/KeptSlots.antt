-- What is read of a dispatcher's slot.
use Rattle.std.specs.{Prelude.{◌≡◌, ℕ, ◌+◌, Bool, true, false, List, ◌++◌, length, map}, List.{All}}
use Rattle.amt_ports.specs.declared.out_link.OutLink.{Ghosts}
use Rattle.replication_workers.specs.{InlineSlots.{inline_state, replicator_now}, Replicators.{HasCopied}, SlotStates.{CopiedAt, SlotState, jobs_in_all, new_slot, with_job, with_one_job}, Slots.{jobs_put, replicator_of, started_of, worker_of}, declared.{dispatcher.kept.Kept.{Kept, TheVariants.{Threaded, Inline}}, job.Job.{Job}, replicator.Replicator.{Replicator}, worker.Worker.{Worker}}}

module _ {O T : Type 0} {g : Ghosts O} where
  -- its replicator as it was given, and the jobs that it was given since
  abbrev pub state_of : Kept O T g → SlotState O g
  state_of (Threaded slot) = record { first = replicator_of (worker_of slot); jobs = jobs_put slot }
  state_of (Inline slot) = inline_state slot

  -- whether a worker has its replicator
  abbrev pub is_threaded_slot : Kept O T g → Bool
  is_threaded_slot (Threaded slot) = true
  is_threaded_slot (Inline slot) = false

  -- its replicator as it is now, or as it was given where a worker has it
  abbrev pub now_of : Kept O T g → Replicator O g
  now_of (Threaded slot) = replicator_of (worker_of slot)
  now_of (Inline slot) = replicator_now slot

  -- the task that was started for it, if there is one, is its worker
  abbrev pub IsRunBy : (T → Worker O g) → Kept O T g → Type 0
  IsRunBy task_of (Threaded slot) = task_of (started_of slot) ≡ worker_of slot
  IsRunBy task_of (Inline slot) = Unit {0}

  -- if its task was its worker, it still is, by any reading of tasks as workers
  abbrev pub KeepsRun : Kept O T g → Kept O T g → Type 0
  KeepsRun before after = (task_of : T → Worker O g) → IsRunBy task_of before → IsRunBy task_of after

  -- all of them have a worker, or none has
  abbrev pub AreThreaded : Bool → List (Kept O T g) → Type 0
  AreThreaded threads slots = All (λ slot. is_threaded_slot slot ≡ threads) slots

  -- the slot was given the job, and copied it where no worker has its replicator
  pub record IsGiven (job : Job) (before after : Kept O T g) : Type 0 where
    pub state : state_of after ≡ with_one_job job (state_of before)
    pub kind : is_threaded_slot after ≡ is_threaded_slot before
    pub run : KeepsRun before after
    pub copied : is_threaded_slot before ≡ false → HasCopied (now_of before) job (now_of after)

  -- the slot at this place was given the job, and no other
  pub record AreGiven (place : ℕ) (job : Job) (before after : List (Kept O T g)) : Type 0 where
    pub states : map state_of after ≡ with_job place job (map state_of before)
    pub jobs : jobs_in_all (map state_of after) ≡ jobs_in_all (map state_of before) + 1
    pub number : length after ≡ length before
    pub kinds : (threads : Bool) → AreThreaded threads before → AreThreaded threads after
    pub run : (task_of : T → Worker O g) → All (IsRunBy task_of) before → All (IsRunBy task_of) after
    pub copied : AreThreaded false before → CopiedAt place job (map now_of before) (map now_of after)

  -- slots of these replicators that the dispatcher keeps were added at the end, none with a job
  pub record HasKept (replicators : List (Replicator O g)) (before after : List (Kept O T g)) : Type 0 where
    pub states : map state_of after ≡ map state_of before ++ map new_slot replicators
    pub now : map now_of after ≡ map now_of before ++ replicators
    pub kinds : AreThreaded false before → AreThreaded false after
    pub run : (task_of : T → Worker O g) → All (IsRunBy task_of) before → All (IsRunBy task_of) after

  -- workers over these replicators were started, and no job is put yet
  pub record AreStarted (task_of : T → Worker O g) (replicators : List (Replicator O g)) (slots : List (Kept O T g)) : Type 0 where
    pub states : map state_of slots ≡ map new_slot replicators
    pub kind : AreThreaded true slots
    pub run : All (IsRunBy task_of) slots
