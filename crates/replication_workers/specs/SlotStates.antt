-- What slots were given, and what they leave.
use Rattle.std.specs.Prelude.{◌≡◌, ◌≤◌, ◌+◌, ◌*◌, ℕ, zero, suc, List, [], ◌∷◌, ◌++◌, length, map}
use Rattle.std.specs.List.{All, sum_by}
use Rattle.amt_ports.specs.declared.out_link.OutLink.{Ghosts}
use Rattle.published_table.specs.{Views.{publisher_of, terms_of}, declared.view.View.{View}}
use Rattle.replication_workers.specs.{Backs.{IsBack}, Replicators.{HasCopied, view_of}, Workers.{HasHandled}, declared.{job.Job.{Job}, replicator.Replicator.{Replicator}, slot.Left.{Left}}}

-- a slot's replicator as it was given, and the jobs that the slot was given since, in order
pub record SlotState (O : Type 0) (g : Ghosts O) : Type 0 where
  pub first : Replicator O g
  pub jobs : List Job

-- a slot, and what it left
pub record SlotLeft (O : Type 0) (g : Ghosts O) : Type 0 where
  pub slot : SlotState O g
  pub left : Left O

module _ {O : Type 0} {g : Ghosts O} where
  -- a slot without any job
  abbrev pub new_slot : Replicator O g → SlotState O g
  new_slot replicator = record { first = replicator; jobs = [] }

  -- the slot with one job more
  abbrev pub with_one_job : Job → SlotState O g → SlotState O g
  with_one_job job slot = record { first = slot.first; jobs = slot.jobs ++ job ∷ [] }

  -- the slots, of which the one at this place has one job more
  abbrev pub with_job : ℕ → Job → List (SlotState O g) → List (SlotState O g)
  with_job place job [] = []
  with_job zero job (slot ∷ later) = with_one_job job slot ∷ later
  with_job (suc place) job (slot ∷ later) = slot ∷ with_job place job later

  -- how many jobs they were given together
  abbrev pub jobs_in_all : List (SlotState O g) → ℕ
  jobs_in_all slots = sum_by (λ slot. length slot.jobs) slots

  -- the replicator at this place has copied the job, and the others are as before
  pub record CopiedAt (place : ℕ) (job : Job) (before after : List (Replicator O g)) : Type 0 where
    pub earlier : List (Replicator O g)
    pub one : Replicator O g
    pub copied : Replicator O g
    pub later : List (Replicator O g)
    pub at : length earlier ≡ place
    pub before_is : before ≡ earlier ++ one ∷ later
    pub after_is : after ≡ earlier ++ copied ∷ later
    pub has_copied : HasCopied one job copied

  -- The slot left this after exactly its jobs, with a view of the same publisher and terms. That logs are
  -- there by which it handled them is known, and not which.
  pub record IsLeft (slot : SlotState O g) (left : Left O) : Type 0 where
    pub counted : left.jobs ≡ length slot.jobs
    pub few : left.sent + left.unsent ≤ 65536 * left.jobs
    pub terms : terms_of left.view ≡ terms_of (view_of slot.first)
    pub publisher : publisher_of left.view ≡ publisher_of (view_of slot.first)
    pub has_handled : ∥ HasHandled slot.first slot.jobs left.out left.view left.sent left.unsent ∥₁
    pub idle : left.jobs ≡ 0 → IsBack slot.first left.out left.view

  -- These slots left the links and the views, in order, each after exactly its jobs. So many datagrams
  -- were sent in all, and so many not.
  pub record HaveLeft (slots : List (SlotState O g)) (outs : List O) (views : List View) (sent unsent : ℕ) : Type 0 where
    pub lefts : List (SlotLeft O g)
    pub slots_are : map (λ one. one.slot) lefts ≡ slots
    pub outs_are : map (λ one. one.left.out) lefts ≡ outs
    pub views_are : map (λ one. one.left.view) lefts ≡ views
    pub sent_is : sent ≡ sum_by (λ one. one.left.sent) lefts
    pub unsent_is : unsent ≡ sum_by (λ one. one.left.unsent) lefts
    pub each : All (λ one. IsLeft one.slot one.left) lefts
