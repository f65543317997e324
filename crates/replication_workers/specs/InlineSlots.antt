-- What is read of a slot whose replicator the dispatcher keeps.
use Rattle.std.specs.Prelude.{List}
use Rattle.amt_ports.specs.declared.out_link.OutLink.{Ghosts}
use Rattle.replication_workers.specs.{JobsSoFar.{jobs_listed}, SlotStates.{SlotState}, declared.{dispatcher.inline_slot.InlineSlot.{InlineSlot}, job.Job.{Job}, replicator.Replicator.{Replicator}}}

module _ {O : Type 0} {g : Ghosts O} where
  -- the replicator as it was given
  abbrev pub first_of : InlineSlot O g → Replicator O g
  first_of slot = slot.first.value

  -- the replicator as it is now
  abbrev pub replicator_now : InlineSlot O g → Replicator O g
  replicator_now slot = slot.replicator

  -- the jobs that it has handled, in order
  abbrev pub jobs_done : InlineSlot O g → List Job
  jobs_done slot = jobs_listed slot.handled

  -- both together
  abbrev pub inline_state : InlineSlot O g → SlotState O g
  inline_state slot = record { first = first_of slot; jobs = jobs_done slot }
