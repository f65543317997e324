-- What is read of a dispatcher.
use Rattle.std.specs.{Prelude.{◌≡◌, ℕ, ◌+◌, ◌%◌, ◌^◌, Bool, List, [], if◌then◌else◌, map, Result, Ok, Err}, List.{All}}
use Rattle.amt_ports.specs.declared.out_link.OutLink.{Ghosts}
use Rattle.amt_values.specs.Address.{number_of}
use Rattle.inner_datagrams.specs.{Head.{head_of}, declared.head.{Head.{Head}, HeadFault.{HeadFault}}}
use Rattle.published_table.specs.Views.{note_publisher, publisher_of}
use Rattle.replication_workers.specs.{KeptSlots.{IsRunBy, now_of, state_of}, Replicators.{view_of}, SlotStates.{SlotState}, declared.{dispatcher.Dispatcher.{Dispatcher}, job.Job.{Job}, replicator.Replicator.{Replicator}, worker.Worker.{Worker}}}

-- of so many slots, the one for packets with this head: group and source as 128-bit numbers, whose sum
-- wraps; the first one where there is no head
abbrev pub slot_by : ℕ → Result Head HeadFault → ℕ
slot_by slots (Ok head) = ((number_of head.group + number_of head.source) % 2 ^ 128) % slots
slot_by slots (Err fault) = 0

-- the slot for the packet
abbrev pub slot_for : ℕ → List ℕ → ℕ
slot_for slots packet = slot_by slots (head_of packet)

module _ {O T : Type 0} {g : Ghosts O} where
  -- what each slot had at its start, and the jobs that it was given since, in order
  abbrev pub slots_of : Dispatcher O T g → List (SlotState O g)
  slots_of dispatcher = map state_of dispatcher.slots.items

  -- whether workers have the replicators
  abbrev pub is_threaded : Dispatcher O T g → Bool
  is_threaded dispatcher = dispatcher.threads

  -- the replicators that the dispatcher keeps, as they are now: none where workers have them
  abbrev pub held_by : Dispatcher O T g → List (Replicator O g)
  held_by dispatcher = if dispatcher.threads then [] else map now_of dispatcher.slots.items

  -- each task that was started is its slot's worker
  abbrev pub AllRun : (T → Worker O g) → Dispatcher O T g → Type 0
  AllRun task_of dispatcher = All (IsRunBy task_of) dispatcher.slots.items

  -- if each was, each still is, by any reading of tasks as workers
  abbrev pub KeepsAllRun : Dispatcher O T g → Dispatcher O T g → Type 0
  KeepsAllRun before after = (task_of : T → Worker O g) → AllRun task_of before → AllRun task_of after

module _ {O : Type 0} {g : Ghosts O} where
  -- the job's note was told by the publisher of the slot's view
  abbrev pub IsForSlot : Job → SlotState O g → Type 0
  IsForSlot job slot = note_publisher job.note ≡ publisher_of (view_of slot.first)
