-- What the slots of a running relay are given.
use Rattle.std.specs.{Prelude.{◌≡◌, ◌==◌, ℕ, List, [], length, map}, List.{All, enumerate_from, filter}}
use Rattle.logbook.specs.Pages.{Book}
use Rattle.amt_ports.specs.declared.out_link.OutLink.{Ghosts}
use Rattle.published_table.specs.{Views.{publisher_of}, declared.terms.Terms.{Terms}}
use Rattle.response_mac.specs.declared.secret.Secret.{Secret}
use Rattle.relay_machine.specs.{Settings.{membership_interval_ms}, declared.settings.Settings.{Settings}}
use Rattle.replication_workers.specs.{Dispatchers.{slot_for}, Replicators.{view_of}, SlotStates.{SlotState}, declared.{job.Job.{Job}, replicator.Replicator.{Replicator}}}
use Rattle.relay_serving.specs.{Happenings.{Happening}, Sending.{due_of, dues_after}}

-- by what the table of a relay with these settings is read
abbrev pub terms_by : Settings → Terms
terms_by settings = record { limits = settings.limits; lifetime_ms = membership_interval_ms settings }

-- the jobs of the slot of this number, of so many
abbrev pub jobs_at : ℕ → ℕ → List Job → List Job
jobs_at slots number jobs = filter (λ job. slot_for slots job.packet == number) jobs

module _ {O : Type 0} {g : Ghosts O} where
  -- what each slot had at its start
  abbrev pub starts_in : List (SlotState O g) → List (Replicator O g)
  starts_in slots = map (λ slot. slot.first) slots

  -- the slots that began so, once these jobs were given out
  abbrev pub slots_after : List (Replicator O g) → List Job → List (SlotState O g)
  slots_after firsts jobs =
      map (λ numbered. record { first = numbered.1; jobs = jobs_at (length firsts) numbered.0 jobs }) (enumerate_from 0 firsts)

  -- the jobs ask for exactly what is due, and each stands at its slot
  pub record AreGivenOut (settings : Settings) (first : Secret) (happenings : List Happening) (slots : List (SlotState O g)) : Type 0 where
    pub jobs : List Job
    pub are_due : map due_of jobs ≡ dues_after settings first [] happenings
    pub at_slots : slots ≡ slots_after (starts_in slots) jobs

  -- the slots' views are of this publisher
  abbrev pub AreOfPublisher : Book → List (SlotState O g) → Type 0
  AreOfPublisher publisher slots = All (λ slot. publisher_of (view_of slot.first) ≡ publisher) slots
