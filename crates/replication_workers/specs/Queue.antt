-- The rule of a worker's queue, and what its ends know.
use Rattle.std.specs.{Prelude.{◌≡◌, ◌⊎◌, ℕ, ◌≤◌, ◌^◌, Bool, true, false, List, [], ◌∷◌, ◌++◌, length, map}, List.{AllByRecursion}}
use mathlib.Core.Option.{some}
use lib.ListN.{get_elem?}
use Rattle.published_table.specs.{Views.{note_publisher, publisher_of}, declared.view.View.{View}}
use Rattle.replication_workers.specs.declared.{job.Job.{Job}, queue.{End.{End}, Item.{Item, TheVariants.{Home, Work, Stop}}}}

-- the jobs among the items, in order
abbrev pub jobs_of : List Item → List Job
jobs_of [] = []
jobs_of (Home view ∷ later) = jobs_of later
jobs_of (Work job ∷ later) = job ∷ jobs_of later
jobs_of (Stop ∷ later) = jobs_of later

-- nothing stands after Stop
abbrev pub StopIsLast : List Item → Type 0
StopIsLast [] = Unit {0}
StopIsLast (Home view ∷ later) = StopIsLast later
StopIsLast (Work job ∷ later) = StopIsLast later
StopIsLast (Stop ∷ later) = later ≡ []

-- whether Stop is among them
abbrev pub has_stop : List Item → Bool
has_stop [] = false
has_stop (Home view ∷ later) = has_stop later
has_stop (Work job ∷ later) = has_stop later
has_stop (Stop ∷ later) = true

-- the last item is Stop
abbrev pub EndsWithStop : List Item → Type 0
EndsWithStop items = (earlier : List Item) × (items ≡ earlier ++ Stop ∷ [])

-- the job's note was told by the publisher that the queue is for
abbrev pub IsOfHome : List View → Job → Type 0
IsOfHome home job = map publisher_of home ≡ note_publisher job.note ∷ []

-- each of these jobs is of that publisher
abbrev pub AreOfHome : List View → List Job → Type 0
AreOfHome home jobs = AllByRecursion (IsOfHome home) jobs

-- Of one holder: at most one puts, and it knows what was put; at most one takes, and it knows what was
-- taken; both know the publisher.
pub record FitsEnd (putter taker : ℕ) (home : List View) (put taken : List Item) (seat : ℕ) (known : End) : Type 0 where
  pub putting : known.puts ≡ true → (seat ≡ putter) × (known.home ≡ home) × (known.put ≡ put)
  pub taking : known.takes ≡ true → (seat ≡ taker) × (known.home ≡ home) × (known.taken ≡ taken)

-- so of each holder: its seat is its place in the list of what the holders know
abbrev pub FitEach : ℕ → ℕ → List View → List Item → List Item → List End → Type 0
FitEach putter taker home put taken ends = (seat : ℕ) (known : End) → get_elem? ends seat ≡ some known → FitsEnd putter taker home put taken seat known

-- at most 2^46 jobs are put, all of one publisher, and nothing is put after Stop
pub record IsLawful (home : List View) (put : List Item) : Type 0 where
  pub few : length (jobs_of put) ≤ 2 ^ 46
  pub last : StopIsLast put
  pub of_home : AreOfHome home (jobs_of put)

-- what was put is what was taken and then what the queue holds
pub record QueueRule (items : List Item) (ends : List End) : Type 0 where
  pub putter : ℕ
  pub taker : ℕ
  pub home : List View
  pub put : List Item
  pub taken : List Item
  pub in_order : put ≡ taken ++ items
  pub lawful : IsLawful home put
  pub each : FitEach putter taker home put taken ends

-- what a holder knows, of these parts
abbrev pub end_of : Bool → Bool → List View → List Item → List Item → End
end_of puts takes home put taken = record { puts = puts; takes = takes; home = home; put = put; taken = taken }

-- the only holder of a new queue
abbrev pub whole_end : End
whole_end = end_of true true [] [] []

-- whose jobs the queue is for once the item is put: the first item tells it
abbrev pub home_after : List View → Item → List View
home_after home (Home view) = view.value ∷ []
home_after home (Work job) = home
home_after home Stop = home

-- with one more that was put
abbrev pub with_put : End → Item → End
with_put known item = end_of known.puts known.takes (home_after known.home item) (known.put ++ item ∷ []) known.taken

-- with one more that was taken
abbrev pub with_taken : End → Item → End
with_taken known item = end_of known.puts known.takes known.home known.put (known.taken ++ item ∷ [])

-- a taking adds the item, and the jobs taken are few and of the publisher
pub record HasTaken (before : End) (item : Item) (after : End) : Type 0 where
  pub after_is : after ≡ with_taken before item
  pub few : length (jobs_of after.taken) ≤ 2 ^ 46
  pub of_home : AreOfHome before.home (jobs_of (item ∷ []))

-- the two ends of a queue
abbrev pub putting_end : End → End
putting_end known = end_of true false known.home known.put []

abbrev pub taking_end : End → End
taking_end known = end_of false true known.home [] known.taken

-- an end that took in the other one, and what is left of that one
abbrev pub joined_end : End → End → End
joined_end known other = end_of true true known.home known.put other.taken

abbrev pub spent_end : End
spent_end = end_of false false [] [] []

-- what was put was taken or is held, and nothing was put after Stop
abbrev pub AddsUp : End → List Item → Type 0
AddsUp known items = (known.put ≡ known.taken ++ items) × StopIsLast known.put

-- it may put, and has put no Stop
pub record IsPutting (known : End) : Type 0 where
  pub puts : known.puts ≡ true
  pub takes : known.takes ≡ false
  pub opened : has_stop known.put ≡ false

-- it has put Stop
pub record HasStopped (known : End) : Type 0 where
  pub puts : known.puts ≡ true
  pub stopped : EndsWithStop known.put

-- it may take
pub record IsTaking (known : End) : Type 0 where
  pub puts : known.puts ≡ false
  pub takes : known.takes ≡ true

-- it has taken Stop
pub record HasEnded (known : End) : Type 0 where
  pub takes : known.takes ≡ true
  pub ended : EndsWithStop known.taken

-- what may be put next: it tells whose jobs the queue is for only where no other holder takes
pub record MayPut (known : End) (item : Item) : Type 0 where
  pub puts : known.puts ≡ true
  pub alone : (home_after known.home item ≡ known.home) ⊎ (known.takes ≡ true)
  pub lawful : IsLawful known.home known.put → IsLawful (home_after known.home item) (known.put ++ item ∷ [])
