-- What is read of views and notes.
use Rattle.std.specs.Prelude.{◌≡◌, ℕ, List, [], length, vec_capacity, Option, Some, None}
use Rattle.amt_ports.specs.Causes.{Rose}
use Rattle.logbook.specs.Pages.{Book}
use Rattle.endpoint_membership.specs.{Targets.{TargetsValue, targets_of}, declared.change.Change.{Change}}
use Rattle.published_table.specs.{Lists.{BeginsWith, BeginsWithEach}, Logs.{entries}, Told.{logs_told}, declared.{terms.Terms.{Terms}, view.{Note.{Note}, View.{View}, reading.Wanted.{Wanted}, views.Views.{Views}}}}

-- the log by which the view answered last
abbrev pub seen : View → List Change
seen view = entries view.reader.log.value

-- the logs that it was told of, newest first
abbrev pub told : View → List (List Change)
told view = logs_told view.reader.told

-- how many of its readings were handed back
abbrev pub handed : View → ℕ
handed view = view.reader.door.handed

-- the limits and the lifetime by which it reads
abbrev pub terms_of : View → Terms
terms_of view = view.reader.terms

-- whose log it reads, as the book of its history
abbrev pub publisher_of : View → Book
publisher_of view = view.reader.bookmark.seen.book

-- the views that are still to be handed out, in order
abbrev pub views_of : Views → List View
views_of views = views.views.items

-- for how many views there is room
abbrev pub room_of : Views → ℕ
room_of views = vec_capacity views.views

-- the log that a note names, and whose it is
abbrev pub named : Note → List Change
named note = entries note.log.value

abbrev pub note_publisher : Note → Book
note_publisher note = note.bookmark.seen.book

-- a view that has seen nothing
pub record IsNew (publisher : Book) (terms : Terms) (view : View) : Type 0 where
  pub seen_none : seen view ≡ []
  pub told_none : told view ≡ []
  pub handed_none : handed view ≡ 0
  pub of : publisher_of view ≡ publisher
  pub by : terms_of view ≡ terms

-- a reading leaves whose view it is, and what it was told
pub record IsSameView (before after : View) : Type 0 where
  pub of : publisher_of after ≡ publisher_of before
  pub by : terms_of after ≡ terms_of before
  pub same_told : told after ≡ told before

-- a reading was handed back
pub record IsHandedBack (before after : View) : Type 0 where
  pub rose : Rose (handed before) (handed after)
  pub same_seen : seen after ≡ seen before

-- a reading answered by a log of so many entries, which begins with all that the view had seen and with
-- each log that it was told of
pub record HasRead (before after : View) (number : ℕ) : Type 0 where
  pub further : BeginsWith (seen after) (seen before)
  pub each_told : BeginsWithEach (seen after) (told before)
  pub counted : number ≡ length (seen after)
  pub same_handed : handed after ≡ handed before

-- the endpoints that get a packet, by the log, where they were asked for
abbrev pub Fills : Option Wanted → Terms → List Change → TargetsValue → TargetsValue → Type 0
Fills None terms log before after = after ≡ before
Fills (Some wanted) terms log before after =
    (after.room ≡ before.room) × (after.endpoints ≡ targets_of terms.lifetime_ms log wanted.group wanted.source wanted.at)
