-- What is read of a running relay, and what its calls do to it.
use Rattle.std.specs.Prelude.{◌≡◌, ℕ, ◌+◌, List, ◌++◌, length, map}
use Rattle.amt_ports.specs.declared.out_link.OutLink.{Ghosts}
use Rattle.endpoint_membership.specs.declared.change.Change.{Change}
use Rattle.published_table.specs.Publishers.{book_of, owing, published}
use Rattle.response_mac.specs.declared.secret.Secret.{Secret}
use Rattle.relay_machine.specs.{Answers.{settings_of}, declared.{event.Event.{Event}, settings.Settings.{Settings}}}
use Rattle.replication_workers.specs.{Dispatchers.{KeepsAllRun, is_threaded, slots_of}, SlotStates.{SlotState}}
use Rattle.relay_serving.specs.{Courses.{events_so_far, happenings_so_far}, GivenOut.{starts_in}, Happenings.{Happening, Took}, declared.{counts.Counts.{Counts}, server.Server.{Server}}}

module _ {O : Type 0} {g : Ghosts O} {T : Type 0} where
  abbrev pub settings_in : Server O T g → Settings
  settings_in server = settings_of server.relay

  -- its first secret
  abbrev pub first_in : Server O T g → Secret
  first_in server = server.first.value

  -- what has happened to it so far, and its events among that
  abbrev pub happenings_in : Server O T g → List Happening
  happenings_in server = happenings_so_far server.course

  abbrev pub events_in : Server O T g → List Event
  events_in server = events_so_far server.course

  abbrev pub counts_in : Server O T g → Counts
  counts_in server = server.counts

  -- its events, and all that memory refused it
  abbrev pub tally_in : Server O T g → ℕ
  tally_in server = length (events_in server) + ((counts_in server).starved + (counts_in server).late)

  -- what its views read, and what isn't published
  abbrev pub published_in : Server O T g → List Change
  published_in server = published server.publisher

  abbrev pub owing_in : Server O T g → List Change
  owing_in server = owing server.publisher

  abbrev pub slots_in : Server O T g → List (SlotState O g)
  slots_in server = slots_of server.dispatcher

  -- it was set up and started alike
  pub record IsSameRun (before after : Server O T g) : Type 0 where
    pub same_settings : settings_in after ≡ settings_in before
    pub same_first : first_in after ≡ first_in before
    pub same_starts : starts_in (slots_in after) ≡ starts_in (slots_in before)
    pub same_book : book_of after.publisher ≡ book_of before.publisher
    pub same_mode : is_threaded after.dispatcher ≡ is_threaded before.dispatcher
    pub same_tasks : KeepsAllRun before.dispatcher after.dispatcher

  -- so much more happened to it
  pub record Happens (before after : Server O T g) (more : List Happening) : Type 0 where
    pub same : IsSameRun before after
    pub happened : happenings_in after ≡ happenings_in before ++ more

  -- its events are these more
  abbrev pub HasEvents : Server O T g → Server O T g → List Event → Type 0
  HasEvents before after more = Happens before after (map Took more)

  -- nothing happened
  pub record IsAsBefore (before after : Server O T g) : Type 0 where
    pub same : IsSameRun before after
    pub same_happenings : happenings_in after ≡ happenings_in before
    pub same_counts : counts_in after ≡ counts_in before
