-- How a running relay begins, and what is left where it doesn't.
use Rattle.std.specs.{Prelude.{◌≡◌, ℕ, ◌≤◌, Bool, List, [], ◌∷◌, ◌++◌, length, map, vec_capacity, Option}, List.{All}}
use Rattle.logbook.specs.Pages.{Book}
use Rattle.amt_ports.specs.{Causes.{Rose}, declared.{out_link.OutLink.{Ghosts}, end.End.{End, TheVariants.{Turns, Closed, LinkFault, FeedFault, WordsFault, SpawnFault, Memory}}}, Devices.{OutSeen}}
use Rattle.published_table.specs.{Publishers.{book_of}, Views.{IsNew, terms_of}, declared.{terms.Terms.{Terms}, view.View.{View}}}
use Rattle.response_mac.specs.declared.secret.Secret.{Secret}
use Rattle.relay_machine.specs.declared.settings.Settings.{Settings}
use Rattle.replication_workers.specs.{Dispatchers.{is_threaded}, Replicators.{limit_of, out_of, view_of}, Starting.{HaveStarted}, declared.replicator.Replicator.{Replicator}}
use Rattle.relay_serving.specs.{Counting.{no_counts}, GivenOut.{starts_in, terms_by}, Servers.{counts_in, first_in, happenings_in, owing_in, published_in, settings_in, slots_in}, declared.server.{Server.{Server}, starting.Made.{Made}}}

-- The out of the worker whose start was refused is gone, and the others are as they were: as many starts were
-- told as there are outs before it.
pub record LosesOne (outs left : List OutSeen) (starts starts' : Option ℕ) : Type 0 where
  pub earlier : List OutSeen
  pub lost : OutSeen
  pub later : List OutSeen
  pub outs_are : outs ≡ earlier ++ lost ∷ later
  pub left_are : left ≡ earlier ++ later
  pub started : HaveStarted (length earlier) starts starts'

-- by why no relay was started: out of memory all outs are as they were, and no worker was started; where a start
-- was refused its worker's out is gone
abbrev pub AreLeftBy : End → List OutSeen → List OutSeen → Option ℕ → Option ℕ → ℕ → ℕ → Type 0
AreLeftBy Memory outs left starts starts' faults faults' = (left ≡ outs) × (starts' ≡ starts) × (faults' ≡ faults)
AreLeftBy SpawnFault outs left starts starts' faults faults' = LosesOne outs left starts starts' × Rose faults faults'
AreLeftBy Turns outs left starts starts' faults faults' = ⊥
AreLeftBy Closed outs left starts starts' faults faults' = ⊥
AreLeftBy LinkFault outs left starts starts' faults faults' = ⊥
AreLeftBy FeedFault outs left starts starts' faults faults' = ⊥
AreLeftBy WordsFault outs left starts starts' faults faults' = ⊥

-- views that read by these terms
abbrev pub AreReadBy : Terms → List View → Type 0
AreReadBy terms views = All (λ view. terms_of view ≡ terms) views

module _ {O : Type 0} {g : Ghosts O} where
  -- a replicator over a new view, for packets of the relay's limit
  pub record IsStart (settings : Settings) (book : Book) (replicator : Replicator O g) : Type 0 where
    pub new : IsNew book (terms_by settings) (view_of replicator)
    pub limit : limit_of replicator ≡ settings.packet_limit

  abbrev pub AreStarts : Settings → Book → List (Replicator O g) → Type 0
  AreStarts settings book replicators = All (IsStart settings book) replicators

  -- there is room for so many replicators that come back, and for their outs
  pub record HasRoomBack (number : ℕ) (made : Made O g) : Type 0 where
    pub no_turned : made.turned.items ≡ []
    pub no_outs : made.outs.items ≡ []
    pub room_turned : number ≤ vec_capacity made.turned
    pub room_outs : number ≤ vec_capacity made.outs

  -- nothing has happened yet
  pub record IsAtStart {T : Type 0} (settings : Settings) (first : Secret) (outs : List O) (threads : Bool) (server : Server O T g) : Type 0 where
    pub settings_are : settings_in server ≡ settings
    pub first_is : first_in server ≡ first
    pub none_happened : happenings_in server ≡ []
    pub none_counted : counts_in server ≡ no_counts
    pub none_published : published_in server ≡ []
    pub none_owing : owing_in server ≡ []
    pub mode : is_threaded server.dispatcher ≡ threads
    pub outs_are : map out_of (starts_in (slots_in server)) ≡ outs
    pub starts : AreStarts settings (book_of server.publisher) (starts_in (slots_in server))
