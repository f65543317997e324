-- Where schedules lead: what each event leaves holds after every schedule. The gateways of a course are those of its
-- setup, and its entries are the relay's accepted log.
use Rattle.std.{proofs.{Common.{◌≡◌, ℕ, max, Bool, true, false, List, [], ◌∷◌, ◌++◌, map, fold, filter_map, if◌then◌else◌, Option, None, Some, refl, sym, ap, ◌∙◌, subst}, lemmas.List.{map-append, Elements.{All-push, filter_map-append}, Sums.{fold-append}}}, specs.List.{cons_option}}
use Rattle.endpoint_membership.specs.declared.change.Change.{Change}
use Rattle.gateway_machine.specs.declared.event.GatewayEvent.{GatewayEvent, TheVariants.{Moment as Passes}}
use Rattle.relay_machine.{specs.{Accepted.{accepted_back, accepted_log, entry_of, with_change}, Events.{moment_in, now_of}, declared.{event.Event.{Event, TheVariants.{Moment, Packet, Rotate}}, sends.OneSend.{OneSend}}}, proofs.Onward.{accepted-push}}
use Rattle.amt_pair.specs.Schedule.{Course, Entry, FitsItsType, IsPairEvent, MayCome, Member, Upward, course_of, delivery_down, delivery_up, down_delivered, has_name, is_at, numbered, start, up_delivered, with_entry, with_gateway_event, with_member_event, with_pair_event, with_relay_event}
use Rattle.amt_pair.{specs.{Setup.{Host, PairSetup, first_nonce}, State.{PairAt, StandsFor, hosts_of}, declared.{event.PairEvent.{PairEvent, TheVariants.{Down, Moment as MomentForAll, Packet as PacketComes, Rotate as SecretComes, Socket, Up}}, pair.Pair.{Pair}}}, proofs.MembersAt.{host_at, hosts_are}}

-- one more event
pub course_of-more : (setup : PairSetup) (schedule : List PairEvent) (event : PairEvent)
    → course_of setup (schedule ++ event ∷ []) ≡ with_pair_event setup (course_of setup schedule) event
unfolding course_of
course_of-more setup schedule event = fold-append (with_pair_event setup) (start setup) schedule (event ∷ [])

-- no event
pub course_of-none : (setup : PairSetup) → course_of setup [] ≡ start setup
unfolding course_of
course_of-none setup = refl

-- what holds at the start, and what an event leaves of the relay and of gateways, holds after every schedule
module _ (setup : PairSetup) (Fact : Course → Type 0)
    (relay : (by : Option Upward) (event : Event) (course : Course) → Fact course → Fact (with_relay_event setup by event course))
    (gateways : (event : GatewayEvent) (reaches : Member → Bool) (course : Course) → Fact course → Fact (with_member_event event reaches course)) where
  kept-up : (found : Option Upward) (course : Course) → Fact course → Fact (up_delivered setup found course)
  kept-up None course fact = fact
  kept-up (Some upward) course fact = relay (Some upward) (delivery_up upward) course fact

  kept-down : (found : Option OneSend) (course : Course) → Fact course → Fact (down_delivered setup found course)
  kept-down None course fact = fact
  kept-down (Some send) course fact = gateways (delivery_down setup send) (is_at send.to) course fact

  kept-event : (event : PairEvent) (course : Course) → Fact course → Fact (with_pair_event setup course event)
  kept-event (MomentForAll at) course fact = gateways (Passes at) (λ member. true) _ (relay None (Moment at) course fact)
  kept-event (SecretComes secret) course fact = relay None (Rotate secret) course fact
  kept-event (PacketComes bytes) course fact = relay None (Packet bytes) course fact
  kept-event (Socket name event) course fact = gateways event (has_name name) course fact
  kept-event (Up number) course fact = kept-up (numbered course.up number) course fact
  kept-event (Down number) course fact = kept-down (numbered course.down number) course fact

  kept-along : (schedule : List PairEvent) (course : Course) → Fact course → Fact (fold (with_pair_event setup) course schedule)
  kept-along [] course fact = fact
  kept-along (event ∷ later) course fact = kept-along later (with_pair_event setup course event) (kept-event event course fact)

  kept-after : Fact (start setup) → (schedule : List PairEvent) → Fact (course_of setup schedule)
  unfolding course_of
  kept-after fact schedule = kept-along schedule (start setup) fact

-- ---- the gateways

-- the gateway with an event, if it reaches it
abbrev pub if_reached : GatewayEvent → (Member → Bool) → Member → Member
if_reached event reaches member = if reaches member then with_gateway_event event member else member

-- what such an event leaves of a gateway
pub reached-kept : (Fact : Member → Type 0) (event : GatewayEvent) (reached : Bool) (member : Member) → (Fact member → Fact (with_gateway_event event member)) → Fact member
    → Fact (if reached then with_gateway_event event member else member)
reached-kept Fact event true member onward fact = onward fact
reached-kept Fact event false member onward fact = fact

reached_hosts : (event : GatewayEvent) (reaches : Member → Bool) (members : List Member) → map host_at (map (if_reached event reaches) members) ≡ map host_at members
reached_hosts event reaches [] = refl
reached_hosts event reaches (member ∷ members) =
    let first = reached-kept (λ one. host_at one ≡ host_at member) event (reaches member) member (λ same. same) refl in
    let rest = reached_hosts event reaches members in
    cc

pub start_hosts : (hosts : List Host) → map host_at (map (λ host. record { host = host; first = first_nonce; events = [] }) hosts) ≡ hosts
start_hosts [] = refl
start_hosts (host ∷ hosts) = ap (λ (rest : List Host). host ∷ rest) (start_hosts hosts)

-- the gateways of a course are those of its setup
pub course_hosts : (setup : PairSetup) (schedule : List PairEvent) → map host_at (course_of setup schedule).members ≡ setup.hosts
course_hosts setup schedule =
    kept-after setup (λ course. map host_at course.members ≡ setup.hosts) (λ by event course same. same)
    (λ event reaches course same. reached_hosts event reaches course.members ∙ same) (start_hosts setup.hosts) schedule

-- and so are those of the pair
pub pair_hosts : (pair : Pair) (setup : PairSetup) (schedule : List PairEvent) → StandsFor pair setup (course_of setup schedule) → hosts_of pair ≡ setup.hosts
pair_hosts pair setup schedule stands =
    hosts_are pair.gateways (course_of setup schedule).members stands.gateways ∙ course_hosts setup schedule

-- a pair after one more event of its schedule
pub pair_at_more : (before after : Pair) (setup : PairSetup) (schedule : List PairEvent) (event : PairEvent) → PairAt before setup schedule → MayCome (hosts_of before) event
    → FitsItsType event → StandsFor after setup (with_pair_event setup (course_of setup schedule) event) → PairAt after setup (schedule ++ event ∷ [])
pair_at_more before after setup schedule event at may fits stands = record {
  setup_lawful = at.setup_lawful;
  events_may_come =
      All-push (IsPairEvent setup.hosts) schedule event at.events_may_come
      (record { may_come = subst (λ (hosts : List Host). MayCome hosts event) (pair_hosts before setup schedule at.stands) may; fits = fits });
  stands = subst (λ (course : Course). StandsFor after setup course) (sym (course_of-more setup schedule event)) stands;
}

-- ---- the moment

-- the moment after one that is reported, or that isn't
abbrev pub later_by : Option ℕ → ℕ → ℕ
later_by None now = now
later_by (Some at) now = max now at

later-fold : (reported : Option ℕ) (now : ℕ) → fold max now (cons_option reported []) ≡ later_by reported now
later-fold None now = refl
later-fold (Some at) now = refl

-- how late it is at the relay after one more event
pub now_of-push : (events : List Event) (event : Event) → now_of (events ++ event ∷ []) ≡ later_by (moment_in event) (now_of events)
unfolding now_of
now_of-push events event =
    ap (fold max 0) (filter_map-append moment_in events (event ∷ []))
    ∙ fold-append max 0 (filter_map moment_in events) (filter_map moment_in (event ∷ []))
    ∙ later-fold (moment_in event) (fold max 0 (filter_map moment_in events))

pub now_of-nil : now_of [] ≡ 0
unfolding now_of
now_of-nil = refl

-- ---- the entries

-- the changes of entries
abbrev pub changes_of : List Entry → List Change
changes_of entries = map (λ entry. entry.change) entries

changes_of-with_entry : (entries : List Entry) (by : Option Upward) (found : Option Change) → changes_of (with_entry entries by found) ≡ with_change (changes_of entries) found
changes_of-with_entry entries by None = refl
changes_of-with_entry entries by (Some change) = map-append (λ (entry : Entry). entry.change) entries (record { by = by; change = change } ∷ [])

logged-start : (setup : PairSetup) → [] ≡ accepted_log setup.settings setup.secret []
unfolding accepted_back
logged-start setup = refl

-- the entries are those of the accepted log, after every schedule
pub logged-after : (setup : PairSetup) (schedule : List PairEvent)
    → changes_of (course_of setup schedule).entries ≡ accepted_log setup.settings setup.secret (course_of setup schedule).relay
logged-after setup schedule =
    kept-after setup (λ course. changes_of course.entries ≡ accepted_log setup.settings setup.secret course.relay)
    (λ by event course logged.
    changes_of-with_entry course.entries by (entry_of setup.settings setup.secret course.relay event)
    ∙ ap (λ (log : List Change). with_change log (entry_of setup.settings setup.secret course.relay event)) logged
    ∙ sym (accepted-push setup.settings setup.secret course.relay event))
    (λ event reaches course logged. logged) (logged-start setup) schedule
