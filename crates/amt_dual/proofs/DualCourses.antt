-- Where dual schedules lead: what each event leaves holds after every schedule. The machines of a course are those of its
-- setup, and its entries are the relay's accepted log.
use Rattle.{std.proofs.{Common.{◌≡◌, Bool, true, List, [], ◌∷◌, ◌++◌, map, fold, Option, None, Some, refl, sym, ap, ◌∙◌, subst}, lemmas.List.{map-append, Elements.{All-push}, Sums.{fold-append}}}, endpoint_membership.specs.declared.change.Change.{Change}, gateway_machine.specs.declared.event.GatewayEvent.{GatewayEvent, TheVariants.{Moment as Passes}}, relay_machine.{specs.{Accepted.{accepted_back, accepted_log, entry_of, with_change}, declared.{event.Event.{Event, TheVariants.{Moment as MomentAt, Packet as PacketAt, Rotate as SecretAt}}, sends.OneSend.{OneSend}}}, proofs.Onward.{accepted-push}}, amt_pair.specs.{Schedule.{Course, Entry, Member, Upward, delivery_down, delivery_up, numbered, up_delivered, with_entry, with_member_event, with_relay_event}, Setup.{Host, PairSetup}}, amt_pair.proofs.{Courses.{changes_of, if_reached, reached-kept}, MembersAt.{host_at, hosts_are}}, amt_dual.specs.{Schedule.{DualFitsItsType, DualMayCome, IsDualPairEvent, at_first, down_taken, dual_course_of, dual_pair_start, is_called, takes_delivery, with_dual_pair_event}, Setup.{DualSetup, machines_in}, State.{DualPairAt, StandsFor, machines}}, amt_dual.specs.declared.{event.DualPairEvent.{DualPairEvent, TheVariants.{Down, Moment, Packet, Rotate, Socket, Up}}, pair.DualPair.{DualPair}}}

-- one more event
pub dual_course_of-more : (setup : DualSetup) (schedule : List DualPairEvent) (event : DualPairEvent)
    → dual_course_of setup (schedule ++ event ∷ []) ≡ with_dual_pair_event (machines_in setup) (dual_course_of setup schedule) event
unfolding dual_course_of
dual_course_of-more setup schedule event =
    fold-append (with_dual_pair_event (machines_in setup)) (dual_pair_start (machines_in setup)) schedule (event ∷ [])

-- no event
pub dual_course_of-none : (setup : DualSetup) → dual_course_of setup [] ≡ dual_pair_start (machines_in setup)
unfolding dual_course_of
dual_course_of-none setup = refl

-- what holds at the start, and what an event leaves of the relay and of machines, holds after every schedule
module _ (setup : DualSetup) (Fact : Course → Type 0)
    (relay : (by : Option Upward) (event : Event) (course : Course) → Fact course → Fact (with_relay_event (machines_in setup) by event course))
    (members : (event : GatewayEvent) (reaches : Member → Bool) (course : Course) → Fact course → Fact (with_member_event event reaches course)) where
  abbrev pair : PairSetup
  pair = machines_in setup

  kept-up : (found : Option Upward) (course : Course) → Fact course → Fact (up_delivered pair found course)
  kept-up None course fact = fact
  kept-up (Some upward) course fact = relay (Some upward) (delivery_up upward) course fact

  kept-down : (found : Option OneSend) (course : Course) → Fact course → Fact (down_taken pair found course)
  kept-down None course fact = fact
  kept-down (Some send) course fact = members (delivery_down pair send) (takes_delivery pair course.members send) course fact

  kept-event : (event : DualPairEvent) (course : Course) → Fact course → Fact (with_dual_pair_event pair course event)
  kept-event (Moment at) course fact = members (Passes at) (λ member. true) _ (relay None (MomentAt at) course fact)
  kept-event (Rotate secret) course fact = relay None (SecretAt secret) course fact
  kept-event (Packet bytes) course fact = relay None (PacketAt bytes) course fact
  kept-event (Socket name v6 event) course fact = members event (is_called name v6) course fact
  kept-event (Up number) course fact = kept-up (numbered course.up number) course fact
  kept-event (Down number) course fact = kept-down (numbered course.down number) course fact

  kept-along : (schedule : List DualPairEvent) (course : Course) → Fact course → Fact (fold (with_dual_pair_event pair) course schedule)
  kept-along [] course fact = fact
  kept-along (event ∷ later) course fact = kept-along later (with_dual_pair_event pair course event) (kept-event event course fact)

  pub kept-after : Fact (dual_pair_start pair) → (schedule : List DualPairEvent) → Fact (dual_course_of setup schedule)
  unfolding dual_course_of
  kept-after fact schedule = kept-along schedule (dual_pair_start pair) fact

reached_machines : (event : GatewayEvent) (reaches : Member → Bool) (members : List Member) → map host_at (map (if_reached event reaches) members) ≡ map host_at members
reached_machines event reaches [] = refl
reached_machines event reaches (member ∷ members) =
    let first = reached-kept (λ one. host_at one ≡ host_at member) event (reaches member) member (λ same. same) refl in
    let rest = reached_machines event reaches members in
    cc

pub start_machines : (hosts : List Host) → map host_at (map at_first hosts) ≡ hosts
start_machines [] = refl
start_machines (host ∷ hosts) = ap (λ (rest : List Host). host ∷ rest) (start_machines hosts)

-- the machines of a course are those of its setup
pub course_machines : (setup : DualSetup) (schedule : List DualPairEvent) → map host_at (dual_course_of setup schedule).members ≡ (machines_in setup).hosts
course_machines setup schedule =
    kept-after setup (λ course. map host_at course.members ≡ (machines_in setup).hosts) (λ by event course same. same)
    (λ event reaches course same. reached_machines event reaches course.members ∙ same) (start_machines (machines_in setup).hosts) schedule

-- and so are those of the pair
pub pair_machines : (pair : DualPair) (setup : DualSetup) (schedule : List DualPairEvent) → StandsFor pair (machines_in setup) (dual_course_of setup schedule)
    → machines pair ≡ (machines_in setup).hosts
pair_machines pair setup schedule stands =
    hosts_are pair.gateways (dual_course_of setup schedule).members stands.gateways ∙ course_machines setup schedule

-- a pair after one more event of its schedule
pub dual_pair_at_more : (before after : DualPair) (setup : DualSetup) (schedule : List DualPairEvent) (event : DualPairEvent) → DualPairAt before setup schedule
    → DualMayCome (machines before) event → DualFitsItsType event
    → StandsFor after (machines_in setup) (with_dual_pair_event (machines_in setup) (dual_course_of setup schedule) event) → DualPairAt after setup (schedule ++ event ∷ [])
dual_pair_at_more before after setup schedule event at may fits stands = record {
  setup_lawful = at.setup_lawful;
  events_may_come =
      All-push (IsDualPairEvent (machines_in setup).hosts) schedule event at.events_may_come
      (record { may_come = subst (λ (hosts : List Host). DualMayCome hosts event) (pair_machines before setup schedule at.stands) may; fits = fits });
  stands = subst (λ (course : Course). StandsFor after (machines_in setup) course) (sym (dual_course_of-more setup schedule event)) stands;
}

changes_of-with_entry : (entries : List Entry) (by : Option Upward) (found : Option Change) → changes_of (with_entry entries by found) ≡ with_change (changes_of entries) found
changes_of-with_entry entries by None = refl
changes_of-with_entry entries by (Some change) = map-append (λ (entry : Entry). entry.change) entries (record { by = by; change = change } ∷ [])

logged-start : (setup : PairSetup) → [] ≡ accepted_log setup.settings setup.secret []
unfolding accepted_back
logged-start setup = refl

-- the entries are those of the accepted log, after every schedule
pub dual-logged-after : (setup : DualSetup) (schedule : List DualPairEvent)
    → changes_of (dual_course_of setup schedule).entries ≡ accepted_log setup.settings setup.secret (dual_course_of setup schedule).relay
dual-logged-after setup schedule =
    kept-after setup (λ course. changes_of course.entries ≡ accepted_log setup.settings setup.secret course.relay)
    (λ by event course logged.
    changes_of-with_entry course.entries by (entry_of setup.settings setup.secret course.relay event)
    ∙ ap (λ (log : List Change). with_change log (entry_of setup.settings setup.secret course.relay event)) logged
    ∙ sym (accepted-push setup.settings setup.secret course.relay event))
    (λ event reaches course logged. logged) (logged-start (machines_in setup)) schedule
