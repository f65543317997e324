-- The parts of a gateway's machines are the steps of a dual gateway by itself, and they take what that one takes.
use Rattle.{std.{proofs.{Common.{◌≡◌, ℕ, suc, ◌+◌, ◌<◌, ◌&&◌, Bool, true, false, List, [], ◌∷◌, ◌++◌, map, length, get_or, filter, All, Option, Some, None, if◌then◌else◌, refl, sym, ap, ◌∙◌, subst, arith, inl, inr}, lemmas.{Bool.{and_from, cases_Bool, not_from_false}, List.{get_or_default, get_or-map, Elements.{All-map}}}}, specs.{Cmp.{nat_eq_equiv, Lexicographic.{lists_equiv}}, List.{list_any}}}, amt_values.specs.{Endpoint.{endpoint_of}, declared.peer.Peer.{Peer}}, socket_merge.specs.History.{same_name}, gateway_machine.specs.{Runs.{answer_in, run_of}, declared.{event.GatewayEvent.{GatewayEvent, TheVariants.{Moment as Passes}}, step.GatewayStep.{GatewayStep}}}, relay_machine.specs.declared.sends.OneSend.{OneSend}}
use Rattle.amt_pair.{specs.{Members.{host_of}, OwnEndpoints.{HasOwnEndpoint}, Parts.{gateway_step}, Schedule.{Course, Member, Upward, answer_at, delivery_down, is_endpoint, numbered, up_delivered, with_gateway_event}, Setup.{PairSetup, first_nonce}}, proofs.{Alone.{alone, filter_every}, Courses.{if_reached, reached-kept}, MembersAt.{host_at, hosts_are}}}
use Rattle.amt_dual.{specs.{declared.{event.{DualEvent.{DualEvent, TheVariants.{Moment as OneMoment, Socket as OneCall}}, DualPairEvent.{DualPairEvent, TheVariants.{Down, Moment, Packet, Rotate, Socket, Up}}}, pair.DualPair.{DualPair}, step.DualPart.{DualPart}}, Answers.{answer_by, comes_to, dual_start, events_by, is_ignored, is_machine, machine_event, nonce_for, takes}, Parts.{down_parts, dual_parts_of, machine_parts, or_absent, up_parts}, Schedule.{arrival, at_first, down_taken, dual_course_of, ignores, is_called, takes_delivery, with_dual_pair_event}, Setup.{DualSetup, first_of, machines_in}, State.{DualPairAt}, Twins.{AreMachinesApart}}, proofs.{DualCourses.{dual_course_of-more, dual_course_of-none, kept-after}, MachineDeliveries.{left-since, not_left-since}, TwinPlaces.{AreMachinesAt, once_called, twin-first, twin-names, twin-peers, twin-second}}}
use Rattle.amt_dual_script.specs.AsDuals.{AreMachinesOfOne, course_of_both, delivery_for, event_for, listed, settings_of_both, step_by_itself, steps_in, taken_by_itself}

-- each machine of a course began with the first nonce of its family
abbrev HasBegun : Member → Type 0
HasBegun member = member.first ≡ first_of member.host

course_begun : (setup : DualSetup) (schedule : List DualPairEvent) → All HasBegun (dual_course_of setup schedule).members
course_begun setup schedule =
    kept-after setup (λ course. All HasBegun course.members) (λ by event course begun. begun)
    (λ event reaches course begun. All-map HasBegun (if_reached event reaches) course.members (λ k d below. reached-kept HasBegun event (reaches _) _ (λ same. same) (begun k d below)))
    (All-map HasBegun at_first (machines_in setup).hosts (λ k d below. refl)) schedule

module _ (name : List ℕ) (v6 : Bool) (event : GatewayEvent) (reaches : Member → Bool) where
  abbrev step_at : Member → GatewayStep
  step_at member = gateway_step (answer_at member event)

  -- the steps of a machine among those of others
  steps-filtered : (members : List Member) → steps_in name v6 (machine_parts event (filter reaches members)) ≡ map step_at (filter reaches (filter (is_called name v6) members))
  steps-filtered [] = refl
  steps-filtered (member ∷ members) =
      let rest = steps-filtered members in
      elim (cases_Bool (reaches member)) [
        | inl it ↦ let yes : reaches member ≡ true = it in elim (cases_Bool (is_called name v6 member)) [
          | inl this ↦ let is : is_called name v6 member ≡ true = this in rw yes (rw is (rw yes (ap (λ (steps : List GatewayStep). step_at member ∷ steps) rest)))
          | inr this ↦ let is : is_called name v6 member ≡ false = this in rw yes (rw is rest)
        ]
        | inr it ↦ let no : reaches member ≡ false = it in elim (cases_Bool (is_called name v6 member)) [
          | inl this ↦ let is : is_called name v6 member ≡ true = this in rw no (rw is (rw no rest))
          | inr this ↦ let is : is_called name v6 member ≡ false = this in rw no (rw is rest)
        ]
      ]

  -- where the machine alone has this name and family
  steps-alone : (members : List Member) (member : Member) → filter (is_called name v6) members ≡ member ∷ []
      → steps_in name v6 (machine_parts event (filter reaches members)) ≡ (if reaches member then step_at member ∷ [] else [])
  steps-alone members member only = steps-filtered members ∙ (ap (λ (these : List Member). map step_at (filter reaches these)) only ∙ elim (cases_Bool (reaches member)) [
    | inl it ↦ let yes : reaches member ≡ true = it in rw yes refl
    | inr it ↦ let no : reaches member ≡ false = it in rw no refl
  ])

steps-or_absent : (name : List ℕ) (v6 : Bool) (number : ℕ) (parts : List DualPart) → steps_in name v6 (or_absent number parts) ≡ steps_in name v6 parts
steps-or_absent name v6 number [] = refl
steps-or_absent name v6 number (part ∷ parts) = refl

-- what is made of one of two by a test
if_within : {X Y : Type 0} (made : X → Y) (test : Bool) (one other : X) → made (if test then one else other) ≡ (if test then made one else made other)
if_within made true one other = refl
if_within made false one other = refl

abbrev with_events : Member → List GatewayEvent → Member
with_events member events = record { host = member.host; first = member.first; events = events }

-- a machine of a gateway, with what a dual gateway by itself took
abbrev machine_after : (v4 v6 : Member) → Bool → Member → Option DualEvent → Member
machine_after v4 v6 family member event = with_events member (events_by (taken_by_itself (settings_of_both v4 v6) (course_of_both v4 v6) event) family)

-- the machine's parts of an event, and where that leaves the machine, are those of a dual gateway by itself
abbrev AreByItself : (v4 v6 : Member) (family : Bool) (member : Member) (place : ℕ) → List DualPart → List Member → Option DualEvent → Type 0
AreByItself v4 v6 family member place parts members event =
    (steps_in v4.host.name family parts ≡ step_by_itself (settings_of_both v4 v6) (course_of_both v4 v6) family event)
    × ((d : Member) → get_or members place d ≡ machine_after v4 v6 family member event)

-- what is made by two tests, as that of an event where the first one holds
by_both : {X : Type 0} (one other : Bool) (taken left : X) (made : Option DualEvent → X) (event : DualEvent) → made None ≡ left
    → made (Some event) ≡ (if other then taken else left) → (if one && other then taken else left) ≡ made (if one then Some event else None)
by_both true other taken left made event none some = sym some
by_both false other taken left made event none some = sym none

-- one machine of a gateway of a pair
module _ (setup : PairSetup) (course : Course) (v4 v6 : Member) (family : Bool) (member : Member) (place : ℕ) (within : place < length course.members)
    (here : get_or course.members place member ≡ member) (only : filter (is_called v4.host.name family) course.members ≡ member ∷ []) (kind : member.host.settings.v6 ≡ family)
    (name : member.host.name ≡ v4.host.name) (peer : member.host.peer ≡ v4.host.peer) (as_it_was : machine_after v4 v6 family member None ≡ member)
    (taken : (event : DualEvent) → machine_after v4 v6 family member (Some event)
    ≡ (if takes (settings_of_both v4 v6) (course_of_both v4 v6) event family then with_gateway_event (machine_event event) member else member))
    (step : (event : DualEvent) → gateway_step (answer_by (settings_of_both v4 v6) (course_of_both v4 v6) event family) ≡ gateway_step (answer_at member (machine_event event)))
    (left : (send : OneSend) → is_endpoint send.to (endpoint_of v4.host.peer) ≡ true
    → list_any (ignores send.to (delivery_down setup send)) course.members ≡ is_ignored (answer_at v4 (delivery_down setup send)).outcome) where
  stays : (d : Member) → get_or course.members place d ≡ machine_after v4 v6 family member None
  stays d = get_or_default course.members place d member within ∙ here ∙ sym as_it_was

  abbrev comes : DualEvent → Bool
  comes event = takes (settings_of_both v4 v6) (course_of_both v4 v6) event family

  -- an event that reaches the machine where it is something to the gateway, and comes to the machine
  reached : (event : DualEvent) (something : Bool) (reaches : Member → Bool) → reaches member ≡ (something && comes event)
      → AreByItself v4 v6 family member place (machine_parts (machine_event event) (filter reaches course.members))
      (map (if_reached (machine_event event) reaches) course.members) (if something then Some event else None)
  reached event something reaches test =
      let own : GatewayStep = gateway_step (answer_at member (machine_event event)) in
      let more : Member = with_gateway_event (machine_event event) member in (
        steps-alone v4.host.name family (machine_event event) reaches course.members member only
            ∙ ap (λ (test : Bool). if test then own ∷ [] else []) test
            ∙ by_both something (comes event) (own ∷ []) [] (step_by_itself (settings_of_both v4 v6) (course_of_both v4 v6) family) event refl
            (if_within listed (comes event) (Some (gateway_step (answer_by (settings_of_both v4 v6) (course_of_both v4 v6) event family))) None
            ∙ ap (λ (one : GatewayStep). if comes event then one ∷ [] else []) (step event)),
        λ d.
            get_or-map (if_reached (machine_event event) reaches) course.members place member d within
            ∙ ap (if_reached (machine_event event) reaches) here
            ∙ ap (λ (test : Bool). if test then more else member) test
            ∙ by_both something (comes event) more member (machine_after v4 v6 family member) event as_it_was (taken event),
      )

  called : (name' : List ℕ) (named : Bool) → is_called name' named member ≡ (same_name name' v4.host.name && is_machine named family)
  called name' named = λ i. same_name name' (name i) && is_machine named (kind i)

  delivered : (send : OneSend) → takes_delivery setup course.members send member ≡ (is_endpoint send.to (endpoint_of v4.host.peer) && comes (arrival setup send))
  delivered send =
      let there : Bool = is_endpoint send.to (endpoint_of v4.host.peer) in
      let by_list : Bool = comes_to (list_any (ignores send.to (delivery_down setup send)) course.members) (arrival setup send) family in
      (λ i. is_endpoint send.to (endpoint_of (peer i)) && comes_to (list_any (ignores send.to (delivery_down setup send)) course.members) (arrival setup send) (kind i))
      ∙ elim (cases_Bool there) [
        | inl it ↦ ap (λ (ignored : Bool). there && comes_to ignored (arrival setup send) family) (left send it)
        | inr it ↦ let is : there ≡ false = it in ap (λ (test : Bool). test && by_list) is ∙ sym (ap (λ (test : Bool). test && comes (arrival setup send)) is)
      ]

  up-as_one : (number : ℕ) (found : Option Upward) → AreByItself v4 v6 family member place (or_absent number (up_parts setup course found)) (up_delivered setup found course).members None
  up-as_one number None = (refl, stays)
  up-as_one number (Some upward) = (refl, stays)

  down-as_one : (number : ℕ) (found : Option OneSend)
      → AreByItself v4 v6 family member place (or_absent number (down_parts setup course found)) (down_taken setup found course).members (delivery_for setup v4.host found)
  down-as_one number None = (refl, stays)
  down-as_one number (Some send) =
      let here = reached (arrival setup send) (is_endpoint send.to (endpoint_of v4.host.peer)) (takes_delivery setup course.members send) (delivered send) in
      (steps-or_absent v4.host.name family number (down_parts setup course (Some send)) ∙ here.0, here.1)

  pub as_by_itself : (event : DualPairEvent) → AreByItself v4 v6 family member place (dual_parts_of setup course event)
      (with_dual_pair_event setup course event).members (event_for setup course v4.host event)
  as_by_itself (Moment at) =
      let here = reached (OneMoment at) true (λ one. true) refl in
      let all = sym (filter_every (λ (one : Member). true) course.members (λ k d below. refl)) in
      (ap (λ (members : List Member). steps_in v4.host.name family (machine_parts (Passes at) members)) all ∙ here.0, here.1)
  as_by_itself (Rotate secret) = (refl, stays)
  as_by_itself (Packet bytes) = (refl, stays)
  as_by_itself (Socket name' named event) = reached (OneCall named event) (same_name name' v4.host.name) (is_called name' named) (called name' named)
  as_by_itself (Up number) = up-as_one number (numbered course.up number)
  as_by_itself (Down number) = down-as_one number (numbered course.down number)

-- both machines, after a schedule
module _ (pair : DualPair) (setup : DualSetup) (schedule : List DualPairEvent) (place : ℕ) (v4 v6 : Member) (at : DualPairAt pair setup schedule)
    (both : AreMachinesOfOne (dual_course_of setup schedule).members place v4 v6) where
  abbrev course : Course
  course = dual_course_of setup schedule

  same_hosts : map host_of pair.gateways ≡ map host_at course.members
  same_hosts = hosts_are pair.gateways course.members at.stands.gateways

  first : v4.host.settings.v6 ≡ false
  first = twin-first v4.host v6.host both.twins

  second : v6.host.settings.v6 ≡ true
  second = twin-second v4.host v6.host both.twins

  apart : AreMachinesApart (map host_at course.members)
  apart = subst AreMachinesApart same_hosts pair.apart

  next : get_or course.members (suc place) v6 ≡ v6
  next = (let one_more : suc place ≡ place + 1 = omega arith in ap (λ (k : ℕ). get_or course.members k v6) one_more) ∙ both.next

  peers : v6.host.peer ≡ v4.host.peer
  peers = sym (twin-peers v4.host v6.host both.twins)

  left : (send : OneSend) → is_endpoint send.to (endpoint_of v4.host.peer) ≡ true
      → list_any (ignores send.to (delivery_down (machines_in setup) send)) course.members ≡ is_ignored (answer_at v4 (delivery_down (machines_in setup) send)).outcome
  left send there =
      let second = ap (λ (peer : Peer). is_endpoint send.to (endpoint_of peer)) peers ∙ there in
      let where_is : AreMachinesAt (λ host. is_endpoint send.to (endpoint_of host.peer)) course.members place =
      record { v4 = v4; v6 = v6; here = both.here; next = next; within = omega (arith, both.within); twins = both.twins; first = there; second = second } in
      let own = subst (All (λ host. HasOwnEndpoint host.peer)) same_hosts pair.own_endpoints in
      elim (cases_Bool (is_ignored (answer_at v4 (delivery_down (machines_in setup) send)).outcome)) [
        | inl ignored ↦ left-since (machines_in setup) course send place where_is apart own ignored ∙ sym ignored
        | inr taken ↦ not_left-since (machines_in setup) course send place where_is apart own taken ∙ sym taken
      ]

  only : (family : Bool) (k : ℕ) (member : Member) → k < length course.members → get_or course.members k member ≡ member → member.host.name ≡ v4.host.name
      → is_machine family member.host.settings.v6 ≡ true → filter (is_called v4.host.name family) course.members ≡ member ∷ []
  only family k member below here name kind =
      let itself : same_name v4.host.name member.host.name ≡ true = ap (same_name v4.host.name) name ∙ (lists_equiv nat_eq_equiv).refl v4.host.name in
      let called : is_called v4.host.name family member ≡ true = and_from _ (is_machine family member.host.settings.v6) itself kind in
      (alone (is_called v4.host.name family) course.members k member (once_called course.members apart v4.host.name family) below here called).kept

  nonces : nonce_for v4.first true ≡ v6.first
  nonces =
      let begun = course_begun setup schedule in
      let one : v4.first ≡ first_of v4.host = subst HasBegun both.here (begun place v4 (omega (arith, both.within))) in
      let other : v6.first ≡ first_of v6.host = subst HasBegun next (begun (suc place) v6 (omega (arith, both.within))) in
      ap (λ (nonce : ℕ). nonce_for nonce true) (one ∙ ap (nonce_for first_nonce) first) ∙ sym (other ∙ ap (nonce_for first_nonce) second)

  pub as_one : (event : DualPairEvent) (family : Bool) → AreByItself v4 v6 family (if family then v6 else v4) (if family then place + 1 else place)
      (dual_parts_of (machines_in setup) course event) (with_dual_pair_event (machines_in setup) course event).members (event_for (machines_in setup) course v4.host event)
  as_one event false =
      let within : place < length course.members = omega (arith, both.within) in
      as_by_itself (machines_in setup) course v4 v6 false v4 place within both.here (only false place v4 within both.here refl (not_from_false v4.host.settings.v6 first)) first refl refl refl
      (λ one. if_within (with_events v4) (takes (settings_of_both v4 v6) (course_of_both v4 v6) one false) (v4.events ++ machine_event one ∷ []) v4.events) (λ one. refl) left event
  as_one event true =
      let name : v6.host.name ≡ v4.host.name = sym (twin-names v4.host v6.host both.twins) in
      as_by_itself (machines_in setup) course v4 v6 true v6 (place + 1) both.within both.next (only true (place + 1) v6 both.within both.next name second) second name peers refl
      (λ one. if_within (with_events v6) (takes (settings_of_both v4 v6) (course_of_both v4 v6) one true) (v6.events ++ machine_event one ∷ []) v6.events)
      (λ one. ap (λ (nonce : ℕ). gateway_step (answer_in v6.host.settings (run_of v6.host.settings nonce v6.events) (machine_event one))) nonces) left event

  pub next_as_one : (event : DualPairEvent) (next4 next6 : Member) → AreMachinesOfOne (dual_course_of setup (schedule ++ event ∷ [])).members place next4 next6
      → (course_of_both next4 next6 ≡ taken_by_itself (settings_of_both v4 v6) (course_of_both v4 v6) (event_for (machines_in setup) course v4.host event))
      × (settings_of_both next4 next6 ≡ settings_of_both v4 v6)
  next_as_one event next4 next6 later =
      let after : Course = with_dual_pair_event (machines_in setup) course event in
      let more : dual_course_of setup (schedule ++ event ∷ []) ≡ after = dual_course_of-more setup schedule event in
      let one = sym later.here ∙ ap (λ (course : Course). get_or course.members place next4) more ∙ (as_one event false).1 next4 in
      let other = sym later.next ∙ ap (λ (course : Course). get_or course.members (place + 1) next6) more ∙ (as_one event true).1 next6 in
      (λ i. record { v4 = (one i).events; v6 = (other i).events }, λ i. record { v4 = (one i).host.settings; v6 = (other i).host.settings; nonce = (one i).first })

-- before any event
abbrev HasNothing : Member → Type 0
HasNothing member = member.events ≡ []

pub first_as_one : (setup : DualSetup) (place : ℕ) (v4 v6 : Member) → AreMachinesOfOne (dual_course_of setup []).members place v4 v6 → course_of_both v4 v6 ≡ dual_start
first_as_one setup place v4 v6 both =
    let none = subst (λ (course : Course). All HasNothing course.members) (sym (dual_course_of-none setup)) (All-map HasNothing at_first (machines_in setup).hosts (λ k d below. refl)) in
    let one = subst HasNothing both.here (none place v4 (omega (arith, both.within))) in
    let other = subst HasNothing both.next (none (place + 1) v6 both.within) in
    λ i. record { v4 = one i; v6 = other i }
