-- What a schedule shows of one machine of a dual gateway, of its family's part of the log, is in order.
use Rattle.{std.proofs.{Common.{◌≡◌, ℕ, ◌+◌, ◌≤◌, Bool, true, List, [], ◌∷◌, ◌++◌, All, Contains, Option, Some, None, refl, sym, ap, subst, ◌∙◌, append_assoc, append-nil}, lemmas.{Bool.{and_parts}, List.Elements.{All-contains, All-head, All-nil, All-tail, Contains-get_or}}}, amt_values.specs.{Endpoint.{endpoint_of}, EndpointValue.{EndpointValue}}, gateway_machine.specs.{Events.{IsEventOf}, declared.event.GatewayEvent.{GatewayEvent}}, relay_machine.specs.{Accepted.{accepted_log}, Events.{now_of}, Settings.{membership_interval_ms}, declared.sends.OneSend.{OneSend}}, amt_pair.specs.{Schedule.{Course, Member, Upward, has_name, numbered}, Setup.{Host, IsHost, PairSetup}}, amt_pair.proofs.{CourseSteps.{stands-call, stands-down, stands-moment, stands-packet, stands-secret, stands-up}, Courses.{changes_of, now_of-nil}, Follows.{Stands, member_of}, GatewaySteps.{run-start}, Listed.{contains-host, numbered-among}, RelaySteps.{none-down}, Sights.{Sight}, Upwards.{IsHosted, IsUpward}}, amt_dual.specs.{Agreement.{IsMachineInTime, is_of_machine}, Answers.{is_machine}, Schedule.{IsDualPairEvent, MayTake, down_taken, dual_course_of, is_called, takes_delivery, with_dual_pair_event}, Setup.{DualSetup, IsLawfulDualSetup, first_of, machines_in}, declared.event.DualPairEvent.{DualPairEvent, TheVariants.{Down, Moment, Packet, Rotate, Socket, Up}}}, amt_dual.proofs.{DualCourses.{course_machines, dual-logged-after, dual_course_of-more, dual_course_of-none}, MachineSights.{sight-at, sight_of}, Machines.{alone-first, event-of, machine-own, machines-apart, machines-lawful}, TwinPlaces.{machine-is}}}

-- each machine of a course is one of the setup
pub listed : (setup : DualSetup) (schedule : List DualPairEvent) (machine : Member) → Contains (dual_course_of setup schedule).members machine
    → Contains (machines_in setup).hosts machine.host
listed setup schedule machine among =
    subst (λ (hosts : List Host). Contains hosts machine.host) (course_machines setup schedule)
    (contains-host (dual_course_of setup schedule).members machine among)

-- a socket call that may come to a machine may happen to the one that is called so
may-call : (machines : List Host) (machine : Host) (name : List ℕ) (v6 : Bool) (event : GatewayEvent) → v6 ≡ machine.settings.v6 → MayTake machines name v6 event
    → IsEventOf machine.settings event
may-call machines machine name v6 event family (other, among, named, own, may) = event-of other.settings machine.settings event (own ∙ family) may

module _ (setup : DualSetup) (lawful : IsLawfulDualSetup setup) (machine : Host) (among : Contains (machines_in setup).hosts machine) (endpoint : EndpointValue) (own : endpoint_of machine.peer ≡ Some endpoint) where
  abbrev pair : PairSetup
  pair = machines_in setup

  abbrev sight : Sight
  sight = sight_of machine

  abbrev first : ℕ
  first = first_of machine

  host_is : IsHost setup.settings machine
  host_is = All-contains (IsHost setup.settings) pair.hosts machine (machines-lawful setup.settings setup.hosts lawful.hosts) among

  module _ (InTime : Type 0) (course : Course) (hosts : All (IsHosted setup.settings) course.members)
      (logged : changes_of course.entries ≡ accepted_log setup.settings setup.secret course.relay) (stands : Stands sight pair machine first endpoint InTime (now_of course.relay) course) where
    -- what holds after a course
    abbrev StandsAt : Course → Type 0
    StandsAt later = Stands sight pair machine first endpoint InTime (now_of later.relay) later

    stands-delivered : (found : Option OneSend) → ((send : OneSend) → found ≡ Some send → Contains course.down send) → StandsAt (down_taken pair found course)
    stands-delivered None sent = stands
    stands-delivered (Some send) sent =
        stands-down sight pair lawful.settings lawful.queries machine first host_is endpoint own (sight-at machine endpoint) InTime course hosts logged stands send
        (takes_delivery pair course.members send) (sent send refl)

    stands-called : (name : List ℕ) (v6 : Bool) (event : GatewayEvent) → IsDualPairEvent pair.hosts (Socket name v6 event) → StandsAt (with_dual_pair_event pair course (Socket name v6 event))
    stands-called name v6 event may =
        let call = may.may_come in
        stands-call sight pair lawful.settings lawful.queries machine first host_is endpoint own (sight-at machine endpoint) InTime course hosts logged stands event (is_called name v6) call.0
        (λ reached.
        let family = (and_parts (has_name name (member_of machine first stands.events)) (is_machine v6 machine.settings.v6) reached).1 in
        record { is = may.fits; may_come = may-call pair.hosts machine name v6 event (machine-is v6 machine.settings.v6 family) call.1 })

    -- each event of a schedule
    stands-event : (event : DualPairEvent) → IsDualPairEvent pair.hosts event
        → ((number : ℕ) (upward : Upward) → event ≡ Up number → numbered course.up number ≡ Some upward → is_of_machine machine upward ≡ true → InTime
        → now_of course.relay ≤ upward.sent.exchange.moment + 60000)
        → StandsAt (with_dual_pair_event pair course event)
    stands-event (Moment at) may timely =
        stands-moment sight pair lawful.settings lawful.queries machine first host_is endpoint own (sight-at machine endpoint) InTime course hosts logged stands at
    stands-event (Rotate secret) may timely =
        stands-secret sight pair lawful.settings lawful.queries machine first host_is endpoint own (sight-at machine endpoint) InTime course hosts logged stands secret
    stands-event (Packet bytes) may timely =
        stands-packet sight pair lawful.settings lawful.queries machine first host_is endpoint own (sight-at machine endpoint) InTime course hosts logged stands bytes
    stands-event (Socket name v6 event) may timely = stands-called name v6 event may
    stands-event (Up number) may timely =
        stands-up sight pair lawful.settings lawful.queries machine first host_is endpoint own (sight-at machine endpoint) InTime course hosts logged stands
        (numbered course.up number) (λ upward is. numbered-among course.up number upward is) (λ upward is from. timely number upward refl is from)
    stands-event (Down number) may timely = stands-delivered (numbered course.down number) (λ send is. numbered-among course.down number send is)

  module _ (schedule : List DualPairEvent) where
    abbrev StandsOf : Course → Type 0
    StandsOf course = Stands sight pair machine first endpoint (IsMachineInTime setup schedule machine) (now_of course.relay) course

    stands-start : StandsOf (dual_course_of setup [])
    stands-start =
        rw (dual_course_of-none setup, now_of-nil) (record {
          up = All-nil IsUpward;
          down = none-down setup.settings;
          events = [];
          alone = alone-first pair.hosts machine (machines-apart setup.settings setup.hosts lawful.apart.peers) among;
          own = machine-own machine;
          run = run-start (Unit {0}) (membership_interval_ms setup.settings) machine.settings first;
          made = tt;
        })

    hosted : (before : List DualPairEvent) → All (IsHosted setup.settings) (dual_course_of setup before).members
    hosted before k default below =
        All-contains (IsHost setup.settings) pair.hosts _ (machines-lawful setup.settings setup.hosts lawful.hosts)
        (listed setup before _ (Contains-get_or (dual_course_of setup before).members k default below))

    stands-along : (before later : List DualPairEvent) → schedule ≡ before ++ later → All (IsDualPairEvent pair.hosts) later → StandsOf (dual_course_of setup before)
        → StandsOf (dual_course_of setup schedule)
    stands-along before [] whole may stands = subst (λ (all : List DualPairEvent). StandsOf (dual_course_of setup all)) (sym (whole ∙ append-nil before)) stands
    stands-along before (event ∷ later) whole may stands =
        stands-along (before ++ event ∷ []) later (whole ∙ sym (append_assoc before (event ∷ []) later)) (All-tail (IsDualPairEvent pair.hosts) event later may)
        (subst StandsOf (sym (dual_course_of-more setup before event))
        (stands-event (IsMachineInTime setup schedule machine) (dual_course_of setup before) (hosted before) (dual-logged-after setup before) stands event
        (All-head (IsDualPairEvent pair.hosts) event later may)
        (λ number upward is found from in_time.
        in_time before later number upward (whole ∙ ap (λ (one : DualPairEvent). before ++ one ∷ later) is) found from)))

    -- after each schedule of events that may come
    pub stands-after : All (IsDualPairEvent pair.hosts) schedule → StandsOf (dual_course_of setup schedule)
    stands-after may = stands-along [] schedule refl may stands-start
