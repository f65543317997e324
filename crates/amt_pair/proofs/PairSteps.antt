-- What a schedule of a pair shows of a gateway, which is alone at its peer, is in order.
use Rattle.std.proofs.{Common.{◌≡◌, ℕ, ◌+◌, ◌≤◌, List, [], ◌∷◌, ◌++◌, filter, map, All, Contains, Option, Some, None, refl, sym, ap, subst, ◌∙◌, append_assoc, append-nil, arith}, lemmas.List.{get_or-map, length-map, Elements.{All-contains, All-head, All-nil, All-tail, Contains-get_or}}}
use Rattle.amt_values.specs.{Endpoint.{endpoint_of}, EndpointValue.{EndpointValue}}
use Rattle.socket_merge.proofs.Amounts.{same_name-exact}
use Rattle.relay_machine.specs.{Accepted.{accepted_log}, Events.{now_of}, Settings.{membership_interval_ms}, declared.sends.OneSend.{OneSend}}
use Rattle.amt_pair.specs.{Agreement.{IsInTime}, Events.{MayHappen}, Setup.{AreApart, Host, IsHost, IsLawfulSetup, PairSetup, first_nonce}}
use Rattle.amt_pair.specs.{Schedule.{Course, IsPairEvent, Member, Upward, course_of, down_delivered, has_name, is_at, numbered, start, with_pair_event}, declared.event.PairEvent.{PairEvent, TheVariants.{Down, Moment as MomentForAll, Packet as PacketComes, Rotate as SecretComes, Socket, Up}}}
use Rattle.amt_pair.proofs.{Alone.{alone}, CourseSteps.{stands-call, stands-down, stands-moment, stands-packet, stands-secret, stands-up}, Courses.{changes_of, course_hosts, course_of-more, course_of-none, logged-after, now_of-nil, start_hosts}, Follows.{Stands, member_of}, GatewaySteps.{run-start}, HeardQueries.{same_peer-is, same_peer-itself}}
use Rattle.amt_pair.proofs.{HostsApart.{one-name, once_by_peer}, Listed.{contains-host, numbered-among}, PeerReports.{is_own_member}, RelayEntries.{alone-sight}, RelaySteps.{none-down}, Sights.{Sight, alone_at}, Upwards.{IsHosted, IsUpward}}

-- each gateway of a course is one of the setup
pub listed : (setup : PairSetup) (schedule : List PairEvent) (member : Member) → Contains (course_of setup schedule).members member → Contains setup.hosts member.host
listed setup schedule member among =
    subst (λ (hosts : List Host). Contains hosts member.host) (course_hosts setup schedule) (contains-host (course_of setup schedule).members member among)

module _ (setup : PairSetup) (lawful : IsLawfulSetup setup) (host : Host) (among : Contains setup.hosts host) (endpoint : EndpointValue) (own : endpoint_of host.peer ≡ Some endpoint) where
  host_is : IsHost setup.settings host
  host_is = All-contains (IsHost setup.settings) setup.hosts host lawful.hosts among

  abbrev sight : Sight
  sight = alone_at host.peer

  module _ (InTime : Type 0) (course : Course) (hosts : All (IsHosted setup.settings) course.members)
      (logged : changes_of course.entries ≡ accepted_log setup.settings setup.secret course.relay) (stands : Stands sight setup host first_nonce endpoint InTime (now_of course.relay) course) where
    -- what holds after a course
    abbrev StandsAt : Course → Type 0
    StandsAt later = Stands sight setup host first_nonce endpoint InTime (now_of later.relay) later

    stands-delivered : (found : Option OneSend) → ((send : OneSend) → found ≡ Some send → Contains course.down send) → StandsAt (down_delivered setup found course)
    stands-delivered None sent = stands
    stands-delivered (Some send) sent =
        stands-down sight setup lawful.settings lawful.queries host first_nonce host_is endpoint own (alone-sight host.peer endpoint) InTime course hosts logged stands send (is_at send.to) (sent send refl)

    -- each event of a schedule
    stands-event : (event : PairEvent) → IsPairEvent setup.hosts event
        → ((number : ℕ) (upward : Upward) → event ≡ Up number → numbered course.up number ≡ Some upward → upward.from ≡ host.peer → InTime
        → now_of course.relay ≤ upward.sent.exchange.moment + 60000)
        → StandsAt (with_pair_event setup course event)
    stands-event (MomentForAll at) may timely =
        stands-moment sight setup lawful.settings lawful.queries host first_nonce host_is endpoint own (alone-sight host.peer endpoint) InTime course hosts logged stands at
    stands-event (SecretComes secret) may timely =
        stands-secret sight setup lawful.settings lawful.queries host first_nonce host_is endpoint own (alone-sight host.peer endpoint) InTime course hosts logged stands secret
    stands-event (PacketComes bytes) may timely =
        stands-packet sight setup lawful.settings lawful.queries host first_nonce host_is endpoint own (alone-sight host.peer endpoint) InTime course hosts logged stands bytes
    stands-event (Socket name event) may timely =
        let call = may.may_come in
        stands-call sight setup lawful.settings lawful.queries host first_nonce host_is endpoint own (alone-sight host.peer endpoint) InTime course hosts logged stands event (has_name name) call.0
        (λ reached.
        let one = one-name setup.hosts call.1 host lawful.apart call.2 among (call.3 ∙ same_name-exact name host.name reached) in
        subst (λ (other : Host). MayHappen other.settings event) one (record { is = may.fits; may_come = call.4 }))
    stands-event (Up number) may timely =
        stands-up sight setup lawful.settings lawful.queries host first_nonce host_is endpoint own (alone-sight host.peer endpoint) InTime course hosts logged stands
        (numbered course.up number) (λ upward is. numbered-among course.up number upward is)
        (λ upward is from. timely number upward refl is (sym (same_peer-is host.peer upward.from from)))
    stands-event (Down number) may timely = stands-delivered (numbered course.down number) (λ send is. numbered-among course.down number send is)

  -- ---- schedules

  module _ (schedule : List PairEvent) where
    abbrev StandsAfter : List PairEvent → Type 0
    StandsAfter before = Stands sight setup host first_nonce endpoint (IsInTime setup schedule host.peer) (now_of (course_of setup before).relay) (course_of setup before)

    -- the gateway among those at the start
    alone-start : filter (is_own_member sight) (start setup).members ≡ member_of host first_nonce [] ∷ []
    alone-start =
        let new : Host → Member = λ one. member_of one first_nonce [] in
        (alone (is_own_member sight) (map new setup.hosts) among.0 (member_of host first_nonce []) (once_by_peer (map new setup.hosts) (subst AreApart (sym (start_hosts setup.hosts)) lawful.apart) host.peer)
        (omega (arith, among.1, length-map setup.hosts new)) (get_or-map new setup.hosts among.0 host (member_of host first_nonce []) among.1 ∙ ap new among.2) (same_peer-itself host.peer)).kept

    stands-start : StandsAfter []
    stands-start =
        rw (course_of-none setup, now_of-nil) (record {
          up = All-nil IsUpward;
          down = none-down setup.settings;
          events = [];
          alone = alone-start;
          own = same_peer-itself host.peer;
          run = run-start (Unit {0}) (membership_interval_ms setup.settings) host.settings first_nonce;
          made = tt;
        })

    hosted : (before : List PairEvent) → All (IsHosted setup.settings) (course_of setup before).members
    hosted before k default below =
        All-contains (IsHost setup.settings) setup.hosts _ lawful.hosts (listed setup before _ (Contains-get_or (course_of setup before).members k default below))

    stands-along : (before later : List PairEvent) → schedule ≡ before ++ later → All (IsPairEvent setup.hosts) later → StandsAfter before → StandsAfter schedule
    stands-along before [] whole may stands = subst StandsAfter (sym (whole ∙ append-nil before)) stands
    stands-along before (event ∷ later) whole may stands =
        stands-along (before ++ event ∷ []) later (whole ∙ sym (append_assoc before (event ∷ []) later)) (All-tail (IsPairEvent setup.hosts) event later may)
        (subst (λ (course : Course). Stands sight setup host first_nonce endpoint (IsInTime setup schedule host.peer) (now_of course.relay) course) (sym (course_of-more setup before event))
        (stands-event (IsInTime setup schedule host.peer) (course_of setup before) (hosted before) (logged-after setup before) stands event
        (All-head (IsPairEvent setup.hosts) event later may)
        (λ number upward is found from in_time.
        in_time before later number upward (whole ∙ ap (λ (one : PairEvent). before ++ one ∷ later) is) found from)))

    -- after each schedule of events that may come
    pub stands-after : All (IsPairEvent setup.hosts) schedule → StandsAfter schedule
    stands-after may = stands-along [] schedule refl may stands-start
