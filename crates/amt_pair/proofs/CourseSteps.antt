-- Each event leaves what a course shows of a gateway in order.
use Rattle.std.proofs.{Common.{◌≡◌, ℕ, ◌+◌, ◌≤◌, max, Bool, true, List, All, Contains, Option, Some, None, is_some, refl, sym, ap, subst, ◌∙◌, arith, inl, inr}, lemmas.List.{Elements.{All-contains}, Sorted.{Contains-permutation, IsPermutation-reverse}}}
use Rattle.amt_values.specs.{Endpoint.{endpoint_of}, EndpointValue.{EndpointValue}}
use Rattle.endpoint_membership.specs.{Log.{brought, latest}, declared.change.Change.{Change, TheVariants.{Mark}}}
use Rattle.gateway_machine.specs.{Answers.{call_in}, declared.{event.GatewayEvent.{GatewayEvent, TheVariants.{Moment as Passes, Datagram as Heard}}, settings.GatewaySettings.{GatewaySettings}}}
use Rattle.relay_machine.specs.{Accepted.{accepted_log, entry_of}, Answers.{sends_of}, Events.{moment_in, now_of}, Packets.{head_to_copy, targets_at}, Settings.{AreLawfulSettings, membership_interval_ms, table_settings_of}, declared.{event.Event.{Event, TheVariants.{Moment, Packet, Rotate}}, sends.OneSend.{OneSend}}}
use Rattle.response_mac.specs.declared.secret.Secret.{Secret}
use Rattle.amt_pair.specs.{Events.{MayHappen}, Queries.{HasQuerySources}, Setup.{Host, IsHost, PairSetup, relay_peer}}
use Rattle.amt_pair.specs.{Schedule.{Course, Member, Upward, delivery_down, delivery_up, up_delivered, with_member_event, with_relay_event}, Sent.{SentReport}}
use Rattle.amt_pair.proofs.{Courses.{changes_of, later_by, now_of-push}, DownDatagrams.{IsDown, states-down}, GatewaySteps.{States, moment_passed}}
use Rattle.amt_pair.proofs.Follows.{Stands, latest-made, made_for, member_of, report_by, stands-gateways, stands-relay}
use Rattle.amt_pair.proofs.{Listed.{Contains-filter_map}, PeerReports.{reports_from}, RelayEntries.{IsSightAt, delivery-entry}, RelaySteps.{down-delivery, down-packet, none-down, packet-entry}, Sights.{Sight, report_seen}}
use Rattle.amt_pair.proofs.{TunnelEntries.{IsMade, IsMadeBy, IsPrompt, changes_made, made-other}, TunnelReports.{IsForwarded, IsReport}, Upwards.{IsHosted, IsUpward}}

-- ---- a socket call

states-call : (lifetime : ℕ) (settings : GatewaySettings) (event : GatewayEvent) → is_some (call_in event) ≡ true → States lifetime settings event
states-call lifetime settings (Heard from bytes) some = absurd cc
states-call lifetime settings event some = tt

timeless-call : (event : GatewayEvent) → is_some (call_in event) ≡ true → moment_passed event ≡ None
timeless-call (Passes at) some = absurd cc
timeless-call event some = refl

-- an entry up to a moment is prompt where the moment is
prompt-by : (by : Option SentReport) (now at : ℕ) → at ≤ now → IsPrompt by now → IsPrompt by at
prompt-by None now at early prompt = tt
prompt-by (Some report) now at early prompt = omega arith

-- ---- each event

module _ (sight : Sight) (setup : PairSetup) (lawful : AreLawfulSettings setup.settings) (queries : HasQuerySources setup.settings) (host : Host) (first : ℕ) (host_is : IsHost setup.settings host)
    (endpoint : EndpointValue) (own : endpoint_of host.peer ≡ Some endpoint) (sees : IsSightAt sight host.peer endpoint) where
  -- before the event, and with what is known of deliveries
  module _ (InTime : Type 0) (course : Course) (hosts : All (IsHosted setup.settings) course.members)
      (logged : changes_of course.entries ≡ accepted_log setup.settings setup.secret course.relay) (stands : Stands sight setup host first endpoint InTime (now_of course.relay) course) where
    -- the entry of a change is made by a report of the gateway, or says nothing of its endpoint
    abbrev Enters : Option Upward → Change → Type 0
    Enters by change =
        IsMade InTime endpoint (reports_from sight course.up) (sight.seen change) (report_by sight by) (max (brought (sight.seen change)) (latest (changes_made (made_for sight course.entries))))

    -- an event of the relay that reports no moment
    stands-timeless : (by : Option Upward) (event : Event) → moment_in event ≡ None → All (IsDown setup.settings) (sends_of setup.settings setup.secret course.relay event)
        → ((change : Change) → entry_of setup.settings setup.secret course.relay event ≡ Some change → Enters by change)
        → Stands sight setup host first endpoint InTime (now_of (with_relay_event setup by event course).relay) (with_relay_event setup by event course)
    stands-timeless by event timeless sends entry =
        subst (λ (now : ℕ). Stands sight setup host first endpoint InTime now (with_relay_event setup by event course))
        (sym (now_of-push course.relay event ∙ ap (λ (reported : Option ℕ). later_by reported (now_of course.relay)) timeless))
        (stands-relay sight setup host first endpoint InTime (now_of course.relay) by event course sends entry stands)

    -- an event of gateways that reports none
    stands-members : (event : GatewayEvent) (reaches : Member → Bool) → moment_passed event ≡ None
        → (reaches (member_of host first stands.events) ≡ true → MayHappen host.settings event × States (membership_interval_ms setup.settings) host.settings event)
        → Stands sight setup host first endpoint InTime (now_of course.relay) (with_member_event event reaches course)
    stands-members event reaches timeless may =
        subst (λ (passed : Option ℕ). Stands sight setup host first endpoint InTime (later_by passed (now_of course.relay)) (with_member_event event reaches course)) timeless
        (stands-gateways sight setup host first endpoint InTime (now_of course.relay) event reaches course hosts stands host_is.source may (λ _. timeless))

    -- a socket call
    pub stands-call : (event : GatewayEvent) (reaches : Member → Bool) → is_some (call_in event) ≡ true
        → (reaches (member_of host first stands.events) ≡ true → MayHappen host.settings event)
        → Stands sight setup host first endpoint InTime (now_of course.relay) (with_member_event event reaches course)
    stands-call event reaches some may =
        stands-members event reaches (timeless-call event some) (λ reached. (may reached, states-call (membership_interval_ms setup.settings) host.settings event some))

    pub stands-moment : (at : ℕ) → let moved = with_member_event (Passes at) (λ member. true) (with_relay_event setup None (Moment at) course) in
        Stands sight setup host first endpoint InTime (now_of moved.relay) moved
    stands-moment at =
        let event : Event = Moment at in
        let later = with_relay_event setup None event course in
        let relay = stands-relay sight setup host first endpoint InTime (now_of course.relay) None event course (none-down setup.settings)
        (λ change is.
        let mark : Mark (max (now_of course.relay) at) ≡ change = cc in
        subst (Enters None) mark (record { said = marked (max (now_of course.relay) at); prompt = λ _. tt })) stands in
        subst (λ (now : ℕ). Stands sight setup host first endpoint InTime now (with_member_event (Passes at) (λ member. true) later)) (sym (now_of-push course.relay event))
        (stands-gateways sight setup host first endpoint InTime (now_of course.relay) (Passes at) (λ member. true) later hosts relay host_is.source
        (λ _. (record { is = tt; may_come = tt }, tt)) (λ wrong. absurd cc))
      where
        marked : (now : ℕ) → IsMadeBy endpoint (reports_from sight course.up) (sight.seen (Mark now)) None
        marked now =
            let is : sight.seen (Mark now) ≡ Mark now = elim (sight.stays (Mark now)) [ inl same ↦ same | inr mark ↦ mark ] in
            subst (λ (one : Change). IsMadeBy endpoint (reports_from sight course.up) one None) (sym is) (made-other endpoint (reports_from sight course.up) (Mark now) refl)

    -- a delivery to gateways
    pub stands-down : (send : OneSend) (reaches : Member → Bool) → Contains course.down send
        → Stands sight setup host first endpoint InTime (now_of course.relay) (with_member_event (delivery_down setup send) reaches course)
    stands-down send reaches sent =
        let down = All-contains (IsDown setup.settings) course.down send stands.down sent in
        stands-members (delivery_down setup send) reaches refl
        (λ _. (record { is = tt; may_come = down.short }, states-down setup.settings host.settings send (relay_peer setup.settings) lawful queries down))

    -- a delivery to the relay
    pub stands-up : (found : Option Upward) → ((upward : Upward) → found ≡ Some upward → Contains course.up upward)
        → ((upward : Upward) → found ≡ Some upward → sight.is_from upward ≡ true → InTime → now_of course.relay ≤ upward.sent.exchange.moment + 60000)
        → Stands sight setup host first endpoint InTime (now_of (up_delivered setup found course).relay) (up_delivered setup found course)
    stands-up None sent timely = stands
    stands-up (Some upward) sent timely =
        let is_upward = All-contains IsUpward course.up upward stands.up (sent upward refl) in
        let reports = reports_from sight course.up in
        let lifetime = membership_interval_ms setup.settings in
        let known : (report : SentReport) → report_seen sight upward ≡ Some report → Contains reports report × All IsForwarded report.records =
        λ report is.
        let listed = Contains-permutation _ _ report (IsPermutation-reverse _) (Contains-filter_map (report_seen sight) course.up upward report (sent upward refl) is) in
        (listed, (All-contains (IsReport (Unit {0}) lifetime _ _) reports report stands.run.orderly.settled.reports listed).forwarded) in
        stands-timeless (Some upward) (delivery_up upward) refl (down-delivery setup.settings setup.secret course.relay upward is_upward)
        (λ change is.
        let entry = delivery-entry sight setup.settings setup.secret course.relay host.peer endpoint upward reports change sees host_is.peer own is_upward known is in
        let early = entry.early in
        record {
          said = entry.made;
          prompt = λ in_time. prompt-by (report_seen sight upward) (now_of course.relay) _ (omega (arith, latest-made sight setup course logged))
              (entry.prompt (λ from. timely upward refl from in_time));
        })

    pub stands-secret : (secret : Secret) → let later = with_relay_event setup None (Rotate secret) course in Stands sight setup host first endpoint InTime (now_of later.relay) later
    stands-secret secret = stands-timeless None (Rotate secret) refl (none-down setup.settings) (λ change is. absurd cc)

    pub stands-packet : (bytes : List ℕ) → let later = with_relay_event setup None (Packet bytes) course in Stands sight setup host first endpoint InTime (now_of later.relay) later
    stands-packet bytes =
        let none = packet-entry (targets_at (table_settings_of setup.settings) (accepted_log setup.settings setup.secret course.relay) (now_of course.relay)) bytes
        (head_to_copy setup.settings.packet_limit bytes) in
        stands-timeless None (Packet bytes) refl (down-packet setup.settings setup.secret course.relay bytes lawful)
        (λ change is. let wrong : None ≡ Some change = sym none ∙ is in absurd cc)
