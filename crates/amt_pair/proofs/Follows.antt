-- How a course shows one gateway: as a tunnel between the gateway and the relay, and the entries that its reports made,
-- as the gateway sees them.
use Rattle.std.proofs.{Common.{◌≡◌, ℕ, max, Bool, true, false, cond, if◌then◌else◌, List, [], ◌∷◌, ◌++◌, filter, map, reverse, All, Option, Some, None, refl, sym, ap, subst, ◌∙◌, inl, inr}, lemmas.{Bool.{cases_Bool}, List.{map-append, reverse-append, Elements.{All-append}}}}
use Rattle.amt_values.specs.{EndpointValue.{EndpointValue}}
use Rattle.endpoint_membership.{specs.{Log.{brought, latest}, declared.change.Change.{Change}}, proofs.HoldsAfter.{latest-reverse}}
use Rattle.gateway_machine.specs.{Runs.{Run, run_of}, Settings.{HasSourceOfFamily}, declared.event.GatewayEvent.{GatewayEvent}}
use Rattle.relay_machine.{specs.{Accepted.{accepted_log, entry_of}, Answers.{sends_of}, Events.{now_of}, Settings.{membership_interval_ms}, declared.event.Event.{Event}}, proofs.PublishedLog.{latest-accepted_log}}
use Rattle.amt_pair.specs.{Events.{MayHappen}, Schedule.{Course, Entry, Member, Upward, with_entry, with_gateway_event, with_member_event, with_relay_event}, Sent.{SentReport}, Setup.{Host, PairSetup}}
use Rattle.amt_pair.proofs.{Courses.{changes_of, if_reached, later_by, reached-kept}, DownDatagrams.{IsDown}, GatewaySteps.{IsRun, States, moment_passed, run-next}, PeerReports.{is_own_member, reports_from, reports_from-event}, Sights.{Sight, latest-seen, report_seen}}
use Rattle.amt_pair.proofs.{Tunnel.{Tunnel, reports_on, see}, TunnelEntries.{AreMade, AreMade-sent, IsMade, Made, changes_made}, Upwards.{IsHosted, IsUpward, upwards-after}}

-- ---- a course as the tunnel of a gateway

-- the report that made an entry, if one of the gateway did
abbrev pub report_by : Sight → Option Upward → Option SentReport
report_by sight None = None
report_by sight (Some upward) = report_seen sight upward

abbrev pub made_of : Sight → Entry → Made
made_of sight entry = record { by = report_by sight entry.by; change = sight.seen entry.change }

-- the entries as the tunnel of the gateway has them, newest first
abbrev pub made_for : Sight → List Entry → List Made
made_for sight entries = map (made_of sight) (reverse entries)

made_for-push : (sight : Sight) (entries : List Entry) (entry : Entry) → made_for sight (entries ++ entry ∷ []) ≡ made_of sight entry ∷ made_for sight entries
made_for-push sight entries entry = ap (map (made_of sight)) (reverse-append entries (entry ∷ []))

map-reverse : {A B : Type 0} (f : A → B) (xs : List A) → map f (reverse xs) ≡ reverse (map f xs)
map-reverse f [] = refl
map-reverse f (x ∷ xs) =
    ap (map f) (reverse-append (x ∷ []) xs) ∙ map-append f (reverse xs) (x ∷ []) ∙ ap (λ rest. rest ++ f x ∷ []) (map-reverse f xs)
    ∙ sym (reverse-append (f x ∷ []) (map f xs))

changes_made-seen : (sight : Sight) (entries : List Entry) → changes_made (map (made_of sight) entries) ≡ map sight.seen (changes_of entries)
changes_made-seen sight [] = refl
changes_made-seen sight (entry ∷ entries) = ap (λ (rest : List Change). sight.seen entry.change ∷ rest) (changes_made-seen sight entries)

-- they are the entries of the log, as they are seen
pub changes_made-for : (sight : Sight) (entries : List Entry) → changes_made (made_for sight entries) ≡ map sight.seen (reverse (changes_of entries))
changes_made-for sight entries = changes_made-seen sight (reverse entries) ∙ ap (map sight.seen) (map-reverse (λ (entry : Entry). entry.change) entries)

-- and the latest of them is as late as it is at the relay
pub latest-made : (sight : Sight) (setup : PairSetup) (course : Course) → changes_of course.entries ≡ accepted_log setup.settings setup.secret course.relay
    → latest (changes_made (made_for sight course.entries)) ≡ now_of course.relay
latest-made sight setup course logged =
    ap latest (changes_made-for sight course.entries)
    ∙ latest-seen sight (reverse (changes_of course.entries))
    ∙ latest-reverse (changes_of course.entries)
    ∙ ap latest logged
    ∙ latest-accepted_log setup.settings setup.secret course.relay

-- the gateway after these events
abbrev pub member_of : Host → ℕ → List GatewayEvent → Member
member_of host first events = record { host = host; first = first; events = events }

abbrev pub run_at : Host → ℕ → List GatewayEvent → Run
run_at host first events = run_of host.settings first events

-- the tunnel that a course shows of a gateway after these events
abbrev pub shown : Sight → Host → ℕ → List GatewayEvent → Course → Tunnel
shown sight host first events course = see (run_at host first events).exchange (run_at host first events).history (reports_from sight course.up)

-- what holds of a course, and what it shows of one gateway, that has come to the moment
pub record Stands (sight : Sight) (setup : PairSetup) (host : Host) (first : ℕ) (endpoint : EndpointValue) (InTime : Type 0) (now : ℕ) (course : Course) : Type 0 where
  pub up : All IsUpward course.up
  pub down : All (IsDown setup.settings) course.down
  pub events : List GatewayEvent
  pub alone : filter (is_own_member sight) course.members ≡ member_of host first events ∷ []
  pub own : sight.is_own host ≡ true
  pub run : IsRun (Unit {0}) (membership_interval_ms setup.settings) host.settings first now events (reports_from sight course.up)
  pub made : AreMade InTime endpoint (reports_from sight course.up) (made_for sight course.entries)

-- ---- an event of gateways

-- the gateways of the peer after the event
alone-after : (sight : Sight) (event : GatewayEvent) (reaches : Member → Bool) (members : List Member)
    → filter (is_own_member sight) (map (if_reached event reaches) members) ≡ map (if_reached event reaches) (filter (is_own_member sight) members)
alone-after sight event reaches [] = refl
alone-after sight event reaches (member ∷ members) =
    let same : is_own_member sight (if_reached event reaches member) ≡ is_own_member sight member =
    reached-kept (λ one. is_own_member sight one ≡ is_own_member sight member) event (reaches member) member (λ same. same) refl in
    let rest = alone-after sight event reaches members in
    (λ i. cond (same i) (if_reached event reaches member ∷ rest i) (rest i)) ∙ first (is_own_member sight member)
  where
    first : (test : Bool) → cond test (if_reached event reaches member ∷ map (if_reached event reaches) (filter (is_own_member sight) members)) (map (if_reached event reaches) (filter (is_own_member sight) members))
        ≡ map (if_reached event reaches) (cond test (member ∷ filter (is_own_member sight) members) (filter (is_own_member sight) members))
    first true = refl
    first false = refl

module _ (sight : Sight) (setup : PairSetup) (host : Host) (first : ℕ) (endpoint : EndpointValue) (InTime : Type 0) (now : ℕ) (event : GatewayEvent) (reaches : Member → Bool) (course : Course)
    (hosts : All (IsHosted setup.settings) course.members) (stands : Stands sight setup host first endpoint InTime now course) where
  -- the reports of the gateway after the event
  reports-after : (reached : Bool) → reaches (member_of host first stands.events) ≡ reached
      → reports_from sight (with_member_event event reaches course).up
      ≡ cond reached (reports_on host.settings (run_at host first stands.events) event) [] ++ reports_from sight course.up
  reports-after reached is = reports_from-event sight event reaches course.up course.members (member_of host first stands.events) reached stands.alone stands.own is

  -- by its events and its reports then
  stands-with : (reached : Bool) (later : List GatewayEvent) → reaches (member_of host first stands.events) ≡ reached
      → (if reached then with_gateway_event event (member_of host first stands.events) else member_of host first stands.events) ≡ member_of host first later
      → IsRun (Unit {0}) (membership_interval_ms setup.settings) host.settings first (later_by (moment_passed event) now) later
      (cond reached (reports_on host.settings (run_at host first stands.events) event) [] ++ reports_from sight course.up)
      → Stands sight setup host first endpoint InTime (later_by (moment_passed event) now) (with_member_event event reaches course)
  stands-with reached later is own run =
      let more = cond reached (reports_on host.settings (run_at host first stands.events) event) [] in
      let reports = reports-after reached is in
      record {
        up = upwards-after setup.settings event reaches course.up course.members hosts stands.up;
        down = stands.down;
        events = later;
        own = stands.own;
        alone = alone-after sight event reaches course.members ∙ ap (map (if_reached event reaches)) stands.alone
            ∙ ap (λ (test : Bool). (if test then with_gateway_event event (member_of host first stands.events) else member_of host first stands.events) ∷ []) is
            ∙ ap (λ (member : Member). member ∷ []) own;
        run = subst (IsRun (Unit {0}) (membership_interval_ms setup.settings) host.settings first (later_by (moment_passed event) now) later) (sym reports) run;
        made = subst (λ (sent : List SentReport). AreMade InTime endpoint sent (made_for sight course.entries)) (sym reports)
            (AreMade-sent InTime endpoint (reports_from sight course.up) more (made_for sight course.entries) stands.made);
      }

  -- one that reports a moment reaches it
  pub stands-gateways : HasSourceOfFamily host.settings
      → (reaches (member_of host first stands.events) ≡ true → MayHappen host.settings event × States (membership_interval_ms setup.settings) host.settings event)
      → (reaches (member_of host first stands.events) ≡ false → moment_passed event ≡ None)
      → Stands sight setup host first endpoint InTime (later_by (moment_passed event) now) (with_member_event event reaches course)
  stands-gateways own may timeless = elim (cases_Bool (reaches (member_of host first stands.events))) [
    | inl reached ↦
        let happens = may reached in
        stands-with true (stands.events ++ event ∷ []) reached refl
        (run-next (Unit {0}) (membership_interval_ms setup.settings) host.settings first own now stands.events event (reports_from sight course.up)
        happens.0 (λ _. happens.1) stands.run)
    | inr other ↦
        stands-with false stands.events other refl
        (subst (λ (passed : Option ℕ). IsRun (Unit {0}) (membership_interval_ms setup.settings) host.settings first (later_by passed now) stands.events
        (reports_from sight course.up)) (sym (timeless other)) stands.run)
  ]

-- ---- an event of the relay

-- the entries with one more, or with none
made-with : (sight : Sight) (endpoint : EndpointValue) (InTime : Type 0) (sent : List SentReport) (entries : List Entry) (by : Option Upward) (found : Option Change)
    → ((change : Change) → found ≡ Some change → IsMade InTime endpoint sent (sight.seen change) (report_by sight by) (max (brought (sight.seen change)) (latest (changes_made (made_for sight entries)))))
    → AreMade InTime endpoint sent (made_for sight entries) → AreMade InTime endpoint sent (made_for sight (with_entry entries by found))
made-with sight endpoint InTime sent entries by None entry made = made
made-with sight endpoint InTime sent entries by (Some change) entry made =
    subst (AreMade InTime endpoint sent) (sym (made_for-push sight entries (record { by = by; change = change }))) (entry change refl, made)

pub stands-relay : (sight : Sight) (setup : PairSetup) (host : Host) (first : ℕ) (endpoint : EndpointValue) (InTime : Type 0) (now : ℕ) (by : Option Upward) (event : Event) (course : Course)
    → All (IsDown setup.settings) (sends_of setup.settings setup.secret course.relay event)
    → ((change : Change) → entry_of setup.settings setup.secret course.relay event ≡ Some change
    → IsMade InTime endpoint (reports_from sight course.up) (sight.seen change) (report_by sight by) (max (brought (sight.seen change)) (latest (changes_made (made_for sight course.entries)))))
    → Stands sight setup host first endpoint InTime now course → Stands sight setup host first endpoint InTime now (with_relay_event setup by event course)
stands-relay sight setup host first endpoint InTime now by event course sends entry stands = record {
  up = stands.up;
  down = All-append (IsDown setup.settings) course.down (sends_of setup.settings setup.secret course.relay event) stands.down sends;
  events = stands.events;
  alone = stands.alone;
  own = stands.own;
  run = stands.run;
  made = made-with sight endpoint InTime (reports_from sight course.up) course.entries by (entry_of setup.settings setup.secret course.relay event) entry stands.made;
}
