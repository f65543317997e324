-- What a pair stands for after a step of the relay, of one gateway, or of all.
use Rattle.std.{proofs.{Props.{props}, Common.{◌≡◌, ◌<◌, ℕ, HoldsAt, Bool, true, false, List, [], ◌∷◌, ◌++◌, map, flat_map, filter, length, All, Contains, Option, Some, None, IfNone, IsSome, refl, sym, ap, ◌∙◌, subst, append-nil, arith, OnOk, OnErr, IfOk, Result, Ok, Err}, lemmas.List.{map-append, Elements.{All-contains, All-map, All-nil}}}, specs.Cmp.{nat_eq_equiv, Lexicographic.{lists_equiv}}}
use mathlib.Core.HLevel.{is_prop→PathP}
use Rattle.amt_values.specs.{Endpoint.{endpoint_of}, EndpointValue.{EndpointValue}}
use Rattle.gateway_machine.specs.declared.event.GatewayEvent.{GatewayEvent, TheVariants.{Moment as Passes}}
use Rattle.relay_machine.specs.{Accepted.{change_of}, Answers.{outcome_of, sends_of}, declared.{event.Event.{Event}, relay.Relay.{Relay as RelayValue}, sends.{OneSend.{OneSend}, Step.{Step}}}}
use Rattle.socket_merge.specs.History.{same_name}
use Rattle.amt_pair.specs.{Members.{AreMembersAt, AreShort, AreShortSends, IsMemberAt, host_of, kept_upward}, OwnEndpoints.{HasOwnEndpoint}, Parts.{relay_step}}
use Rattle.amt_pair.specs.{Schedule.{Course, IsPairEvent, Member, Upward, has_name, is_at, is_endpoint, start, upwards_on, with_gateway_event}, Setup.{AreApart, Host, IsLawfulSetup, PairSetup, first_nonce, relay_peer}, State.{PairAt, StandsFor}}
use Rattle.amt_pair.{specs.declared.{pair.Pair.{Pair}, datagrams.UpDatagram.{UpDatagram}, gateways.NamedGateway.{NamedGateway}, step.Part.TheVariants.{Relay}}, proofs.{Courses.{course_of-none}, Alone.{PassesOnce, filter_every}, Deliveries.{IsForOne, for_one}, HostsApart.{once_by_endpoint, once_by_name}, MembersAt.{are_at, host_is, hosts_are, lengths_are, members_more}}}

-- a step of the relay is told by its fields
pub relay_step_is : (setup : PairSetup) (course : Course) (event : Event) (step : Step)
    → step.outcome ≡ outcome_of setup.settings setup.secret course.relay event → step.sends ≡ sends_of setup.settings setup.secret course.relay event
    → step.change ≡ change_of setup.settings setup.secret course.relay event → Relay step ∷ [] ≡ Relay (relay_step setup course event) ∷ []
relay_step_is setup course event step outcome sends change =
    λ i. Relay (record { outcome = outcome i; sends = sends i; change = change i }) ∷ []

-- with more datagrams
pub up_more : (up after : List UpDatagram) (kept more : List Upward) → up ≡ map kept_upward kept → after ≡ up ++ map kept_upward more → after ≡ map kept_upward (kept ++ more)
up_more up after kept more is sent =
    sent ∙ ap (λ (first : List UpDatagram). first ++ map kept_upward more) is ∙ sym (map-append kept_upward kept more)

pub down_more : (down after sends kept more slice : List OneSend) → down ≡ kept → slice ≡ sends → sends ≡ more → after ≡ down ++ slice → after ≡ kept ++ more
down_more down after sends kept more slice is same sent kept_are =
    kept_are ∙ ap (λ (first : List OneSend). first ++ slice) is ∙ ap (λ (last : List OneSend). kept ++ last) (same ∙ sent)

-- a moment that has come to all gateways
pub all_are : (at : ℕ) (gateways : List NamedGateway) (members : List Member) → AreMembersAt gateways (map (with_gateway_event (Passes at)) members ++ [])
    → AreMembersAt gateways (map (with_gateway_event (Passes at)) members)
all_are at gateways members are = subst (AreMembersAt gateways) (append-nil (map (with_gateway_event (Passes at)) members)) are

pub up_of_all : (at : ℕ) (up after : List UpDatagram) (kept : List Upward) (members : List Member) → up ≡ map kept_upward kept
    → after ≡ up ++ map kept_upward (flat_map (upwards_on (Passes at)) members)
    → after ≡ map kept_upward (kept ++ flat_map (upwards_on (Passes at)) (filter (λ member. true) members))
up_of_all at up after kept members is sent =
    up_more up after kept (flat_map (upwards_on (Passes at)) members) is sent
    ∙ ap (λ (all : List Member). map kept_upward (kept ++ flat_map (upwards_on (Passes at)) all)) (sym (filter_every (λ member. true) members (λ k member below. refl)))

-- ---- the gateway that an event is for

module _ (gateways : List NamedGateway) (course : Course) (place : ℕ) (are : AreMembersAt gateways course.members) (within : place < length gateways) where
  one_at : (event : GatewayEvent) (test : Host → Bool) → HoldsAt (λ one. test (host_of one) ≡ true) gateways place → PassesOnce (λ member. test member.host) course.members
      → IsForOne event (λ member. test member.host) course place
  one_at event test passes once =
      let at = are_at gateways course.members place are within in
      for_one event (λ member. test member.host) course place at.member once (omega (arith, lengths_are gateways course.members are)) at.there
      (ap test (sym (host_is at.named at.member at.at)) ∙ ap (λ (one : NamedGateway). test (host_of one)) (sym at.here) ∙ passes at.named)

  module _ (apart : AreApart (map host_of gateways)) where
    -- the gateway of a name
    pub named_one : (event : GatewayEvent) (name : List ℕ) → HoldsAt (λ one. same_name name one.name ≡ true) gateways place → IsForOne event (has_name name) course place
    named_one event name passes =
        one_at event (λ host. same_name name host.name) passes (once_by_name course.members (subst AreApart (hosts_are gateways course.members are) apart) name)

    -- the gateway at an endpoint
    pub addressed_one : (event : GatewayEvent) (endpoint : EndpointValue) → All (λ host. HasOwnEndpoint host.peer) (map host_of gateways)
        → HoldsAt (λ one. is_endpoint endpoint (endpoint_of one.peer) ≡ true) gateways place → IsForOne event (is_at endpoint) course place
    addressed_one event endpoint own passes =
        let same = hosts_are gateways course.members are in
        one_at event (λ host. is_endpoint endpoint (endpoint_of host.peer)) passes
        (once_by_endpoint course.members (subst AreApart same apart) endpoint (subst (All (λ host. HasOwnEndpoint host.peer)) same own))

-- a gateway of the name is found where there is one
pub some_named : (name : List ℕ) (gateways : List NamedGateway) (host : Host) (found : Option ℕ) → Contains (map host_of gateways) host → host.name ≡ name
    → IfNone found (All (λ one. same_name name one.name ≡ false) gateways) → IsSome found
some_named name gateways host (Some place) contains named none = refl
some_named name gateways host None contains named none =
    let other : same_name name host.name ≡ false =
    All-contains (λ (host : Host). same_name name host.name ≡ false) (map host_of gateways) host
    (All-map (λ (host : Host). same_name name host.name ≡ false) host_of gateways none) contains in
    let itself : same_name name name ≡ true = (lists_equiv nat_eq_equiv).refl name in
    let same : same_name name host.name ≡ true = rw named itself in
    cc

-- what holds of the gateways with one more and without holds after a push
pub after_push : {E : Type 0} (Fact : List NamedGateway → Type 0) (result : Result (Unit {0}) E) (old after : List NamedGateway) (named : NamedGateway)
    → OnOk result (after ≡ old ++ named ∷ []) → OnErr result (after ≡ old) → Fact old → Fact (old ++ named ∷ []) → Fact after
after_push Fact (Ok done) old after named ok err before more = subst Fact (sym ok) more
after_push Fact (Err fault) old after named ok err before more = subst Fact (sym err) before

pub hosts_more : (gateways : List NamedGateway) (named : NamedGateway) → map host_of gateways ++ host_of named ∷ [] ≡ map host_of (gateways ++ named ∷ [])
hosts_more gateways named = sym (map-append host_of gateways (named ∷ []))

-- an error has come: what holds then holds
pub on_err_by : {T E P : Type 0} (result : Result T E) → P → OnErr result P
on_err_by (Ok value) fact = tt
on_err_by (Err fault) fact = fact

pub if_ok_by : {T E P : Type 0} (result : Result T E) → P → IfOk result (λ value. P)
if_ok_by (Ok value) fact = fact
if_ok_by (Err fault) fact = tt

-- before any event
pub pair_at_start : (pair : Pair) (setup : PairSetup) → IsLawfulSetup setup → StandsFor pair setup (start setup) → PairAt pair setup []
pair_at_start pair setup lawful stands = record {
  setup_lawful = lawful;
  events_may_come = All-nil (IsPairEvent setup.hosts);
  stands = subst (StandsFor pair setup) (sym (course_of-none setup)) stands;
}

abbrev pub member_at_start : Host → Member
member_at_start host = record { host = host; first = first_nonce; events = [] }

pub members_at_start : (gateways after : List NamedGateway) (hosts : List Host) (named : NamedGateway) (host : Host) → AreMembersAt gateways (map member_at_start hosts)
    → IsMemberAt named (member_at_start host) → after ≡ gateways ++ named ∷ [] → AreMembersAt after (map member_at_start (hosts ++ host ∷ []))
members_at_start gateways after hosts named host are now is =
    subst (λ (all : List NamedGateway). AreMembersAt all (map member_at_start (hosts ++ host ∷ []))) (sym is)
    (subst (AreMembersAt (gateways ++ named ∷ [])) (sym (map-append member_at_start hosts (host ∷ [])))
    (members_more gateways (map member_at_start hosts) named (member_at_start host) are now))

-- ---- what else a pair holds are proofs

-- a pair with another relay and other datagrams of it
abbrev pub built : (pair : Pair) (relay : RelayValue) (down : List OneSend) → pair.peer ≡ relay_peer relay.setup.settings → AreApart (map host_of pair.gateways)
    → All (λ host. HasOwnEndpoint host.peer) (map host_of pair.gateways) → AreShort pair.up → AreShortSends down → Pair
built pair relay down peer_is apart own up_short down_short =
    record pair { relay = relay; down = down; peer_is = peer_is; apart = apart; own_endpoints = own; up_short = up_short; down_short = down_short }

peer_prop : (pair : Pair) (relay : RelayValue) → IsProp (pair.peer ≡ relay_peer relay.setup.settings)
peer_prop pair relay = hlevel props

short_prop : (sends : List OneSend) → IsProp (AreShortSends sends)
short_prop sends = hlevel props

pub same_pair : (pair : Pair) (relay : RelayValue) (down : List OneSend) (peer_is : pair.peer ≡ relay_peer relay.setup.settings) (apart : AreApart (map host_of pair.gateways))
    (own : All (λ host. HasOwnEndpoint host.peer) (map host_of pair.gateways)) (up : AreShort pair.up) (down_short : AreShortSends down)
    → relay ≡ pair.relay → down ≡ pair.down → built pair relay down peer_is apart own up down_short ≡ pair
same_pair pair relay down peer_is apart own up down_short relay_is down_is =
    let aparts : IsProp (AreApart (map host_of pair.gateways)) = hlevel props in
    let owns : IsProp (All (λ host. HasOwnEndpoint host.peer) (map host_of pair.gateways)) = hlevel props in
    let ups : IsProp (AreShort pair.up) = hlevel props in λ i. record pair {
      relay = relay_is i;
      down = down_is i;
      peer_is = is_prop→PathP (λ j. pair.peer ≡ relay_peer (relay_is j).setup.settings) (λ j. peer_prop pair (relay_is j)) peer_is pair.peer_is i;
      apart = aparts apart pair.apart i;
      own_endpoints = owns own pair.own_endpoints i;
      up_short = ups up pair.up_short i;
      down_short = is_prop→PathP (λ j. AreShortSends (down_is j)) (λ j. short_prop (down_is j)) down_short pair.down_short i;
    }
