-- What a pair with dual gateways stands for: after a step of the relay, of one machine, or of all; and with one more gateway.
use Rattle.{std.{proofs.{Props.{props}, Common.{◌≡◌, ◌≢◌, ◌<◌, ◌&&◌, not, ℕ, zero, suc, HoldsAt, Bool, true, false, List, [], ◌∷◌, ◌++◌, map, flat_map, take, get_or, length, All, Contains, refl, sym, ap, ◌∙◌, subst, arith, IfOk, OnOk, OnErr, Result, Ok, Err}, lemmas.{Bool.{and_from, and_parts}, Grind.{flat_map-append}, List.{map-append, get_or-map, length-map, Elements.{All-cons, All-head, All-nil, All-tail}, Quantifiers.{all_pairs_push}}}}, specs.Cmp.{nat_eq_equiv, Lexicographic.{lists_equiv, same_text}}}, amt_values.specs.declared.peer.Peer.{Peer}, gateway_machine.specs.{Answers.{same_peer}, Events.{IsEventOf}, Runs.{settings_of}, declared.{event.GatewayEvent.{GatewayEvent}, outcome.GatewayOutcome.{GatewayOutcome, TheVariants.{Ignored}}}, Outcomes.{IsRefused}}, relay_machine.specs.{Accepted.{change_of}, Answers.{outcome_of, sends_of}, declared.{event.Event.{Event}, relay.Relay.{Relay as RelayValue}, sends.{OneSend.{OneSend}, Step.{Step}}, settings.Settings.{Settings}}}, socket_merge.specs.History.{same_name}, amt_pair.specs.{Members.{AreMembersAt, AreShort, AreShortSends, host_of}, OwnEndpoints.{HasOwnEndpoint}, Parts.{gateway_part, gateway_parts, gateway_step, relay_step}, Schedule.{Course, Member, answer_at}, Setup.{Host, PairSetup, relay_peer}, declared.{datagrams.UpDatagram.{UpDatagram}, gateways.NamedGateway.{NamedGateway}, step.Part.{Part}}}, amt_pair.proofs.{Alone.{PassesOnce}, HeardQueries.{same_peer-itself}, MembersAt.{are_at, host_at, host_is, hosts_are, lengths_are}}, amt_dual.specs.{Answers.{is_ignored, is_machine}, InTurn.{is_ignored_part, part_of, parts_in_turn}, Parts.{machine_part, machine_parts}, Schedule.{IsDualPairEvent, at_first, dual_pair_start, is_called}, Setup.{AreDualApart, DualHost, DualSetup, IsLawfulDualSetup, machine_of, machines_in, machines_of}, State.{DualPairAt, StandsFor, machines}, Twins.{AreMachinesApart, are_of_one, are_twins}}, amt_dual.{specs.declared.{pair.DualPair.{DualPair}, step.DualPart.{TheVariants.{Gateway}}}, proofs.{DualCourses.{dual_course_of-none, start_machines}, MachineDeliveries.{IsForMachine, for_machine}, TwinPlaces.{IsFree, machine-is, once_called, one-machine, twin-first, twin-second}}}}
use mathlib.Core.HLevel.{is_prop→PathP}

-- a step of the relay is what its fields say
pub relay_step_is : {E : Type 0} (setup : PairSetup) (course : Course) (event : Event) (result : Result Step E)
    → IfOk result (λ step. step.outcome ≡ outcome_of setup.settings setup.secret course.relay event)
    → IfOk result (λ step. step.sends ≡ sends_of setup.settings setup.secret course.relay event)
    → IfOk result (λ step. step.change ≡ change_of setup.settings setup.secret course.relay event) → IfOk result (λ step. step ≡ relay_step setup course event)
relay_step_is setup course event (Ok step) outcome sends change = λ i. record { outcome = outcome i; sends = sends i; change = change i }
relay_step_is setup course event (Err error) outcome sends change = tt

-- what is ignored changes nothing
pub refused-ignored : (outcome : GatewayOutcome) → is_ignored outcome ≡ true → IsRefused outcome
refused-ignored (Ignored cause) is = tt
refused-ignored outcome is = absurd cc

-- the part of a machine of this family
pub machine_part_is : (event : GatewayEvent) (v6 : Bool) (member : Member) → member.host.settings.v6 ≡ v6 → part_of v6 (gateway_part event member) ≡ machine_part event member
machine_part_is event v6 member is = λ i. Gateway member.host.name (sym is i) (gateway_step (answer_at member event))

-- the pair that stands for a course stands for an equal one
pub stands_by : (setup : PairSetup) (before after : Course) (pair : DualPair) → StandsFor pair setup before → before ≡ after → StandsFor pair setup after
stands_by setup before after pair stands same = subst (StandsFor pair setup) same stands

-- whether the IPv4 machine ignored the event, by its part
pub ignored_by : (event : GatewayEvent) (part : Part) (member : Member) (answer : Bool) → part ≡ gateway_part event member → answer ≡ is_ignored_part part
    → answer ≡ is_ignored (answer_at member event).outcome
ignored_by event part member answer is told = told ∙ ap is_ignored_part is

-- members of each family in turn, the first of which is of this one
abbrev pub AreInTurn : Bool → List Member → Type 0
AreInTurn v6 [] = Unit {0}
AreInTurn v6 (member ∷ members) = (member.host.settings.v6 ≡ v6) × AreInTurn (not v6) members

pub in_turn : (members : List Member) → are_twins (map host_at members) ≡ true → AreInTurn false members
in_turn [] twins = tt
in_turn (one ∷ []) twins = absurd cc
in_turn (v4 ∷ v6 ∷ members) twins =
    let both = and_parts (are_of_one v4.host v6.host) (are_twins (map host_at members)) twins in
    (twin-first v4.host v6.host both.0, (twin-second v4.host v6.host both.0, in_turn members both.1))

pub some_in_turn : (count : ℕ) (v6 : Bool) (members : List Member) → AreInTurn v6 members → AreInTurn v6 (take count members)
some_in_turn zero v6 members are = tt
some_in_turn (suc count) v6 [] are = tt
some_in_turn (suc count) v6 (member ∷ members) are = (are.0, some_in_turn count (not v6) members are.1)

pub turns_are : (event : GatewayEvent) (v6 : Bool) (members : List Member) → AreInTurn v6 members → parts_in_turn v6 (gateway_parts event members) ≡ machine_parts event members
turns_are event v6 [] are = refl
turns_are event v6 (member ∷ members) are = λ i. machine_part_is event v6 member are.0 i ∷ turns_are event (not v6) members are.1 i

-- the machine of a name and a family
pub record IsCalled (event : GatewayEvent) (name : List ℕ) (v6 : Bool) (course : Course) (place : ℕ) : Type 0 where
  pub member : Member
  pub here : get_or course.members place member ≡ member
  pub family : member.host.settings.v6 ≡ v6
  pub one : IsForMachine event (is_called name v6) course place member

pub called_one : (event : GatewayEvent) (name : List ℕ) (v6 : Bool) (gateways : List NamedGateway) (course : Course) (place : ℕ) → AreMembersAt gateways course.members → place < length gateways
    → AreMachinesApart (map host_of gateways) → HoldsAt (λ one. (same_name name one.name && is_machine v6 (settings_of one.gateway).v6) ≡ true) gateways place
    → IsCalled event name v6 course place
called_one event name v6 gateways course place are within apart found =
    let at = are_at gateways course.members place are within in
    let passes : is_called name v6 at.member ≡ true =
    ap (λ (host : Host). same_name name host.name && is_machine v6 host.settings.v6) (sym (ap host_of at.here ∙ host_is at.named at.member at.at)) ∙ found at.named in
    let once : PassesOnce (is_called name v6) course.members = once_called course.members (subst AreMachinesApart (hosts_are gateways course.members are) apart) name v6 in
    record {
      member = at.member;
      here = at.there;
      family = sym (machine-is v6 at.member.host.settings.v6 (and_parts (same_name name at.member.host.name) (is_machine v6 at.member.host.settings.v6) passes).1);
      one = for_machine event (is_called name v6) course place at.member once (omega (arith, within, lengths_are gateways course.members are)) at.there passes;
    }

-- a call that may come to a machine of the name and the family may come to the one that is found
pub machine_may_come : (event : GatewayEvent) (name : List ℕ) (v6 : Bool) (gateways : List NamedGateway) (place : ℕ) (host : Host) → AreMachinesApart (map host_of gateways) → place < length gateways
    → HoldsAt (λ one. (same_name name one.name && is_machine v6 (settings_of one.gateway).v6) ≡ true) gateways place → Contains (map host_of gateways) host → host.name ≡ name
    → host.settings.v6 ≡ v6 → IsEventOf host.settings event → HoldsAt (λ one. IsEventOf (settings_of one.gateway) event) gateways place
machine_may_come event name v6 gateways place host apart within found contains named kind may default =
    let one = get_or gateways place default in
    let listed : Contains (map host_of gateways) (host_of one) =
    (place, omega (arith, length-map gateways host_of), get_or-map host_of gateways place default (host_of one) within) in
    let is = and_parts (same_name name one.name) (is_machine v6 (settings_of one.gateway).v6) (found default) in
    subst (λ (which : Host). IsEventOf which.settings event)
    (one-machine (map host_of gateways) host (host_of one) apart contains listed (named ∙ same_text name one.name (sym is.0)) (kind ∙ machine-is v6 (settings_of one.gateway).v6 is.1)) may

pub twins_of : (settings : Settings) (host : DualHost) → are_of_one (machine_of settings false host) (machine_of settings true host) ≡ true
twins_of settings host =
    and_from (same_name host.name host.name) (same_peer host.peer host.peer) ((lists_equiv nat_eq_equiv).refl host.name) (same_peer-itself host.peer)

-- what holds of the machines with those of one more gateway
pub hosts_more : (Fact : List Host → Type 0) (settings : Settings) (gateways both : List NamedGateway) (host : DualHost) → map host_of both ≡ machines_of settings host
    → Fact (map host_of gateways ++ machines_of settings host) → Fact (map host_of (gateways ++ both))
hosts_more Fact settings gateways both host are fact =
    subst Fact (ap (λ (more : List Host). map host_of gateways ++ more) (sym are) ∙ sym (map-append host_of gateways both)) fact

-- a name and a peer that no machine has are those of no gateway
abbrev pub IsFreeOf : List ℕ → Peer → DualHost → Type 0
IsFreeOf name peer host = (host.name ≢ name) × (host.peer ≢ peer)

pub gateways_free : (settings : Settings) (name : List ℕ) (peer : Peer) (hosts : List DualHost) → All (IsFree name peer) (flat_map (machines_of settings) hosts) → All (IsFreeOf name peer) hosts
gateways_free settings name peer [] free = All-nil (IsFreeOf name peer)
gateways_free settings name peer (host ∷ hosts) free =
    let v4 = machine_of settings false host in
    let v6 = machine_of settings true host in
    let rest = flat_map (machines_of settings) hosts in
    let first : IsFree name peer v4 = All-head (IsFree name peer) v4 (v6 ∷ rest) free in
    All-cons (IsFreeOf name peer) host hosts (first.name, first.peer)
    (gateways_free settings name peer hosts (All-tail (IsFree name peer) v6 rest (All-tail (IsFree name peer) v4 (v6 ∷ rest) free)))

pub dual_apart_more : (hosts : List DualHost) (host : DualHost) → AreDualApart hosts → All (IsFreeOf host.name host.peer) hosts → AreDualApart (hosts ++ host ∷ [])
dual_apart_more hosts host apart free = record {
  names = all_pairs_push (λ (one : DualHost) (other : DualHost). one.name ≢ other.name) hosts host apart.names (λ k d below. (free k d below).0);
  peers = all_pairs_push (λ (one : DualHost) (other : DualHost). one.peer ≢ other.peer) hosts host apart.peers (λ k d below. (free k d below).1);
}

-- none are apart
pub none_dual_apart : AreDualApart []
none_dual_apart = record { names = λ i j d low within. absurd (omega arith); peers = λ i j d low within. absurd (omega arith) }

members_append : (gateways more : List NamedGateway) (members others : List Member) → AreMembersAt gateways members → AreMembersAt more others → AreMembersAt (gateways ++ more) (members ++ others)
members_append [] more [] others are also = also
members_append (named ∷ gateways) more (member ∷ members) others are also = (are.0, members_append gateways more members others are.1 also)
members_append gateways more members others are also = absurd are

-- those of a pair before any event, with one more gateway
pub members_more_at_start : (settings : Settings) (gateways after both : List NamedGateway) (hosts : List DualHost) (host : DualHost)
    → AreMembersAt gateways (map at_first (flat_map (machines_of settings) hosts)) → AreMembersAt both (map at_first (map host_of both)) → map host_of both ≡ machines_of settings host
    → after ≡ gateways ++ both → AreMembersAt after (map at_first (flat_map (machines_of settings) (hosts ++ host ∷ [])))
members_more_at_start settings gateways after both hosts host are new hosts_are appended =
    let old : List Host = flat_map (machines_of settings) hosts in
    subst (λ (all : List NamedGateway). AreMembersAt all (map at_first (flat_map (machines_of settings) (hosts ++ host ∷ [])))) (sym appended)
    (subst (λ (all : List Host). AreMembersAt (gateways ++ both) (map at_first all)) (sym (flat_map-append (machines_of settings) hosts (host ∷ [])))
    (subst (AreMembersAt (gateways ++ both)) (sym (map-append at_first old (machines_of settings host)))
    (members_append gateways both (map at_first old) (map at_first (machines_of settings host)) are
    (subst (λ (all : List Host). AreMembersAt both (map at_first all)) hosts_are new))))

pub dual_pair_at_start : (pair : DualPair) (setup : DualSetup) → IsLawfulDualSetup setup → StandsFor pair (machines_in setup) (dual_pair_start (machines_in setup)) → DualPairAt pair setup []
dual_pair_at_start pair setup lawful stands = record {
  setup_lawful = lawful;
  events_may_come = All-nil (IsDualPairEvent (machines_in setup).hosts);
  stands = subst (StandsFor pair (machines_in setup)) (sym (dual_course_of-none setup)) stands;
}

pub stands_at_start : (pair : DualPair) (setup : DualSetup) → DualPairAt pair setup [] → StandsFor pair (machines_in setup) (dual_pair_start (machines_in setup))
stands_at_start pair setup at = subst (StandsFor pair (machines_in setup)) (dual_course_of-none setup) at.stands

pub machines_at_start : (pair : DualPair) (setup : DualSetup) → DualPairAt pair setup [] → machines pair ≡ (machines_in setup).hosts
machines_at_start pair setup at =
    hosts_are pair.gateways (dual_pair_start (machines_in setup)).members (stands_at_start pair setup at).gateways ∙ start_machines (machines_in setup).hosts

-- what holds of the gateways with more and without holds after they are appended
pub after_append : {E : Type 0} (Fact : List NamedGateway → Type 0) (result : Result (Unit {0}) E) (old after more : List NamedGateway)
    → OnOk result (after ≡ old ++ more) → OnErr result (after ≡ old) → Fact old → Fact (old ++ more) → Fact after
after_append Fact (Ok done) old after more ok err before now = subst Fact (sym ok) now
after_append Fact (Err fault) old after more ok err before now = subst Fact (sym err) before

-- what is as it was on an error is so too of the same
pub on_err_also : {T E A : Type 0} (result : Result T E) (new same old : A) → same ≡ old → OnErr result (new ≡ same) → OnErr result (new ≡ old)
on_err_also (Ok value) new same old is err = tt
on_err_also (Err fault) new same old is err = err ∙ is

-- a pair with another relay and other gateways and datagrams
abbrev pub built : (pair : DualPair) (relay : RelayValue) (gateways : List NamedGateway) (up : List UpDatagram) (down : List OneSend) → pair.peer ≡ relay_peer relay.setup.settings
    → are_twins (map host_of gateways) ≡ true → AreMachinesApart (map host_of gateways) → All (λ host. HasOwnEndpoint host.peer) (map host_of gateways) → AreShort up → AreShortSends down → DualPair
built pair relay gateways up down peer_is twins apart own up_short down_short =
    record pair { relay = relay; gateways = gateways; up = up; down = down; peer_is = peer_is; twins = twins; apart = apart; own_endpoints = own; up_short = up_short; down_short = down_short }

pub same_pair : (pair : DualPair) (relay : RelayValue) (gateways : List NamedGateway) (up : List UpDatagram) (down : List OneSend) (peer_is : pair.peer ≡ relay_peer relay.setup.settings)
    (twins : are_twins (map host_of gateways) ≡ true) (apart : AreMachinesApart (map host_of gateways)) (own : All (λ host. HasOwnEndpoint host.peer) (map host_of gateways)) (up_short : AreShort up)
    (down_short : AreShortSends down) → relay ≡ pair.relay → gateways ≡ pair.gateways → up ≡ pair.up → down ≡ pair.down
    → built pair relay gateways up down peer_is twins apart own up_short down_short ≡ pair
same_pair pair relay gateways up down peer_is twins apart own up_short down_short relay_is gateways_is up_is down_is = λ i. record pair {
  relay = relay_is i;
  gateways = gateways_is i;
  up = up_is i;
  down = down_is i;
  peer_is = is_prop→PathP (λ j. pair.peer ≡ relay_peer (relay_is j).setup.settings) (λ j. hlevel props) peer_is pair.peer_is i;
  twins = is_prop→PathP (λ j. are_twins (map host_of (gateways_is j)) ≡ true) (λ j. hlevel props) twins pair.twins i;
  apart = is_prop→PathP (λ j. AreMachinesApart (map host_of (gateways_is j))) (λ j. hlevel props) apart pair.apart i;
  own_endpoints = is_prop→PathP (λ j. All (λ host. HasOwnEndpoint host.peer) (map host_of (gateways_is j))) (λ j. hlevel props) own pair.own_endpoints i;
  up_short = is_prop→PathP (λ j. AreShort (up_is j)) (λ j. hlevel props) up_short pair.up_short i;
  down_short = is_prop→PathP (λ j. AreShortSends (down_is j)) (λ j. hlevel props) down_short pair.down_short i;
}
