-- The machines of dual gateways: each can be added to the relay, and no two have one peer and one family.
use Rattle.{std.proofs.{Common.{◌≡◌, ◌≢◌, suc, ◌&&◌, Bool, true, false, List, [], ◌∷◌, map, flat_map, filter, get_or, All, AllPairs, Contains, refl, sym, ap, subst, ◌∙◌, arith}, lemmas.{Bool.{and_from, and_parts}, List.{get_or-map, length-map, Elements.{All-cons, All-head, All-nil, All-tail, All-weaker}, Kept.{AllPairs-cons}}}}, amt_values.specs.declared.peer.Peer.{Peer}, group_records.specs.Written.{is_of_family}, socket_merge.specs.FullReport.{family_by}, gateway_machine.specs.{Answers.{same_peer}, Events.{IsEventOf, IsFilterOf}, declared.{event.GatewayEvent.{GatewayEvent, TheVariants.{Change, Datagram, Open}}, settings.GatewaySettings.{GatewaySettings}}}, relay_machine.specs.declared.settings.Settings.{Settings}, source_filter.specs.Filter.{FilterValue}, amt_pair.specs.Setup.{Host, IsHost}, amt_pair.proofs.{Alone.{PassesOnce, alone}, HeardQueries.{same_peer-is, same_peer-itself}, HostsApart.{apart_back}, MembersAt.{host_at}, PeerReports.{is_own_member}}, amt_dual.specs.{Answers.{is_machine}, Schedule.{at_first}, Setup.{DualHost, IsDualHost, machine_of, machines_of}, Twins.{peer_and_family}}, amt_dual.proofs.{DualCourses.{start_machines}, MachineSights.{sight_of}, TwinPlaces.{machine-is, machine-itself}}}

-- the machines differ in their peers or their families
abbrev pub AreOther : Host → Host → Type 0
AreOther one other = peer_and_family one ≢ peer_and_family other

other-peer : (one other : Host) (peer later : Peer) → one.peer ≡ peer → other.peer ≡ later → peer ≢ later → AreOther one other
other-peer one other peer later here there apart = λ same. apart (sym here ∙ ap (λ (key : Peer × Bool). key.0) same ∙ there)

module _ (settings : Settings) where
  pub each-machine : (Fact : Host → Type 0) (hosts : List DualHost) → All (λ host. Fact (machine_of settings false host) × Fact (machine_of settings true host)) hosts
      → All Fact (flat_map (machines_of settings) hosts)
  each-machine Fact [] all = All-nil Fact
  each-machine Fact (host ∷ more) all =
      let Both : DualHost → Type 0 = λ one. Fact (machine_of settings false one) × Fact (machine_of settings true one) in
      let first : Both host = All-head Both host more all in
      let rest = each-machine Fact more (All-tail Both host more all) in
      let v4 = machine_of settings false host in
      let v6 = machine_of settings true host in
      All-cons Fact v4 (v6 ∷ flat_map (machines_of settings) more) first.0 (All-cons Fact v6 (flat_map (machines_of settings) more) first.1 rest)

  pub machines-lawful : (hosts : List DualHost) → All IsDualHost hosts → All (IsHost settings) (flat_map (machines_of settings) hosts)
  machines-lawful hosts lawful =
      each-machine (IsHost settings) hosts
      (All-weaker IsDualHost (λ host. IsHost settings (machine_of settings false host) × IsHost settings (machine_of settings true host))
      (λ host is. (record { peer = is.peer; source = refl; settings_are = refl }, record { peer = is.peer; source = refl; settings_are = refl })) hosts lawful)

  pub machines-apart : (hosts : List DualHost) → AllPairs (λ one other. one.peer ≢ other.peer) hosts → AllPairs AreOther (flat_map (machines_of settings) hosts)
  machines-apart [] apart = λ i j d low within. absurd (omega arith)
  machines-apart (host ∷ more) apart =
      let v4 = machine_of settings false host in
      let v6 = machine_of settings true host in
      let rest = flat_map (machines_of settings) more in
      let away : (machine : Host) → machine.peer ≡ host.peer → All (AreOther machine) rest = λ machine is.
      each-machine (AreOther machine) more (λ k d below.
      let other = apart 0 (suc k) d (omega arith) (omega arith) in (
        other-peer machine (machine_of settings false (get_or more k d)) host.peer (get_or more k d).peer is refl other,
        other-peer machine (machine_of settings true (get_or more k d)) host.peer (get_or more k d).peer is refl other,
      )) in
      AllPairs-cons AreOther v4 (v6 ∷ rest) (All-cons (AreOther v4) v6 rest (λ same. let families : false ≡ true = ap (λ (key : Peer × Bool). key.1) same in absurd cc) (away v4 refl))
      (AllPairs-cons AreOther v6 rest (away v6 refl)
      (machines-apart more (λ i j d low within. apart (suc i) (suc j) d (omega arith) (omega arith))))

-- it is its own
pub machine-own : (machine : Host) → (same_peer machine.peer machine.peer && is_machine machine.settings.v6 machine.settings.v6) ≡ true
machine-own machine =
    and_from (same_peer machine.peer machine.peer) (is_machine machine.settings.v6 machine.settings.v6) (same_peer-itself machine.peer)
    (machine-itself machine.settings.v6)

-- another that it takes for its own has its peer and its family
machine-key : (machine other : Host) → (same_peer machine.peer other.peer && is_machine machine.settings.v6 other.settings.v6) ≡ true
    → peer_and_family machine ≡ peer_and_family other
machine-key machine other own =
    let parts = and_parts (same_peer machine.peer other.peer) (is_machine machine.settings.v6 other.settings.v6) own in
    λ i. (same_peer-is machine.peer other.peer parts.0 i, machine-is machine.settings.v6 other.settings.v6 parts.1 i)

-- so before any event it is alone
pub alone-first : (hosts : List Host) (machine : Host) → AllPairs AreOther hosts → Contains hosts machine
    → filter (is_own_member (sight_of machine)) (map at_first hosts) ≡ at_first machine ∷ []
alone-first hosts machine apart among =
    let first = map at_first hosts in
    (alone (is_own_member (sight_of machine)) first among.0 (at_first machine) once (omega (arith, among.1, length-map hosts at_first))
    (get_or-map at_first hosts among.0 machine (at_first machine) among.1 ∙ ap at_first among.2) (machine-own machine)).kept
  where
    once : PassesOnce (is_own_member (sight_of machine)) (map at_first hosts)
    once i j d low high one other =
        apart_back host_at AreOther (map at_first hosts)
        (subst (AllPairs AreOther) (sym (start_machines hosts)) apart) i j d low high
        (sym (machine-key machine (get_or (map at_first hosts) i d).host one) ∙ machine-key machine (get_or (map at_first hosts) j d).host other)

filter-of : (one other : GatewaySettings) (filter : FilterValue) → one.v6 ≡ other.v6 → IsFilterOf one filter → IsFilterOf other filter
filter-of one other filter same is = record {
  family = subst (λ (v6 : Bool). All (λ source. is_of_family (family_by v6) source ≡ true) filter.sources) same is.family;
  items = is.items;
}

-- an event that may happen to a machine may happen to each of its family
pub event-of : (one other : GatewaySettings) (event : GatewayEvent) → one.v6 ≡ other.v6 → IsEventOf one event → IsEventOf other event
event-of one other (Datagram from bytes) same may = may
event-of one other (Open name group filter) same (forwarded, family, is) =
    (forwarded, subst (λ (v6 : Bool). is_of_family (family_by v6) group ≡ true) same family, filter-of one other filter same is)
event-of one other (Change name filter) same may = filter-of one other filter same may
event-of one other event same may = tt
