-- The machines of dual gateways: the one that is found is the IPv4 one, and the IPv6 one follows it; and they are apart.
use Rattle.{std.{proofs.{Common.{◌≡◌, ◌≢◌, ℕ, zero, suc, ◌<◌, ◌||◌, ◌&&◌, not, Bool, true, false, HoldsAt, List, [], ◌∷◌, ◌++◌, map, length, get_or, All, Contains, Option, Some, IfSome, refl, sym, ap, ◌∙◌, subst, subst₂, arith, true≢false, inl, inr}, lemmas.{Bool.{and_from, and_parts, cases_order, not-true, not_from_false, or_left, or_right}, List.{get_or_default, get_or-map, length-map, Folds.{list_any_at}}}}, specs.{Cmp.{nat_eq_equiv, Lexicographic.{lists_equiv, same_text}}, List.{AllWithin}}}, amt_values.specs.{Endpoint.{endpoint_of}, EndpointValue.{EndpointValue}, declared.peer.Peer.{Peer}}, gateway_machine.specs.{Answers.{same_peer}, Runs.{settings_of}}, socket_merge.specs.History.{same_name}, amt_pair.{specs.{Members.{AreMembersAt, host_of}, OwnEndpoints.{HasOwnEndpoint}, Schedule.{Member, has_name, is_at, is_endpoint}, Setup.{Host, has_taken}, declared.gateways.NamedGateway.{NamedGateway}}, proofs.{Alone.{PassesOnce}, HeardQueries.{same_peer-is, same_peer-itself}, HostsApart.{apart_back, peers_at}, MembersAt.{are_at, host_at, host_is, lengths_are}}}, amt_dual.{specs.{Answers.{is_machine}, Schedule.{is_called}, Twins.{AreMachinesApart, are_of_one, are_twins, name_and_family, peer_and_family}}, proofs.SideBySide.{holds_map, two_apart}}}

-- what machines of one gateway are
module _ (v4 v6 : Host) (twins : are_of_one v4 v6 ≡ true) where
  both_of : ((not v4.settings.v6 && v6.settings.v6) ≡ true) × ((same_name v4.name v6.name && same_peer v4.peer v6.peer) ≡ true)
  both_of = and_parts (not v4.settings.v6 && v6.settings.v6) (same_name v4.name v6.name && same_peer v4.peer v6.peer) twins

  pub twin-first : v4.settings.v6 ≡ false
  twin-first = not-true v4.settings.v6 (and_parts (not v4.settings.v6) v6.settings.v6 both_of.0).0

  pub twin-second : v6.settings.v6 ≡ true
  twin-second = (and_parts (not v4.settings.v6) v6.settings.v6 both_of.0).1

  pub twin-names : v4.name ≡ v6.name
  twin-names = same_text v4.name v6.name (sym (and_parts (same_name v4.name v6.name) (same_peer v4.peer v6.peer) both_of.1).0)

  pub twin-peers : v4.peer ≡ v6.peer
  twin-peers = same_peer-is v4.peer v6.peer (and_parts (same_name v4.name v6.name) (same_peer v4.peer v6.peer) both_of.1).1

-- a test that both machines of a gateway pass, or none
abbrev pub AnswerAlike : (Host → Bool) → Type 0
AnswerAlike test = (v4 v6 : Host) → are_of_one v4 v6 ≡ true → test v4 ≡ test v6

pub names_alike : (name : List ℕ) → AnswerAlike (λ host. same_name name host.name)
names_alike name v4 v6 twins = ap (same_name name) (twin-names v4 v6 twins)

pub endpoints_alike : (endpoint : EndpointValue) → AnswerAlike (λ host. is_endpoint endpoint (endpoint_of host.peer))
endpoints_alike endpoint v4 v6 twins = ap (λ (peer : Peer). is_endpoint endpoint (endpoint_of peer)) (twin-peers v4 v6 twins)

-- both machines of a gateway, at the place and after it
pub record AreTwinsAt (hosts : List Host) (place : ℕ) : Type 0 where
  pub within : suc place < length hosts
  pub twins : (one other : Host) → are_of_one (get_or hosts place one) (get_or hosts (suc place) other) ≡ true

twins_at : (test : Host → Bool) → AnswerAlike test → (hosts : List Host) (place : ℕ) → are_twins hosts ≡ true → place < length hosts
    → ((one : Host) → test (get_or hosts place one) ≡ true) → ((k : ℕ) (one : Host) → k < place → test (get_or hosts k one) ≡ false) → AreTwinsAt hosts place
twins_at test alike [] place twins within here first = absurd (omega arith)
twins_at test alike (v4 ∷ []) place twins within here first = absurd cc
twins_at test alike (v4 ∷ v6 ∷ hosts) zero twins within here first =
    record { within = omega arith; twins = λ one other. (and_parts (are_of_one v4 v6) (are_twins hosts) twins).0 }
twins_at test alike (v4 ∷ v6 ∷ hosts) (suc zero) twins within here first =
    let both = and_parts (are_of_one v4 v6) (are_twins hosts) twins in
    absurd (true≢false (sym (here v4) ∙ sym (alike v4 v6 both.0) ∙ first 0 v4 (omega arith)))
twins_at test alike (v4 ∷ v6 ∷ hosts) (suc (suc place)) twins within here first =
    let both = and_parts (are_of_one v4 v6) (are_twins hosts) twins in
    let rest = twins_at test alike hosts place both.1 (omega arith) here (λ k one below. first (suc (suc k)) one (omega arith)) in
    record { within = omega (arith, rest.within); twins = rest.twins }

-- the first gateway that passes is the IPv4 machine of its gateway
pub first_twins : (test : Host → Bool) → AnswerAlike test → (gateways : List NamedGateway) (place : ℕ) → are_twins (map host_of gateways) ≡ true → place < length gateways
    → HoldsAt (λ one. test (host_of one) ≡ true) gateways place → AllWithin (λ one. test (host_of one) ≡ false) gateways 0 place → AreTwinsAt (map host_of gateways) place
first_twins test alike gateways place twins within found first =
    twins_at test alike (map host_of gateways) place twins (omega (arith, length-map gateways host_of))
    (λ one. holds_map host_of (λ (host : Host). test host ≡ true) gateways place one within found)
    (λ k one below. holds_map host_of (λ (host : Host). test host ≡ false) gateways k one (omega arith) (λ d. first k d (omega arith) below))

-- the hosts there
pub twins_there : (gateways : List NamedGateway) (place : ℕ) (d : NamedGateway) → AreTwinsAt (map host_of gateways) place
    → are_of_one (host_of (get_or gateways place d)) (host_of (get_or gateways (suc place) d)) ≡ true
twins_there gateways place d at =
    let long = length-map gateways host_of in
    subst₂ (λ (one : Host) (other : Host). are_of_one one other ≡ true)
    (get_or-map host_of gateways place d (host_of d) (omega (arith, at.within)))
    (get_or-map host_of gateways (suc place) d (host_of d) (omega (arith, at.within)))
    (at.twins (host_of d) (host_of d))

-- the machine of a name and a family is at the place
pub record IsCalledAt (name : List ℕ) (v6 : Bool) (gateways : List NamedGateway) (place : ℕ) : Type 0 where
  pub within : place < length gateways
  pub found : HoldsAt (λ one. (same_name name one.name && is_machine v6 (settings_of one.gateway).v6) ≡ true) gateways place

-- where the first gateway of a name is found, its IPv4 machine is there and its IPv6 machine after it
module _ (name : List ℕ) (gateways : List NamedGateway) (place : ℕ) (twins : are_twins (map host_of gateways) ≡ true) (answer : Option ℕ) (is : answer ≡ Some place)
    (within : IfSome answer (λ place. place < length gateways)) (found : IfSome answer (HoldsAt (λ one. same_name name one.name ≡ true) gateways))
    (first : IfSome answer (AllWithin (λ one. same_name name one.name ≡ false) gateways 0)) where
  pub within_by : place < length gateways
  within_by = subst (λ (answer : Option ℕ). IfSome answer (λ place. place < length gateways)) is within

  found_by : HoldsAt (λ one. same_name name one.name ≡ true) gateways place
  found_by = subst (λ (answer : Option ℕ). IfSome answer (HoldsAt (λ (one : NamedGateway). same_name name one.name ≡ true) gateways)) is found

  twins_by : AreTwinsAt (map host_of gateways) place
  twins_by =
      first_twins (λ host. same_name name host.name) (names_alike name) gateways place twins within_by found_by
      (subst (λ (answer : Option ℕ). IfSome answer (AllWithin (λ (one : NamedGateway). same_name name one.name ≡ false) gateways 0)) is first)

  pub first_called : IsCalledAt name false gateways place
  first_called = record {
    within = within_by;
    found = λ d.
        let one = get_or gateways place d in
        and_from (same_name name one.name) (not (settings_of one.gateway).v6) (found_by d)
        (not_from_false (settings_of one.gateway).v6 (twin-first (host_of one) (host_of (get_or gateways (suc place) d)) (twins_there gateways place d twins_by)));
  }

  pub next_called : IsCalledAt name true gateways (suc place)
  next_called = record {
    within = omega (arith, twins_by.within, length-map gateways host_of);
    found = λ d.
        let one = get_or gateways place d in
        let other = get_or gateways (suc place) d in
        let both = twins_there gateways place d twins_by in
        and_from (same_name name other.name) (settings_of other.gateway).v6
        (sym (names_alike name (host_of one) (host_of other) both) ∙ found_by d) (twin-second (host_of one) (host_of other) both);
  }

-- the members that both machines are, which pass the test
pub record AreMachinesAt (test : Host → Bool) (members : List Member) (place : ℕ) : Type 0 where
  pub v4 : Member
  pub v6 : Member
  pub here : get_or members place v4 ≡ v4
  pub next : get_or members (suc place) v6 ≡ v6
  pub within : suc place < length members
  pub twins : are_of_one v4.host v6.host ≡ true
  pub first : test v4.host ≡ true
  pub second : test v6.host ≡ true

pub machines_at : (test : Host → Bool) → AnswerAlike test → (gateways : List NamedGateway) (members : List Member) (place : ℕ) → AreMembersAt gateways members
    → AreTwinsAt (map host_of gateways) place → HoldsAt (λ one. test (host_of one) ≡ true) gateways place → AreMachinesAt test members place
machines_at test alike gateways members place are at found =
    let long = length-map gateways host_of in
    let one = are_at gateways members place are (omega (arith, at.within)) in
    let other = are_at gateways members (suc place) are (omega (arith, at.within)) in
    let within : suc place < length members = omega (arith, at.within, lengths_are gateways members are) in
    let twins : are_of_one one.member.host other.member.host ≡ true =
    subst₂ (λ (v4 : Host) (v6 : Host). are_of_one v4 v6 ≡ true)
    (ap host_of one.here ∙ host_is one.named one.member one.at)
    (ap host_of (get_or_default gateways (suc place) one.named other.named (omega (arith, at.within)) ∙ other.here) ∙ host_is other.named other.member other.at)
    (twins_there gateways place one.named at) in
    let first : test one.member.host ≡ true =
    ap test (sym (host_is one.named one.member one.at)) ∙ ap (λ (named : NamedGateway). test (host_of named)) (sym one.here) ∙ found one.named in
    record {
      v4 = one.member;
      v6 = other.member;
      here = one.there;
      next = other.there;
      within = within;
      twins = twins;
      first = first;
      second = sym (alike one.member.host other.member.host twins) ∙ first;
    }

pub machine-is : (named v6 : Bool) → is_machine named v6 ≡ true → named ≡ v6
machine-is true v6 is = sym is
machine-is false v6 is = sym (not-true v6 is)

pub machine-itself : (v6 : Bool) → is_machine v6 v6 ≡ true
machine-itself true = refl
machine-itself false = refl

-- the machine of a family at the endpoint
abbrev pub is_there : EndpointValue → Bool → Member → Bool
is_there endpoint v6 member = is_at endpoint member && is_machine v6 member.host.settings.v6

module _ (members : List Member) (apart : AreMachinesApart (map host_at members)) where
  -- no two machines have a name and a family
  pub once_called : (name : List ℕ) (v6 : Bool) → PassesOnce (is_called name v6) members
  once_called name v6 i j d low high one other =
      let this = and_parts (has_name name (get_or members i d)) (is_machine v6 (get_or members i d).host.settings.v6) one in
      let that = and_parts (has_name name (get_or members j d)) (is_machine v6 (get_or members j d).host.settings.v6) other in
      let names : (get_or members i d).host.name ≡ (get_or members j d).host.name = sym (same_text name _ (sym this.0)) ∙ same_text name _ (sym that.0) in
      let kinds : (get_or members i d).host.settings.v6 ≡ (get_or members j d).host.settings.v6 = sym (machine-is v6 _ this.1) ∙ machine-is v6 _ that.1 in
      apart_back host_at (λ one other. name_and_family one ≢ name_and_family other) members apart.names i j d low high (λ t. (names t, kinds t))

  -- or are at the endpoint and of a family
  pub once_there : (endpoint : EndpointValue) (v6 : Bool) → All (λ host. HasOwnEndpoint host.peer) (map host_at members) → PassesOnce (is_there endpoint v6) members
  once_there endpoint v6 own i j d low high one other =
      let this = and_parts (is_at endpoint (get_or members i d)) (is_machine v6 (get_or members i d).host.settings.v6) one in
      let that = and_parts (is_at endpoint (get_or members j d)) (is_machine v6 (get_or members j d).host.settings.v6) other in
      let peers : (get_or members i d).host.peer ≡ (get_or members j d).host.peer =
      peers_at endpoint _ _ (own_at i (omega arith)) (own_at j high) this.0 that.0 in
      let kinds : (get_or members i d).host.settings.v6 ≡ (get_or members j d).host.settings.v6 = sym (machine-is v6 _ this.1) ∙ machine-is v6 _ that.1 in
      apart_back host_at (λ one other. peer_and_family one ≢ peer_and_family other) members apart.peers i j d low high (λ t. (peers t, kinds t))
    where
      own_at : (k : ℕ) → k < length members → HasOwnEndpoint (get_or members k d).host.peer
      own_at k below = subst (λ (host : Host). HasOwnEndpoint host.peer) (get_or-map host_at members k d (host_at d) below) (own k (host_at d) (omega (arith, length-map members host_at)))

-- two machines of one name and one family are one
pub one-machine : (machines : List Host) (one other : Host) → AreMachinesApart machines → Contains machines one → Contains machines other → one.name ≡ other.name
    → one.settings.v6 ≡ other.settings.v6 → one ≡ other
one-machine machines one other apart (i, low, here) (j, high, there) names kinds =
    let again : get_or machines j one ≡ other = get_or_default machines j one other high ∙ there in
    let same : name_and_family one ≡ name_and_family other = λ t. (names t, kinds t) in
    elim (cases_order i j) [
      | inl place ↦ sym here ∙ ap (λ (k : ℕ). get_or machines k one) place ∙ again
      | inr (inl before) ↦ absurd (apart.names i j one before high (ap name_and_family here ∙ same ∙ ap name_and_family (sym again)))
      | inr (inr later) ↦ absurd (apart.names j i one later low (ap name_and_family again ∙ sym same ∙ ap name_and_family (sym here)))
    ]

pub twins_more : (hosts : List Host) (v4 v6 : Host) → are_twins hosts ≡ true → are_of_one v4 v6 ≡ true → are_twins (hosts ++ v4 ∷ v6 ∷ []) ≡ true
twins_more [] v4 v6 twins new = and_from (are_of_one v4 v6) true new refl
twins_more (one ∷ []) v4 v6 twins new = absurd cc
twins_more (one ∷ other ∷ hosts) v4 v6 twins new =
    let both = and_parts (are_of_one one other) (are_twins hosts) twins in
    and_from (are_of_one one other) (are_twins (hosts ++ v4 ∷ v6 ∷ [])) both.0 (twins_more hosts v4 v6 both.1 new)

-- a name and a peer that are free are those of no machine
pub record IsFree (free_name : List ℕ) (free_peer : Peer) (host : Host) : Type 0 where
  pub name : host.name ≢ free_name
  pub peer : host.peer ≢ free_peer

pub all_free : (name : List ℕ) (peer : Peer) (machines : List Host) → has_taken name peer machines ≡ false → All (IsFree name peer) machines
all_free name peer machines free k d below =
    let one = get_or machines k d in
    let same_one : Bool = same_name name one.name in
    let same_other : Bool = same_peer one.peer peer in
    let untaken : (same_one || same_other) ≡ true → ⊥ = λ is.
    true≢false (sym (list_any_at (λ (host : Host). same_name name host.name || same_peer host.peer peer) machines k d below is) ∙ free) in
    record {
      name = λ same. untaken (or_left same_one same_other (ap (same_name name) same ∙ (lists_equiv nat_eq_equiv).refl name));
      peer = λ same. untaken (or_right same_one same_other (ap (λ (other : Peer). same_peer other peer) same ∙ same_peer-itself peer));
    }

pub machines_apart_more : (machines : List Host) (v4 v6 : Host) → AreMachinesApart machines → All (IsFree v4.name v4.peer) machines → are_of_one v4 v6 ≡ true
    → AreMachinesApart (machines ++ v4 ∷ v6 ∷ [])
machines_apart_more machines v4 v6 apart free twins =
    let kinds : v4.settings.v6 ≡ v6.settings.v6 → ⊥ = λ same. true≢false (sym (twin-second v4 v6 twins) ∙ sym same ∙ twin-first v4 v6 twins) in
    record {
      names = two_apart (λ (one : Host) (other : Host). name_and_family one ≢ name_and_family other) machines v4 v6 apart.names
          (λ k d below same. (free k d below).name (ap (λ (both : List ℕ × Bool). both.0) same))
          (λ k d below same. (free k d below).name (ap (λ (both : List ℕ × Bool). both.0) same ∙ sym (twin-names v4 v6 twins)))
          (λ same. kinds (ap (λ (both : List ℕ × Bool). both.1) same));
      peers = two_apart (λ (one : Host) (other : Host). peer_and_family one ≢ peer_and_family other) machines v4 v6 apart.peers
          (λ k d below same. (free k d below).peer (ap (λ (both : Peer × Bool). both.0) same))
          (λ k d below same. (free k d below).peer (ap (λ (both : Peer × Bool). both.0) same ∙ sym (twin-peers v4 v6 twins)))
          (λ same. kinds (ap (λ (both : Peer × Bool). both.1) same));
    }

-- none are apart
pub none_machines_apart : AreMachinesApart []
none_machines_apart = record { names = λ i j d low within. absurd (omega arith); peers = λ i j d low within. absurd (omega arith) }
