use Rattle.std.proofs.{Common.{◌≡◌, ℕ, List, [], ◌∷◌, ◌++◌, All, None, map, refl, sym, ap, ◌∙◌, subst}, lemmas.List.Elements.{All-push}}
use Rattle.amt_values.{proofs.OnePeer.{peer_again}, specs.declared.peer.Peer.{Peer}}
use Rattle.gateway_machine.specs.Runs.{GatewayAt}
use Rattle.amt_pair.specs.{Members.{host_of}, OwnEndpoints.{HasOwnEndpoint}, Schedule.{Course, start}, Setup.{AreApart, Host, IsHost, PairSetup, amt_port, first_nonce, has_taken, relay_peer, settings_of_host}}
use Rattle.amt_pair.{specs.{State.{StandsFor, hosts_of}, declared.gateways.NamedGateway.{NamedGateway}}, proofs.{Courses.{course_of-none, pair_hosts}, HostsApart.{apart_more}, PairStates.{after_push, hosts_more, members_at_start, pair_at_start}}}
use Rattle.amt_pair.proofs.pair.Pair.add.Goals as goal

pub invariant_of-self-clause-apart : goal.invariant_of-self-clause-apart
invariant_of-self-clause-apart c =
    let named : NamedGateway = record { name = c.in-Ok-copied.name; peer = c.args.peer; gateway = c.in-Ok.gateway } in
    let free : has_taken (host_of named).name c.args.peer (hosts_of c.args.self.now) ≡ _ =
    ap (λ (name : List ℕ). has_taken name c.args.peer (hosts_of c.args.self.now)) c.in-Ok-copied.ensures
    ∙ sym c.is_taken.ensures ∙ c.if-is_taken.false in
    after_push (λ (all : List NamedGateway). AreApart (map host_of all)) c.push.result c.args.self.now.gateways c.push.new.self named
    c.push.ensures.ok c.push.ensures.err c.args.self.now.apart
    (subst AreApart (hosts_more c.args.self.now.gateways named) (apart_more (hosts_of c.args.self.now) (host_of named) c.args.self.now.apart free))

pub invariant_of-self-clause-own_endpoints : goal.invariant_of-self-clause-own_endpoints
invariant_of-self-clause-own_endpoints c =
    let named : NamedGateway = record { name = c.in-Ok-copied.name; peer = c.args.peer; gateway = c.in-Ok.gateway } in
    after_push (λ (all : List NamedGateway). All (λ host. HasOwnEndpoint host.peer) (map host_of all)) c.push.result c.args.self.now.gateways c.push.new.self named
    c.push.ensures.ok c.push.ensures.err c.args.self.now.own_endpoints
    (subst (All (λ host. HasOwnEndpoint host.peer)) (hosts_more c.args.self.now.gateways named)
    (All-push (λ (host : Host). HasOwnEndpoint host.peer) (hosts_of c.args.self.now) (host_of named) c.args.self.now.own_endpoints
    (λ endpoint is. peer_again c.args.peer endpoint c.peer_fits.ensures.address is)))

pub returns-in-Ok-push-clause-added : goal.returns-in-Ok-push-clause-added
returns-in-Ok-push-clause-added c = λ settings secret hosts at.
    let before : PairSetup = record { settings = settings; secret = secret; hosts = hosts } in
    let host : Host = record { name = c.args.name.now; peer = c.args.peer; settings = settings_of_host settings c.args.v6 c.args.linux_relay c.args.source } in
    let stands : StandsFor c.args.self.now before (start before) =
    subst (λ (course : Course). StandsFor c.args.self.now before course) (course_of-none before) at.stands in
    let free : has_taken c.args.name.now c.args.peer hosts ≡ _ =
    ap (has_taken c.args.name.now c.args.peer) (sym (pair_hosts c.args.self.now before [] at.stands))
    ∙ sym c.is_taken.ensures ∙ c.if-is_taken.false in
    let peer : c.args.self.now.peer ≡ relay_peer settings = c.args.self.now.peer_is ∙ ap relay_peer stands.relay.settings_kept in
    let gateway : GatewayAt c.in-Ok.gateway host.settings first_nonce [] =
    subst (λ (relay : Peer). GatewayAt c.in-Ok.gateway (record { v6 = c.args.v6; discovery = relay; relay = None; port = amt_port; source = c.args.source; linux_relay = c.args.linux_relay }) first_nonce [])
    peer c.in-Ok.ensures.stands in
    pair_at_start _ (record { settings = settings; secret = secret; hosts = hosts ++ host ∷ [] }) (record {
      settings = at.setup_lawful.settings;
      queries = at.setup_lawful.queries;
      relay = at.setup_lawful.relay;
      hosts =
          All-push (IsHost settings) hosts host at.setup_lawful.hosts
          (record { peer = c.peer_fits.ensures; source = c.requires; settings_are = refl });
      apart = apart_more hosts host at.setup_lawful.apart free;
    }) (record {
      relay = stands.relay;
      gateways =
          members_at_start c.args.self.now.gateways c.push.new.self hosts
          (record { name = c.in-Ok-copied.name; peer = c.args.peer; gateway = c.in-Ok.gateway }) host stands.gateways
          (record { name = c.in-Ok-copied.ensures; peer = refl; gateway = gateway }) c.in-Ok-push.ensures.ok;
      up = stands.up;
      down = stands.down;
    })
