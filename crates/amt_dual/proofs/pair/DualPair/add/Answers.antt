use Rattle.{std.proofs.{Common.{◌≡◌, true, false, [], ◌∷◌, ◌++◌, All, map, sym, ap, ◌∙◌, arith}, lemmas.List.Elements.{All-push}}, amt_values.{proofs.OnePeer.{peer_again}}, amt_pair.specs.{Members.{host_of}, OwnEndpoints.{HasOwnEndpoint}, Setup.{Host, has_taken, relay_peer}}, amt_dual.specs.{Setup.{DualHost, DualSetup, IsDualHost, machine_of, machines_in}, State.{StandsFor, machines}, Schedule.{dual_pair_start}, Twins.{AreMachinesApart, are_twins}}, amt_dual.proofs.{DualStates.{after_append, dual_apart_more, dual_pair_at_start, gateways_free, hosts_more, machines_at_start, members_more_at_start, stands_at_start, twins_of}, SideBySide.{two_more}, TwinPlaces.{all_free, machines_apart_more, twins_more}}}
use Rattle.amt_dual.proofs.pair.DualPair.add.Goals as goal

pub invariant_of-self-clause-twins : goal.invariant_of-self-clause-twins
invariant_of-self-clause-twins c =
    let settings = c.args.self.now.relay.setup.settings in
    let host : DualHost = record { name = c.args.name.now; peer = c.args.peer; source4 = c.args.source4; source6 = c.args.source6 } in
    after_append (λ all. are_twins (map host_of all) ≡ true) c.append.result c.args.self.now.gateways c.append.new.self c.in-Ok.both.items c.append.ensures.ok c.append.ensures.err c.args.self.now.twins
    (hosts_more (λ all. are_twins all ≡ true) settings c.args.self.now.gateways c.in-Ok.both.items host (c.in-Ok.ensures.hosts settings c.args.self.now.peer_is)
    (twins_more (map host_of c.args.self.now.gateways) (machine_of settings false host) (machine_of settings true host) c.args.self.now.twins (twins_of settings host)))

pub invariant_of-self-clause-apart : goal.invariant_of-self-clause-apart
invariant_of-self-clause-apart c =
    let settings = c.args.self.now.relay.setup.settings in
    let host : DualHost = record { name = c.args.name.now; peer = c.args.peer; source4 = c.args.source4; source6 = c.args.source6 } in
    after_append (λ all. AreMachinesApart (map host_of all)) c.append.result c.args.self.now.gateways c.append.new.self c.in-Ok.both.items c.append.ensures.ok c.append.ensures.err c.args.self.now.apart
    (hosts_more AreMachinesApart settings c.args.self.now.gateways c.in-Ok.both.items host (c.in-Ok.ensures.hosts settings c.args.self.now.peer_is)
    (machines_apart_more (map host_of c.args.self.now.gateways) (machine_of settings false host) (machine_of settings true host) c.args.self.now.apart
    (all_free c.args.name.now c.args.peer (machines c.args.self.now) (sym c.is_taken.ensures ∙ c.if-is_taken.false)) (twins_of settings host)))

pub invariant_of-self-clause-own_endpoints : goal.invariant_of-self-clause-own_endpoints
invariant_of-self-clause-own_endpoints c =
    let settings = c.args.self.now.relay.setup.settings in
    let host : DualHost = record { name = c.args.name.now; peer = c.args.peer; source4 = c.args.source4; source6 = c.args.source6 } in
    let own : HasOwnEndpoint c.args.peer = λ endpoint is. peer_again c.args.peer endpoint c.peer_fits.ensures.address is in
    after_append (λ all. All (λ host. HasOwnEndpoint host.peer) (map host_of all)) c.append.result c.args.self.now.gateways c.append.new.self c.in-Ok.both.items c.append.ensures.ok c.append.ensures.err
    c.args.self.now.own_endpoints
    (hosts_more (All (λ host. HasOwnEndpoint host.peer)) settings c.args.self.now.gateways c.in-Ok.both.items host (c.in-Ok.ensures.hosts settings c.args.self.now.peer_is)
    (two_more (λ (host : Host). HasOwnEndpoint host.peer) (map host_of c.args.self.now.gateways) (machine_of settings false host) (machine_of settings true host) c.args.self.now.own_endpoints own own))

pub returns-in-Ok-append-clause-added : goal.returns-in-Ok-append-clause-added
returns-in-Ok-append-clause-added c = λ settings secret hosts at.
    let before : DualSetup = record { settings = settings; secret = secret; hosts = hosts } in
    let host : DualHost = record { name = c.args.name.now; peer = c.args.peer; source4 = c.args.source4; source6 = c.args.source6 } in
    let stands : StandsFor c.args.self.now (machines_in before) (dual_pair_start (machines_in before)) = stands_at_start c.args.self.now before at in
    let free : has_taken c.args.name.now c.args.peer (machines_in before).hosts ≡ false =
    ap (has_taken c.args.name.now c.args.peer) (sym (machines_at_start c.args.self.now before at)) ∙ sym c.is_taken.ensures ∙ c.if-is_taken.false in
    let peer : c.args.self.now.peer ≡ relay_peer settings = c.args.self.now.peer_is ∙ ap relay_peer stands.relay.settings_kept in
    dual_pair_at_start _ (record { settings = settings; secret = secret; hosts = hosts ++ host ∷ [] }) (record {
      settings = at.setup_lawful.settings;
      queries = at.setup_lawful.queries;
      relay = at.setup_lawful.relay;
      hosts = All-push IsDualHost hosts host at.setup_lawful.hosts (record { peer = c.peer_fits.ensures; source4 = omega arith; source6 = omega arith });
      apart = dual_apart_more hosts host at.setup_lawful.apart
          (gateways_free settings c.args.name.now c.args.peer hosts (all_free c.args.name.now c.args.peer (machines_in before).hosts free));
    }) (record {
      relay = stands.relay;
      gateways = members_more_at_start settings c.args.self.now.gateways c.append.new.self c.in-Ok.both.items hosts host stands.gateways c.in-Ok.ensures.stand
          (c.in-Ok.ensures.hosts settings peer) c.in-Ok-append.ensures.ok;
      up = stands.up;
      down = stands.down;
    })
