use Rattle.std.proofs.{Common.{List, [], All, map, sym, ap, subst}, lemmas.List.Elements.{All-nil}}
use Rattle.amt_pair.{specs.{Members.{AreMembersAt, host_of}, OwnEndpoints.{HasOwnEndpoint}, Setup.{AreApart, Host, IsHost, relay_peer}, declared.gateways.NamedGateway.{NamedGateway}}, proofs.{HostsApart.{none_apart}, PairStates.{pair_at_start}}}
use Rattle.amt_pair.proofs.pair.Pair.new.Goals as goal

pub invariant_of-result-clause-peer_is : goal.invariant_of-result-clause-peer_is
invariant_of-result-clause-peer_is c = ap relay_peer (sym c.in_ok-relay.ensures.stands.settings_kept)

pub invariant_of-result-clause-apart : goal.invariant_of-result-clause-apart
invariant_of-result-clause-apart c = subst (λ (all : List NamedGateway). AreApart (map host_of all)) (sym c.new-2.ensures) none_apart

pub invariant_of-result-clause-own_endpoints : goal.invariant_of-result-clause-own_endpoints
invariant_of-result-clause-own_endpoints c =
    subst (λ (all : List NamedGateway). All (λ host. HasOwnEndpoint host.peer) (map host_of all)) (sym c.new-2.ensures)
    (All-nil (λ (host : Host). HasOwnEndpoint host.peer))

pub returns : goal.returns
returns c = record {
  stands = pair_at_start _ (record { settings = c.args.settings; secret = c.args.secret; hosts = [] }) (record {
    settings = c.requires;
    queries = c.settings_fit.ensures.queries;
    relay = c.settings_fit.ensures.relay;
    hosts = All-nil (IsHost c.args.settings);
    apart = none_apart;
  }) (record {
    relay = c.in_ok-relay.ensures.stands;
    gateways = subst (λ (all : List NamedGateway). AreMembersAt all []) (sym c.new-2.ensures) tt;
    up = c.new-3.ensures;
    down = c.new-4.ensures;
  });
}
