use Rattle.{std.proofs.{Common.{◌≡◌, List, [], true, All, map, refl, sym, ap, subst}, lemmas.List.Elements.{All-nil}}, amt_pair.specs.{Members.{AreMembersAt, host_of}, OwnEndpoints.{HasOwnEndpoint}, Setup.{Host, relay_peer}, declared.gateways.NamedGateway.{NamedGateway}}, amt_dual.{specs.{Setup.{IsDualHost}, Twins.{AreMachinesApart, are_twins}}, proofs.{DualStates.{dual_pair_at_start, none_dual_apart}, TwinPlaces.{none_machines_apart}}}}
use Rattle.amt_dual.proofs.pair.DualPair.new.Goals as goal

pub invariant_of-result-clause-peer_is : goal.invariant_of-result-clause-peer_is
invariant_of-result-clause-peer_is c = ap relay_peer (sym c.in_ok-relay.ensures.stands.settings_kept)

pub invariant_of-result-clause-twins : goal.invariant_of-result-clause-twins
invariant_of-result-clause-twins c = subst (λ (all : List NamedGateway). are_twins (map host_of all) ≡ true) (sym c.new-2.ensures) refl

pub invariant_of-result-clause-apart : goal.invariant_of-result-clause-apart
invariant_of-result-clause-apart c = subst (λ (all : List NamedGateway). AreMachinesApart (map host_of all)) (sym c.new-2.ensures) none_machines_apart

pub invariant_of-result-clause-own_endpoints : goal.invariant_of-result-clause-own_endpoints
invariant_of-result-clause-own_endpoints c =
    subst (λ (all : List NamedGateway). All (λ host. HasOwnEndpoint host.peer) (map host_of all)) (sym c.new-2.ensures)
    (All-nil (λ (host : Host). HasOwnEndpoint host.peer))

pub returns : goal.returns
returns c = record {
  stands = dual_pair_at_start _ (record { settings = c.args.settings; secret = c.args.secret; hosts = [] }) (record {
    settings = c.requires;
    queries = c.settings_fit.ensures.queries;
    relay = c.settings_fit.ensures.relay;
    hosts = All-nil IsDualHost;
    apart = none_dual_apart;
  }) (record {
    relay = c.in_ok-relay.ensures.stands;
    gateways = subst (λ (all : List NamedGateway). AreMembersAt all []) (sym c.new-2.ensures) tt;
    up = c.new-3.ensures;
    down = c.new-4.ensures;
  });
}
