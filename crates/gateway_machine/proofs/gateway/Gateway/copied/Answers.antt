use Rattle.std.proofs.Common.{refl, sym, subst}
use Rattle.socket_merge.specs.Sockets.{SocketsValue}
use Rattle.gateway_machine.{specs.State.{AreOfSettings, HasHistory, IsAtMoment}, proofs.Onward.{same_gateway}}
use Rattle.gateway_machine.proofs.gateway.Gateway.copied.Goals as goal

pub invariant_of-result : goal.invariant_of-result
invariant_of-result c =
    let gateway = c.args.self.now in
    let same = sym c.in_ok-sockets.ensures in record {
      source = gateway.source;
      at_moment = subst (IsAtMoment gateway.exchange) same gateway.at_moment;
      of_settings = subst (AreOfSettings gateway.settings) same gateway.of_settings;
      has_history = subst (λ (sockets : SocketsValue). ∥ HasHistory sockets ∥₁) same gateway.has_history;
    }

pub returns : goal.returns
returns c = same_gateway c.args.self.now _ c.in_ok-sockets.sockets _ _ _ _ refl c.in_ok-sockets.ensures
