use Rattle.std.proofs.Common.{◌∙◌, refl, sym}
use Rattle.gateway_machine.proofs.{Onward.{GatewayAt-after, at_moment-after, exchange-same, has_history-after, of_settings-after, same_gateway, sockets-same, taken-after}, Authorized.{authorized-sends}, SoundRuns.{wanted}}
use Rattle.gateway_machine.proofs.gateway.Gateway.step.Goals as goal

pub invariant_of-self : goal.invariant_of-self
invariant_of-self c =
    let gateway = c.args.self.now in
    let event = c.args.event.now in
    let are = c.replace_sockets.ensures in
    let takes = c.in_ok-reply.ensures.taken in record {
      source = gateway.source;
      at_moment = at_moment-after gateway event c.in_ok-reply.reply c.in_ok-reply.sockets c.replace_sockets.new.sockets are takes;
      of_settings = of_settings-after gateway event c.in_ok-reply.reply c.in_ok-reply.sockets c.replace_sockets.new.sockets are takes c.requires;
      has_history = has_history-after gateway event c.in_ok-reply.reply c.in_ok-reply.sockets c.replace_sockets.new.sockets are takes;
    }

pub returns-clause-next : goal.returns-clause-next
returns-clause-next c settings first events at =
    GatewayAt-after c.args.self.now c.args.event.now c.in_ok-reply.reply c.in_ok-reply.sockets c.replace_sockets.new.sockets c.replace_sockets.ensures c.in_ok-reply.ensures.taken _ settings first events at refl refl refl

pub returns-clause-same : goal.returns-clause-same
returns-clause-same c refused =
    let gateway = c.args.self.now in
    let event = c.args.event.now in
    let are = c.replace_sockets.ensures in
    let takes = c.in_ok-reply.ensures.taken in
    same_gateway gateway _ _ _ _ _ _ (exchange-same gateway event c.in_ok-reply.reply c.in_ok-reply.sockets c.replace_sockets.new.sockets are takes refused) (sockets-same gateway event c.in_ok-reply.reply c.in_ok-reply.sockets c.replace_sockets.new.sockets are takes refused)

pub returns-clause-authorized : goal.returns-clause-authorized
returns-clause-authorized c settings first events at =
    let is = taken-after c.args.self.now c.args.event.now c.in_ok-reply.reply c.in_ok-reply.sockets c.replace_sockets.new.sockets c.replace_sockets.ensures c.in_ok-reply.ensures.taken settings first events at in
    authorized-sends settings first events c.args.event.now _ is.reply.sends

pub returns-clause-wanted : goal.returns-clause-wanted
returns-clause-wanted c settings first events at packet there =
    let is = taken-after c.args.self.now c.args.event.now c.in_ok-reply.reply c.in_ok-reply.sockets c.replace_sockets.new.sockets c.replace_sockets.ensures c.in_ok-reply.ensures.taken settings first events at in
    wanted settings first events c.args.event.now packet (sym is.reply.deliver ∙ there)
