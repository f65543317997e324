use Rattle.std.proofs.Common.{[], refl, sym, ap, subst}
use Rattle.gateway_serving.{specs.{Sending.{delivery_to}, Taking.{HasSent}}, proofs.Trying.{HasSent-none, handed_one, handed_to}}
use Rattle.gateway_serving.proofs.server.taking.hand_on.Goals as goal

pub returns-in_default-clause-handed : goal.returns-in_default-clause-handed
returns-in_default-clause-handed g c =
    λ link. subst (HasSent link link _ _ c.args.counts.now c.args.counts.now []) (ap (delivery_to c.args.deliver.now) (sym c.in_default.is)) (HasSent-none refl refl refl refl)

pub returns-clause-handed : goal.returns-clause-handed
returns-clause-handed g c =
    λ link. subst (HasSent link link _ _ c.args.counts.now c.count_send.new.self []) (handed_to c.args.deliver.now c.args.packet.now c.in-Some.packet c.as_slice.result.now c.in-Some.is c.as_slice.ensures)
    (handed_one link c.args.deliver.now c.as_slice.result.now c.send-sent.result _ c.is_ok.ensures.value c.count_send.ensures c.send-sent.ensures.tried c.send-sent.ensures.tells c.send-sent.ensures.cause)
