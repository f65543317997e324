use Rattle.std.proofs.{Common.{[], List, map, refl, subst, ◌∙◌, arith}, lemmas.List.{take_all}}
use Rattle.gateway_machine.specs.declared.step.PeerSend.{PeerSend}
use Rattle.amt_ports.specs.Devices.{link_at}
use Rattle.gateway_serving.{specs.{Sending.{to_peer}, Taking.{HasSent}}, proofs.Trying.{HasSent-none, HasSent-then, few_more, keeps, sends_more, sent_one}}
use Rattle.gateway_serving.proofs.server.taking.send_all.Goals as goal

pub loop-send-init : goal.loop-send-init
loop-send-init g c = record { sent = λ out. HasSent-none refl refl refl refl; others = refl; few = omega arith; coming = refl; faults = refl; waits = refl }

pub count_send-requires : goal.count_send-requires
count_send-requires g c = omega (arith, c.loop-send.invariant.few, c.loop-send-test.true, c.requires.room)

pub loop-send-preserved : goal.loop-send-preserved
loop-send-preserved g c =
    let before = c.loop-send.invariant in
    let sent = c.send-sent.ensures in
    let more = sends_more c.args.sends.now c.loop-send.send-index c.send-item.result c.as_slice.result.now c.loop-send-test.true c.send-item.is c.as_slice.ensures in record {
      sent = λ out. HasSent-then (before.sent out) (sent_one out c.send-item.result.to c.as_slice.result.now c.send-sent.result c.is_ok.result c.is_ok.ensures.value c.count_send.ensures sent.tried sent.tells sent.cause) more refl;
      others = keeps c.args.counts.now c.is_ok.result c.count_send.ensures before.others;
      few = omega (arith, before.few, few_more c.loop-send.counts c.count_send.new.self c.is_ok.result c.count_send.ensures);
      coming = sent.coming ∙ before.coming;
      faults = sent.apart ∙ before.faults;
      waits = sent.waits ∙ before.waits;
    }

pub returns-clause-sent : goal.returns-clause-sent
returns-clause-sent g c = λ out.
    subst (λ (list : List PeerSend). HasSent (link_at g.L.Link c.args.link.now) (link_at g.L.Link c.loop-send.link) out out c.args.counts.now c.loop-send.counts (map to_peer list) []) (take_all c.loop-send.send-index c.args.sends.now (omega (arith, c.loop-send-test.false))) (c.loop-send.invariant.sent out)
