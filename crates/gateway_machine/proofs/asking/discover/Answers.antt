use Rattle.std.proofs.Common.{false, List, ◌++◌, map, ap, ◌∙◌}
use Rattle.gateway_machine.specs.{Sends.{datagram_of, discovery}, declared.step.PeerSend.{PeerSend}}
use Rattle.gateway_machine.proofs.asking.discover.Goals as goal

pub returns : goal.returns
returns c = record {
  outcome = c.sending.ensures.outcome;
  sends = (λ i. (c.sending.ensures.sends i).datagrams) ∙ (c.in_ok-push.ensures false
      ∙ ap (λ (before : List PeerSend). before ++ map datagram_of (discovery c.args.settings.now c.args.next)) c.new-sends.ensures);
  deliver = c.sending.ensures.deliver;
  next = c.sending.ensures.next;
}
