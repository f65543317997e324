use Rattle.std.proofs.Common.{◌-◌, length, refl, ◌∙◌, arith}
use Rattle.amt_ports.specs.Devices.{link_at}
use Rattle.control_lines.proofs.Sending.{IsSending-more, IsSending-none, all_sent}
use Rattle.control_lines.proofs.answer.send_pieces.Goals as goal

pub loop-left-init : goal.loop-left-init
loop-left-init g c = record {
  sending = IsSending-none c.args.to.now c.args.octets.now c.args.size (link_at g.L.Link c.args.link.now) c.requires;
  coming = refl;
  faults = refl;
  waits = refl;
}

pub loop-left-preserved : goal.loop-left-preserved
loop-left-preserved g c =
    let before = c.loop-left.invariant in
    let cut = c.cut_piece.ensures in
    let sent = c.send.ensures in record {
      sending = IsSending-more c.args.to.now c.args.octets.now c.loop-left.rest.now c.cut_piece.result.0.now c.cut_piece.result.1.now c.args.size c.loop-left.left
          (c.loop-left.left - length c.cut_piece.result.0.now) (link_at g.L.Link c.args.link.now) (link_at g.L.Link c.loop-left.link) (link_at g.L.Link c.send.new.self) c.send.result
          before.sending c.loop-left-test.true cut.piece cut.rest cut.parts (omega (arith, cut.within, c.loop-left-test.true)) sent.tried sent.tells sent.cause;
      coming = sent.coming ∙ before.coming;
      faults = sent.apart ∙ before.faults;
      waits = sent.waits ∙ before.waits;
    }

pub returns-clause-sent : goal.returns-clause-sent
returns-clause-sent g c =
    let sent = c.send-2.ensures in
    all_sent c.args.to.now c.args.octets.now c.loop-left.rest.now c.args.size c.loop-left.left (link_at g.L.Link c.args.link.now) (link_at g.L.Link c.loop-left.link)
    (link_at g.L.Link c.send-2.new.self) c.send-2.result c.loop-left.invariant.sending c.loop-left-test.false sent.tried sent.tells sent.cause
