use Rattle.std.{proofs.Common.{◌≡◌, ◌++◌, ◌∙◌, ℕ, List, map, ap, arith}, specs.List.{range_with_len}}
use Rattle.amt_script.specs.declared.script.RelayItem.TheVariants.{Event as EventItem}
use Rattle.relay_machine.specs.declared.event.Event.TheVariants.{Packet}
use Rattle.relay_load.{specs.{Packets.{packet_at}, Script.{load_packets}}, proofs.Items.{packet_size, pushed, pushed_sized}}
use Rattle.relay_load.proofs.packets.append_packets.Goals as goal

pub loop-before-preserved : goal.loop-before-preserved
loop-before-preserved c =
    let octets = c.in_ok-bytes.ensures ∙ c.packet_to-packet.ensures in
    record {
      packets = pushed packet_at _ _ _ c.loop-before.before _ c.loop-before.invariant.packets (ap (λ (bytes : List ℕ). Packet bytes) octets) c.in_ok-push.ensures.ok;
      sized = λ settings. pushed_sized settings _ _ _ _ (c.loop-before.invariant.sized settings) (packet_size _ _ octets) c.in_ok-push.ensures.ok;
    }

pub returns-clause-packets : goal.returns-clause-packets
unfolding load_packets
returns-clause-packets c =
    let end : c.loop-before.before ≡ 16 = omega (arith, c.loop-before-test.false, c.loop-before.auto.before-end) in
    c.loop-before.invariant.packets ∙ ap (λ (n : ℕ). c.args.items.now ++ map EventItem (map packet_at (range_with_len 1 n))) end
