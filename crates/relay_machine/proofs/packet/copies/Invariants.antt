use Rattle.std.proofs.Common.{◌≡◌, take}
use Rattle.relay_machine.specs.Packets.{copies}
use Rattle.relay_machine.proofs.packet.copies.Given as goal

abbrev pub invariant-loop-to : goal.invariant-loop-to
invariant-loop-to l = l.sends ≡ copies (take l.to-index l.targets) l.packet
