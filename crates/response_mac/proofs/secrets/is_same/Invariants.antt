-- No difference has been seen exactly where the octets so far are the same.
use Rattle.std.proofs.Common.{◌≡◌, ◌↔◌, take}
use Rattle.response_mac.proofs.secrets.is_same.Given as goal

abbrev pub invariant-loop-i : goal.invariant-loop-i
invariant-loop-i l = (l.difference ≡ 0) ↔ (take l.i l.mac.0 ≡ take l.i l.other.0)
