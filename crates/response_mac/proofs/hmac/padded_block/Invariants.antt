-- The octets so far are combined with the pad, and the others are still the block's.
use Rattle.std.proofs.Common.{◌≡◌, ◌++◌, map, take, drop, bit_xor}
use Rattle.response_mac.proofs.hmac.padded_block.Given as goal

abbrev pub invariant-loop-octet : goal.invariant-loop-octet
invariant-loop-octet l =
    l.octet-items ≡ map (λ octet. bit_xor octet l.pad) (take l.octet-index l.block) ++ drop l.octet-index l.block
