use Rattle.std.proofs.{Common.{ℕ, bit_xor, arith}, lemmas.List.{get_or_default, Edits.{map_over_more}}}
use Rattle.response_mac.proofs.hmac.padded_block.Goals as goal

pub loop-octet-preserved : goal.loop-octet-preserved
loop-octet-preserved c =
    map_over_more (λ (octet : ℕ). bit_xor octet c.args.pad) c.args.block.now c.loop-octet.octet-items c.loop-octet.octet-index
    _ (omega arith) c.loop-octet.invariant
    (get_or_default c.loop-octet.octet-items c.loop-octet.octet-index 0 _ (omega arith))
