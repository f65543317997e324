use Rattle.std.proofs.{Common.{rules}, lemmas.List.{drop-replicate}}
use Rattle.response_mac.proofs.hmac.block_of.Goals as goal

pub returns : goal.returns
returns c = rw (c.copy_from_slice.ensures.after, c.split_at_mut-start.ensures.back, drop-replicate) (search rules)
