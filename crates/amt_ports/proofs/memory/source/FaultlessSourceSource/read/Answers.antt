-- What `fill` copied is the prefix of what was left, and the place moved past it.
use Rattle.std.proofs.Common.{◌≡◌, ◌+◌, ◌++◌, length, take, drop, arith, sym, ap, ◌∙◌, drop_of_length-le}
use Rattle.amt_ports.proofs.Taken.{drop-prefix}
use Rattle.amt_ports.proofs.memory.source.FaultlessSourceSource.read.Goals as goal

pub returns-clause-bytes : goal.returns-clause-bytes
returns-clause-bytes c =
    let bytes = c.self.inside.bytes in
    let at = c.self.inside.at in
    let n = c.fill-count.result in
    let read : take n c.fill-count.new.buf ≡ take n (drop at bytes) = cc in
    (sym c.self.view_is ∙ drop-prefix at n bytes ∙ ap (λ l. l ++ drop (at + n) bytes) (sym read), λ none room. drop_of_length-le bytes {i = at + n} (omega (arith, c.fill-count.ensures.count, c.split_at.ensures.back_len, ap length c.as_slice.ensures, none, room)))
