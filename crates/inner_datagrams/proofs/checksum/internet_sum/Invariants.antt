use Rattle.std.proofs.Common.{◌≡◌, ◌≤◌, ◌*◌, take}
use Rattle.std.specs.Prelude.{sum_by}
use Rattle.inner_datagrams.proofs.Pairs.{word_of}
use Rattle.inner_datagrams.proofs.checksum.internet_sum.Given as goal

abbrev pub invariant-loop-pair : goal.invariant-loop-pair
invariant-loop-pair l =
    record { total : l.sum ≡ sum_by word_of (take l.pair-index l.pairs); fits : l.sum ≤ 65535 * l.pair-index }
