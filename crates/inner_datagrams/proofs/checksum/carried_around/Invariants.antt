use Rattle.std.proofs.Common.{◌≡◌, ◌%◌, min}
use Rattle.inner_datagrams.proofs.checksum.carried_around.Given as goal

abbrev pub invariant-loop-sum : goal.invariant-loop-sum
invariant-loop-sum l =
    (l.sum % 65535 ≡ l.initial.sum % 65535) × (min l.sum 1 ≡ min l.initial.sum 1)

abbrev pub decreases-loop-sum : goal.decreases-loop-sum
decreases-loop-sum l = l.sum
