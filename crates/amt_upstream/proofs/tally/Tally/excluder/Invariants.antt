use Rattle.std.{proofs.Common.{◌≡◌, All}}
use Rattle.amt_upstream.proofs.tally.Tally.excluder.Given as goal

abbrev pub invariant-loop-key : goal.invariant-loop-key
invariant-loop-key l = All (λ item. item.1.now ≡ 0) l.yielded
