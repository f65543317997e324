use Rattle.std.proofs.Common.{◌≡◌, is_some, length}
use Rattle.serving_commands.proofs.opening.host.open_outs.Given as goal

abbrev pub invariant-loop-slot : goal.invariant-loop-slot
invariant-loop-slot g l = (length l.outs ≡ l.slot) × (is_some l.control ≡ is_some l.initial.control)
