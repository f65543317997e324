use Rattle.std.proofs.Common.{length}
use Rattle.script_lines.proofs.Taking.{IsTaking}
use Rattle.script_lines.proofs.reading.read_lines.Given as goal

abbrev pub invariant-loop-left : goal.invariant-loop-left
invariant-loop-left g l = IsTaking g.K.ScriptKind.kind g.K.ScriptKind.HasHeard l.text l.left l.heard l.count

abbrev pub decreases-loop-left : goal.decreases-loop-left
decreases-loop-left g l = length l.left
