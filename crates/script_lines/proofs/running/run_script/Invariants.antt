use Rattle.std.proofs.Common.{◌≡◌, []}
use Rattle.script_lines.proofs.Runs.{IsRunning}
use Rattle.script_lines.proofs.running.run_script.Given as goal

abbrev pub invariant-loop-index : goal.invariant-loop-index
invariant-loop-index g l = record {
  run : (start : g.R.ScriptRun.Start) → g.R.ScriptRun.IsAfter l.fn.runner start []
      → IsRunning (λ value before. g.R.ScriptRun.IsAfter value start before) (g.R.ScriptRun.text_of start) l.running l.items l.index l.held (g.O.Sink.written l.initial.out) (g.O.Sink.written l.out);
  calm : g.O.Sink.faults l.out ≡ g.O.Sink.faults l.initial.out;
}
