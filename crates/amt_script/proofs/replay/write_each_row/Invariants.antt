use Rattle.std.proofs.Common.{◌≡◌, ◌++◌, take, flat_map}
use Rattle.script_lines.specs.Writing.{WritesUpTo}
use Rattle.amt_script.specs.Texts.{row_text}
use Rattle.amt_script.proofs.replay.write_each_row.Given as goal

abbrev pub invariant-loop-row : goal.invariant-loop-row
invariant-loop-row g l = record {
  text : WritesUpTo (g.O.Sink.written l.initial.out) (g.O.Sink.written l.out) (l.initial.held ++ flat_map row_text (take l.row-index l.row-items)) l.held;
  calm : g.O.Sink.faults l.out ≡ g.O.Sink.faults l.initial.out;
}
