use Rattle.std.proofs.Common.{length}
use Rattle.script_lines.specs.Lines.{fields}
use Rattle.gateway_script.proofs.Addresses.{IsReading}
use Rattle.gateway_script.proofs.filter_fields.read_sources.Given as goal

abbrev pub invariant-loop-text : goal.invariant-loop-text
invariant-loop-text l = IsReading l.fn.family l.sources (fields l.values) (fields l.left)

abbrev pub decreases-loop-text : goal.decreases-loop-text
decreases-loop-text l = length l.left
